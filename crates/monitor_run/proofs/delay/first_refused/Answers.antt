use Rattle.std.proofs.Common.{◌<◌, length, sym, ap, subst, ◌∙◌, arith}
use Rattle.std.proofs.lemmas.List.{get_or_default}
use Rattle.std.specs.Prelude.{IsTrue}
use Rattle.body_eval.specs.inner.Registers.{HoldsLive, held}
use Rattle.flat_core.specs.Members.{is_in}
use Rattle.flat_core.specs.System.{equation}
use Rattle.flat_core.specs.Kept.{is_timer}
use Rattle.monitor_run.specs.inner.Instant.{IsLeastRoot, refusal_of}
use Rattle.flat_core.specs.Events.{refused}
use Rattle.std.specs.Option.{option_map}
use Rattle.monitor_run.proofs.DelayLemmas.{delay_two, refused-more, take_whole, timer_runs, timer_shape}
use Rattle.flat_core.proofs.Shapes.{args_there}
use Rattle.monitor_run.proofs.TypedLemmas.{args_live}
use Rattle.monitor_run.proofs.delay.first_refused.Goals as goal

pub argument-requires-clause-there : goal.argument-requires-clause-there
argument-requires-clause-there c =
    let s = c.args.flat.now in
    let d = c.delay-item.result in
    let timer : IsTrue (is_timer s d) = subst (λ n. IsTrue (is_timer s n)) (sym c.delay-item.is) (c.requires.running c.loop-delay.delay-index d c.loop-delay-test.true) in
    let two = delay_two c.equation-e.result.now.args (timer_shape s c.requires.whole d c.equation-e.result.now timer c.equation-e.ensures) in
    omega arith

pub argument-requires-clause-known : goal.argument-requires-clause-known
argument-requires-clause-known c = args_there c.args.flat.now c.delay-item.result c.equation-e.result.now _ c.requires.whole c.equation-e.ensures c.requires.one_each

pub loop-delay-preserved : goal.loop-delay-preserved
loop-delay-preserved c = λ types cells are_held.
    let s = c.args.flat.now in
    let d = c.delay-item.result in
    let k = c.loop-delay.delay-index in
    let delays = c.args.delays.now in
    let lt : k < length delays = c.loop-delay-test.true in
    let timer : IsTrue (is_timer s d) = subst (λ n. IsTrue (is_timer s n)) (sym c.delay-item.is) (c.requires.running k d lt) in
    let e = c.equation-e.result.now in
    let shape = timer_shape s c.requires.whole d e timer c.equation-e.ensures in
    let two = delay_two e.args shape in
    let live : HoldsLive cells c.argument.result.now = subst (HoldsLive cells) (sym c.argument.ensures) (args_live s c.requires.whole types cells c.args.registers.now are_held d e (timer_runs s d timer) c.equation-e.ensures 0 0 (omega arith)) in
    refused-more s cells c.args.registers.now delays k d e lt (c.delay-item.is ∙ get_or_default delays k d 0 lt) c.equation-e.ensures shape c.loop-delay.root c.refusal.result c.least_root-root.result
    (c.loop-delay.invariant types cells are_held)
    (c.refusal.ensures cells live ∙ ap (λ r. option_map (λ kind. record { equation = d; kind = kind }) (refused (held cells r))) c.argument.ensures)
    c.least_root-root.ensures.least

pub returns : goal.returns
returns c = λ types cells are_held.
    subst (λ xs. IsLeastRoot (is_in xs) (λ i. refusal_of (equation c.args.flat.now i) cells c.args.registers.now) c.loop-delay.root) (take_whole c.args.delays.now c.loop-delay.delay-index c.loop-delay-test.false)
    (c.loop-delay.invariant types cells are_held)
