use Rattle.std.proofs.Common.{◌≡◌, ◌<◌, length, sym, subst, ◌∙◌, arith}
use Rattle.std.proofs.lemmas.List.{get_or_default}
use Rattle.std.specs.Prelude.{IsTrue, if◌then◌else◌}
use Rattle.std.specs.FinMap as finite_map
use Rattle.flat_core.specs.Members.{is_in}
use Rattle.flat_core.specs.System.{equation}
use Rattle.flat_core.specs.Kept.{is_timer}
use Rattle.monitor_run.specs.inner.Instant.{set_at}
use Rattle.monitor_run.proofs.DelayLemmas.{set-more, take_whole, timer_runs, timer_shape, timer_there}
use Rattle.flat_core.proofs.Shapes.{args_there}
use Rattle.monitor_run.proofs.TypedLemmas.{args_live}
use Rattle.monitor_run.proofs.delay.set_timers.Goals as goal

pub set_one-requires-clause-shape : goal.set_one-requires-clause-shape
set_one-requires-clause-shape c =
    let s = c.args.flat.now in
    let d = c.delay-item.result in
    let timer : IsTrue (is_timer s d) = subst (λ n. IsTrue (is_timer s n)) (sym c.delay-item.is) (c.requires.running c.loop-delay.delay-index d c.loop-delay-test.true) in
    timer_shape s c.requires.whole d c.equation.result.now timer c.equation.ensures

pub set_one-requires-clause-known : goal.set_one-requires-clause-known
set_one-requires-clause-known c = args_there c.args.flat.now c.delay-item.result c.equation.result.now _ c.requires.whole c.equation.ensures c.requires.one_each

pub set_one-requires-clause-there : goal.set_one-requires-clause-there
set_one-requires-clause-there c =
    let s = c.args.flat.now in
    let d = c.delay-item.result in
    let timer : IsTrue (is_timer s d) = subst (λ n. IsTrue (is_timer s n)) (sym c.delay-item.is) (c.requires.running c.loop-delay.delay-index d c.loop-delay-test.true) in
    let there = timer_there s c.requires.whole d timer in
    let each = c.requires.one_each in
    omega arith

pub set_one-requires-clause-timer : goal.set_one-requires-clause-timer
set_one-requires-clause-timer c =
    let s = c.args.flat.now in
    let d = c.delay-item.result in
    let timer : IsTrue (is_timer s d) = subst (λ n. IsTrue (is_timer s n)) (sym c.delay-item.is) (c.requires.running c.loop-delay.delay-index d c.loop-delay-test.true) in
    let there = timer_there s c.requires.whole d timer in
    let room = c.loop-delay.invariant.capacity ∙ c.requires.capacity in
    omega arith

pub loop-delay-preserved : goal.loop-delay-preserved
loop-delay-preserved c = record {
  capacity = c.set_one.ensures.capacity ∙ c.loop-delay.invariant.capacity;
  set = λ types cells are_held.
      let s = c.args.flat.now in
      let d = c.delay-item.result in
      let k = c.loop-delay.delay-index in
      let delays = c.args.delays.now in
      let lt : k < length delays = c.loop-delay-test.true in
      let timer : IsTrue (is_timer s d) = subst (λ n. IsTrue (is_timer s n)) (sym c.delay-item.is) (c.requires.running k d lt) in
      let e = c.equation.result.now in
      set-more s cells c.args.registers.now c.args.time delays k d lt (c.delay-item.is ∙ get_or_default delays k d 0 lt) c.args.timers.now.times c.loop-delay.timers.times c.set_one.new.timers.times e c.equation.ensures
      (c.loop-delay.invariant.set types cells are_held)
      (c.set_one.ensures.set cells (args_live s c.requires.whole types cells c.args.registers.now are_held d e (timer_runs s d timer) c.equation.ensures))
      c.set_one.ensures.others;
}

pub returns-clause-set : goal.returns-clause-set
returns-clause-set c = λ types cells are_held i.
    let before = finite_map.get c.args.timers.now.times i in
    subst (λ xs. finite_map.get c.loop-delay.timers.times i ≡ (if is_in xs i then set_at (equation c.args.flat.now i) cells c.args.registers.now c.args.time i before else before))
    (take_whole c.args.delays.now c.loop-delay.delay-index c.loop-delay-test.false)
    (c.loop-delay.invariant.set types cells are_held i)
