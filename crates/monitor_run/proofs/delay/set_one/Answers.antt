use Rattle.std.proofs.Common.{◌≡◌, sym, ap, subst, ◌∙◌, arith}
use Rattle.std.proofs.lemmas.List.{get_or_default}
use Rattle.std.specs.Prelude.{if◌then◌else◌}
use Rattle.std.specs.FinMap as finite_map
use Rattle.body_eval.specs.inner.Registers.{HoldsLive, held}
use Rattle.body_eval.specs.declared.register.Register.TheVariants as register
use Rattle.flat_core.specs.Pending.{reached}
use Rattle.register_machine.specs.Stands.{in_time}
use Rattle.monitor_run.specs.inner.Registers.{register_at}
use Rattle.monitor_run.proofs.BeginLemmas.{get_removed-other, get_removed-same, get_set-other, get_set-same}
use Rattle.monitor_run.proofs.DelayLemmas.{delay_two, set_case}
use Rattle.monitor_run.proofs.delay.set_one.Goals as goal

pub returns-in-Some-clause-set : goal.returns-in-Some-clause-set
returns-in-Some-clause-set c = λ cells live.
    let d = c.args.delay in
    let old = c.args.timers.now in
    let place = c.get.ensures in
    let there = c.requires.there in
    let two = delay_two c.args.e.now.args c.requires.shape in
    let own : c.index-registers-get.result ≡ register_at c.args.registers.now d = c.index-registers-get.is ∙ get_or_default c.args.registers.now c.get.result c.index-registers-get.result register.Empty (omega arith) ∙ ap (register_at c.args.registers.now) place in
    let amount : HoldsLive cells c.argument-amount.result.now = subst (HoldsLive cells) (sym c.argument-amount.ensures) (live 0 0 (omega arith)) in
    ap (λ p. finite_map.get p.times d) c.set.ensures ∙ ap (λ n. finite_map.get (finite_map.insert old.times n c.in-Some.at) d) c.get-in-Some.ensures ∙ get_set-same old.times d c.in-Some.at
    ∙ sym c.in-Some.is ∙ c.reached.ensures cells amount
    ∙ (λ j. if sym c.if-is_set.true j then in_time (reached c.args.time (held cells c.argument-amount.result.now)) else finite_map.get old.times d)
    ∙ sym (set_case cells c.args.registers.now c.args.e.now.args c.requires.shape c.args.time d c.argument-amount.result.now c.argument-reset.result.now c.index-registers-get.result c.is_set.result c.argument-amount.ensures c.argument-reset.ensures own (c.is_set.ensures cells) (finite_map.get old.times d))

pub returns-in-Some-clause-others : goal.returns-in-Some-clause-others
returns-in-Some-clause-others c = λ i ne.
    let old = c.args.timers.now in
    ap (λ p. finite_map.get p.times i) c.set.ensures ∙ ap (λ n. finite_map.get (finite_map.insert old.times n c.in-Some.at) i) c.get-in-Some.ensures ∙ get_set-other old.times c.args.delay c.in-Some.at i ne

pub returns-in-None-clause-set : goal.returns-in-None-clause-set
returns-in-None-clause-set c = λ cells live.
    let d = c.args.delay in
    let old = c.args.timers.now in
    let place = c.get.ensures in
    let there = c.requires.there in
    let two = delay_two c.args.e.now.args c.requires.shape in
    let own : c.index-registers-get.result ≡ register_at c.args.registers.now d = c.index-registers-get.is ∙ get_or_default c.args.registers.now c.get.result c.index-registers-get.result register.Empty (omega arith) ∙ ap (register_at c.args.registers.now) place in
    let amount : HoldsLive cells c.argument-amount.result.now = subst (HoldsLive cells) (sym c.argument-amount.ensures) (live 0 0 (omega arith)) in
    ap (λ p. finite_map.get p.times d) c.cancel.ensures ∙ ap (λ n. finite_map.get (finite_map.remove old.times n) d) c.get-in-None.ensures ∙ get_removed-same old.times d
    ∙ sym c.in-None.is ∙ c.reached.ensures cells amount
    ∙ (λ j. if sym c.if-is_set.true j then in_time (reached c.args.time (held cells c.argument-amount.result.now)) else finite_map.get old.times d)
    ∙ sym (set_case cells c.args.registers.now c.args.e.now.args c.requires.shape c.args.time d c.argument-amount.result.now c.argument-reset.result.now c.index-registers-get.result c.is_set.result c.argument-amount.ensures c.argument-reset.ensures own (c.is_set.ensures cells) (finite_map.get old.times d))

pub returns-in-None-clause-others : goal.returns-in-None-clause-others
returns-in-None-clause-others c = λ i ne.
    let old = c.args.timers.now in
    ap (λ p. finite_map.get p.times i) c.cancel.ensures ∙ ap (λ n. finite_map.get (finite_map.remove old.times n) i) c.get-in-None.ensures ∙ get_removed-other old.times c.args.delay i ne
