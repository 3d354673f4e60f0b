use Rattle.std.proofs.Common.{None, sym, ap, ◌∙◌}
use Rattle.std.proofs.lemmas.Result.{on_ok_weaker}
use Rattle.std.specs.Prelude.{if◌then◌else◌, is_some}
use Rattle.body_eval.specs.declared.register.Register.TheVariants.{Empty}
use Rattle.monitor_run.specs.inner.Shown.{held_at, held_by}
use Rattle.monitor_run.proofs.CaseLemmas.{is_blank, is_there}
use Rattle.monitor_run.proofs.hand.hand_last.Goals as goal

pub returns-then-is_empty : goal.returns-then-is_empty
returns-then-is_empty c =
    let none = ap held_by (sym c.register.ensures) ∙ is_blank c.register.result.now c.is_empty.result c.is_empty.ensures c.if-is_empty.true in
    (Empty, c.put.ensures, sym (λ k. if is_some (none k) then held_at c.args.last.now c.args.value else None))

pub returns : goal.returns
returns c =
    let there = ap (λ r. is_some (held_by r)) (sym c.register.ensures) ∙ is_there c.register.result.now c.is_empty.result c.is_empty.ensures c.if-is_empty.false in
    on_ok_weaker c.put_copy.result (λ ok. (
      c.register-2.result.now,
      ok,
      ap held_by c.register-2.ensures ∙ sym (λ k. if there k then held_at c.args.last.now c.args.value else None),
    )) c.put_copy.ensures
