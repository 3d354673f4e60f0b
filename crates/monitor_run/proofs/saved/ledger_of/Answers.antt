use Rattle.std.proofs.Common.{◌<◌, ◌^◌, [], ◌∷◌, sym, subst, ◌∙◌}
use Rattle.std.specs.Prelude.{slice_index}
use Rattle.std.specs.List.{AllByRecursion}
use Rattle.flat_core.specs.Updates.{is_running_update}
use Rattle.flat_core.proofs.Members.{all_append}
use Rattle.monitor_run.proofs.SavedLemmas.{counted_with, counted_without}
use Rattle.monitor_run.proofs.saved.ledger_of.Goals as goal
use Rattle.monitor_run.proofs.saved.ledger_of.Goals.{then-is_running_update+in_ok-push, else-is_running_update}

pub loop-number-preserved : goal.loop-number-preserved
loop-number-preserved c = elim c.if-is_running_update.branch [
  | then-is_running_update+in_ok-push w ↦ (
    w.counts-is
        ∙ counted_with (slice_index c.args.store.now.ledger) (is_running_update c.args.flat.now) c.loop-number.number c.new.result w.ledger.result c.loop-number.counts w.push.new.self
        c.new.ensures (sym c.is_running_update.ensures ∙ w.if-is_running_update.true) w.ledger.ensures c.loop-number.invariant.0 w.in_ok-push.ensures.ok,
    subst (AllByRecursion (λ n. n < 2 ^ 64)) (sym (w.counts-is ∙ w.in_ok-push.ensures.ok))
        (all_append (λ n. n < 2 ^ 64) c.loop-number.counts (w.ledger.result ∷ []) c.loop-number.invariant.1 (w.ledger.type_inv, tt)),
  )
  | else-is_running_update w ↦ (
    w.counts-is
        ∙ counted_without (slice_index c.args.store.now.ledger) (is_running_update c.args.flat.now) c.loop-number.number c.new.result c.loop-number.counts
        c.new.ensures (sym c.is_running_update.ensures ∙ w.if-is_running_update.false) c.loop-number.invariant.0,
    subst (AllByRecursion (λ n. n < 2 ^ 64)) (sym w.counts-is) c.loop-number.invariant.1,
  )
]
