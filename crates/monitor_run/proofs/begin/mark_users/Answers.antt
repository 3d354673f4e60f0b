use Rattle.std.proofs.Common.{◌<◌, length, sym, subst}
use Rattle.std.specs.List.{All}
use Rattle.monitor_run.specs.inner.Visits.{AreWithin}
use Rattle.monitor_run.proofs.BeginLemmas.{all_within}
use Rattle.monitor_run.proofs.begin.mark_users.Goals as goal

pub mark_each-requires : goal.mark_each-requires
mark_each-requires c =
    subst (All (λ p. p < length c.loop-id.agenda)) (sym c.of.ensures)
    (all_within c.args.uses.now (length c.loop-id.agenda) c.id-item.result (subst (AreWithin c.args.uses.now) (sym c.loop-id.invariant.size) c.requires))
