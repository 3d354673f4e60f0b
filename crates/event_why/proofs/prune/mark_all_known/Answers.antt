use Rattle.std.proofs.Common.{subst}
use Rattle.event_why.specs.inner.Pruned.{AreGroundsMarked}
use Rattle.event_why.specs.inner.Used.{NamesEarlier}
use Rattle.event_why.proofs.MarkLemmas.{all_known}
use Rattle.event_why.proofs.prune.mark_all_known.Goals as goal

pub returns : goal.returns
returns c = λ earlier.
    let draft = c.args.draft.now in
    let all = subst (λ ws. NamesEarlier ws → AreGroundsMarked ws c.mark_known-3.new.marks c.mark_grounds.new.marks) c.deref.ensures.value c.mark_grounds.ensures in
    all_known draft c.args.marks.now c.mark_known.new.marks c.mark_known-2.new.marks c.mark_known-3.new.marks c.mark_grounds.new.marks c.requires
    c.mark_known.ensures c.mark_known-2.ensures c.mark_known-3.ensures (all earlier)
