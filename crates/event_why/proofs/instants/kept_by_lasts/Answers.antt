use Rattle.std.proofs.Common.{rules, ◌≡◌, ◌+◌, length, ap, subst, sym, ◌∙◌, refl}
use Rattle.event_why.specs.inner.Tale.{KeepsOne}
use Rattle.event_why.proofs.KeptLemmas.{AreKeptBelow, kept_end, kept_next, written_back}
use Rattle.event_why.proofs.instants.kept_by_lasts.Goals as goal

pub loop-n-preserved : goal.loop-n-preserved
loop-n-preserved c =
    let s = c.args.flat.now in
    let old = c.loop-n.kept.items in
    let new = c.keep.new.kept in
    let keeps = subst (λ i. KeepsOne s i old new) c.new.ensures (subst (λ xs. KeepsOne s c.new.result xs new) c.deref_mut.ensures.value c.keep.ensures) in
    let long : c.loop-n.kept.len ≡ length c.loop-n.kept.items = search rules in
    let back = written_back new old c.loop-n.kept.len keeps.count long in
    record {
      count = ap length back ∙ keeps.count ∙ c.loop-n.invariant.count;
      kept = subst (AreKeptBelow s (c.loop-n.n + 1)) (sym back) (kept_next s c.loop-n.n (c.loop-n.n + 1) old new refl keeps c.loop-n.invariant.kept);
    }

pub returns : goal.returns
returns c = kept_end c.args.flat.now c.count.ensures.is_flat c.loop-n.n c.loop-n.kept.items (search rules) c.loop-n.invariant.count c.loop-n.invariant.kept
