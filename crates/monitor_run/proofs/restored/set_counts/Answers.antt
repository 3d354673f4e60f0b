use Rattle.std.proofs.Common.{arith, ◌<◌, length, ap, sym, ◌∙◌}
use Rattle.std.proofs.lemmas.List.{length-set}
use Rattle.std.proofs.lemmas.Slice.Zip.{either_empty_from_Zip}
use Rattle.std.specs.Prelude.{slice_index}
use Rattle.aggregate_store.specs.inner.Stored.{Stored}
use Rattle.monitor_run.proofs.Placed.{first_all, placed_next, placed_over, rest_all, rest_once, value_set}
use Rattle.monitor_run.proofs.restored.set_counts.Goals as goal

pub loop-id-preserved : goal.loop-id-preserved
loop-id-preserved c =
    let was = c.loop-id.invariant in
    let rest = c.in-Some.ensures.steps.0 in
    let old = c.loop-id.store.ledger in
    let there = first_all _ c.in-Some.id.now c.next.new.self.a.rest.now rest (λ u. u < length c.args.store.now.ledger) was.known in
    record {
      cells = ap (λ (st : Stored). st.cells) c.set_ledger.ensures ∙ was.cells;
      size = ap (λ (st : Stored). length st.ledger) c.set_ledger.ensures ∙ length-set old c.get.result c.in-Some.count.now ∙ was.size;
      once = rest_once _ c.in-Some.id.now c.next.new.self.a.rest.now rest was.once;
      known = rest_all _ c.in-Some.id.now c.next.new.self.a.rest.now rest (λ u. u < length c.args.store.now.ledger) was.known;
      set = λ u.
          placed_next _ c.in-Some.id.now c.next.new.self.a.rest.now rest _ c.in-Some.count.now c.next.new.self.b.rest.now c.in-Some.ensures.steps.1 was.once u
          (slice_index old u) (slice_index c.set_ledger.new.self.ledger u) _
          (value_set old c.set_ledger.new.self.ledger c.in-Some.id.now c.get.result c.in-Some.count.now 0 u (ap (λ (st : Stored). st.ledger) c.set_ledger.ensures) c.get.ensures (omega (arith, there, was.size))) (was.set u);
    }

pub returns-clause-set : goal.returns-clause-set
returns-clause-set c = λ u.
    sym (placed_over _ _ u (slice_index c.loop-id.store.ledger u) (either_empty_from_Zip c.loop-id.id-iterator c.next.new.self c.next.result c.in-None.is c.next.ensures.steps)) ∙ c.loop-id.invariant.set u
