use Rattle.std.proofs.Common.{ℕ, ◌<◌, ◌≤◌, List, rules, subst, sym, ◌∙◌}
use Rattle.std.proofs.Math.Dec.{ltb}
use Rattle.std.proofs.lemmas.List.Sorted.{IsPartitionPoint-from_clause, IsPartitionedBy-ltb}
use Rattle.std.specs.List.Sorted.{IsNonDecreasingBy, IsPartitionPoint}
use Rattle.plain_solver.specs.declared.events.Moment.{Moment}
use Rattle.plain_solver.proofs.PlaceLemmas.{point_from_tests, rising_orders}
use Rattle.plain_solver.proofs.events.Events.count_before.Goals as goal

pub returns-clause-place : goal.returns-clause-place
returns-clause-place c =
    let xs = c.as_slice.result.now in
    let t = c.get-t.result in
    let up : IsNonDecreasingBy (λ (m : Moment). m.time) xs = subst (IsNonDecreasingBy (λ (m : Moment). m.time)) (sym c.as_slice.ensures.value) (rising_orders 0 c.self.inside.moments.items c.self.invariant) in
    let point = IsPartitionPoint-from_clause (λ (m : Moment). ltb m.time t) xs _ c.partition_point.ensures.partitioned (IsPartitionedBy-ltb (λ (m : Moment). m.time) xs t up) (λ a r q k. search rules) in
    let P : ℕ → List Moment → Type 0 = λ u l. IsPartitionPoint (λ (m : Moment). m.time < u) (λ (m : Moment). u ≤ m.time) l c.partition_point.result in
    subst (λ l. P c.args.t l) (c.as_slice.ensures.value ∙ c.self.view_is) (subst (λ u. P u xs) c.get-t.ensures.value (point_from_tests (λ (m : Moment). m.time) t xs _ point))
