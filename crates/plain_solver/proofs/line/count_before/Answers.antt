use Rattle.std.proofs.Common.{rules}
use Rattle.std.proofs.Math.Dec.{ltb}
use Rattle.std.proofs.lemmas.List.Sorted.{IsPartitionPoint-from_clause, IsPartitionedBy-ltb}
use Rattle.flat_core.specs.declared.line.TraceLine.{TraceLine}
use Rattle.plain_solver.proofs.LinesLemmas.{sorted_orders}
use Rattle.plain_solver.proofs.PlaceLemmas.{point_from_tests}
use Rattle.plain_solver.proofs.line.count_before.Goals as goal

pub returns-clause-place : goal.returns-clause-place
returns-clause-place c =
    let xs = c.args.lines.now in
    let t = c.args.t in
    let point = IsPartitionPoint-from_clause (λ (l : TraceLine). ltb l.time t) xs _ c.partition_point.ensures.partitioned (IsPartitionedBy-ltb (λ (l : TraceLine). l.time) xs t (sorted_orders xs c.requires)) (λ a r q k. search rules) in
    point_from_tests (λ (l : TraceLine). l.time) t xs _ point
