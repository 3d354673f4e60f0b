use Rattle.std.proofs.Common.{◌≡◌, drop}
use Rattle.std.specs.List.{list_any}
use Rattle.flat_core.specs.Stream.{is_fault}
use Rattle.event_why.specs.inner.Row.{row_at}
use Rattle.event_why.proofs.row.some_fault_in.Given as goal

abbrev pub invariant-loop-id : goal.invariant-loop-id
invariant-loop-id l = list_any (λ a. is_fault (row_at l.row a)) (drop l.id-index l.ids) ≡ list_any (λ a. is_fault (row_at l.row a)) l.ids
