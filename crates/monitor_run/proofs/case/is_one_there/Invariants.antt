use Rattle.std.proofs.Common.{◌≡◌, drop, map}
use Rattle.std.specs.Prelude.{is_some}
use Rattle.std.specs.List.{list_any}
use Rattle.cell_reader.specs.inner.Cells.{Cells}
use Rattle.monitor_run.specs.inner.Registers.{value_at}
use Rattle.monitor_run.proofs.case.is_one_there.Given as goal

abbrev pub invariant-loop-id : goal.invariant-loop-id
invariant-loop-id l = (cells : Cells) → list_any is_some (map (value_at cells l.registers) (drop l.id-index l.ids)) ≡ list_any is_some (map (value_at cells l.registers) l.ids)
