use Rattle.std.proofs.Common.{◌≡◌, drop, map}
use Rattle.std.specs.Prelude.{is_some}
use Rattle.std.specs.List.{list_all}
use Rattle.cell_reader.specs.inner.Cells.{Cells}
use Rattle.monitor_run.specs.inner.Registers.{value_at}
use Rattle.monitor_run.proofs.case.are_all_there.Given as goal

abbrev pub invariant-loop-id : goal.invariant-loop-id
invariant-loop-id l = (cells : Cells) → list_all is_some (map (value_at cells l.registers) (drop l.id-index l.ids)) ≡ list_all is_some (map (value_at cells l.registers) l.ids)
