-- Codes of what a monitor keeps, by which proofs tell values apart.
use Rattle.std.specs.Coded.{Coded, coded_ℕ}
use Rattle.std.specs.FinMap as map
use Rattle.tsl_value.specs.inner.ViewCode.{view_code}
use Rattle.delay_timers.specs.inner.Pending.{Times}
use Rattle.cell_reader.specs.inner.Cells.{Cells}

abbrev pub cells_code : Coded Cells
cells_code = map.code coded_ℕ view_code

abbrev pub times_code : Coded Times
times_code = map.code coded_ℕ coded_ℕ
