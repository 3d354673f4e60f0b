use Rattle.std.proofs.Common.{◌≡◌, ◌++◌, drop}
use Rattle.std.specs.List.{flat_map}
use Rattle.step_uses.specs.Uses.{row}
use Rattle.step_uses.proofs.rows.Rows.gather.Given as goal

abbrev pub invariant-loop-id : goal.invariant-loop-id
invariant-loop-id l = l.numbers.items ++ flat_map (row l.self) (drop l.id-index l.ids) ≡ flat_map (row l.self) l.ids
