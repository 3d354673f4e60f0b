use Rattle.std.proofs.Common.{sym}
use Rattle.stream_shapes.proofs.NodeLemmas.{unit_name, no_construct}
use Rattle.stream_shapes.proofs.shape.name_shape.Goals as goal

pub returns-then-is_unit : goal.returns-then-is_unit
returns-then-is_unit c = unit_name c.args.name.now c.alone.result (sym c.if-is_unit.ensures) c.alone.ensures

pub returns-else-is_unit : goal.returns-else-is_unit
returns-else-is_unit c = no_construct c.args.name.now c.nothing.result (sym c.if-is_unit.ensures)
