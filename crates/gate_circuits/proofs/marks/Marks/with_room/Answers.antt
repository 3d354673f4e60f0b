use Rattle.std.proofs.Common.{rules, ◌+◌, ◌/◌}
use Rattle.gate_circuits.proofs.Words.{zeros}
use Rattle.gate_circuits.proofs.marks.Marks.with_room.Goals as goal

pub returns-clause-none : goal.returns-clause-none
returns-clause-none c = zeros (c.args.count / 64 + 1) c.in_ok-vec.field-0.items (c.in_ok-vec.ensures.items_if_clones_equal (search rules))
