use Rattle.std.proofs.Common.{◌*◌, ◌+◌}
use Rattle.code_reader.proofs.body.+read_body.Given as goal

abbrev pub decreases-read_body : goal.decreases-read_body
decreases-read_body l = l.room * 3

abbrev pub decreases-read_node : goal.decreases-read_node
decreases-read_node l = l.room * 3 + 2

abbrev pub decreases-read_parts : goal.decreases-read_parts
decreases-read_parts l = l.room * 3 + 1
