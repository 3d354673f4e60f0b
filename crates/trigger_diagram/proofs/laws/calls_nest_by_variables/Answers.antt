use Rattle.trigger_diagram.proofs.Depth.{nests_by_variables}
use Rattle.trigger_diagram.proofs.laws.calls_nest_by_variables.Goals as goal

pub returns : goal.returns
returns c bs p n variables can nodes nests all = nests_by_variables nests variables can nodes all
