use Rattle.std.proofs.Common.{subst}
use Rattle.std.specs.Prelude.{IfOk}
use Rattle.flat_core.specs.System.{System}
use Rattle.alias_nears.specs.inner.Answer.{IsFirstConflict}
use Rattle.alias_analysis.proofs.graph.Graph.conflict_of.Goals as goal

pub returns : goal.returns
returns c = subst (λ (s : System). IfOk c.first_conflict.result (λ r. IsFirstConflict s c.args.set.now r)) c.self.view_is c.first_conflict.ensures
