use Rattle.std.proofs.Common.{sym, subst}
use Rattle.flat_core.specs.System.{System}
use Rattle.alias_nears.specs.inner.Beginning.{NoneIsNil}
use Rattle.alias_analysis.proofs.graph.Graph.near_more.Goals as goal

pub near_more-requires-clause-none_is_nil : goal.near_more-requires-clause-none_is_nil
near_more-requires-clause-none_is_nil c = subst (λ (s : System). NoneIsNil s) (sym c.self.view_is) c.requires.none_is_nil
