use Rattle.std.proofs.Common.{◌↔◌, subst}
use Rattle.std.specs.Prelude.{IfOk, IsTrue}
use Rattle.flat_core.specs.System.{System}
use Rattle.alias_nears.specs.inner.Contents.{IsBeside}
use Rattle.alias_analysis.proofs.answers.Answers.is_beside.Goals as goal

pub returns-in-None : goal.returns-in-None
returns-in-None c = subst (λ (s : System). IfOk c.asked.result (λ r. IsTrue r ↔ IsBeside s c.args.update c.args.id)) c.self.view_is c.asked.ensures
