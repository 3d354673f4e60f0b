use Rattle.std.proofs.Common.{◌≡◌, Option, Some, subst}
use Rattle.std.specs.Prelude.{IfOk}
use Rattle.syntax_tree.specs.inner.OneLevel.{exprs_of}
use Rattle.type_rules.specs.Asked.{Verdict}
use Rattle.expr_types.specs.inner.Shown.{around_of}
use Rattle.expr_types.proofs.CallLemmas.{named_plain, named_other}
use Rattle.expr_types.proofs.call.judged_call.Goals as goal

pub returns-in-Some : goal.returns-in-Some
returns-in-Some c =
    subst (λ (w : Option Verdict). IfOk c.plain_call.result (λ v. v ≡ w))
    (named_plain (around_of c.args.at.now) c.in-Some.plain c.args.name.now (exprs_of c.args.arguments.now) (Some c.args.types.now) c.in-Some.ensures)
    c.plain_call.ensures

pub returns-in-None : goal.returns-in-None
returns-in-None c =
    subst (λ (w : Option Verdict). IfOk c.own_call.result (λ v. v ≡ w))
    (named_other (around_of c.args.at.now) c.args.name.now (exprs_of c.args.arguments.now) (Some c.args.types.now) c.in-None.ensures)
    c.own_call.ensures
