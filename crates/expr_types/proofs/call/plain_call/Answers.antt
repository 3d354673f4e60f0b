use Rattle.std.proofs.Common.{◌≡◌, Option, Some, subst, ap, ◌∙◌}
use Rattle.std.specs.Prelude.{IfOk}
use Rattle.syntax_tree.specs.inner.OneLevel.{exprs_of}
use Rattle.type_rules.specs.declared.rule.Builtin.{Builtin}
use Rattle.type_rules.specs.Asked.{Verdict}
use Rattle.expr_types.specs.Judge.{own_call}
use Rattle.expr_types.specs.inner.Shown.{around_of}
use Rattle.expr_types.proofs.CallLemmas.{ruled}
use Rattle.expr_types.proofs.call.plain_call.Goals as goal

pub returns-in_default : goal.returns-in_default
returns-in_default c =
    let at = around_of c.args.at.now in
    let n = c.args.name.now in
    let ts = Some c.args.types.now in
    subst (λ (w : Option Verdict). IfOk c.own_call.result (λ v. v ≡ w))
    (ap (λ (r : Option Builtin). own_call r at n ts) c.rule_of.ensures ∙ ruled at c.args.plain n (exprs_of c.args.arguments.now) ts c.in_default.not-Const)
    c.own_call.ensures
