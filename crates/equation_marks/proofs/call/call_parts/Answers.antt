use Rattle.std.proofs.Common.{sym, subst, ap, ◌∙◌}
use Rattle.name_check.specs.Scope.{seen}
use Rattle.equation_marks.specs.inner.Calls.{CallParts, plain_parts}
use Rattle.equation_marks.specs.inner.CallsShown.{IsParts}
use Rattle.equation_marks.proofs.PlainParts.{call_as_plain}
use Rattle.equation_marks.proofs.call.call_parts.Goals as goal

pub returns : goal.returns
returns c =
    let scope = seen c.args.scope.now in
    let n = c.args.name.now in
    let es = c.args.arguments.now in
    subst (λ (p : CallParts). IsParts c.plain_parts.result p) (ap (plain_parts scope n es) c.plain_named.ensures ∙ sym (call_as_plain scope n es)) c.plain_parts.ensures
