use Rattle.std.proofs.Common.{ap}
use Rattle.name_check.specs.Scope.{seen}
use Rattle.expr_types.specs.inner.Shown.{around_of}
use Rattle.expr_types.proofs.BodyLemmas.{kind_inside}
use Rattle.expr_types.proofs.define.body_kind.Goals as goal

pub returns-in_ok-locals-in-Block : goal.returns-in_ok-locals-in-Block
returns-in_ok-locals-in-Block c =
    kind_inside c.expression_kind-then-braces.result (around_of c.args.at.now) (around_of c.within.result) c.in_ok-locals-in-Block.field-0 c.inner-scope.result c.args.braces c.deref.result.now c.args.body.now c.in-Block.definitions c.in-Block.last c.in_ok-locals-in-Block.ensures c.within.ensures (ap seen c.inner-scope.ensures) c.deref.ensures.value c.in-Block.is c.if-braces.true c.expression_kind-then-braces.ensures
