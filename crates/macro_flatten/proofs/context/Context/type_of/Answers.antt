use Rattle.expr_types.specs.Judge.{wrongs}
use Rattle.expr_types.specs.inner.Shown.{around_of}
use Rattle.macro_flatten.proofs.Places.{never_nothing, never_wrong, type_found}
use Rattle.macro_flatten.proofs.context.Context.type_of.Goals as goal

pub unreachable-requires : goal.unreachable-requires
unreachable-requires c =
    never_nothing c.args.self.now c.args.here.now c.args.expression.now (wrongs (around_of c.args.here.now.around) c.args.expression.now) c.requires c.in-Ok-None.field-0 c.in-Ok-None.field-0-is c.in-Ok-None.ensures

pub unreachable-requires-in-Err-Wrong : goal.unreachable-requires-in-Err-Wrong
unreachable-requires-in-Err-Wrong c =
    never_wrong c.args.self.now c.args.here.now c.args.expression.now (wrongs (around_of c.args.here.now.around) c.args.expression.now) c.requires c.in-Err-Wrong.field-0 _ c.in-Err-Wrong.field-0-is c.in-Err-Wrong.ensures

pub returns-in-Ok-Some-clause-is : goal.returns-in-Ok-Some-clause-is
returns-in-Ok-Some-clause-is c =
    type_found c.args.self.now c.args.here.now c.args.expression.now (wrongs (around_of c.args.here.now.around) c.args.expression.now) c.in-Ok-Some.field-0 c.in-Ok-Some.of c.inner.result c.in-Ok-Some.field-0-is c.inner.ensures c.in-Ok-Some.ensures
