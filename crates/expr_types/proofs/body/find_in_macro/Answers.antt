use Rattle.std.proofs.Common.{ap}
use Rattle.name_check.specs.Scope.{seen}
use Rattle.expr_types.specs.inner.Shown.{around_of}
use Rattle.expr_types.proofs.BodyLemmas.{block_inside}
use Rattle.expr_types.proofs.body.find_in_macro.Goals as goal

pub returns-in_ok-locals-in-Block : goal.returns-in_ok-locals-in-Block
returns-in_ok-locals-in-Block c =
    block_inside c.find_in_block.result (around_of c.args.at.now) (around_of c.within.result) c.in_ok-locals-in-Block.field-0 c.inner-scope.result c.deref.result.now c.deref-in-Block.result.now c.args.written c.args.body.now c.in-Block.definitions c.in-Block.last c.in_ok-locals-in-Block.ensures c.within.ensures (ap seen c.inner-scope.ensures) c.deref.ensures.value c.deref-in-Block.ensures.value c.in-Block.is c.find_in_block.ensures
