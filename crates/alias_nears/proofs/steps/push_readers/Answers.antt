use Rattle.std.proofs.Common.{get_or, refl, arith}
use Rattle.std.specs.Prelude.{IsTrue}
use Rattle.flat_core.specs.inner.Marks.{has_mark}
use Rattle.alias_paths.proofs.Adding.{read_again}
use Rattle.alias_nears.proofs.Constraining.{taker_more, readers_all}
use Rattle.alias_nears.proofs.steps.push_readers.Goals as goal

pub loop-variable-preserved : goal.loop-variable-preserved
loop-variable-preserved c =
    let pairs = c.args.read.now in
    let marks = c.args.marks.now in
    let k = c.loop-variable.variable-index in
    let p = get_or pairs k (0, 0) in
    taker_more marks c.args.update pairs (λ v a. IsTrue (has_mark marks v)) k c.args.update p (has_mark marks p.0) c.args.pairs.now c.loop-variable.pairs c.push_if.new.pairs c.loop-variable-test.true (read_again pairs k (0, 0) c.loop-variable-test.true) refl (λ h. h, λ h. h) c.loop-variable.invariant c.in_ok-push_if.ensures

pub returns : goal.returns
returns c = readers_all c.args.marks.now c.args.update c.args.read.now c.loop-variable.variable-index c.args.pairs.now c.loop-variable.pairs (omega arith) c.loop-variable.invariant
