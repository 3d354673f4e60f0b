use Rattle.std.proofs.Common.{ℕ, [], ◌∷◌, ◌++◌, ap, ◌∙◌, arith}
use Rattle.register_code.proofs.PairLemmas.{prints_next}
use Rattle.register_code.proofs.pairs.push_prints.Goals as goal

pub loop-output-preserved : goal.loop-output-preserved
loop-output-preserved c = record {
  step = omega arith;
  edges =
      prints_next c.args.first c.args.outputs.now c.loop-output.output-index c.output-item.result c.loop-output.step c.args.edges.now c.loop-output.edges c.push.new.self c.loop-output-test.true c.output-item.is c.loop-output.invariant.step c.loop-output.invariant.edges
      (c.in_ok-push.ensures ∙ ap (λ (a : ℕ). c.loop-output.edges ++ (a, c.loop-output.step) ∷ []) c.get.ensures);
}
