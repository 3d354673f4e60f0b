use Rattle.std.proofs.Common.{◌≡◌, ◌+◌, ◌++◌, take}
use Rattle.register_code.specs.inner.Pairs.{print_pairs}
use Rattle.register_code.proofs.pairs.push_prints.Given as goal

abbrev pub invariant-loop-output : goal.invariant-loop-output
invariant-loop-output l = record {
  step : l.step ≡ l.first + l.output-index;
  edges : l.edges ≡ l.initial.edges ++ print_pairs l.first (take l.output-index l.outputs);
}
