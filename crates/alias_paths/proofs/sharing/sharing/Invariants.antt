use Rattle.std.proofs.Common.{[]}
use Rattle.alias_rules.specs.Sharing.{Shares}
use Rattle.alias_paths.specs.inner.Pairs.{Adds, IsKeyBelow}
use Rattle.alias_paths.proofs.sharing.sharing.Given as goal

abbrev pub invariant-loop-number : goal.invariant-loop-number
invariant-loop-number l = Adds [] (IsKeyBelow (λ a b. a) l.number (Shares l.flat l.set)) l.pairs
