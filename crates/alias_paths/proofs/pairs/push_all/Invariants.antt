use Rattle.std.proofs.Common.{◌≡◌, ◌++◌, take}
use Rattle.alias_paths.proofs.pairs.push_all.Given as goal

abbrev pub invariant-loop-pair : goal.invariant-loop-pair
invariant-loop-pair l = l.pairs ≡ l.initial.pairs ++ take l.pair-index l.more
