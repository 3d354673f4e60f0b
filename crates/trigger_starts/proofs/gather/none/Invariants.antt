use Rattle.std.proofs.Common.{◌≡◌, length}
use Rattle.trigger_starts.proofs.gather.none.Given as goal

abbrev pub invariant-loop-index : goal.invariant-loop-index
invariant-loop-index l = length l.all.items ≡ l._index
