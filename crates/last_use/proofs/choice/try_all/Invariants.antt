use Rattle.std.proofs.Common.{◌-◌, ◌≤◌, length}
use Rattle.last_use.specs.inner.Choosing.{IsChosen}
use Rattle.last_use.proofs.choice.try_all.Given as goal

abbrev pub invariant-loop-tried : goal.invariant-loop-tried
invariant-loop-tried l = record {
  within : l.tried.end ≤ length l.flat.equations;
  chosen : IsChosen l.flat l.tried.end l.tried.chosen;
}

abbrev pub decreases-loop-tried : goal.decreases-loop-tried
decreases-loop-tried l = length l.flat.equations - l.tried.end
