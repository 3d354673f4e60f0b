use Rattle.std.proofs.Common.{◌≡◌, take}
use Rattle.std.specs.List.Sorted.{IsStrictlyIncreasing}
use Rattle.last_use.proofs.trial.copy.Given as goal

abbrev pub invariant-loop-place : goal.invariant-loop-place
invariant-loop-place l = record { is : l.copy ≡ take l.place l.set; ascending : IsStrictlyIncreasing l.copy }
