use Rattle.std.proofs.Common.{◌≡◌, take}
use Rattle.trigger_starts.specs.inner.Rules.{rules_of}
use Rattle.trigger_starts.proofs.listed.rules.Given as goal

abbrev pub invariant-loop-number : goal.invariant-loop-number
invariant-loop-number l = l.rules.items ≡ take l.number (rules_of l.flat)
