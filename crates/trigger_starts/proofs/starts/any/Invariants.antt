use Rattle.std.proofs.Common.{◌≡◌, false, take}
use Rattle.std.specs.List.{list_any}
use Rattle.trigger_starts.specs.inner.Rules.{is_marked}
use Rattle.trigger_starts.proofs.starts.any.Given as goal

abbrev pub invariant-loop-arg : goal.invariant-loop-arg
invariant-loop-arg l = list_any (is_marked l.marks) (take l.arg-index l.args) ≡ false
