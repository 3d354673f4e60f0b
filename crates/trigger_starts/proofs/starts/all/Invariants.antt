use Rattle.std.proofs.Common.{◌≡◌, true, take}
use Rattle.std.specs.List.{list_all}
use Rattle.trigger_starts.specs.inner.Rules.{is_marked}
use Rattle.trigger_starts.proofs.starts.all.Given as goal

abbrev pub invariant-loop-arg : goal.invariant-loop-arg
invariant-loop-arg l = list_all (is_marked l.marks) (take l.arg-index l.args) ≡ true
