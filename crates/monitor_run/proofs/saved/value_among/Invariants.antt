use Rattle.std.proofs.Common.{◌≡◌, drop}
use Rattle.monitor_run.specs.inner.Taking.{found_for}
use Rattle.monitor_run.proofs.saved.value_among.Given as goal

abbrev pub invariant-loop-line : goal.invariant-loop-line
invariant-loop-line l = found_for (drop l.line-index l.given) l.id ≡ found_for l.given l.id
