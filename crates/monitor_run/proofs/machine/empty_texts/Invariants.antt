use Rattle.std.proofs.Common.{◌≡◌, [], replicate}
use Rattle.monitor_run.proofs.machine.empty_texts.Given as goal

abbrev pub invariant-loop-n : goal.invariant-loop-n
invariant-loop-n l = l.texts.items ≡ replicate l._n []
