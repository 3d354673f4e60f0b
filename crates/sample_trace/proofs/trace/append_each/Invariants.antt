use Rattle.std.proofs.Common.{◌≡◌, ◌<◌, ◌-◌, ◌++◌}
use Rattle.sample_trace.specs.Trace.{lines_text}
use Rattle.sample_trace.proofs.trace.append_each.Given as goal

abbrev pub invariant-loop-time : goal.invariant-loop-time
invariant-loop-time l = record {
  text : l.out ≡ l.fn.out ++ lines_text l.from (l.time - l.from);
  none : l.to < l.from → l.time ≡ l.from;
}
