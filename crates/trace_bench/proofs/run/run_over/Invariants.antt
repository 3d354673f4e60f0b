use Rattle.std.proofs.Common.{◌≡◌, ℕ, ◌≤◌, ◌-◌, false, List, length}
use Rattle.sample_trace.specs.Trace.{lines_text}
use Rattle.trace_bench.specs.Ran.{up_to_most}
use Rattle.trace_monitor.specs.Due.{IsDue}
use Rattle.trace_monitor.specs.inner.Kept.{Kept}
use Rattle.trace_bench.proofs.run.run_over.Given as goal

-- after so many lines, with some text that is due
abbrev pub invariant-loop-text : goal.invariant-loop-text
invariant-loop-text l = record {
  within : l.taken ≤ l.lines;
  system : l.monitor.system ≡ l.fn.monitor.system;
  options : l.monitor.options ≡ l.fn.monitor.options;
  kept : Kept l.monitor (lines_text 1 l.taken);
  text : List ℕ;
  due : IsDue l.monitor.system l.monitor.options (lines_text 1 l.taken) false text;
  set : l.monitor.engine.in_place ≡ l.fn.monitor.engine.in_place;
  bytes : l.bytes ≡ up_to_most (length text);
}

abbrev pub decreases-loop-text : goal.decreases-loop-text
decreases-loop-text l = l.lines - l.taken
