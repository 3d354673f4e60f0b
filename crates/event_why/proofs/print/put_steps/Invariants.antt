use Rattle.std.proofs.Common.{◌≡◌, ◌++◌, drop, length, take}
use Rattle.event_why.specs.Text.{steps_text}
use Rattle.event_why.proofs.print.put_steps.Given as goal

abbrev pub invariant-loop-number : goal.invariant-loop-number
invariant-loop-number l = record {
  kept : take (length l.fn.out) l.out ≡ l.fn.out;
  whole : l.out ++ steps_text l.flat l.number (drop l.number l.steps) ≡ l.fn.out ++ steps_text l.flat 0 l.steps;
}
