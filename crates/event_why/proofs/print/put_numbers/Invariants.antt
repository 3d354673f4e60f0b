use Rattle.std.proofs.Common.{◌≡◌, ◌++◌, codes, drop, flat_map, length, take}
use Rattle.event_why.specs.Text.{step_number}
use Rattle.event_why.proofs.print.put_numbers.Given as goal

abbrev pub invariant-loop-number : goal.invariant-loop-number
invariant-loop-number l = record {
  kept : take (length l.fn.out) l.out ≡ l.fn.out;
  whole : l.out ++ flat_map (λ k. codes " " ++ step_number k) (drop l.number-index l.numbers) ≡ l.fn.out ++ flat_map (λ k. codes " " ++ step_number k) l.numbers;
}
