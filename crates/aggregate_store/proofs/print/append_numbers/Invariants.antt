use Rattle.std.proofs.Common.{◌≡◌, ◌++◌, length, map, take}
use Rattle.tsl_value.specs.Print.{listed}
use Rattle.aggregate_store.proofs.Listed.{more_text}
use Rattle.aggregate_store.proofs.Numbers.{number_text}
use Rattle.aggregate_store.proofs.print.append_numbers.Given as goal

abbrev pub invariant-loop-number : goal.invariant-loop-number
invariant-loop-number l = record {
  kept : take (length l.fn.out) l.out ≡ l.fn.out;
  whole : l.out ++ more_text number_text l.number-iterator ≡ l.fn.out ++ listed (map number_text l.fn.numbers.keys);
}
