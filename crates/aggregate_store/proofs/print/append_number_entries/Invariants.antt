use Rattle.std.proofs.Common.{◌≡◌, ◌++◌, length, map, take}
use Rattle.tsl_value.specs.Print.{listed}
use Rattle.aggregate_store.proofs.Listed.{more_text}
use Rattle.aggregate_store.proofs.NumberEntries.{number_entry_text}
use Rattle.aggregate_store.proofs.print.append_number_entries.Given as goal

abbrev pub invariant-loop-number : goal.invariant-loop-number
invariant-loop-number l = record {
  kept : take (length l.fn.out) l.out ≡ l.fn.out;
  whole : l.out ++ more_text number_entry_text l.number-iterator ≡ l.fn.out ++ listed (map number_entry_text l.fn.entries.entries);
}
