use Rattle.std.proofs.Common.{◌≡◌, ◌++◌, length, map, take}
use Rattle.tsl_value.specs.Print.{listed}
use Rattle.aggregate_store.proofs.Listed.{entry_text, more_text}
use Rattle.aggregate_store.proofs.print.append_scalar_entries.Given as goal

abbrev pub invariant-loop-key : goal.invariant-loop-key
invariant-loop-key l = record {
  kept : take (length l.fn.out) l.out ≡ l.fn.out;
  whole : l.out ++ more_text entry_text l.key-iterator ≡ l.fn.out ++ listed (map entry_text l.fn.entries.entries);
}
