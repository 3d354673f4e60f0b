use Rattle.std.proofs.Common.{◌≡◌, ◌++◌, length, map, take}
use Rattle.tsl_value.specs.Print.{listed, scalar_text}
use Rattle.aggregate_store.proofs.Listed.{more_text}
use Rattle.aggregate_store.proofs.print.append_scalars.Given as goal

abbrev pub invariant-loop-key : goal.invariant-loop-key
invariant-loop-key l = record {
  kept : take (length l.fn.out) l.out ≡ l.fn.out;
  whole : l.out ++ more_text scalar_text l.key-iterator ≡ l.fn.out ++ listed (map scalar_text l.fn.keys.keys);
}
