use Rattle.std.proofs.Common.{◌≡◌, ℕ}
use Rattle.std.specs.List.{list_any, range_with_len}
use Rattle.flat_core.specs.Members.{is_in}
use Rattle.flat_core.specs.Kept.{keeps}
use Rattle.register_code.proofs.keep.kept_set.Given as goal

abbrev pub invariant-loop-number : goal.invariant-loop-number
invariant-loop-number l = (i : ℕ) → is_in l.set i ≡ list_any (λ j. keeps l.flat j i) (range_with_len 0 l.number)
