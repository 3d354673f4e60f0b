-- The front and the rest of a queue.
use Rattle.std.proofs.Common.{◌≡◌, ℕ, ◌<◌, List, [], ◌∷◌, length, drop, Option, Some, None, Bor, refl, ap, arith}
use Rattle.std.specs.Prelude.{◌↔◌, IfSome, IsSome, slice_index_or}
use Rattle.std.specs.Option.{option_copied}
use Rattle.std.proofs.lemmas.Bool.{false≢true}
use Rattle.tsl_value.specs.View.{Listed}
use Rattle.tsl_value.specs.declared.scalar.Scalar.{Scalar}
use Rattle.cell_reader.specs.inner.Cells.{front_of}
use Rattle.aggregate_store.specs.inner.Stored.{without_front}

-- what a look at the first place lends
pub front_found : (xs : List Scalar) (n : ℕ) (r : Option (Bor Scalar)) → n ≡ length xs → IsSome r ↔ (0 < n) → IfSome r (λ x. x.now ≡ slice_index_or xs 0 x.now) → option_copied r ≡ front_of (Listed xs)
front_found [] n None count there found = refl
front_found [] n (Some x) count there found = let some = there.0 refl in absurd (omega arith)
front_found (y ∷ ys) n None count there found = absurd (false≢true (there.1 (omega arith)))
front_found (y ∷ ys) n (Some x) count there found = ap Some found

pub first_dropped : (xs : List Scalar) → Listed (drop 1 xs) ≡ without_front (Listed xs)
first_dropped [] = refl
first_dropped (x ∷ xs) = refl
