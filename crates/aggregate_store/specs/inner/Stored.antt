-- What a caller sees of a store, and what its calls make of it.
use Rattle.std.specs.Prelude.{◌≡◌, ℕ, ◌+◌, ◌-◌, ◌^◌, Bool, List, [], ◌∷◌, ◌++◌, refl, IsTrue, nat_eq, min, slice_index, slice_set}
use Rattle.std.specs.List.{list_all, list_any}
use Rattle.std.specs.Coded.{Coded, code_by, coded×, coded_ℕ, coded_list}
use Rattle.std.specs.FinSet as set
use Rattle.std.specs.FinMap as finite_map
use Rattle.tsl_value.specs.View.{View, Plain, Keyed, Mapped, Listed, is_of_scalar}
use Rattle.tsl_value.specs.inner.ViewCode.{view_code}
use Rattle.tsl_value.specs.declared.scalar.Scalar.{Scalar}
use Rattle.tsl_value.specs.declared.scalar.Scalar.TheVariants as scalar
use Rattle.tsl_value.specs.declared.scalar.ScalarType.{ScalarType}
use Rattle.cell_reader.specs.inner.Cells.{Cells}

-- the views of the cells by their handles, and the ledger: how many elements each update has copied
pub record Stored : Type 0 where
  pub cells : Cells
  pub ledger : List ℕ

abbrev pub stored_code : Coded Stored
stored_code =
    code_by (Cells × List ℕ) (coded× (finite_map.code coded_ℕ view_code) (coded_list coded_ℕ)) (λ s. (s.cells, s.ledger))
    (λ p. record { cells = p.0; ledger = p.1 }) (λ _. refl)

-- what stands beside a key has the type of the view's values; beside a set's key that is the value of Unit
abbrev pub FitsValue : View → Scalar → Type 0
FitsValue (Plain s) value = ⊥
FitsValue (Listed xs) value = ⊥
FitsValue (Keyed s) value = value ≡ scalar.Unit
FitsValue (Mapped m) value =
    (of : ScalarType) × IsTrue (is_of_scalar of value) × IsTrue (list_all (λ e. is_of_scalar of e.1) (finite_map.entries m))

-- the set with the key, and the map with the key added or its value replaced
abbrev pub with_added : View → Scalar → Scalar → View
with_added (Keyed s) key value = Keyed (set.insert s key)
with_added (Mapped m) key value = Mapped (finite_map.insert m key value)
with_added v key value = v

-- the set or the map without the key
abbrev pub without_key : View → Scalar → View
without_key (Keyed s) key = Keyed (set.remove s key)
without_key (Mapped m) key = Mapped (finite_map.remove m key)
without_key v key = v

-- the queue with the value after its last element
abbrev pub with_last : View → Scalar → View
with_last (Listed xs) value = Listed (xs ++ value ∷ [])
with_last v value = v

-- there is an element in front of the queue, and the queue without it
abbrev pub HasFront : View → Type 0
HasFront (Listed (x ∷ xs)) = Unit {0}
HasFront _ = ⊥

abbrev pub without_front : View → View
without_front (Listed (x ∷ xs)) = Listed xs
without_front v = v

-- the update has copied so many elements more; a number stands once it is 2^64 - 1
abbrev pub counted : List ℕ → ℕ → ℕ → List ℕ
counted ledger update copied = slice_set ledger update (min (slice_index ledger update + copied) (2 ^ 64 - 1))

-- whether the handle is among them
abbrev pub is_listed : List ℕ → ℕ → Bool
is_listed handles handle = list_any (λ h. nat_eq h handle) handles
