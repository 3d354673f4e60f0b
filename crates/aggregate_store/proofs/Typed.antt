-- The views of a type stay of it.
use Rattle.std.proofs.Common.{◌≡◌, ℕ, Bool, true, ◌&&◌, List, [], ◌∷◌, refl, ap, ◌∙◌}
use Rattle.std.specs.Prelude.{IsTrue}
use Rattle.std.specs.List.{list_all}
use Rattle.std.specs.FinMap as finite_map
use Rattle.tsl_value.specs.Aggregate.{is_aggregate, empty_of}
use Rattle.tsl_value.specs.View.{View, Plain, Keyed, Mapped, Listed, Table, is_of, is_of_key, is_of_scalar}
use Rattle.tsl_value.specs.declared.scalar.Scalar.{Scalar}
use Rattle.tsl_value.specs.declared.scalar.Scalar.TheVariants as scalar
use Rattle.tsl_value.specs.declared.scalar.KeyType.{KeyType}
use Rattle.tsl_value.specs.declared.scalar.ScalarType.{ScalarType}
use Rattle.tsl_value.specs.declared.scalar.ValueType.{ValueType}
use Rattle.tsl_value.specs.declared.scalar.ValueType.TheVariants as value_type
use Rattle.cell_reader.specs.inner.Cells.{Cells, FitsKey, view_at}
use Rattle.lift_func.proofs.TypedUpdates.{both, first, second, is_of-empty, set_with, set_without, map_with, map_without}
use Rattle.aggregate_store.specs.inner.Stored.{FitsValue, with_added, without_key}
use Rattle.aggregate_store.proofs.Live.{has_view}

-- a key with what stands beside it fits a type
abbrev pub FitsType : ValueType → Scalar → Scalar → Type 0
FitsType (value_type.Scalar of) key value = ⊥
FitsType (value_type.Queue of) key value = ⊥
FitsType (value_type.Set k) key value = IsTrue (is_of_key k key) × (value ≡ scalar.Unit)
FitsType (value_type.Map k t) key value = IsTrue (is_of_key k key) × IsTrue (is_of_scalar t value)

pub is_of-added : (of : ValueType) (v : View) (key value : Scalar) → FitsType of key value → IsTrue (is_of of v) → IsTrue (is_of of (with_added v key value))
is_of-added (value_type.Scalar of) v key value fits typed = absurd fits
is_of-added (value_type.Queue of) v key value fits typed = absurd fits
is_of-added (value_type.Set k) (Keyed s) key value fits typed = set_with k s key fits.0 typed
is_of-added (value_type.Map k t) (Mapped m) key value fits typed = map_with k t m key value fits.0 fits.1 typed
is_of-added _ v key value fits typed = absurd (cc)

is_of-without : (of : ValueType) (v : View) (key : Scalar) → IsTrue (is_of of v) → IsTrue (is_of of (without_key v key))
is_of-without (value_type.Set k) (Keyed s) key typed = set_without k s key typed
is_of-without (value_type.Map k t) (Mapped m) key typed = map_without k t m key typed
is_of-without (value_type.Scalar t) (Plain s) key typed = typed
is_of-without (value_type.Queue t) (Listed xs) key typed = typed
is_of-without _ v key typed = absurd (cc)

weaker : {A : Type 0} (p q : A → Bool) → ((x : A) → IsTrue (p x) → IsTrue (q x)) → (xs : List A) → IsTrue (list_all p xs) → IsTrue (list_all q xs)
weaker p q gives [] all = refl
weaker p q gives (x ∷ xs) all = both (gives x (first _ _ all)) (weaker p q gives xs (second _ _ all))

-- a key fits a map of its type
pub fits_map : (k : KeyType) (t : ScalarType) (m : Table) (key : Scalar) → IsTrue (is_of_key k key) → IsTrue (is_of (value_type.Map k t) (Mapped m)) → FitsKey (Mapped m) key
fits_map k t m key fits typed = (k, fits, weaker (λ e. is_of_key k e.0 && is_of_scalar t e.1) (λ e. is_of_key k e.0) (λ e p. first (is_of_key k e.0) (is_of_scalar t e.1) p) (finite_map.entries m) typed)

pub fits_key : (of : ValueType) (v : View) (key value : Scalar) → FitsType of key value → IsTrue (is_of of v) → FitsKey v key
fits_key (value_type.Scalar of) v key value fits typed = absurd fits
fits_key (value_type.Queue of) v key value fits typed = absurd fits
fits_key (value_type.Set k) (Listed xs) key value fits typed = absurd (cc)
fits_key (value_type.Map k t) (Listed xs) key value fits typed = absurd (cc)
fits_key (value_type.Set k) (Plain s) key value fits typed = absurd (cc)
fits_key (value_type.Set k) (Keyed s) key value fits typed = (k, fits.0, typed)
fits_key (value_type.Set k) (Mapped m) key value fits typed = absurd (cc)
fits_key (value_type.Map k t) (Plain s) key value fits typed = absurd (cc)
fits_key (value_type.Map k t) (Keyed s) key value fits typed = absurd (cc)
fits_key (value_type.Map k t) (Mapped m) key value fits typed = fits_map k t m key fits.0 typed

pub fits_value : (of : ValueType) (v : View) (key value : Scalar) → FitsType of key value → IsTrue (is_of of v) → FitsValue v value
fits_value (value_type.Scalar of) v key value fits typed = absurd fits
fits_value (value_type.Queue of) v key value fits typed = absurd fits
fits_value (value_type.Set k) (Listed xs) key value fits typed = absurd (cc)
fits_value (value_type.Map k t) (Listed xs) key value fits typed = absurd (cc)
fits_value (value_type.Set k) (Plain s) key value fits typed = absurd (cc)
fits_value (value_type.Set k) (Keyed s) key value fits typed = fits.1
fits_value (value_type.Set k) (Mapped m) key value fits typed = absurd (cc)
fits_value (value_type.Map k t) (Plain s) key value fits typed = absurd (cc)
fits_value (value_type.Map k t) (Keyed s) key value fits typed = absurd (cc)
fits_value (value_type.Map k t) (Mapped m) key value fits typed =
    (t, fits.1, weaker (λ e. is_of_key k e.0 && is_of_scalar t e.1) (λ e. is_of_scalar t e.1) (λ e p. second (is_of_key k e.0) (is_of_scalar t e.1) p) (finite_map.entries m) typed)

-- ---- a cell that was made

pub typed_new : (of : ValueType) (old new : Cells) (handle : ℕ) (view : View) → new ≡ finite_map.insert old handle view → IsTrue (is_of of view) → IsTrue (is_of of (view_at new handle))
typed_new of old new handle view is typed = ap (is_of of) (has_view old new handle view is) ∙ typed

pub typed_empty : (of : ValueType) (old new : Cells) (handle : ℕ) → is_aggregate of ≡ true → new ≡ finite_map.insert old handle (empty_of of) → IsTrue (is_of of (view_at new handle))
typed_empty of old new handle aggregate is = typed_new of old new handle (empty_of of) is (is_of-empty of aggregate)

pub typed_added : (of : ValueType) (old new : Cells) (source handle : ℕ) (key value : Scalar) → new ≡ finite_map.insert old handle (with_added (view_at old source) key value) → FitsType of key value → IsTrue (is_of of (view_at old source)) → IsTrue (is_of of (view_at new handle))
typed_added of old new source handle key value is fits typed =
    typed_new of old new handle (with_added (view_at old source) key value) is (is_of-added of (view_at old source) key value fits typed)

pub typed_removed : (of : ValueType) (old new : Cells) (source handle : ℕ) (key : Scalar) → new ≡ finite_map.insert old handle (without_key (view_at old source) key) → IsTrue (is_of of (view_at old source)) → IsTrue (is_of of (view_at new handle))
typed_removed of old new source handle key is typed = typed_new of old new handle (without_key (view_at old source) key) is (is_of-without of (view_at old source) key typed)
