-- Aggregates of a type, as formats.
use Rattle.std.proofs.Common.{◌≡◌, ℕ, zero, suc, ◌+◌, ◌^◌, ◌<◌, Bool, true, false, List, [], ◌∷◌, ◌++◌, map, length, Some, refl, sym, ap, subst, ◌∙◌, append_assoc, arith}
use Rattle.std.specs.Prelude.{IsTrue, ◌&&◌}
use Rattle.std.specs.List.{AllByRecursion, flat_map, list_all, slice_index}
use Rattle.std.specs.List.Sorted.{IsStrictlyIncreasing, IsStrictlySortedBy}
use Rattle.std.specs.Ordering.{is_lt}
use Rattle.std.specs.declared.cmp.Ordering.{Ordering}
use Rattle.std.specs.declared.cmp.Ordering.TheVariants.{Less, Equal, Greater}
use Rattle.std.proofs.lemmas.Bool.{and_from, and_parts, false≢true, lt-ltb, ltb-true}
use Rattle.tsl_value.specs.Aggregate.{is_aggregate}
use Rattle.tsl_value.specs.declared.scalar.KeyType.{KeyType}
use Rattle.tsl_value.specs.declared.scalar.KeyType.TheVariants as key_type
use Rattle.tsl_value.specs.declared.scalar.Scalar.{Scalar}
use Rattle.tsl_value.specs.declared.scalar.ScalarType.{ScalarType}
use Rattle.tsl_value.specs.declared.scalar.ValueType.{ValueType}
use Rattle.tsl_value.specs.declared.scalar.ValueType.TheVariants as value_type
use Rattle.tsl_value.specs.View.{is_of_key, is_of_scalar, scalar_cmp}
use Rattle.tsl_value.specs.inner.Laws.{IsInBounds}
use Rattle.tsl_value.specs.inner.ScalarOrder.{scalar_cmp_total}
use Rattle.aggregate_store.specs.declared.content.Content.{Content}
use Rattle.aggregate_store.specs.declared.content.Content.TheVariants as content
use Rattle.aggregate_store.specs.Content.{AllIn, AreInOrder, content_size, is_content_of}
use Rattle.monitor_state.specs.declared.state.OpenEvent.{OpenEvent}
use Rattle.run_state.specs.Spelling.{content_bytes, entry_bytes, number, scalar_bytes}
use Rattle.state_snapshot.specs.inner.Reading.{◌>>=◌, as_scalar, content_at, entry_at, if_entries, if_keys, is_entry_below, is_event_below, is_key_below, items_at, map_at, number_at, queue_at, rise_by, scalar_at, set_at}
use Rattle.state_snapshot.proofs.Formats.{IsBytes, IsFormat, Takes, Takes-then, bind_some, items_again, items_take, number_format, passed_test, some_is}
use Rattle.state_snapshot.proofs.Scalars.{FitsEntry, FitsScalar, entry_format, scalar_format}

-- what an aggregate of a type is that can be spelled
pub record FitsContent (of : ValueType) (c : Content) : Type 0 where
  pub aggregate : IsTrue (is_aggregate of)
  pub typed : IsTrue (is_content_of of c)
  pub ordered : AreInOrder c
  pub bounded : AllIn IsInBounds c
  pub sized : content_size c < 2 ^ 64

-- ---- keys that rise one after the other rise all

is_less : (o : Ordering) → is_lt o ≡ true → o ≡ Less
is_less Less h = refl
is_less Equal h = absurd cc
is_less Greater h = absurd cc

below_all : (x y : Scalar) (keys : List Scalar) → scalar_cmp x y ≡ Less → AllByRecursion (λ z. scalar_cmp y z ≡ Less) keys → AllByRecursion (λ z. scalar_cmp x z ≡ Less) keys
below_all x y [] lt all = tt
below_all x y (z ∷ keys) lt all = (scalar_cmp_total.trans x y z lt all.0, below_all x y keys lt all.1)

rising_all : (keys : List Scalar) → rise_by is_key_below keys ≡ true → IsStrictlySortedBy scalar_cmp keys
unfolding IsStrictlySortedBy
rising_all [] rising = tt
rising_all (x ∷ []) rising = (tt, tt)
rising_all (x ∷ y ∷ keys) rising =
    let both = and_parts (is_key_below x y) (rise_by is_key_below (y ∷ keys)) rising in
    let less = is_less (scalar_cmp x y) both.0 in
    let more = rising_all (y ∷ keys) both.1 in
    ((less, below_all x y keys less more.0), more)

rising_each : (keys : List Scalar) → IsStrictlySortedBy scalar_cmp keys → rise_by is_key_below keys ≡ true
unfolding IsStrictlySortedBy
rising_each [] sorted = refl
rising_each (x ∷ []) sorted = refl
rising_each (x ∷ y ∷ keys) sorted = and_from (is_key_below x y) (rise_by is_key_below (y ∷ keys)) (ap is_lt sorted.0.0) (rising_each (y ∷ keys) sorted.1)

-- entries by their keys
keys_rise : (es : List (Scalar × Scalar)) → rise_by is_entry_below es ≡ rise_by is_key_below (map (λ e. e.0) es)
keys_rise [] = refl
keys_rise (x ∷ []) = refl
keys_rise (x ∷ y ∷ es) = ap (λ b. is_key_below x.0 y.0 && b) (keys_rise (y ∷ es))

-- events by their equations
pub events_rise : (es : List OpenEvent) → rise_by is_event_below es ≡ true → IsStrictlyIncreasing (map (λ e. e.equation) es)
events_rise [] rising k lt = absurd (omega (arith, lt))
events_rise (x ∷ []) rising k lt = absurd (omega (arith, lt))
events_rise (x ∷ y ∷ es) rising zero lt = ltb-true _ _ (and_parts (is_event_below x y) (rise_by is_event_below (y ∷ es)) rising).0
events_rise (x ∷ y ∷ es) rising (suc k) lt =
    let next : suc k + 1 ≡ suc (k + 1) = omega arith in
    let later = events_rise (y ∷ es) (and_parts (is_event_below x y) (rise_by is_event_below (y ∷ es)) rising).1 k (omega (arith, lt)) in
    subst (λ n. slice_index (map (λ e. e.equation) (y ∷ es)) k < slice_index (map (λ e. e.equation) (x ∷ y ∷ es)) n) (sym next) later

pub events_each : (es : List OpenEvent) → IsStrictlyIncreasing (map (λ e. e.equation) es) → rise_by is_event_below es ≡ true
events_each [] sorted = refl
events_each (x ∷ []) sorted = refl
events_each (x ∷ y ∷ es) sorted =
    and_from (is_event_below x y) (rise_by is_event_below (y ∷ es)) (lt-ltb _ _ (sorted 0 (omega arith)))
    (events_each (y ∷ es) (λ k lt.
    let next : suc k + 1 ≡ suc (k + 1) = omega arith in
    subst (λ n. slice_index (map (λ e. e.equation) (y ∷ es)) k < slice_index (map (λ e. e.equation) (x ∷ y ∷ es)) n) next (sorted (suc k) (omega (arith, lt)))))

-- ---- what each of a list is

key_type_is : (k : KeyType) (s : Scalar) → is_of_scalar (as_scalar k) s ≡ is_of_key k s
key_type_is key_type.Int s = refl
key_type_is key_type.Bool s = refl
key_type_is key_type.Text s = refl

module _ (t : ScalarType) where
  elements_fit : (xs : List Scalar) → AllByRecursion (FitsScalar t) xs → IsTrue (list_all (is_of_scalar t) xs) × AllByRecursion IsInBounds xs
  elements_fit [] fits = (refl, tt)
  elements_fit (x ∷ xs) fits =
      let more = elements_fit xs fits.1 in
      (and_from (is_of_scalar t x) (list_all (is_of_scalar t) xs) fits.0.0 more.0, (fits.0.1, more.1))

  elements_back : (xs : List Scalar) → IsTrue (list_all (is_of_scalar t) xs) → AllByRecursion IsInBounds xs → AllByRecursion (FitsScalar t) xs
  elements_back [] typed bounded = tt
  elements_back (x ∷ xs) typed bounded =
      let both = and_parts (is_of_scalar t x) (list_all (is_of_scalar t) xs) typed in
      ((both.0, bounded.0), elements_back xs both.1 bounded.1)

module _ (k : KeyType) where
  keys_fit : (keys : List Scalar) → AllByRecursion (FitsScalar (as_scalar k)) keys → IsTrue (list_all (is_of_key k) keys) × AllByRecursion IsInBounds keys
  keys_fit [] fits = (refl, tt)
  keys_fit (x ∷ keys) fits =
      let more = keys_fit keys fits.1 in
      (and_from (is_of_key k x) (list_all (is_of_key k) keys) (sym (key_type_is k x) ∙ fits.0.0) more.0, (fits.0.1, more.1))

  keys_back : (keys : List Scalar) → IsTrue (list_all (is_of_key k) keys) → AllByRecursion IsInBounds keys → AllByRecursion (FitsScalar (as_scalar k)) keys
  keys_back [] typed bounded = tt
  keys_back (x ∷ keys) typed bounded =
      let both = and_parts (is_of_key k x) (list_all (is_of_key k) keys) typed in
      ((key_type_is k x ∙ both.0, bounded.0), keys_back keys both.1 bounded.1)

module _ (k : KeyType) (t : ScalarType) where
  abbrev is_entry : Scalar × Scalar → Bool
  is_entry e = is_of_key k e.0 && is_of_scalar t e.1

  abbrev EntryInBounds : Scalar × Scalar → Type 0
  EntryInBounds e = IsInBounds e.0 × IsInBounds e.1

  entries_fit : (es : List (Scalar × Scalar)) → AllByRecursion (FitsEntry k t) es → IsTrue (list_all is_entry es) × AllByRecursion EntryInBounds es
  entries_fit [] fits = (refl, tt)
  entries_fit (x ∷ es) fits =
      let more = entries_fit es fits.1 in
      let first = and_from (is_of_key k x.0) (is_of_scalar t x.1) (sym (key_type_is k x.0) ∙ fits.0.0.0) fits.0.1.0 in
      (and_from (is_entry x) (list_all is_entry es) first more.0, ((fits.0.0.1, fits.0.1.1), more.1))

  entries_back : (es : List (Scalar × Scalar)) → IsTrue (list_all is_entry es) → AllByRecursion EntryInBounds es → AllByRecursion (FitsEntry k t) es
  entries_back [] typed bounded = tt
  entries_back (x ∷ es) typed bounded =
      let both = and_parts (is_entry x) (list_all is_entry es) typed in
      let first = and_parts (is_of_key k x.0) (is_of_scalar t x.1) both.0 in
      (((key_type_is k x.0 ∙ first.0, bounded.0.0), (first.1, bounded.0.1)), entries_back es both.1 bounded.1)

-- ---- each kind of aggregate

set_takes : (k : KeyType) (bytes : List ℕ) (c : Content) (rest : List ℕ) → IsBytes bytes → set_at k bytes ≡ Some (c, rest) → Takes bytes (content_bytes c) rest × FitsContent (value_type.Set k) c
unfolding set_at
set_takes k bytes c rest fits e =
    let a = bind_some (number_at bytes) (λ n. items_at (scalar_at (as_scalar k)) n.0 n.1 >>= if_keys) (c, rest) e in
    let b = bind_some (items_at (scalar_at (as_scalar k)) a.0.0 a.0.1) if_keys (c, rest) a.2 in
    let g = passed_test (rise_by is_key_below b.0.0) (content.Set b.0.0, b.0.1) (c, rest) b.2 in
    let n = number_format.takes bytes a.0.0 a.0.1 fits a.1 in
    let keys = items_take (scalar_format (as_scalar k)) a.0.0 a.0.1 b.0.0 b.0.1 n.0.rest_fits b.1 in
    let of = keys_fit k b.0.0 keys.2 in
    let both = Takes-then bytes (number a.0.0) a.0.1 (flat_map scalar_bytes b.0.0) b.0.1 n.0 keys.0 in
    subst (λ (p : Content × List ℕ). Takes bytes (content_bytes p.0) p.1 × FitsContent (value_type.Set k) p.0) g.1 (
      subst (λ (m : ℕ). Takes bytes (number m ++ flat_map scalar_bytes b.0.0) b.0.1) (sym keys.1) both,
      record { aggregate = refl; typed = of.0; ordered = rising_all b.0.0 g.0; bounded = of.1; sized = subst (λ (m : ℕ). m < 2 ^ 64) (sym keys.1) n.1 },
    )

map_takes : (k : KeyType) (t : ScalarType) (bytes : List ℕ) (c : Content) (rest : List ℕ) → IsBytes bytes → map_at k t bytes ≡ Some (c, rest) → Takes bytes (content_bytes c) rest × FitsContent (value_type.Map k t) c
unfolding map_at
map_takes k t bytes c rest fits e =
    let a = bind_some (number_at bytes) (λ n. items_at (entry_at k t) n.0 n.1 >>= if_entries) (c, rest) e in
    let b = bind_some (items_at (entry_at k t) a.0.0 a.0.1) if_entries (c, rest) a.2 in
    let g = passed_test (rise_by is_entry_below b.0.0) (content.Map b.0.0, b.0.1) (c, rest) b.2 in
    let n = number_format.takes bytes a.0.0 a.0.1 fits a.1 in
    let entries = items_take (entry_format k t) a.0.0 a.0.1 b.0.0 b.0.1 n.0.rest_fits b.1 in
    let of = entries_fit k t b.0.0 entries.2 in
    let both = Takes-then bytes (number a.0.0) a.0.1 (flat_map entry_bytes b.0.0) b.0.1 n.0 entries.0 in
    subst (λ (p : Content × List ℕ). Takes bytes (content_bytes p.0) p.1 × FitsContent (value_type.Map k t) p.0) g.1 (
      subst (λ (m : ℕ). Takes bytes (number m ++ flat_map entry_bytes b.0.0) b.0.1) (sym entries.1) both,
      record {
        aggregate = refl;
        typed = of.0;
        ordered = rising_all (map (λ e. e.0) b.0.0) (sym (keys_rise b.0.0) ∙ g.0);
        bounded = of.1;
        sized = subst (λ (m : ℕ). m < 2 ^ 64) (sym entries.1) n.1;
      },
    )

queue_takes : (t : ScalarType) (bytes : List ℕ) (c : Content) (rest : List ℕ) → IsBytes bytes → queue_at t bytes ≡ Some (c, rest) → Takes bytes (content_bytes c) rest × FitsContent (value_type.Queue t) c
unfolding queue_at
queue_takes t bytes c rest fits e =
    let a = bind_some (number_at bytes) (λ n. items_at (scalar_at t) n.0 n.1 >>= λ xs. Some (content.Queue xs.0, xs.1)) (c, rest) e in
    let b = bind_some (items_at (scalar_at t) a.0.0 a.0.1) (λ xs. Some (content.Queue xs.0, xs.1)) (c, rest) a.2 in
    let n = number_format.takes bytes a.0.0 a.0.1 fits a.1 in
    let elements = items_take (scalar_format t) a.0.0 a.0.1 b.0.0 b.0.1 n.0.rest_fits b.1 in
    let of = elements_fit t b.0.0 elements.2 in
    let both = Takes-then bytes (number a.0.0) a.0.1 (flat_map scalar_bytes b.0.0) b.0.1 n.0 elements.0 in
    subst (λ (p : Content × List ℕ). Takes bytes (content_bytes p.0) p.1 × FitsContent (value_type.Queue t) p.0) (some_is (content.Queue b.0.0, b.0.1) (c, rest) b.2) (
      subst (λ (m : ℕ). Takes bytes (number m ++ flat_map scalar_bytes b.0.0) b.0.1) (sym elements.1) both,
      record { aggregate = refl; typed = of.0; ordered = tt; bounded = of.1; sized = subst (λ (m : ℕ). m < 2 ^ 64) (sym elements.1) n.1 },
    )

set_again : (k : KeyType) (keys : List Scalar) (rest : List ℕ) → FitsContent (value_type.Set k) (content.Set keys) → set_at k (content_bytes (content.Set keys) ++ rest) ≡ Some (content.Set keys, rest)
unfolding set_at
set_again k keys rest fits =
    let all = flat_map scalar_bytes keys in
    ap (set_at k) (append_assoc (number (length keys)) all rest)
    ∙ rw (number_format.again (length keys) (all ++ rest) fits.sized, items_again (scalar_format (as_scalar k)) keys rest (keys_back k keys fits.typed fits.bounded), rising_each keys fits.ordered) refl

map_again : (k : KeyType) (t : ScalarType) (es : List (Scalar × Scalar)) (rest : List ℕ) → FitsContent (value_type.Map k t) (content.Map es) → map_at k t (content_bytes (content.Map es) ++ rest) ≡ Some (content.Map es, rest)
unfolding map_at
map_again k t es rest fits =
    let all = flat_map entry_bytes es in
    let rising : rise_by is_entry_below es ≡ true = keys_rise es ∙ rising_each (map (λ e. e.0) es) fits.ordered in
    ap (map_at k t) (append_assoc (number (length es)) all rest)
    ∙ rw (number_format.again (length es) (all ++ rest) fits.sized, items_again (entry_format k t) es rest (entries_back k t es fits.typed fits.bounded), rising) refl

queue_again : (t : ScalarType) (xs : List Scalar) (rest : List ℕ) → FitsContent (value_type.Queue t) (content.Queue xs) → queue_at t (content_bytes (content.Queue xs) ++ rest) ≡ Some (content.Queue xs, rest)
unfolding queue_at
queue_again t xs rest fits =
    let all = flat_map scalar_bytes xs in
    ap (queue_at t) (append_assoc (number (length xs)) all rest)
    ∙ rw (number_format.again (length xs) (all ++ rest) fits.sized, items_again (scalar_format t) xs rest (elements_back t xs fits.typed fits.bounded)) refl

-- ---- the format

content_takes : (of : ValueType) (bytes : List ℕ) (c : Content) (rest : List ℕ) → IsBytes bytes → content_at of bytes ≡ Some (c, rest) → Takes bytes (content_bytes c) rest × FitsContent of c
content_takes (value_type.Scalar t) bytes c rest fits e = absurd cc
content_takes (value_type.Set k) bytes c rest fits e = set_takes k bytes c rest fits e
content_takes (value_type.Map k t) bytes c rest fits e = map_takes k t bytes c rest fits e
content_takes (value_type.Queue t) bytes c rest fits e = queue_takes t bytes c rest fits e

-- a content that is of the type by its own kind
content_again : (of : ValueType) (c : Content) (rest : List ℕ) → FitsContent of c → content_at of (content_bytes c ++ rest) ≡ Some (c, rest)
content_again (value_type.Set k) (content.Set keys) rest fits = set_again k keys rest fits
content_again (value_type.Map k t) (content.Map es) rest fits = map_again k t es rest fits
content_again (value_type.Queue t) (content.Queue xs) rest fits = queue_again t xs rest fits
content_again (value_type.Scalar t) c rest fits = absurd (false≢true fits.aggregate)
content_again (value_type.Set k) (content.Scalar s) rest fits = absurd (false≢true fits.typed)
content_again (value_type.Set k) (content.Map es) rest fits = absurd (false≢true fits.typed)
content_again (value_type.Set k) (content.Queue xs) rest fits = absurd (false≢true fits.typed)
content_again (value_type.Map k t) (content.Scalar s) rest fits = absurd (false≢true fits.typed)
content_again (value_type.Map k t) (content.Set keys) rest fits = absurd (false≢true fits.typed)
content_again (value_type.Map k t) (content.Queue xs) rest fits = absurd (false≢true fits.typed)
content_again (value_type.Queue t) (content.Scalar s) rest fits = absurd (false≢true fits.typed)
content_again (value_type.Queue t) (content.Set keys) rest fits = absurd (false≢true fits.typed)
content_again (value_type.Queue t) (content.Map es) rest fits = absurd (false≢true fits.typed)

pub content_format : (of : ValueType) → IsFormat content_bytes (content_at of) (FitsContent of)
content_format of = record { takes = content_takes of; again = content_again of }
