-- Entries of a map with numbers as keys.
use Rattle.std.proofs.Common.{◌≡◌, ℕ, ℤ, false, cond, List, [], ◌∷◌, Option, Some, None, map, refl, sym, ap, subst, ◌∙◌}
use Rattle.std.proofs.lemmas.Bool.{true≢false}
use Rattle.std.proofs.lemmas.Simd.{map-map}
use Rattle.std.specs.BTreeMap as tree
use Rattle.std.specs.BTreeMap.{BTreeMap, is_at}
use Rattle.std.specs.FinMap as finite_map
use Rattle.std.specs.List.Sorted.{IsStrictlySortedBy}
use Rattle.std.specs.Map.{keys_of, lookup}
use Rattle.std.specs.Ordering.{eq_by_cmp, int_cmp, is_eq}
use Rattle.tsl_value.specs.Print.{listed}
use Rattle.tsl_value.specs.View.{scalar_cmp}
use Rattle.tsl_value.specs.inner.ScalarOrder.{scalar_cmp_total}
use Rattle.tsl_value.specs.declared.scalar.Scalar.{Scalar}
use Rattle.tsl_value.specs.declared.scalar.Scalar.TheVariants as scalar
use Rattle.tsl_value.proofs.ScalarOrder.{scalar_cmp-IsAntisymmetric}
use Rattle.lift_func.proofs.FiniteMaps.{get-of_entries}
use Rattle.aggregate_store.specs.inner.Entries.{entry_of, table_of_numbers}
use Rattle.aggregate_store.proofs.FiniteMaps.{entries-of_entries, table-insert, table-remove, table-without}
use Rattle.aggregate_store.proofs.Listed.{entry_text}
use Rattle.aggregate_store.proofs.Numbers.{AsksNumbers, IsOther, changed, is_int, is_other, numbers_cmp, numbers_rise}

-- ---- what stands at a key

abbrev value_in : List (Scalar × Scalar) → Scalar → Option Scalar
value_in es q = lookup (is_at (scalar_cmp q)) es

found : (q : ℤ) (es : List (ℤ × Scalar)) → value_in (map entry_of es) (scalar.Int q) ≡ lookup (is_at (int_cmp q)) es
found q [] = refl
found q (e ∷ es) = (λ i. cond (is_eq (numbers_cmp q e.0 i)) (Some e.1) (found q es i))

not_found : (q : Scalar) (es : List (ℤ × Scalar)) → is_int q ≡ false → value_in (map entry_of es) q ≡ None
not_found q [] other = refl
not_found scalar.Unit (e ∷ es) other = not_found scalar.Unit es other
not_found (scalar.Int q) (e ∷ es) other = absurd (true≢false other)
not_found (scalar.Bool b) (e ∷ es) other = not_found (scalar.Bool b) es other
not_found (scalar.Text bytes) (e ∷ es) other = not_found (scalar.Text bytes) es other

entries_ask : (es : List (ℤ × Scalar)) → AsksNumbers None (value_in (map entry_of es)) (λ q. lookup (is_at (int_cmp q)) es)
entries_ask es = record { number = λ q. found q es; other = λ q other. not_found q es other }

module _ (m : BTreeMap ℤ Scalar) where
  pub get_number : (q : ℤ) → finite_map.get (table_of_numbers m) (scalar.Int q) ≡ tree.get int_cmp m q
  get_number q = get-of_entries scalar_cmp_total (map entry_of m.entries) (scalar.Int q) ∙ found q m.entries

  pub get_other : (q : Scalar) → IsOther q → finite_map.get (table_of_numbers m) q ≡ None
  get_other q other = get-of_entries scalar_cmp_total (map entry_of m.entries) q ∙ not_found q m.entries (is_other q other)

  pub other_without : (q : Scalar) → IsOther q → table_of_numbers m ≡ finite_map.remove (table_of_numbers m) q
  other_without q other = sym (table-without scalar_cmp_total scalar_cmp-IsAntisymmetric (table_of_numbers m) q (get_other q other))

-- ---- one change

module _ (m n : BTreeMap ℤ Scalar) (k : ℤ) where
  values_changed : (w : Option Scalar) → tree.Updates int_cmp m n k w
      → (q : Scalar) → value_in (map entry_of n.entries) q ≡ cond (eq_by_cmp scalar_cmp (scalar.Int k) q) w (value_in (map entry_of m.entries) q)
  values_changed w updates = changed None (value_in (map entry_of n.entries)) (value_in (map entry_of m.entries)) _ _ (entries_ask n.entries) (entries_ask m.entries) k w updates.0

  pub number_put : (v : Scalar) → tree.Updates int_cmp m n k (Some v) → table_of_numbers n ≡ finite_map.insert (table_of_numbers m) (scalar.Int k) v
  number_put v updates =
      table-insert scalar_cmp_total scalar_cmp-IsAntisymmetric (map entry_of m.entries) (map entry_of n.entries) (scalar.Int k) v (values_changed (Some v) updates)

  pub number_without : tree.Updates int_cmp m n k None → table_of_numbers n ≡ finite_map.remove (table_of_numbers m) (scalar.Int k)
  number_without updates =
      table-remove scalar_cmp_total scalar_cmp-IsAntisymmetric (map entry_of m.entries) (map entry_of n.entries) (scalar.Int k) (values_changed None updates)

-- ---- their order

keys_as : (es : List (ℤ × Scalar)) → keys_of (map entry_of es) ≡ map scalar.Int (keys_of es)
keys_as [] = refl
keys_as (e ∷ es) = ap (λ ks. scalar.Int e.0 ∷ ks) (keys_as es)

pub entries_rise : (es : List (ℤ × Scalar)) → IsStrictlySortedBy int_cmp (keys_of es) → IsStrictlySortedBy scalar_cmp (keys_of (map entry_of es))
entries_rise es rising = subst (IsStrictlySortedBy scalar_cmp) (sym (keys_as es)) (numbers_rise (keys_of es) rising)

abbrev pub number_entry_text : ℤ × Scalar → List ℕ
number_entry_text e = entry_text (entry_of e)

pub number_entries_text : (es : List (ℤ × Scalar)) → IsStrictlySortedBy int_cmp (keys_of es)
    → listed (map number_entry_text es) ≡ listed (map entry_text (finite_map.entries (finite_map.from_entries {R = scalar_cmp} (map entry_of es))))
number_entries_text es rising =
    ap listed (sym (map-map entry_text entry_of es))
    ∙ ap (λ ks. listed (map entry_text ks)) (sym (entries-of_entries scalar_cmp_total (map entry_of es) (entries_rise es rising)))
