-- The contents of views: their types, and how long their texts are.
use Rattle.std.proofs.Common.{◌≡◌, Bool, true, List, [], ◌∷◌, Contains, Some, refl, sym, ap, ◌∙◌, inl, inr}
use Rattle.std.proofs.lemmas.Bool.{and_from, and_parts, false≢true, or_cases}
use Rattle.std.proofs.lemmas.Map.Keys.{IsDistinct-from_sorted}
use Rattle.std.proofs.lemmas.Map.Views.{Contains-from_any, Contains-from_lookup, list_any-from_Contains, lookup-from_Contains}
use Rattle.std.specs.Prelude.{IsTrue}
use Rattle.std.specs.Cmp.{eq_by_cmp_equiv}
use Rattle.std.specs.List.{AllByRecursion, list_all, list_any}
use Rattle.std.specs.FinSet as set
use Rattle.std.specs.FinMap as finite_map
use Rattle.std.specs.Ordering.{eq_by_cmp, is_eq}
use Rattle.std.specs.declared.cmp.Ordering.{Ordering}
use Rattle.std.specs.declared.cmp.Ordering.TheVariants.{Less, Equal, Greater}
use Rattle.tsl_value.specs.declared.scalar.Scalar.{Scalar}
use Rattle.tsl_value.specs.declared.scalar.Scalar.TheVariants as scalar
use Rattle.tsl_value.specs.declared.scalar.ValueType.{ValueType}
use Rattle.tsl_value.specs.declared.scalar.ValueType.TheVariants as value_type
use Rattle.tsl_value.specs.Print.{in_order}
use Rattle.tsl_value.specs.View.{View, Plain, Keyed, Mapped, Listed, Keys, Table, is_of, is_of_key, scalar_cmp}
use Rattle.tsl_value.specs.inner.Laws.{IsInBounds}
use Rattle.tsl_value.specs.inner.ScalarOrder.{scalar_cmp_total}
use Rattle.tsl_value.proofs.ScalarOrder.{scalar_cmp-IsAntisymmetric}
use Rattle.cell_reader.specs.inner.Cells.{has_key}
use Rattle.lift_func.proofs.FiniteMaps.{find-lookup}
use Rattle.aggregate_store.specs.declared.content.Content.{Content}
use Rattle.aggregate_store.specs.declared.content.Content.TheVariants as content
use Rattle.aggregate_store.specs.Content.{AllIn, IsInRange, content_of, is_content_of, view_in}
use Rattle.aggregate_store.proofs.Contents.{contents}
use Rattle.flat_core.specs.Complete.{IsShort}
use Rattle.flat_core.proofs.Members.{all_at, all_from}
use Rattle.register_machine.specs.Short.{IsShortView}

-- ---- the keys of a set in their order are its keys

equal_of : (o : Ordering) → is_eq o ≡ true → o ≡ Equal
equal_of Less is = absurd (false≢true is)
equal_of Equal is = refl
equal_of Greater is = absurd (false≢true is)

exact : (x y : Scalar) → eq_by_cmp scalar_cmp x y ≡ true → x ≡ y
exact x y tied = scalar_cmp-IsAntisymmetric x y (equal_of (scalar_cmp x y) tied)

key_there : (s : Keys) (k : Scalar) → Contains (in_order s) k → set.contains s k ≡ true
key_there s k there =
    sym (ap (λ v. has_key v k) (contents.back (Keyed s))) ∙ set.contains-from_list scalar_cmp_total (in_order s) k ∙ list_any-from_Contains (eq_by_cmp_equiv scalar_cmp_total) k (in_order s) there

of_tied : (p : Scalar → Bool) (k : Scalar) (xs : List Scalar) → list_any (eq_by_cmp scalar_cmp k) xs ≡ true → list_all p xs ≡ true → p k ≡ true
of_tied p k [] tied all = absurd (false≢true tied)
of_tied p k (x ∷ xs) tied all = elim (or_cases (eq_by_cmp scalar_cmp k x) (list_any (eq_by_cmp scalar_cmp k) xs) tied) [
  | inl same ↦ ap p (exact k x same) ∙ (and_parts (p x) (list_all p xs) all).0
  | inr after ↦ of_tied p k xs after (and_parts (p x) (list_all p xs) all).1
]

all_passing : (p : Scalar → Bool) (xs : List Scalar) → AllByRecursion (λ k. p k ≡ true) xs → list_all p xs ≡ true
all_passing p [] all = refl
all_passing p (x ∷ xs) all = and_from (p x) (list_all p xs) all.0 (all_passing p xs all.1)

pub typed_content : (of : ValueType) (v : View) → IsTrue (is_of of v) → IsTrue (is_content_of of (content_of v))
typed_content (value_type.Scalar t) (Plain s) is = is
typed_content (value_type.Set k) (Keyed s) is =
    all_passing (is_of_key k) (in_order s) (all_from (λ x. is_of_key k x ≡ true) (in_order s) (λ x there.
    of_tied (is_of_key k) x (set.items s) (sym (set.contains-items s x) ∙ key_there s x there) is))
typed_content (value_type.Map k t) (Mapped m) is = is
typed_content (value_type.Queue t) (Listed xs) is = is
typed_content _ _ is = absurd (false≢true is)

-- ---- texts

entry_there : (m : Table) (k x : Scalar) → Contains (finite_map.entries m) (k, x) → finite_map.get m k ≡ Some x
entry_there m k x there =
    finite_map.get-entries m k ∙ find-lookup scalar_cmp k (finite_map.entries m)
    ∙ lookup-from_Contains (eq_by_cmp_equiv scalar_cmp_total) k x (finite_map.entries m) (IsDistinct-from_sorted scalar_cmp _ (contents.ordered (Mapped m))) there

pub short_content : (v : View) → IsShortView v → AllIn IsShort (content_of v)
short_content (Plain s) short = short
short_content (Keyed s) short = all_from IsShort (in_order s) (λ k there. short k (key_there s k there))
short_content (Mapped m) short = all_from (λ e. IsShort e.0 × IsShort e.1) (finite_map.entries m) (λ e there. short e.0 e.1 (entry_there m e.0 e.1 there))
short_content (Listed xs) short = short

-- what is in range and short is in bounds
pub in_bounds : (s : Scalar) → IsInRange s → IsShort s → IsInBounds s
in_bounds scalar.Unit range short = tt
in_bounds (scalar.Int z) range short = range
in_bounds (scalar.Bool b) range short = tt
in_bounds (scalar.Text bytes) range short = (range, short)

all_bounds : (xs : List Scalar) → AllByRecursion IsInRange xs → AllByRecursion IsShort xs → AllByRecursion IsInBounds xs
all_bounds [] range short = tt
all_bounds (x ∷ xs) range short = (in_bounds x range.0 short.0, all_bounds xs range.1 short.1)

pair_bounds : (es : List (Scalar × Scalar)) → AllByRecursion (λ e. IsInRange e.0 × IsInRange e.1) es → AllByRecursion (λ e. IsShort e.0 × IsShort e.1) es → AllByRecursion (λ e. IsInBounds e.0 × IsInBounds e.1) es
pair_bounds [] range short = tt
pair_bounds (e ∷ es) range short = ((in_bounds e.0 range.0.0 short.0.0, in_bounds e.1 range.0.1 short.0.1), pair_bounds es range.1 short.1)

pub content_bounds : (c : Content) → AllIn IsInRange c → AllIn IsShort c → AllIn IsInBounds c
content_bounds (content.Scalar s) range short = in_bounds s range short
content_bounds (content.Set keys) range short = all_bounds keys range short
content_bounds (content.Map entries) range short = pair_bounds entries range short
content_bounds (content.Queue elements) range short = all_bounds elements range short

-- and what is in bounds is short
pub bounds_short : (s : Scalar) → IsInBounds s → IsShort s
bounds_short scalar.Unit bounds = tt
bounds_short (scalar.Int z) bounds = tt
bounds_short (scalar.Bool b) bounds = tt
bounds_short (scalar.Text bytes) bounds = bounds.1

pub short_view : (c : Content) → AllIn IsInBounds c → IsShortView (view_in c)
short_view (content.Scalar s) all = bounds_short s all
short_view (content.Set keys) all = λ k there. bounds_short k (all_at IsInBounds keys all k (Contains-from_any exact k keys (sym (set.contains-from_list scalar_cmp_total keys k) ∙ there)))
short_view (content.Map entries) all = λ k x at.
    let there = Contains-from_lookup exact k x entries (sym (finite_map.get-from_entries scalar_cmp_total entries k ∙ find-lookup scalar_cmp k entries) ∙ at) in
    let both = all_at (λ e. IsInBounds e.0 × IsInBounds e.1) entries all (k, x) there in
    (bounds_short k both.0, bounds_short x both.1)
short_view (content.Queue elements) all = from elements all
  where
    from : (xs : List Scalar) → AllByRecursion IsInBounds xs → AllByRecursion IsShort xs
    from [] all = tt
    from (x ∷ xs) all = (bounds_short x all.0, from xs all.1)
