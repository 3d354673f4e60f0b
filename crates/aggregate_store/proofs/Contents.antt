-- Values as lists, and back.
use Rattle.std.proofs.Common.{◌≡◌, Bool, true, false, cond, List, [], ◌∷◌, Option, Some, None, refl, sym, ap, ◌∙◌}
use Rattle.std.specs.Prelude.{T, ◌&&◌, is_some}
use Rattle.std.specs.FinSet as set
use Rattle.std.specs.FinMap as finite_map
use Rattle.std.specs.List.{AllByRecursion, list_any}
use Rattle.std.specs.List.Sorted.{IsStrictlySortedBy}
use Rattle.std.specs.Map.{keys_of}
use Rattle.std.specs.Ordering.{eq_by_cmp, is_lt}
use Rattle.std.specs.declared.cmp.Ordering.{Ordering}
use Rattle.std.specs.declared.cmp.Ordering.TheVariants.{Less, Equal, Greater}
use Rattle.aggregate_store.specs.declared.content.Content.{Content}
use Rattle.aggregate_store.specs.declared.content.Content.TheVariants as content
use Rattle.aggregate_store.specs.Content.{AreInOrder, ContentsAreViews, content_of, view_in}
use Rattle.tsl_value.specs.Print.{in_order}
use Rattle.tsl_value.specs.View.{View, Plain, Keyed, Mapped, Listed, Keys, Table, scalar_cmp}
use Rattle.tsl_value.specs.inner.ScalarOrder.{scalar_cmp_total}
use Rattle.aggregate_store.proofs.FiniteMaps.{entries-of_entries, find-marks, keys-of_keys, marks}
use Rattle.tsl_value.proofs.ScalarOrder.{scalar_cmp-IsAntisymmetric}

is_less : (o : Ordering) → T (is_lt o) → o ≡ Less
is_less Less h = refl
is_less Equal h = absurd h
is_less Greater h = absurd h

left_of : (a b : Bool) → T (a && b) → T a
left_of true b h = tt
left_of false b h = absurd h

right_of : (a b : Bool) → T (a && b) → T b
right_of true b h = h
right_of false b h = absurd h

-- ---- the keys of sorted entries rise

module _ {K X : Type 0} (R : K → K → Ordering) where
  abbrev below_all : K → List (K × X) → Bool
  below_all x [] = true
  below_all x (e ∷ es) = is_lt (R x e.0) && below_all x es

  above : (x : K) (es : List (K × X)) → T (below_all x es) → AllByRecursion (λ y. R x y ≡ Less) (keys_of es)
  above x [] h = tt
  above x (e ∷ es) h =
      (is_less (R x e.0) (left_of (is_lt (R x e.0)) (below_all x es) h), above x es (right_of (is_lt (R x e.0)) (below_all x es) h))

  pub rising-of_sorted : (es : List (K × X)) → T (finite_map.is_sorted R es) → IsStrictlySortedBy R (keys_of es)
  unfolding IsStrictlySortedBy
  rising-of_sorted [] h = tt
  rising-of_sorted (e ∷ es) h =
      let first : T (below_all e.0 es) = left_of (below_all e.0 es) (finite_map.is_sorted R es) h in
      (above e.0 es first, rising-of_sorted es (right_of (below_all e.0 es) (finite_map.is_sorted R es) h))

-- ---- there and back

ordered : (v : View) → AreInOrder (content_of v)
ordered (Plain s) = tt
ordered (Keyed s) = rising-of_sorted scalar_cmp _ (finite_map.entries_sorted (finite_map.from_entries {R = scalar_cmp} (marks (set.items s))))
ordered (Mapped m) = rising-of_sorted scalar_cmp _ (finite_map.entries_sorted m)
ordered (Listed elements) = tt

abbrev mark_if : Bool → Option (Unit {0})
mark_if b = cond b (Some tt) None

is_marked : (b : Bool) → is_some (mark_if b) ≡ b
is_marked true = refl
is_marked false = refl

set_back : (s : Keys) → set.from_list {R = scalar_cmp} (in_order s) ≡ s
set_back s = set.same_set scalar_cmp_total scalar_cmp-IsAntisymmetric _ _ (λ q.
    let items = set.items s in
    let m = finite_map.from_entries {R = scalar_cmp} (marks items) in
    set.contains-from_list scalar_cmp_total (in_order s) q
    ∙ sym (finite_map.contains_key-keys m q)
    ∙ ap is_some (finite_map.get-from_entries scalar_cmp_total (marks items) q ∙ find-marks scalar_cmp q items)
    ∙ is_marked (list_any (eq_by_cmp scalar_cmp q) items)
    ∙ sym (set.contains-items s q))

map_back : (m : Table) → finite_map.from_entries {R = scalar_cmp} (finite_map.entries m) ≡ m
map_back m = finite_map.same_map scalar_cmp_total scalar_cmp-IsAntisymmetric _ _ (λ q.
    finite_map.get-from_entries scalar_cmp_total (finite_map.entries m) q ∙ sym (finite_map.get-entries m q))

back : (v : View) → view_in (content_of v) ≡ v
back (Plain s) = refl
back (Keyed s) = ap Keyed (set_back s)
back (Mapped m) = ap Mapped (map_back m)
back (Listed elements) = refl

same : (c : Content) → AreInOrder c → content_of (view_in c) ≡ c
same (content.Scalar s) rising = refl
same (content.Set keys) rising = ap content.Set (keys-of_keys scalar_cmp_total scalar_cmp-IsAntisymmetric keys rising)
same (content.Map entries) rising = ap content.Map (entries-of_entries scalar_cmp_total entries rising)
same (content.Queue elements) rising = refl

pub contents : ContentsAreViews
contents = record { ordered = ordered; back = back; same = same }
