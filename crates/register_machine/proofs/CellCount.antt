-- Between instants there are at most as many cells as stored variables.
use Rattle.std.proofs.Common.{◌≡◌, ℕ, ◌<◌, ◌≤◌, Bool, true, false, ◌||◌, ◌&&◌, T, List, [], ◌∷◌, Option, Some, None, is_some, cond, refl, sym, ap, subst, ◌∙◌, inl, inr, Contains, map, arith, length, nat_eq}
use Rattle.std.proofs.lemmas.List.{length-map}
use Rattle.std.specs.List.{list_any, IsDistinct, AllByRecursion}
use Rattle.std.specs.Ordering.{nat_cmp, eq_by_cmp, is_lt, is_eq}
use Rattle.std.specs.declared.cmp.Ordering.{Ordering}
use Rattle.std.specs.declared.cmp.Ordering.TheVariants.{Less, Equal, Greater}
use Rattle.std.specs.Cmp.{unsigned_tied}
use Rattle.std.proofs.Math.Bool.{true≢false}
use Rattle.std.proofs.lemmas.Bool.{eq-eqb, ne_eqb, eqb-true}
use Rattle.std.proofs.lemmas.Cmp.{nat_eq_equiv}
use Rattle.std.proofs.lemmas.Map.Steps.{length-le_from_keys}
use Rattle.std.proofs.lemmas.Map.Views.{IsSome-lookup_from_Contains}
use Rattle.std.specs.FinMap.Entries.{is_sorted, below_all}
use Rattle.std.specs.FinMap as finite_map
use Rattle.tsl_value.specs.View.{View}
use Rattle.flat_core.specs.System.{System}
use Rattle.flat_core.specs.Case.{Streams}
use Rattle.flat_core.specs.Events.{Inputs}
use Rattle.tsl_value.proofs.Lists.{later, none_in_nil, cons_cases, kept_in}
use Rattle.alias_rules.specs.Uses.{IsStored}
use Rattle.register_machine.specs.Run.{Plan, State, Instant, is_cell}
use Rattle.flat_core.specs.Kept.{keeps_of}
use Rattle.register_machine.specs.Machine.{Held, Bare, Cell, Cells}
use Rattle.register_machine.proofs.Setting.{aggregate}
use Rattle.register_machine.proofs.End.{get-kept}
use Rattle.register_machine.proofs.Safety.{Course, Standing, instant_on}
use Rattle.register_machine.specs.Stands.{is_aggregate_at, stored}
use Rattle.flat_core.proofs.Members.{some_in, Contains-in}

both_true : (a b : Bool) → T (a && b) → T a × T b
both_true true b h = (tt, h)
both_true false b h = absurd h

below_other : (r : Ordering) → T (is_lt r) → is_eq r ≡ true → ⊥
below_other Less h is = true≢false (sym is)
below_other Equal h is = h
below_other Greater h is = h

-- the keys of a map are distinct
below_not : (x : ℕ) (es : List (ℕ × View)) → T (below_all nat_cmp x es) → AllByRecursion (λ y. nat_eq x y ≡ false) (map (λ e. e.0) es)
below_not x [] h = tt
below_not x (e ∷ es) h =
    let parts = both_true (is_lt (nat_cmp x e.0)) (below_all nat_cmp x es) h in
    (ne_eqb x e.0 (λ same. below_other (nat_cmp x e.0) parts.0 (unsigned_tied x e.0 ∙ eq-eqb x e.0 same)), below_not x es parts.1)

sorted_distinct : (es : List (ℕ × View)) → T (is_sorted nat_cmp es) → IsDistinct nat_eq (map (λ e. e.0) es)
unfolding IsDistinct
sorted_distinct [] h = tt
sorted_distinct (e ∷ es) h =
    let parts = both_true (below_all nat_cmp e.0 es) (is_sorted nat_cmp es) h in
    (below_not e.0 es parts.0, sorted_distinct es parts.1)

tied_any : (q : ℕ) (ks : List ℕ) → list_any (eq_by_cmp nat_cmp q) ks ≡ list_any (nat_eq q) ks
tied_any q [] = refl
tied_any q (k ∷ ks) = λ j. unsigned_tied q k j || tied_any q ks j

abbrev handle_in : Option Held → ℕ
handle_in (Some (Cell h)) = h
handle_in _ = 0

is_cell_true : (h : ℕ) (k : Option Held) → is_cell h k ≡ true → k ≡ Some (Cell h)
is_cell_true h (Some (Cell g)) is = ap (λ n. Some (Cell n)) (eqb-true g h is)
is_cell_true h (Some (Bare b)) is = absurd (true≢false (sym is))
is_cell_true h None is = absurd (true≢false (sym is))

passes : (b : Bool) (v : Option View) → is_some (cond b v None) ≡ true → b ≡ true
passes true v is = refl
passes false v is = absurd (true≢false (sym is))

module _ (s : System) (lasts : ℕ → Option Held) (all_stored : (v h : ℕ) → lasts v ≡ Some (Cell h) → IsStored s v) where
  abbrev entry : ℕ → ℕ × ℕ
  entry v = (handle_in (lasts v), v)

  key_in : (xs : List ℕ) (v h : ℕ) → lasts v ≡ Some (Cell h) → Contains xs v → Contains (map (λ e. e.0) (map entry xs)) h
  key_in [] v h is found = absurd (none_in_nil v found)
  key_in (x ∷ xs) v h is found = elim (cons_cases x v xs found) [
    | inl same ↦ (0, omega arith, ap (λ n. handle_in (lasts n)) same ∙ ap handle_in is)
    | inr after ↦ later (handle_in (lasts x)) h (map (λ e. e.0) (map entry xs)) (key_in xs v h is after)
  ]

  abbrev is_held : ℕ → Bool
  is_held h = list_any (λ v. is_cell h (lasts v)) (keeps_of s)

  abbrev held_on : Cells → Cells
  held_on cells = finite_map.retain_keys cells is_held

  -- each handle that stays is in the last register of a stored variable
  found_key : (cells : Cells) (q : ℕ) → list_any (nat_eq q) (finite_map.keys (held_on cells)) ≡ true → Contains (map (λ e. e.0) (map entry (stored s))) q
  found_key cells q found =
      let there : is_some (finite_map.get (held_on cells) q) ≡ true = finite_map.contains_key-keys (held_on cells) q ∙ tied_any q (finite_map.keys (held_on cells)) ∙ found in
      let got = some_in (λ v. is_cell q (lasts v)) (keeps_of s) (passes (is_held q) (finite_map.get cells q) (sym (ap is_some (get-kept cells is_held q)) ∙ there)) in
      let is = is_cell_true q (lasts got.0) got.2 in
      let variable = (all_stored got.0 q is).taken.variable in
      key_in (stored s) got.0 q is (kept_in (aggregate s) (keeps_of s) got.0 (Contains-in (keeps_of s) got.0 got.1) (ap is_aggregate_at variable.is ∙ variable.aggregate))

  pub cells_bound : (cells : Cells) → finite_map.len (held_on cells) ≤ length (stored s)
  cells_bound cells =
      let bound = length-le_from_keys nat_eq_equiv (finite_map.keys (held_on cells)) (map entry (stored s)) (sorted_distinct (finite_map.entries (held_on cells)) (finite_map.entries_sorted (held_on cells)))
      (λ q found. IsSome-lookup_from_Contains nat_eq_equiv q (map entry (stored s)) (found_key cells q found)) in
      let same = finite_map.len-entries (held_on cells) in
      let keys_are = length-map (finite_map.entries (held_on cells)) (λ e. e.0) in
      let entries_are = length-map (stored s) entry in
      omega arith

-- after an instant of a run
pub instant_cells : (s : System) (plan : Plan) (inputs : Inputs) (z : Streams) (bound : ℕ) (course : Course s plan inputs z bound) (t : ℕ) (lt : t < bound) (a : State) → Standing s plan inputs z t a → (b : State) → Instant s plan inputs t a b → finite_map.len b.cells ≤ length (stored s)
instant_cells s plan inputs z bound course t lt a standing b instant =
    let next = instant_on s plan inputs z bound course t lt a standing b instant in
    subst (λ x. finite_map.len x.cells ≤ length (stored s)) (sym instant.is) (cells_bound s instant.last.lasts (λ v h is. next.between.stored v h (ap (λ x. x.lasts v) instant.is ∙ is)) instant.last.cells)
