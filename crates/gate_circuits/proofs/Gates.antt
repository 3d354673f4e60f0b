-- Which gates are on.
use Rattle.std.proofs.Common.{◌≡◌, ℕ, zero, suc, ◌+◌, ◌<◌, ◌≤◌, ◌⊎◌, Bool, true, false, List, [], ◌∷◌, length, Contains, Some, refl, sym, subst, ◌∙◌, inl, inr, arith}
use Rattle.std.specs.Prelude.{◌↔◌, IsTrue, IsFalse, slice_get}
use Rattle.std.specs.List.{list_all, list_any}
use Rattle.std.proofs.lemmas.Bool.{cases_lt, cases_eq, both_ways, false_from_ne_true, and_parts, and_from, or_cases, or_left, or_right, false≢true}
use Rattle.std.proofs.lemmas.Option.{same_Some, slice_get_within}
use Rattle.std.proofs.lemmas.List.Elements.{All-contains}
use Rattle.tsl_value.proofs.Lists.{here, later, none_in_nil, cons_cases}
use Rattle.gate_circuits.specs.declared.circuit.Gate.{Gate}
use Rattle.gate_circuits.specs.declared.circuit.Gate.TheVariants as gate
use Rattle.gate_circuits.specs.Circuit.{AreInputsBelow, IsOrdered, IsOn, leaf, all, any}
use Rattle.gate_circuits.specs.inner.Marks.{has}
use Rattle.gate_circuits.specs.inner.Knowledge.{value, AreAllOn, IsModel}
use Rattle.gate_circuits.specs.inner.Search.{AreHeld}

-- ---- inputs
module _ (f : ℕ → Bool) where
  pub each_in : (inputs : List ℕ) → list_all f inputs ≡ true → (i : ℕ) → Contains inputs i → f i ≡ true
  each_in [] is i c = absurd (none_in_nil i c)
  each_in (a ∷ inputs) is i c =
      let parts = and_parts (f a) (list_all f inputs) is in
      elim (cons_cases a i inputs c) [
        | inl same ↦ subst (λ n. f n ≡ true) same parts.0
        | inr rest ↦ each_in inputs parts.1 i rest
      ]

  pub from_each : (inputs : List ℕ) → ((i : ℕ) → Contains inputs i → f i ≡ true) → list_all f inputs ≡ true
  from_each [] each = refl
  from_each (a ∷ inputs) each = and_from (f a) (list_all f inputs) (each a (here a inputs)) (from_each inputs (λ i c. each i (later a i inputs c)))

  pub some_in : (inputs : List ℕ) → list_any f inputs ≡ true → (i : ℕ) × Contains inputs i × (f i ≡ true)
  some_in [] is = absurd (false≢true is)
  some_in (a ∷ inputs) is = elim (or_cases (f a) (list_any f inputs) is) [
    | inl yea ↦ (a, here a inputs, yea)
    | inr more ↦ let rest = some_in inputs more in (rest.0, later a rest.0 inputs rest.1, rest.2)
  ]

  pub from_some : (inputs : List ℕ) (i : ℕ) → Contains inputs i → f i ≡ true → list_any f inputs ≡ true
  from_some [] i c is = absurd (none_in_nil i c)
  from_some (a ∷ inputs) i c is = elim (cons_cases a i inputs c) [
    | inl same ↦ or_left (f a) (list_any f inputs) (subst (λ n. f n ≡ true) (sym same) is)
    | inr rest ↦ or_right (f a) (list_any f inputs) (from_some inputs i rest is)
  ]

-- ---- a gate by what it is
module _ (gates : List Gate) (leaves : ℕ → Bool) where
  abbrev pub OnBy : Gate → ℕ → Type 0
  OnBy gate.Leaf x = IsTrue (leaves x)
  OnBy (gate.All inputs) x = (i : ℕ) → Contains inputs i → IsOn gates leaves i
  OnBy (gate.Any inputs) x = (i : ℕ) × Contains inputs i × IsOn gates leaves i

  by_leaf : (x : ℕ) (it : Gate) → slice_get gates x ≡ Some gate.Leaf → slice_get gates x ≡ Some it → IsTrue (leaves x) → OnBy it x
  by_leaf x it e is h = subst (λ (g : Gate). OnBy g x) (same_Some gate.Leaf it (sym e ∙ is)) h

  by_all : (x : ℕ) (it : Gate) (inputs : List ℕ) → slice_get gates x ≡ Some (gate.All inputs) → slice_get gates x ≡ Some it → ((i : ℕ) → Contains inputs i → IsOn gates leaves i) → OnBy it x
  by_all x it inputs e is f = subst (λ (g : Gate). OnBy g x) (same_Some (gate.All inputs) it (sym e ∙ is)) f

  by_any : (x i : ℕ) (it : Gate) (inputs : List ℕ) → slice_get gates x ≡ Some (gate.Any inputs) → slice_get gates x ≡ Some it → Contains inputs i → IsOn gates leaves i → OnBy it x
  by_any x i it inputs e is c o = subst (λ (g : Gate). OnBy g x) (same_Some (gate.Any inputs) it (sym e ∙ is)) (i, c, o)

  pub on_by : (x : ℕ) (it : Gate) → slice_get gates x ≡ Some it → IsOn gates leaves x → OnBy it x
  on_by x it is (leaf e h) = by_leaf x it e is h
  on_by x it is (all e f) = by_all x it _ e is f
  on_by x it is (any e c o) = by_any x _ it _ e is c o

  pub by_on : (x : ℕ) (it : Gate) → slice_get gates x ≡ Some it → OnBy it x → IsOn gates leaves x
  by_on x gate.Leaf is h = leaf is h
  by_on x (gate.All inputs) is h = all is h
  by_on x (gate.Any inputs) is h = any is h.1 h.2

  pub on_within : (x : ℕ) → IsOn gates leaves x → x < length gates
  on_within x (leaf e h) = slice_get_within gates x gate.Leaf e
  on_within x (all e f) = slice_get_within gates x _ e
  on_within x (any e c o) = slice_get_within gates x _ e

  -- one that is on by others that are
  pub closed : (set : ℕ → Bool) (x : ℕ) (it : Gate) → slice_get gates x ≡ Some it → IsTrue (value it false set) → ((y : ℕ) → IsTrue (set y) → IsOn gates leaves y) → IsOn gates leaves x
  closed set x gate.Leaf is h on = absurd (false≢true h)
  closed set x (gate.All inputs) is h on = all is (λ i c. on i (each_in set inputs h i c))
  closed set x (gate.Any inputs) is h on = let some = some_in set inputs h in any is some.1 (on some.0 some.2)

  -- its value by the gates before it
  module _ (set : ℕ → Bool) (x : ℕ) (same : (y : ℕ) → y < x → IsTrue (set y) ↔ IsOn gates leaves y) where
    to_by : (it : Gate) → AreInputsBelow x it → IsTrue (value it (leaves x) set) → OnBy it x
    to_by gate.Leaf low h = h
    to_by (gate.All inputs) low h = λ i c. (same i (All-contains (λ n. n < x) inputs i low c)).0 (each_in set inputs h i c)
    to_by (gate.Any inputs) low h =
        let some = some_in set inputs h in
        (some.0, some.1, (same some.0 (All-contains (λ n. n < x) inputs some.0 low some.1)).0 some.2)

    from_by : (it : Gate) → AreInputsBelow x it → OnBy it x → IsTrue (value it (leaves x) set)
    from_by gate.Leaf low h = h
    from_by (gate.All inputs) low h = from_each set inputs (λ i c. (same i (All-contains (λ n. n < x) inputs i low c)).1 (h i c))
    from_by (gate.Any inputs) low h = from_some set inputs h.0 h.1 ((same h.0 (All-contains (λ n. n < x) inputs h.0 low h.1)).1 h.2)

    pub value_is : IsOrdered gates → (it : Gate) → slice_get gates x ≡ Some it → IsTrue (value it (leaves x) set) ↔ IsOn gates leaves x
    value_is ordered it is = (λ h. by_on x it is (to_by it (ordered x it is) h), λ o. from_by it (ordered x it is) (on_by x it is o))

-- ---- more leaves
pub more_on : (gates : List Gate) (leaves more : ℕ → Bool) → ((x : ℕ) → slice_get gates x ≡ Some gate.Leaf → IsTrue (leaves x) → IsTrue (more x)) → (x : ℕ) → IsOn gates leaves x → IsOn gates more x
more_on gates leaves more up x (leaf e h) = leaf e (up x e h)
more_on gates leaves more up x (all e f) = all e (λ i c. more_on gates leaves more up i (f i c))
more_on gates leaves more up x (any e c o) = any e c (more_on gates leaves more up _ o)

-- ---- gates that are held by those before them
module _ (gates : List Gate) (set : List ℕ) (held : AreHeld gates set 0) (leaves : ℕ → Bool) (leafy : (x : ℕ) → IsTrue (has set x) → slice_get gates x ≡ Some gate.Leaf → IsTrue (leaves x)) where
  held_below : (n x : ℕ) → x < n → IsTrue (has set x) → IsOn gates leaves x
  held_below zero x low h = absurd (omega arith)
  held_below (suc n) x low h =
      let any_place : 0 ≤ x = omega arith in
      held x any_place h leaves (λ y below s. held_below n y (omega arith) s) (λ e. leafy x h e)

  pub all_held : AreAllOn gates leaves set
  all_held x h = held_below (x + 1) x (omega arith) h

-- where the leaves of a set are on, all its held gates are
pub wanted_on : (gates : List Gate) (set : List ℕ) → AreHeld gates set 0 → AreAllOn gates (has set) set
wanted_on gates set held = all_held gates set held (has set) (λ x h e. h)

-- and whatever is on then is on wherever all of the set are
pub least_on : (gates : List Gate) (set : List ℕ) (leaves : ℕ → Bool) → AreAllOn gates leaves set → (x : ℕ) → IsOn gates (has set) x → IsOn gates leaves x
least_on gates set leaves on x is = more_on gates (has set) leaves (λ y e h. on_by gates leaves y gate.Leaf e (on y h)) x is

-- ---- models
-- what is off where all leaves are on is never on
pub never_on : (gates : List Gate) (full possible : List ℕ) → ((x : ℕ) → x < length gates → IsTrue (has full x)) → IsModel gates (has full) possible → (x : ℕ) → IsFalse (has possible x) → (leaves : ℕ → Bool) → IsOn gates leaves x → ⊥
never_on gates full possible each model x off leaves is =
    both_ways (has possible x) off ((model x).1 (more_on gates leaves (has full) (λ y e h. each y (slice_get_within gates y gate.Leaf e)) x is))

-- one more gate of a model
module _ (gates : List Gate) (ordered : IsOrdered gates) (leaves : ℕ → Bool) (on new : List ℕ) (n : ℕ) (it : Gate) (is : slice_get gates n ≡ Some it) (b : Bool) (by : b ≡ value it (leaves n) (has on)) (below : (x : ℕ) → x < n → IsTrue (has on x) ↔ IsOn gates leaves x) (above : (x : ℕ) → n ≤ x → IsFalse (has on x)) (from : (x : ℕ) → IsTrue (has new x) → IsTrue (has on x) ⊎ (IsTrue b × (x ≡ n))) where
  pub model_more : (IsTrue b → IsTrue (has new n)) → ((x : ℕ) → IsTrue (has on x) → IsTrue (has new x)) → (x : ℕ) → x < n + 1 → IsTrue (has new x) ↔ IsOn gates leaves x
  model_more here kept x low = elim (cases_eq x n) [
    | inl same ↦ subst (λ m. IsTrue (has new m) ↔ IsOn gates leaves m) (sym same) at
    | inr ne ↦ elsewhere x (omega arith)
  ]
    where
      by_value : IsTrue (value it (leaves n) (has on)) ↔ IsOn gates leaves n
      by_value = value_is gates leaves (has on) n below ordered it is

      at : IsTrue (has new n) ↔ IsOn gates leaves n
      at = (
        λ h. elim (from n h) [
          | inl was ↦ absurd (both_ways (has on n) (above n (omega arith)) was)
          | inr (yea, same) ↦ by_value.0 (sym by ∙ yea)
        ],
        λ o. here (by ∙ by_value.1 o),
      )

      elsewhere : (x : ℕ) → x < n → IsTrue (has new x) ↔ IsOn gates leaves x
      elsewhere x low = (
        λ h. elim (from x h) [
          | inl was ↦ (below x low).0 was
          | inr (yea, same) ↦ absurd (omega arith)
        ],
        λ o. kept x ((below x low).1 o),
      )

  pub model_past : (x : ℕ) → n + 1 ≤ x → IsFalse (has new x)
  model_past x past = false_from_ne_true (has new x) (λ h. elim (from x h) [
    | inl was ↦ both_ways (has on x) (above x (omega arith)) was
    | inr (yea, same) ↦ absurd (omega arith)
  ])

-- the whole model
pub model_all : (gates : List Gate) (leaves : ℕ → Bool) (on : List ℕ) (n : ℕ) → length gates ≤ n → ((x : ℕ) → x < n → IsTrue (has on x) ↔ IsOn gates leaves x) → ((x : ℕ) → n ≤ x → IsFalse (has on x)) → IsModel gates leaves on
model_all gates leaves on n every below above x = elim (cases_lt x n) [
  | inl low ↦ below x low
  | inr high ↦ (λ h. absurd (both_ways (has on x) (above x high) h), λ o. absurd (let low = on_within gates leaves x o in omega arith))
]
