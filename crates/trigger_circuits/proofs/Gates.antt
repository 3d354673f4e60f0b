-- Gates that are added, and when they are on.
use Rattle.std.proofs.Common.{◌≡◌, ℕ, ◌+◌, ◌*◌, ◌<◌, ◌↔◌, ◌⊎◌, Bool, true, false, List, [], ◌∷◌, ◌++◌, map, length, get_or, Contains, Option, Some, Ok, Err, Result, refl, sym, ap, subst, ◌∙◌, inl, inr, arith, length-append, append-nil, append_assoc}
use Rattle.std.specs.Prelude.{if◌then◌else◌, is_ok, slice_get, IfOk, IsTrue, IsFalse}
use Rattle.std.specs.List.{All, AllByRecursion}
use Rattle.std.proofs.lemmas.Bool.{cases_lt, true≢false}
use Rattle.std.proofs.lemmas.List.Elements.{All-from_recursion, recursion_from_All}
use Rattle.std.proofs.lemmas.Option.{slice_get-get_or, slice_get_within}
use mathlib.Core.Logic.Iff.{trans}
use Rattle.flat_core.proofs.Members.{all_at, all_from, all_map}
use Rattle.tsl_value.proofs.Lists.{cons_cases, get_left, get_seam, here, later, none_in_nil}
use Rattle.gate_circuits.specs.declared.circuit.Gate.{Gate}
use Rattle.gate_circuits.specs.declared.circuit.Gate.TheVariants as gate
use Rattle.gate_circuits.specs.Circuit.{AreInputsBelow, IsOn, IsOrdered, leaf, all, any}
use Rattle.trigger_starts.specs.declared.rules.Rule.{Rule}
use Rattle.trigger_starts.specs.declared.rules.Rule.TheVariants as rule
use Rattle.trigger_starts.specs.inner.Rules.{HasSome, starts_at}
use Rattle.trigger_circuits.specs.inner.Circuits.{AddsGate, AreThere, IsBegun, TrueOn, gate_at}

-- ---- gates by their places
get_less : (old more : List Gate) (k : ℕ) (it : Gate) → k < length old → slice_get (old ++ more) k ≡ Some it → slice_get old k ≡ Some it
get_less old more k it low is =
    let found = slice_get-get_or old k it low in
    found ∙ sym (get_left old more k (get_or old k it) found) ∙ is

-- a gate of a longer circuit is an old one or the new one
at_push : (old : List Gate) (new : Gate) (k : ℕ) (it : Gate) → slice_get (old ++ new ∷ []) k ≡ Some it → ((k < length old) × (slice_get old k ≡ Some it)) ⊎ ((k ≡ length old) × (new ≡ it))
at_push old new k it is = elim (cases_lt k (length old)) [
  | inl low ↦ inl (low, get_less old (new ∷ []) k it low is)
  | inr past ↦
      let within = slice_get_within (old ++ new ∷ []) k it is in
      let long = length-append old (new ∷ []) in
      let last : k ≡ length old = omega arith in
      inr (last, same_gate (sym (get_seam old new []) ∙ ap (slice_get (old ++ new ∷ [])) (sym last) ∙ is))
]
  where
    same_gate : ◌≡◌ {A = Option Gate} (Some new) (Some it) → new ≡ it
    same_gate same = cc

pub ordered_push : (old : List Gate) (new : Gate) → IsOrdered old → AreInputsBelow (length old) new → IsOrdered (old ++ new ∷ [])
ordered_push old new ordered below k it is = elim (at_push old new k it is) [
  | inl before ↦ ordered k it before.1
  | inr last ↦ subst (λ n. AreInputsBelow n it) (sym last.0) (subst (AreInputsBelow (length old)) last.1 below)
]

pub begun_push : (count : ℕ) (old : List Gate) (new : Gate) → IsBegun count old → AreInputsBelow (length old) new → IsBegun count (old ++ new ∷ [])
begun_push count old new begun below = record {
  ordered = ordered_push old new begun.ordered below;
  leaves = λ n low. get_left old (new ∷ []) n gate.Leaf (begun.leaves n low);
}

-- ---- old gates in a longer circuit
on_more : (old more : List Gate) (leaves : ℕ → Bool) (n : ℕ) → IsOn old leaves n → IsOn (old ++ more) leaves n
on_more old more leaves n (leaf is h) = leaf (get_left old more n gate.Leaf is) h
on_more old more leaves n (all {inputs = inputs} is each) = all (get_left old more n (gate.All inputs) is) (λ i c. on_more old more leaves i (each i c))
on_more old more leaves n (any {i = i} {inputs = inputs} is c on) = any (get_left old more n (gate.Any inputs) is) c (on_more old more leaves i on)

input_below : (n : ℕ) (inputs : List ℕ) (i : ℕ) → All (λ i. i < n) inputs → Contains inputs i → i < n
input_below n inputs i below c = all_at (λ i. i < n) inputs (recursion_from_All (λ i. i < n) inputs below) i c

on_less : (old more : List Gate) (leaves : ℕ → Bool) → IsOrdered old → (n : ℕ) → n < length old → IsOn (old ++ more) leaves n → IsOn old leaves n
on_less old more leaves ordered n low (leaf is h) = leaf (get_less old more n gate.Leaf low is) h
on_less old more leaves ordered n low (all {inputs = inputs} is each) =
    let at = get_less old more n (gate.All inputs) low is in
    all at (λ i c. on_less old more leaves ordered i (let before = input_below n inputs i (ordered n (gate.All inputs) at) c in omega arith) (each i c))
on_less old more leaves ordered n low (any {i = i} {inputs = inputs} is c on) =
    let at = get_less old more n (gate.Any inputs) low is in
    any at c (on_less old more leaves ordered i (let before = input_below n inputs i (ordered n (gate.Any inputs) at) c in omega arith) on)

pub on_kept : (old more : List Gate) (leaves : ℕ → Bool) → IsOrdered old → (n : ℕ) → n < length old → IsOn (old ++ more) leaves n ↔ IsOn old leaves n
on_kept old more leaves ordered n low = (on_less old more leaves ordered n low, on_more old more leaves n)

-- ---- when a gate is on
module _ (gates : List Gate) (leaves : ℕ → Bool) (n : ℕ) where
  on_leaf : slice_get gates n ≡ Some gate.Leaf → IsOn gates leaves n → IsTrue (leaves n)
  on_leaf is (leaf e h) = h
  on_leaf is (all e each) = absurd (let both = sym is ∙ e in cc)
  on_leaf is (any e c on) = absurd (let both = sym is ∙ e in cc)

  pub leaf_on : slice_get gates n ≡ Some gate.Leaf → IsOn gates leaves n ↔ IsTrue (leaves n)
  leaf_on is = (on_leaf is, λ h. leaf is h)

  module _ (inputs : List ℕ) where
    on_all : slice_get gates n ≡ Some (gate.All inputs) → IsOn gates leaves n → (i : ℕ) → Contains inputs i → IsOn gates leaves i
    on_all is (leaf e h) i c = absurd (let both = sym is ∙ e in cc)
    on_all is (all {inputs = others} e each) i c = each i (subst (λ l. Contains l i) (let both = sym is ∙ e in cc) c)
    on_all is (any e d on) i c = absurd (let both = sym is ∙ e in cc)

    on_any : slice_get gates n ≡ Some (gate.Any inputs) → IsOn gates leaves n → HasSome (IsOn gates leaves) inputs
    on_any is (leaf e h) = absurd (let both = sym is ∙ e in cc)
    on_any is (all e each) = absurd (let both = sym is ∙ e in cc)
    on_any is (any {i = i} {inputs = others} e d on) = (i, subst (λ l. Contains l i) (let both = sym e ∙ is in cc) d, on)

-- ---- the gate that is added
module _ (old : List Gate) (ordered : IsOrdered old) (inputs : List ℕ) (below : AllByRecursion (λ i. i < length old) inputs) (leaves : ℕ → Bool) where
  old_input : (new : Gate) (i : ℕ) → Contains inputs i → IsOn (old ++ new ∷ []) leaves i ↔ IsOn old leaves i
  old_input new i c = on_kept old (new ∷ []) leaves ordered i (all_at (λ i. i < length old) inputs below i c)

  pub all_on : IsOn (old ++ gate.All inputs ∷ []) leaves (length old) ↔ AllByRecursion (IsOn old leaves) inputs
  all_on = (
    λ on. all_from (IsOn old leaves) inputs (λ i c. (old_input (gate.All inputs) i c).0 (on_all (old ++ gate.All inputs ∷ []) leaves (length old) inputs (get_seam old (gate.All inputs) []) on i c)),
    λ each. all (get_seam old (gate.All inputs) []) (λ i c. (old_input (gate.All inputs) i c).1 (all_at (IsOn old leaves) inputs each i c)),
  )

  pub any_on : IsOn (old ++ gate.Any inputs ∷ []) leaves (length old) ↔ HasSome (IsOn old leaves) inputs
  any_on = (
    λ on. let some = on_any (old ++ gate.Any inputs ∷ []) leaves (length old) inputs (get_seam old (gate.Any inputs) []) on in (some.0, some.1, (old_input (gate.Any inputs) some.0 some.1).0 some.2),
    λ some. any (get_seam old (gate.Any inputs) []) some.1 ((old_input (gate.Any inputs) some.0 some.1).1 some.2),
  )

-- ---- the gates of some equations
module _ (f : ℕ → ℕ) (P : ℕ → Type 0) where
  from_all_map : (xs : List ℕ) → AllByRecursion P (map f xs) → AllByRecursion (λ x. P (f x)) xs
  from_all_map [] each = tt
  from_all_map (x ∷ xs) each = (each.0, from_all_map xs each.1)

  all_mapped : (xs : List ℕ) → AllByRecursion P (map f xs) ↔ AllByRecursion (λ x. P (f x)) xs
  all_mapped xs = (from_all_map xs, all_map f P xs)

  to_some_map : (xs : List ℕ) → HasSome (λ x. P (f x)) xs → HasSome P (map f xs)
  to_some_map [] some = absurd (none_in_nil some.0 some.1)
  to_some_map (x ∷ xs) some = elim (cons_cases x some.0 xs some.1) [
    | inl same ↦ (f x, here (f x) (map f xs), subst (λ y. P (f y)) (sym same) some.2)
    | inr rest ↦ let more = to_some_map xs (some.0, rest, some.2) in (more.0, later (f x) more.0 (map f xs) more.1, more.2)
  ]

  from_some_map : (xs : List ℕ) → HasSome P (map f xs) → HasSome (λ x. P (f x)) xs
  from_some_map [] some = absurd (none_in_nil some.0 some.1)
  from_some_map (x ∷ xs) some = elim (cons_cases (f x) some.0 (map f xs) some.1) [
    | inl same ↦ (x, here x xs, subst P (sym same) some.2)
    | inr rest ↦ let more = from_some_map xs (some.0, rest, some.2) in (more.0, later x more.0 xs more.1, more.2)
  ]

  some_mapped : (xs : List ℕ) → HasSome P (map f xs) ↔ HasSome (λ x. P (f x)) xs
  some_mapped xs = (from_some_map xs, to_some_map xs)

-- and one more
all_push : (P : ℕ → Type 0) (xs : List ℕ) (y : ℕ) → AllByRecursion P (xs ++ y ∷ []) ↔ (AllByRecursion P xs × P y)
all_push P [] y = (λ h. (tt, h.0), λ h. (h.1, tt))
all_push P (x ∷ xs) y =
    let rest = all_push P xs y in
    (λ h. let more = rest.0 h.1 in ((h.0, more.0), more.1), λ h. (h.0.0, rest.1 (h.0.1, h.1)))

-- ---- what a call adds
pub adds_alike : {count : ℕ} {old new : List Gate} {n : ℕ} {P Q : (ℕ → Bool) → Type 0} → ((leaves : ℕ → Bool) → P leaves ↔ Q leaves) → AddsGate count old new n P → AddsGate count old new n Q
adds_alike same adds = record { begun = adds.begun; more = adds.more; grows = adds.grows; below = adds.below; exact = λ leaves. trans (adds.exact leaves) (same leaves) }

-- a gate that is there
pub adds_none : (count : ℕ) (old : List Gate) (n : ℕ) (P : (ℕ → Bool) → Type 0) → IsBegun count old → n < length old → ((leaves : ℕ → Bool) → IsOn old leaves n ↔ P leaves) → AddsGate count old old n P
adds_none count old n P begun low exact = record { begun = begun; more = []; grows = sym (append-nil old); below = low; exact = exact }

-- the leaf of an equation
pub adds_leaf : (count : ℕ) (old : List Gate) (n : ℕ) → IsBegun count old → n < 2 * count → AddsGate count old old n (λ leaves. IsTrue (leaves n))
adds_leaf count old n begun low =
    let is = begun.leaves n low in
    adds_none count old n (λ leaves. IsTrue (leaves n)) begun (slice_get_within old n gate.Leaf is) (λ leaves. leaf_on old leaves n is)

adds_push : (count : ℕ) (old : List Gate) (it : Gate) (P : (ℕ → Bool) → Type 0) → IsBegun count old → AreInputsBelow (length old) it → ((leaves : ℕ → Bool) → IsOn (old ++ it ∷ []) leaves (length old) ↔ P leaves) → AddsGate count old (old ++ it ∷ []) (length old) P
adds_push count old it P begun below exact = record {
  begun = begun_push count old it begun below;
  more = it ∷ [];
  grows = refl;
  below = omega (arith, length-append old (it ∷ []));
  exact = exact;
}

-- the answer of a push
module _ {E : Type 0} (count : ℕ) (old new : List Gate) (inputs : List ℕ) (r : Result ℕ E) (begun : IsBegun count old) (number : IfOk r (λ n. n ≡ length old)) where
  told : (it : Gate) (P : (ℕ → Bool) → Type 0) → new ≡ (if is_ok r then old ++ it ∷ [] else old) → AddsGate count old (old ++ it ∷ []) (length old) P → IfOk r (λ n. AddsGate count old new n P)
  told it P pushed adds = go r pushed number
    where
      go : (r : Result ℕ E) → new ≡ (if is_ok r then old ++ it ∷ [] else old) → IfOk r (λ n. n ≡ length old) → IfOk r (λ n. AddsGate count old new n P)
      go (Ok n) is at = subst (λ l. AddsGate count old l n P) (sym is) (subst (λ m. AddsGate count old (old ++ it ∷ []) m P) (sym at) adds)
      go (Err e) is at = tt

  module _ (P : (ℕ → Bool) → Type 0) (below : AllByRecursion (λ i. i < length old) inputs) where
    pub all_told : new ≡ (if is_ok r then old ++ gate.All inputs ∷ [] else old) → ((leaves : ℕ → Bool) → AllByRecursion (IsOn old leaves) inputs ↔ P leaves) → IfOk r (λ n. AddsGate count old new n P)
    all_told pushed same =
        told (gate.All inputs) P pushed (adds_push count old (gate.All inputs) P begun (All-from_recursion (λ i. i < length old) inputs below) (λ leaves. trans (all_on old begun.ordered inputs below leaves) (same leaves)))

    pub any_told : new ≡ (if is_ok r then old ++ gate.Any inputs ∷ [] else old) → ((leaves : ℕ → Bool) → HasSome (IsOn old leaves) inputs ↔ P leaves) → IfOk r (λ n. AddsGate count old new n P)
    any_told pushed same =
        told (gate.Any inputs) P pushed (adds_push count old (gate.Any inputs) P begun (All-from_recursion (λ i. i < length old) inputs below) (λ leaves. trans (any_on old begun.ordered inputs below leaves) (same leaves)))

  -- gates without inputs
  module _ (none : inputs ≡ []) where
    none_below : AllByRecursion (λ i. i < length old) inputs
    none_below = subst (AllByRecursion (λ i. i < length old)) (sym none) tt

    pub never_told : new ≡ (if is_ok r then old ++ gate.Any inputs ∷ [] else old) → IfOk r (λ n. AddsGate count old new n (λ leaves. ⊥))
    never_told pushed =
        any_told (λ leaves. ⊥) none_below pushed (λ leaves. (λ some. none_in_nil some.0 (subst (λ l. Contains l some.0) none some.1), λ h. absurd h))

    pub always_told : new ≡ (if is_ok r then old ++ gate.All inputs ∷ [] else old) → IfOk r (λ n. AddsGate count old new n (λ leaves. Unit {0}))
    always_told pushed = all_told (λ leaves. Unit {0}) none_below pushed (λ leaves. (λ each. tt, λ h. subst (AllByRecursion (IsOn old leaves)) (sym none) tt))

-- ---- the inputs of a gate
module _ (old : List Gate) (gates args inputs : List ℕ) (there : AreThere gates old) (low : All (λ a. a < length gates) args) (is : inputs ≡ map (gate_at gates) args) where
  pub inputs_below : AllByRecursion (λ i. i < length old) inputs
  inputs_below =
      subst (AllByRecursion (λ i. i < length old)) (sym is) (all_map (gate_at gates) (λ i. i < length old) args (go args (recursion_from_All (λ a. a < length gates) args low)))
    where
      go : (xs : List ℕ) → AllByRecursion (λ a. a < length gates) xs → AllByRecursion (λ x. gate_at gates x < length old) xs
      go [] each = tt
      go (x ∷ xs) each = (there x each.0, go xs each.1)

  pub all_inputs : (leaves : ℕ → Bool) → AllByRecursion (IsOn old leaves) inputs ↔ AllByRecursion (λ a. IsOn old leaves (gate_at gates a)) args
  all_inputs leaves = subst (λ l. AllByRecursion (IsOn old leaves) l ↔ AllByRecursion (λ a. IsOn old leaves (gate_at gates a)) args) (sym is) (all_mapped (gate_at gates) (IsOn old leaves) args)

  pub some_inputs : (leaves : ℕ → Bool) → HasSome (IsOn old leaves) inputs ↔ HasSome (λ a. IsOn old leaves (gate_at gates a)) args
  some_inputs leaves = subst (λ l. HasSome (IsOn old leaves) l ↔ HasSome (λ a. IsOn old leaves (gate_at gates a)) args) (sym is) (some_mapped (gate_at gates) (IsOn old leaves) args)

-- and a leaf
module _ (count : ℕ) (old : List Gate) (begun : IsBegun count old) (inputs more : List ℕ) (place : ℕ) (low : place < 2 * count) (is : more ≡ inputs ++ place ∷ []) where
  leaf_is : slice_get old place ≡ Some gate.Leaf
  leaf_is = begun.leaves place low

  pub more_below : AllByRecursion (λ i. i < length old) inputs → AllByRecursion (λ i. i < length old) more
  more_below below = subst (AllByRecursion (λ i. i < length old)) (sym is) ((all_push (λ i. i < length old) inputs place).1 (below, slice_get_within old place gate.Leaf leaf_is))

  pub more_inputs : (leaves : ℕ → Bool) (P : Type 0) → AllByRecursion (IsOn old leaves) inputs ↔ P → AllByRecursion (IsOn old leaves) more ↔ (P × IsTrue (leaves place))
  more_inputs leaves P same =
      let push = all_push (IsOn old leaves) inputs place in
      let on = leaf_on old leaves place leaf_is in
      subst (λ l. AllByRecursion (IsOn old leaves) l ↔ (P × IsTrue (leaves place))) (sym is) (λ each. let h = push.0 each in (same.0 h.0, on.0 h.1), λ h. push.1 (same.1 h.0, on.1 h.1))

-- a leaf with a gate that was added before
module _ (count : ℕ) (old mid : List Gate) (number_before place : ℕ) (inputs : List ℕ) (P : (ℕ → Bool) → Type 0) (low : place < 2 * count) (adds : AddsGate count old mid number_before P) (is : inputs ≡ place ∷ number_before ∷ []) where
  leaf_at : slice_get mid place ≡ Some gate.Leaf
  leaf_at = adds.begun.leaves place low

  pub pair_below : AllByRecursion (λ i. i < length mid) inputs
  pair_below = subst (AllByRecursion (λ i. i < length mid)) (sym is) (slice_get_within mid place gate.Leaf leaf_at, (adds.below, tt))

  pair_on : (leaves : ℕ → Bool) → AllByRecursion (IsOn mid leaves) inputs ↔ (IsTrue (leaves place) × P leaves)
  pair_on leaves =
      let on = leaf_on mid leaves place leaf_at in
      let exact = adds.exact leaves in
      subst (λ l. AllByRecursion (IsOn mid leaves) l ↔ (IsTrue (leaves place) × P leaves)) (sym is) (λ h. (on.0 h.0, exact.0 h.1.0), λ h. (on.1 h.0, (exact.1 h.1, tt)))

  pub leaf_told : {E : Type 0} (new : List Gate) (r : Result ℕ E) → new ≡ (if is_ok r then mid ++ gate.All inputs ∷ [] else mid) → IfOk r (λ n. n ≡ length mid) → IfOk r (λ n. AddsGate count old new n (λ leaves. IsTrue (leaves place) × P leaves))
  leaf_told {E = E} new r pushed number = go r (all_told count mid new inputs r adds.begun number (λ leaves. IsTrue (leaves place) × P leaves) pair_below pushed pair_on)
    where
      go : (r : Result ℕ E) → IfOk r (λ n. AddsGate count mid new n (λ leaves. IsTrue (leaves place) × P leaves)) → IfOk r (λ n. AddsGate count old new n (λ leaves. IsTrue (leaves place) × P leaves))
      go (Ok n) last = record {
        begun = last.begun;
        more = adds.more ++ last.more;
        grows = last.grows ∙ ap (λ l. l ++ last.more) adds.grows ∙ append_assoc old adds.more last.more;
        below = last.below;
        exact = last.exact;
      }
      go (Err e) last = tt

-- ---- the leaf of an equation's event
pub own_leaf : (count : ℕ) (old : List Gate) (own n : ℕ) → IsBegun count old → own < count → n ≡ 2 * own → AddsGate count old old n (λ leaves. IsTrue (leaves (2 * own)))
own_leaf count old own n begun low is = subst (λ m. AddsGate count old old m (λ leaves. IsTrue (leaves (2 * own)))) (sym is) (adds_leaf count old (2 * own) begun (omega arith))

-- ---- a last value
module _ (count : ℕ) (old new : List Gate) (n : ℕ) (gates : List ℕ) (own trigger : ℕ) (started at_zero : Bool) where
  abbrev LastOn : (ℕ → Bool) → Type 0
  LastOn leaves = IsFalse at_zero × IsOn old leaves (gate_at gates trigger) × (IsTrue started ⊎ IsTrue (leaves (2 * own)))

  pub last_at_zero : at_zero ≡ true → AddsGate count old new n (λ leaves. ⊥) → AddsGate count old new n (λ leaves. LastOn leaves)
  last_at_zero now adds = adds_alike (λ leaves. (λ h. absurd h, λ h. true≢false (sym now ∙ h.0))) adds

  pub last_started : at_zero ≡ false → started ≡ true → IsBegun count old → gate_at gates trigger < length old → (m : ℕ) → m ≡ trigger → AddsGate count old old (gate_at gates m) (λ leaves. LastOn leaves)
  last_started after has begun low m is =
      subst (λ k. AddsGate count old old (gate_at gates k) (λ leaves. LastOn leaves)) (sym is)
      (adds_none count old (gate_at gates trigger) (λ leaves. LastOn leaves) begun low (λ leaves. (λ h. (after, h, inl has), λ h. h.1)))

  pub last_leaf : at_zero ≡ false → started ≡ false → (place : ℕ) → place ≡ 2 * own → AddsGate count old new n (λ leaves. AllByRecursion (λ a. IsOn old leaves (gate_at gates a)) (trigger ∷ []) × IsTrue (leaves place)) → AddsGate count old new n (λ leaves. LastOn leaves)
  last_leaf after not place is adds = adds_alike (λ leaves. (to leaves, from leaves)) adds
    where
      to : (leaves : ℕ → Bool) → (AllByRecursion (λ a. IsOn old leaves (gate_at gates a)) (trigger ∷ []) × IsTrue (leaves place)) → LastOn leaves
      to leaves h = (after, h.0.0, inr (subst (λ m. IsTrue (leaves m)) is h.1))

      from : (leaves : ℕ → Bool) → LastOn leaves → AllByRecursion (λ a. IsOn old leaves (gate_at gates a)) (trigger ∷ []) × IsTrue (leaves place)
      from leaves h = (
        (h.1, tt),
        elim h.2 [
          | inl s ↦ absurd (true≢false (sym s ∙ not))
          | inr t ↦ subst (λ m. IsTrue (leaves m)) (sym is) t
        ],
      )

-- ---- the gate of a rule
module _ (count : ℕ) (old new : List Gate) (n : ℕ) (at_zero : Bool) (it : Rule) (own : ℕ) (starts : List Bool) (gates : List ℕ) where
  abbrev Added : Type 0
  Added = AddsGate count old new n (λ leaves. TrueOn at_zero it own starts old gates leaves)

  known : (at : Rule) → it ≡ at → AddsGate count old new n (λ leaves. TrueOn at_zero at own starts old gates leaves) → Added
  known at is adds = subst (λ r. AddsGate count old new n (λ leaves. TrueOn at_zero r own starts old gates leaves)) (sym is) adds

  pub added_never : it ≡ rule.Never → AddsGate count old new n (λ leaves. ⊥) → Added
  added_never is adds = known rule.Never is adds

  pub added_start : it ≡ rule.Start → at_zero ≡ true → AddsGate count old new n (λ leaves. Unit {0}) → Added
  added_start is now adds = known rule.Start is (adds_alike (λ leaves. (λ h. now, λ h. tt)) adds)

  pub added_no_start : it ≡ rule.Start → at_zero ≡ false → AddsGate count old new n (λ leaves. ⊥) → Added
  added_no_start is after adds = known rule.Start is (adds_alike (λ leaves. (λ h. absurd h, λ h. true≢false (sym h ∙ after))) adds)

  pub added_own : it ≡ rule.Own → AddsGate count old new n (λ leaves. IsTrue (leaves (2 * own))) → Added
  added_own is adds = known rule.Own is adds

  pub added_all : (args ids : List ℕ) → it ≡ rule.All args → ids ≡ args → AddsGate count old new n (λ leaves. AllByRecursion (λ a. IsOn old leaves (gate_at gates a)) ids) → Added
  added_all args ids is same adds = known (rule.All args) is (subst (λ l. AddsGate count old new n (λ leaves. AllByRecursion (λ a. IsOn old leaves (gate_at gates a)) l)) same adds)

  pub added_any : (args ids : List ℕ) → it ≡ rule.Any args → ids ≡ args → AddsGate count old new n (λ leaves. HasSome (λ a. IsOn old leaves (gate_at gates a)) ids) → Added
  added_any args ids is same adds = known (rule.Any args) is (subst (λ l. AddsGate count old new n (λ leaves. HasSome (λ a. IsOn old leaves (gate_at gates a)) l)) same adds)

  pub added_any_own : (args ids : List ℕ) (place : ℕ) → it ≡ rule.AnyAndOwn args → ids ≡ args → place ≡ 2 * own → AddsGate count old new n (λ leaves. IsTrue (leaves place) × HasSome (λ a. IsOn old leaves (gate_at gates a)) ids) → Added
  added_any_own args ids place is same at adds =
      known (rule.AnyAndOwn args) is
      (subst (λ m. AddsGate count old new n (λ leaves. IsTrue (leaves m) × HasSome (λ a. IsOn old leaves (gate_at gates a)) args)) at (subst (λ l. AddsGate count old new n (λ leaves. IsTrue (leaves place) × HasSome (λ a. IsOn old leaves (gate_at gates a)) l)) same adds))

  pub added_filter : (e c place : ℕ) (ids : List ℕ) → it ≡ rule.Filter e c → ids ≡ e ∷ c ∷ [] → place ≡ 2 * c + 1 → AddsGate count old new n (λ leaves. AllByRecursion (λ a. IsOn old leaves (gate_at gates a)) ids × IsTrue (leaves place)) → Added
  added_filter e c place ids is same at adds =
      known (rule.Filter e c) is
      (adds_alike (λ leaves. (λ h. (h.0.0, h.0.1.0, h.1), λ h. ((h.0, (h.1, tt)), h.2)))
      (subst (λ m. AddsGate count old new n (λ leaves. AllByRecursion (λ a. IsOn old leaves (gate_at gates a)) (e ∷ c ∷ []) × IsTrue (leaves m))) at
      (subst (λ l. AddsGate count old new n (λ leaves. AllByRecursion (λ a. IsOn old leaves (gate_at gates a)) l × IsTrue (leaves place))) same adds)))

  pub added_last : (v r : ℕ) (started : Bool) → it ≡ rule.Last v r → started ≡ starts_at starts v → AddsGate count old new n (λ leaves. IsFalse at_zero × IsOn old leaves (gate_at gates r) × (IsTrue started ⊎ IsTrue (leaves (2 * own)))) → Added
  added_last v r started is same adds =
      known (rule.Last v r) is (subst (λ b. AddsGate count old new n (λ leaves. IsFalse at_zero × IsOn old leaves (gate_at gates r) × (IsTrue b ⊎ IsTrue (leaves (2 * own))))) same adds)

  pub added_delay_at_zero : it ≡ rule.Delay → at_zero ≡ true → AddsGate count old new n (λ leaves. ⊥) → Added
  added_delay_at_zero is now adds = known rule.Delay is (adds_alike (λ leaves. (λ h. absurd h, λ h. true≢false (sym now ∙ h.0))) adds)

  pub added_delay : it ≡ rule.Delay → at_zero ≡ false → AddsGate count old new n (λ leaves. IsTrue (leaves (2 * own))) → Added
  added_delay is after adds = known rule.Delay is (adds_alike (λ leaves. (λ h. (after, h), λ h. h.1)) adds)
