-- The circuit of all formulas.
use Rattle.std.proofs.Common.{◌≡◌, ℕ, zero, suc, ◌+◌, ◌*◌, ◌<◌, ◌↔◌, Bool, true, false, List, [], ◌∷◌, ◌++◌, length, take, get_or, set, replicate, Contains, Some, refl, sym, ap, subst, ◌∙◌, inl, inr, arith, length-append, length-set}
use Rattle.std.specs.Prelude.{slice_get}
use Rattle.std.proofs.lemmas.Bool.{cases_eq, cases_lt}
use Rattle.std.proofs.lemmas.List.{get_or-replicate, get_or-set_same, get_or-set_other, take_more}
use Rattle.std.proofs.lemmas.List.Elements.{Contains-push_cases}
use Rattle.std.proofs.lemmas.Option.{slice_get_within}
use mathlib.Core.Logic.Iff.{trans}
use Rattle.flat_core.proofs.Uniqueness.{all_by}
use Rattle.flat_core.specs.System.{System}
use Rattle.tsl_value.proofs.Lists.{cons_cases, get_left, get_seam, here, later, none_in_nil}
use Rattle.gate_circuits.specs.declared.circuit.Gate.{Gate}
use Rattle.gate_circuits.specs.declared.circuit.Gate.TheVariants as gate
use Rattle.gate_circuits.specs.Circuit.{Implies, IsOn, IsOrdered}
use Rattle.trigger_rules.specs.declared.atom.Atom.{Atom}
use Rattle.trigger_rules.specs.declared.atom.Atom.TheVariants.{Start, Happens, Holds}
use Rattle.trigger_rules.specs.Formula.{Assignment}
use Rattle.trigger_rules.specs.Question.{Fires}
use Rattle.trigger_starts.specs.declared.rules.Rule.{Rule}
use Rattle.trigger_starts.specs.inner.Kept.{AreRulesOf, AreStarts}
use Rattle.trigger_starts.specs.inner.Rules.{AreReady, IsReady, used_by}
use Rattle.trigger_starts.specs.inner.Truth.{IsMet}
use Rattle.trigger_starts.proofs.Meaning.{met_by, ready_at, step_below}
use Rattle.trigger_starts.proofs.Systems.{fires_is}
use Rattle.trigger_circuits.specs.inner.Circuits.{AddsGate, AreOnWhereMet, AreThere, IsBegun, IsCircuitOf, TrueOn, assignment_by, atom_of, following, gate_at}
use Rattle.trigger_circuits.proofs.Gates.{begun_push, on_kept}

-- ---- two leaves for each equation
abbrev AreLeaves : ℕ → List Gate → Type 0
AreLeaves count circuit = (n : ℕ) → n < 2 * count → slice_get circuit n ≡ Some gate.Leaf

pub two_more : (k : ℕ) (old mid new : List Gate) → length old ≡ 2 * k → IsBegun k old → mid ≡ old ++ gate.Leaf ∷ [] → new ≡ mid ++ gate.Leaf ∷ [] → IsBegun (k + 1) new × (length new ≡ 2 * (k + 1))
two_more k old mid new many begun one two = (
  record { ordered = ordered; leaves = leaves },
  long,
)
  where
    mid_long : length mid ≡ 2 * k + 1
    mid_long = ap length one ∙ length-append old (gate.Leaf ∷ []) ∙ ap (λ n. n + 1) many

    long : length new ≡ 2 * (k + 1)
    long = ap length two ∙ length-append mid (gate.Leaf ∷ []) ∙ (omega (arith, mid_long))

    mid_begun : IsBegun k mid
    mid_begun = subst (IsBegun k) (sym one) (begun_push k old gate.Leaf begun tt)

    ordered : IsOrdered new
    ordered = (subst (IsBegun k) (sym two) (begun_push k mid gate.Leaf mid_begun tt)).ordered

    mid_last : slice_get mid (2 * k) ≡ Some gate.Leaf
    mid_last = (λ i. slice_get (one i) (sym many i)) ∙ get_seam old gate.Leaf []

    last : (n : ℕ) → n ≡ length mid → slice_get new n ≡ Some gate.Leaf
    last n is = (λ i. slice_get (two i) (is i)) ∙ get_seam mid gate.Leaf []

    from_mid : (n : ℕ) → slice_get mid n ≡ Some gate.Leaf → slice_get new n ≡ Some gate.Leaf
    from_mid n is = ap (λ l. slice_get l n) two ∙ get_left mid (gate.Leaf ∷ []) n gate.Leaf is

    leaves : AreLeaves (k + 1) new
    leaves n low = elim (cases_lt n (2 * k)) [
      | inl front ↦ from_mid n (mid_begun.leaves n front)
      | inr past ↦ elim (cases_lt (2 * k) n) [
        | inl more ↦ last n (omega (arith, mid_long))
        | inr it ↦ let same : n ≡ 2 * k = omega arith in from_mid n (ap (slice_get mid) same ∙ mid_last)
      ]
    ]

pub none_begun : (circuit : List Gate) → circuit ≡ [] → IsBegun 0 circuit
none_begun circuit is = subst (IsBegun 0) (sym is) (record { ordered = λ x it found. absurd (let low = slice_get_within none x it found in omega arith); leaves = λ n low. absurd (omega arith) })
  where
    none : List Gate
    none = []

-- ---- the gates at first, and one more
pub there_first : (count : ℕ) (circuit : List Gate) (gates : List ℕ) → gates ≡ replicate count 0 → length circuit ≡ 2 * count → length gates ≡ count → AreThere gates circuit
there_first count circuit gates is many each x low =
    let within : x < count = omega (arith, each) in
    let at : gate_at gates x ≡ 0 = ap (λ l. get_or l x 0) is ∙ get_or-replicate count x 0 0 within in
    omega (arith, many)

module _ (at_zero : Bool) (rules : List Rule) (starts : List Bool) (order : List ℕ) (ready : AreReady rules [] order) (k : ℕ) (lt : k < length order) (old new : List Gate) (gates : List ℕ) (n : ℕ) (it : Rule) (is : slice_get rules (get_or order k 0) ≡ Some it) (each : length gates ≡ length rules) (count : ℕ) (begun : IsBegun count old) (there : AreThere gates old) (adds : AddsGate count old new n (λ leaves. TrueOn at_zero it (get_or order k 0) starts old gates leaves)) where
  abbrev pub step : ℕ
  step = get_or order k 0

  at_once : (step < length rules) × IsReady rules (take k order) step
  at_once = ready_at rules order [] k lt ready

  low : step < length gates
  low = subst (λ m. step < m) (sym each) at_once.0

  abbrev more : List ℕ
  more = set gates step n

  longer : (m : ℕ) → m < length old → m < length new
  longer m before = let long : length new ≡ length old + length adds.more = ap length adds.grows ∙ length-append old adds.more in omega arith

  at_step : gate_at more step ≡ n
  at_step = get_or-set_same gates step n 0 low

  other_gate : (x : ℕ) → (x ≡ step → ⊥) → gate_at more x ≡ gate_at gates x
  other_gate x other = get_or-set_other gates step x n 0 other

  pub there_next : AreThere more new
  there_next x x_low = elim (cases_eq x step) [
    | inl same ↦ subst (λ m. m < length new) (sym (ap (gate_at more) same ∙ at_step)) adds.below
    | inr other ↦ subst (λ m. m < length new) (sym (other_gate x other)) (longer (gate_at gates x) (there x (subst (λ m. x < m) (length-set gates step n) x_low)))
  ]

  kept : (leaves : ℕ → Bool) (m : ℕ) → m < length old → IsOn new leaves m ↔ IsOn old leaves m
  kept leaves m before = subst (λ l. IsOn l leaves m ↔ IsOn old leaves m) (sym adds.grows) (on_kept old adds.more leaves begun.ordered m before)

  module _ (before : AreOnWhereMet at_zero rules starts (take k order) old gates) where
    on_step : (leaves : ℕ → Bool) → IsOn new leaves n ↔ IsMet false rules starts (assignment_by at_zero leaves) step
    on_step leaves =
        trans (adds.exact leaves)
        (met_by rules starts (assignment_by at_zero leaves) step it is (λ a. IsOn old leaves (gate_at gates a))
        (all_by (Contains (take k order)) (λ a. IsOn old leaves (gate_at gates a) ↔ IsMet false rules starts (assignment_by at_zero leaves) a) (before leaves) (used_by it) (at_once.1 it is)))

    pub on_next : (one_below : (x : ℕ) → Contains (take k order) x → x < length gates) → AreOnWhereMet at_zero rules starts (take (k + 1) order) new more
    on_next one_below leaves x c = elim (cases_eq x step) [
      | inl same ↦ subst (λ y. IsOn new leaves (gate_at more y) ↔ IsMet false rules starts (assignment_by at_zero leaves) y) (sym same) (subst (λ m. IsOn new leaves m ↔ IsMet false rules starts (assignment_by at_zero leaves) step) (sym at_step) (on_step leaves))
      | inr other ↦
          let front = earlier x other c in
          subst (λ m. IsOn new leaves m ↔ IsMet false rules starts (assignment_by at_zero leaves) x) (sym (other_gate x other)) (trans (kept leaves (gate_at gates x) (there x (one_below x front))) (before leaves x front))
    ]
      where
        earlier : (x : ℕ) → (x ≡ step → ⊥) → Contains (take (k + 1) order) x → Contains (take k order) x
        earlier x other c = elim (Contains-push_cases (take k order) step x (subst (λ l. Contains l x) (take_more order k 0 lt) c)) [
          | inl front ↦ front
          | inr same ↦ absurd (other (sym same))
        ]

taken : (xs : List ℕ) (k x : ℕ) → Contains (take k xs) x → Contains xs x
taken xs zero x c = absurd (none_in_nil x c)
taken [] (suc k) x c = c
taken (y ∷ xs) (suc k) x c = elim (cons_cases y x (take k xs) c) [
  | inl same ↦ subst (Contains (y ∷ xs)) same (here y xs)
  | inr rest ↦ later y x xs (taken xs k x rest)
]

-- the number of each step of a front is one of a rule
pub front_below : (rules : List Rule) (order : List ℕ) → AreReady rules [] order → (k : ℕ) (x : ℕ) → Contains (take k order) x → x < length rules
front_below rules order ready k x c = step_below rules order ready x (taken order k x c)

-- ---- leaves by an assignment
following_at : (x : ℕ) → atom_of (2 * x) ≡ Happens x
following_at zero = refl
following_at (suc x) =
    let two : 2 * suc x ≡ suc (suc (2 * x)) = omega arith in
    ap atom_of two ∙ ap (λ a. following (following a)) (following_at x)

holds_at : (x : ℕ) → atom_of (2 * x + 1) ≡ Holds x
holds_at x =
    let one : 2 * x + 1 ≡ suc (2 * x) = omega arith in
    ap atom_of one ∙ ap following (following_at x)

abbrev leaves_by : Assignment → ℕ → Bool
leaves_by holds n = holds (atom_of n)

same_at : (holds : Assignment) (a : Atom) → assignment_by (holds Start) (leaves_by holds) a ≡ holds a
same_at holds Start = refl
same_at holds (Happens x) = ap holds (following_at x)
same_at holds (Holds x) = ap holds (holds_at x)

by_leaves : (holds : Assignment) → assignment_by (holds Start) (leaves_by holds) ≡ holds
by_leaves holds i a = same_at holds a i

-- ---- what one formula implies, by both circuits
module _ (s : System) (rules : List Rule) (are : AreRulesOf rules s) (starts : List Bool) (exact : AreStarts rules starts) where
  abbrev Follows : ℕ → ℕ → Type 0
  Follows x y = (holds : Assignment) → Fires s holds x → Fires s holds y

  abbrev FollowsAt : Bool → ℕ → ℕ → Type 0
  FollowsAt at_zero x y = (leaves : ℕ → Bool) → Fires s (assignment_by at_zero leaves) x → Fires s (assignment_by at_zero leaves) y

  module _ (x y : ℕ) (x_low : x < length rules) (y_low : y < length rules) where
    module _ (at_zero : Bool) (circuit : List Gate) (gates : List ℕ) (of : IsCircuitOf at_zero rules starts circuit gates) where
      on_fires : (leaves : ℕ → Bool) (z : ℕ) → z < length rules → IsOn circuit leaves (gate_at gates z) ↔ Fires s (assignment_by at_zero leaves) z
      on_fires leaves z low = trans (of.exact leaves z low) (fires_is s rules are starts (exact s are) (assignment_by at_zero leaves) z)

      implies_at : Implies circuit (gate_at gates x) (gate_at gates y) ↔ FollowsAt at_zero x y
      implies_at = (
        λ implies leaves fires. (on_fires leaves y y_low).0 (implies leaves ((on_fires leaves x x_low).1 fires)),
        λ follows leaves on. (on_fires leaves y y_low).1 (follows leaves ((on_fires leaves x x_low).0 on)),
      )

    by_case : (at_zero : Bool) → FollowsAt true x y → FollowsAt false x y → FollowsAt at_zero x y
    by_case true p q = p
    by_case false p q = q

    both_cases : FollowsAt true x y → FollowsAt false x y → Follows x y
    both_cases p q holds = subst (λ h. Fires s h x → Fires s h y) (by_leaves holds) (by_case (holds Start) p q (leaves_by holds))

    pub follows_is : (at_first after : List Gate) (first_gates after_gates : List ℕ) → IsCircuitOf true rules starts at_first first_gates → IsCircuitOf false rules starts after after_gates → (Implies at_first (gate_at first_gates x) (gate_at first_gates y) × Implies after (gate_at after_gates x) (gate_at after_gates y)) ↔ Follows x y
    follows_is at_first after first_gates after_gates of_first of_after =
        let p = implies_at true at_first first_gates of_first in
        let q = implies_at false after after_gates of_after in
        (λ both. both_cases (p.0 both.0) (q.0 both.1), λ follows. (p.1 (λ leaves. follows (assignment_by true leaves)), q.1 (λ leaves. follows (assignment_by false leaves))))
