-- Where no fault and no limit ends a run at a bound, none of the first instants has a root fault, and there are no more of them.
use Rattle.std.proofs.Common.{◌≡◌, ◌⊎◌, inl, inr, ℕ, zero, suc, ◌<◌, ◌≤◌, Bool, true, false, not, List, [], ◌∷◌, ◌++◌, length, take, Option, Some, None, refl, sym, ◌∙◌, ap, subst, arith}
use Rattle.std.specs.Prelude.{IsTrue, is_some}
use Rattle.std.specs.List.{Contains}
use Rattle.std.proofs.lemmas.Bool.{cases_Bool, cases_lt, true≢false}
use Rattle.lift_func.specs.declared.fault.FaultKind.{FaultKind}
use Rattle.flat_core.specs.inner.BoundLaws.{HappensAtInstants}
use Rattle.flat_core.specs.Case.{Streams}
use Rattle.flat_core.specs.Ending.{EndsAtBound}
use Rattle.flat_core.specs.Fault.{root_at, is_faulty, IsNamed}
use Rattle.flat_core.specs.Instant.{is_instant, instants}
use Rattle.flat_core.specs.Line.{Line, inputs_of}
use Rattle.flat_core.specs.System.{System, runs}
use Rattle.flat_core.proofs.Members.{all_from, contains_tail, some_in}
use Rattle.flat_core.proofs.SmallerBound.{instants_first}
use Rattle.flat_core.proofs.Instants.{in_instants, instants_have}
use Rattle.flat_meaning.proofs.ListLemmas.{at_place}

-- what stands in front of one of the first stands among the first
front_taken : (n : ℕ) (xs ys : List ℕ) (u v : ℕ) → (Contains xs u → ⊥) → Contains (take n (xs ++ ys)) u → Contains xs v → Contains (take n (xs ++ ys)) v
front_taken zero xs ys u v fresh (k, lt, is) in_front = absurd (omega arith)
front_taken (suc n) [] ys u v fresh among (k, lt, is) = absurd (omega arith)
front_taken (suc n) (x ∷ xs) ys u v fresh (zero, lt, is) in_front = absurd (fresh (0, omega arith, is))
front_taken (suc n) (x ∷ xs) ys u v fresh (suc k, lt, is) (zero, less, same) = (0, omega arith, same)
front_taken (suc n) (x ∷ xs) ys u v fresh (suc k, lt, is) (suc j, less, same) =
    contains_tail x (take n (xs ++ ys)) v (front_taken n xs ys u v (λ c. fresh (contains_tail x xs u c)) (k, omega arith, is) (j, omega arith, same))

not_from : (b : Bool) → b ≡ false → IsTrue (not b)
not_from b is = ap not is

module _ (s : System) (lines : List Line) (z : Streams) (t : ℕ) where
  -- among the equations below n that run, none has a root fault, or one is the least with one
  record Least (n : ℕ) : Type 0 where
    number : ℕ
    kind : FaultKind
    running : IsTrue (runs s number)
    root : root_at s (inputs_of lines) z t number ≡ Some kind
    least : (j : ℕ) → IsTrue (runs s j) → j < number → root_at s (inputs_of lines) z t j ≡ None

  abbrev NoneBelow : ℕ → Type 0
  NoneBelow n = (j : ℕ) → IsTrue (runs s j) → j < n → root_at s (inputs_of lines) z t j ≡ None

  here : (n : ℕ) → NoneBelow n → (b : Bool) → runs s n ≡ b → (root : Option FaultKind) → root_at s (inputs_of lines) z t n ≡ root → NoneBelow (suc n) ⊎ Least (suc n)
  here n none true run (Some kind) is = inr record { number = n; kind = kind; running = run; root = is; least = none }
  here n none true run None is = inl (λ j runs_j lt. elim (cases_lt j n) [
    | inl before ↦ none j runs_j before
    | inr after ↦ let same : n ≡ j = omega arith in subst (λ i. root_at s (inputs_of lines) z t i ≡ None) same is
  ])
  here n none false idle root is = inl (λ j runs_j lt. elim (cases_lt j n) [
    | inl before ↦ none j runs_j before
    | inr after ↦ let same : j ≡ n = omega arith in absurd (true≢false (sym runs_j ∙ ap (runs s) same ∙ idle))
  ])

  search_below : (n : ℕ) → NoneBelow n ⊎ Least n
  search_below zero = inl (λ j run lt. absurd (omega arith))
  search_below (suc n) = elim (search_below n) [
    | inl none ↦ here n none (runs s n) refl (root_at s (inputs_of lines) z t n) refl
    | inr found ↦ inr record { number = found.number; kind = found.kind; running = found.running; root = found.root; least = found.least }
  ]

  -- the fault that is named where there is one and none was before
  fault_named : is_faulty s (inputs_of lines) z t ≡ true → ((u : ℕ) → u < t → is_faulty s (inputs_of lines) z u ≡ false)
      → (i : ℕ) × (kind : FaultKind) × IsNamed s (inputs_of lines) z t i kind
  fault_named faulty before =
      let (i, run, is) = some_in (λ j. is_some (root_at s (inputs_of lines) z t j)) s.running faulty in
      elim (search_below (suc i)) [
        | inl none ↦ absurd (true≢false (sym is ∙ ap is_some (none i run (omega arith))))
        | inr found ↦ (
          found.number,
          found.kind,
          record { running = found.running; root = found.root; least = found.least; first = λ u lt. not_from (is_faulty s (inputs_of lines) z u) (before u lt) },
        )
      ]

module _ (s : System) (lines : List Line) (z : Streams) (bound limit : ℕ) (happens : HappensAtInstants s lines bound z) (quiet : EndsAtBound s lines z bound limit) where
  abbrev first : List ℕ
  first = take limit (instants s lines z bound)

  pub record Listed : Type 0 where
    pub below : (t : ℕ) → Contains first t → t < bound

  module _ (listed : Listed) where
    -- an instant before one of the first is one of them
    earlier_first : (u v : ℕ) → v < u → Contains first u → is_instant s lines z v ≡ true → Contains first v
    earlier_first u v lt among is =
        let low : u < bound = listed.below u among in
        let (rest, split, late) = instants_first s lines z u bound (omega arith) in
        let there : Contains (take limit (instants s lines z u ++ rest)) u = subst (λ (l : List ℕ). Contains (take limit l) u) split among in
        let fresh : Contains (instants s lines z u) u → ⊥ = λ c. let self = (in_instants s lines z u u c).0 in absurd (omega arith) in
        subst (λ (l : List ℕ). Contains (take limit l) v) (sym split) (front_taken limit (instants s lines z u) rest u v fresh there (instants_have s lines z u v lt is))

    sound_to : (n t : ℕ) → t < n → Contains first t → is_faulty s (inputs_of lines) z t ≡ false
    sound_to zero t lt among = absurd (omega arith)
    sound_to (suc n) t lt among =
        let low : t < bound = listed.below t among in
        let before = λ (u : ℕ) (less : u < t). elim (cases_Bool (is_instant s lines z u)) as (λ _. is_faulty s (inputs_of lines) z u ≡ false) [
          | inl is ↦ sound_to n u (omega arith) (earlier_first t u less among is)
          | inr none ↦ happens.sound u (omega arith) none
        ] in
        elim (cases_Bool (is_faulty s (inputs_of lines) z t)) [
          | inl faulty ↦ let (i, kind, named) = fault_named s lines z t faulty before in absurd (quiet.no_fault t i kind record { named = named; within = among })
          | inr sound ↦ sound
        ]

    pub first_sound : (t : ℕ) → Contains first t → is_faulty s (inputs_of lines) z t ≡ false
    first_sound t among = sound_to (suc t) t (omega arith) among

    pub first_few : length (instants s lines z bound) ≤ limit
    first_few = elim (cases_lt limit (length (instants s lines z bound))) [
      | inl more ↦
          let (t, is) = at_place (instants s lines z bound) limit more in
          absurd (quiet.no_limit t record { next = is; sound = all_from (λ u. is_faulty s (inputs_of lines) z u ≡ false) first first_sound })
      | inr few ↦ few
    ]
