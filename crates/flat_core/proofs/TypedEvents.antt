-- A solution for typed inputs has typed events: time by time, and at each time along the order of the equations.
use Rattle.std.proofs.Common.{◌≡◌, ◌==◌, ◌&&◌, ℕ, zero, suc, ◌<◌, ◌≤◌, List, [], ◌∷◌, Option, Some, None, refl, sym, subst, inl, inr, arith}
use Rattle.std.proofs.lemmas.Bool.{and_parts, cases_Bool, cases_lt, eqb-true}
use Rattle.std.specs.Prelude.{if◌then◌else◌, IsTrue}
use Rattle.std.specs.List.{AllByRecursion}
use Rattle.tsl_value.specs.declared.scalar.Scalar.{Scalar}
use Rattle.tsl_value.specs.declared.scalar.ValueType.{ValueType}
use Rattle.tsl_value.specs.View.{Plain, is_of}
use Rattle.flat_core.specs.declared.equation.Equation.{Equation}
use Rattle.flat_core.specs.declared.equation.Op.TheVariants as op
use Rattle.flat_core.specs.Case.{Streams, used_of}
use Rattle.flat_core.specs.Events.{Inputs}
use Rattle.flat_core.specs.Line.{Line, event_in, inputs_of}
use Rattle.flat_core.specs.Solution.{Solves}
use Rattle.flat_core.specs.Stream.{event}
use Rattle.flat_core.specs.System.{System, runs, equation, IsProper}
use Rattle.flat_core.specs.inner.TypedEvents.{IsOf, AreTypedInputs, HasTypedEvents}
use Rattle.flat_core.specs.inner.TypedLines.{AreTypedLines}
use Rattle.flat_core.specs.TypedSystem.{IsTypedSystem}
use Rattle.flat_core.specs.WellFormed.{IsRanked}
use Rattle.flat_core.proofs.TypedCase.{IsTypedAt, IsTypedBefore, is_of_from, is_of_at, merge_typed, case_typed}
use Rattle.flat_core.proofs.Uniqueness.{all_by, all_used, all_with, used_all}

-- ---- the inputs of lines

event_of : (i t told : ℕ) (e : Option (ℕ × Scalar)) (of : ValueType) → ((v : Scalar) → e ≡ Some (i, v) → IsTrue (is_of of (Plain v))) → IsOf of (event_in i t told e)
event_of i t told None of each = refl
event_of i t told (Some e) of each = elim (cases_Bool ((told == t) && (e.0 == i))) [
  | inl here ↦
      let same : e.0 ≡ i = eqb-true e.0 i (and_parts (told == t) (e.0 == i) here).1 in
      subst (λ b. IsOf of (if b then Some (Plain e.1) else None)) (sym here) (each e.1 (λ k. Some (same k, e.1)))
  | inr not ↦ subst (λ b. IsOf of (if b then Some (Plain e.1) else None)) (sym not) refl
]

of_lines : (s : System) (lines : List Line) → AreTypedLines s lines → (i : ℕ) (e : Equation) → equation s i ≡ Some e → (t : ℕ) → IsOf e.of (inputs_of lines i t)
of_lines s [] all i e is t = refl
of_lines s (l ∷ lines) all i e is t =
    merge_typed e.of (event_in i t l.time l.event) (inputs_of lines i t)
    (event_of i t l.time l.event e.of (λ v at. all.0.event i v at e is)) (of_lines s lines all.1 i e is t)

pub inputs_typed : (s : System) (lines : List Line) → AreTypedLines s lines → AreTypedInputs s (inputs_of lines)
inputs_typed s lines all = record { each = λ i e is op_is t v some. is_of_at e.of (inputs_of lines i t) v (of_lines s lines all i e is t) some }

pub given_typed : (s : System) (inputs : Inputs) → AreTypedInputs s inputs → (i : ℕ) (e : Equation) → equation s i ≡ Some e → (t : ℕ) → e.op ≡ op.Input → IsOf e.of (inputs i t)
given_typed s inputs given i e is t op_is = is_of_from e.of (inputs i t) (λ v some. given.each i e is op_is t v some)

-- ---- solutions

module _ (s : System) (inputs : Inputs) (bound : ℕ) (z : Streams) (proper : IsProper s) (well_typed : IsTypedSystem s) (rank : ℕ → ℕ) (ranked : IsRanked s rank) (given : AreTypedInputs s inputs) (solves : Solves s inputs bound z) where
  abbrev Runs : ℕ → Type 0
  Runs a = IsTrue (runs s a)

  -- at a time before which they are typed, by rank
  typed_at : (t : ℕ) → t < bound → ((i : ℕ) → Runs i → IsTypedBefore s z t i) → (k i : ℕ) → rank i < k → Runs i → IsTypedAt s z t i
  typed_at t lt past zero i low run e is = absurd (omega arith)
  typed_at t lt past (suc k) i low run e is =
      let found = proper.runs_all i run in
      let same : found.0 ≡ e = let at = found.1 in cc in
      let running : AllByRecursion Runs e.args = subst (λ (f : Equation). AllByRecursion Runs f.args) same found.2 in
      let below = all_used (λ a. rank a < rank i) e.op e.args (ranked.falls i e run is) in
      let now = all_with (λ a. rank a < rank i) Runs (IsTypedAt s z t) (λ a lower run_a. typed_at t lt past k a (omega arith) run_a) (used_of e.op e.args) below (used_all Runs e.op e.args running) in
      let before = all_by Runs (IsTypedBefore s z t) past e.args running in
      subst (λ o. IsOf e.of (event o)) (sym (solves.each i e run is t lt))
      (case_typed s z inputs t i e (well_typed.each i e is) (given_typed s inputs given i e is t) before now)

  typed_before : (t : ℕ) → t ≤ bound → (i : ℕ) → Runs i → IsTypedBefore s z t i
  typed_before zero le i run u lt = absurd (omega arith)
  typed_before (suc t) le i run u lt =
      let earlier = typed_before t (omega arith) in
      elim (cases_lt u t) [
        | inl before ↦ earlier i run u before
        | inr here ↦ let e : t ≡ u = omega arith in subst (λ n. IsTypedAt s z n i) e (typed_at t (omega arith) earlier (suc (rank i)) i (omega arith) run)
      ]

  pub events_typed : HasTypedEvents s bound z
  events_typed = record { each = λ i e run is t lt v some. is_of_at e.of (event (z i t)) v (typed_before bound (omega arith) i run t lt e is) some }
