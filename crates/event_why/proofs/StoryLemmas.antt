-- Streams that solve a system below a time, without a root fault, are a story.
use Rattle.std.proofs.Common.{◌≡◌, ℕ, zero, suc, ◌<◌, ◌≤◌, ◌^◌, Bool, false, not, length, List, [], ◌∷◌, pos, negsuc, Option, Some, None, refl, sym, ap, subst, ◌∙◌, inl, inr, arith}
use Rattle.std.specs.Prelude.{IsTrue, if◌then◌else◌, is_some}
use Rattle.std.specs.List.{AllByRecursion, list_any}
use Rattle.std.specs.Option.{option_and_then}
use Rattle.std.proofs.lemmas.Bool.{cases_lt, false≢true, true≢false}
use Rattle.std.proofs.lemmas.Option.{slice_get_within}
use Rattle.tsl_value.specs.View.{View, Plain, is_of}
use Rattle.tsl_value.specs.declared.scalar.Scalar.TheVariants as scalar
use Rattle.tsl_value.specs.declared.scalar.ValueType.{ValueType}
use Rattle.lift_func.specs.declared.fault.FaultKind.{FaultKind}
use Rattle.flat_core.specs.declared.equation.Op.{Op}
use Rattle.flat_core.specs.declared.equation.Op.TheVariants as op
use Rattle.flat_core.specs.declared.equation.Equation.{Equation}
use Rattle.flat_core.specs.Case.{Streams, amount_fault, is_blocked, own_of, root_of, root_fault}
use Rattle.flat_core.specs.Complete.{IsFlat}
use Rattle.flat_core.specs.Events.{Inputs, fault_of, refused}
use Rattle.flat_core.specs.Fault.{IsNamed, is_faulty, root_at}
use Rattle.flat_core.specs.Solution.{Solves}
use Rattle.flat_core.specs.Stream.{event}
use Rattle.flat_core.specs.System.{System, runs, equation}
use Rattle.flat_core.specs.Typed.{IsTyped, delay, int_type, update}
use Rattle.flat_core.specs.TypedSystem.{AreOfTypes, IsOfType}
use Rattle.flat_core.specs.WellFormed.{IsWellFormed}
use Rattle.flat_core.specs.inner.Dependency.{IsRunOrder}
use Rattle.flat_core.specs.inner.TypedEvents.{AreTypedInputs, HasTypedEvents}
use Rattle.flat_core.proofs.Members.{none_from, none_in}
use Rattle.flat_core.proofs.Shapes.{running_args}
use Rattle.flat_core.proofs.TypedEvents.{events_typed}
use Rattle.flat_core.proofs.UpdateOps.{no_update}
use Rattle.flat_core.proofs.WellFormedRank.{rank_of, well_formed_ranked}
use Rattle.plain_solver.specs.inner.Instant.{AreSound, IsFirstRoot}
use Rattle.trigger_rules.specs.inner.Firing.{IsUpToFault}
use Rattle.trigger_rules.proofs.Times.{all_are_clear}
use Rattle.why_rules.specs.Derivation.{IsSound}
use Rattle.event_why.specs.inner.Found.{IsClean}
use Rattle.event_why.specs.inner.Tale.{AreKept, IsAt, IsStory, Tale}
use Rattle.event_why.specs.declared.draft.Draft.{Draft}

-- ---- amounts
int_first : (equations : List Equation) (d r : ℕ) (types : List ValueType) (t : ValueType) → IsTyped op.Delay types t → AreOfTypes equations (d ∷ r ∷ []) types → IsOfType equations d int_type
int_first equations d r types t (update is row) of = no_update is
int_first equations d r types t delay of = of.0

positive : (x : View) → IsTrue (is_of int_type x) → is_some (refused (Some x)) ≡ false → (n : ℕ) × (0 < n) × (x ≡ Plain (scalar.Int (pos n)))
positive (Plain (scalar.Int (pos zero))) of clear = absurd (true≢false clear)
positive (Plain (scalar.Int (pos (suc n)))) of clear = (suc n, omega arith, refl)
positive (Plain (scalar.Int (negsuc n))) of clear = absurd (true≢false clear)
positive _ of clear = absurd (false≢true of)

module _ (f : System) (p : Inputs) (z : Streams) (n : ℕ) (whole : IsFlat f) (formed : IsWellFormed f) (given : AreTypedInputs f p) (solves : Solves f p n z) where
  pub typed_below : HasTypedEvents f n z
  typed_below = events_typed f p n z whole.proper whole.complete.typed (rank_of f formed) (well_formed_ranked f formed) given solves

  module _ (sound : IsClean f p z n) where
    up_to_fault : (u : ℕ) → u < n → IsUpToFault f p n z u
    up_to_fault u low = record {
      proper = whole.proper;
      typed = whole.complete.typed;
      rank = rank_of f formed;
      ranked = well_formed_ranked f formed;
      solves = solves;
      typed_inputs = given;
      below = low;
      sound = λ w lt. sound w (omega arith);
    }

    clear : IsSound f.running z n
    clear = record { none = λ i u member low. all_are_clear f p n z u (up_to_fault u low) (sound u low) i member }

    module _ (i : ℕ) (e : Equation) (run : IsTrue (runs f i)) (at : equation f i ≡ Some e) (op_is : e.op ≡ op.Delay) (d r : ℕ) (args_are : e.args ≡ d ∷ r ∷ []) (u : ℕ) (low : u < n) (x : View) (has : event (z d u) ≡ Some x) where
      no_root : is_some (root_fault p z i e u) ≡ false
      no_root =
          sym (ap (λ o. is_some (option_and_then (λ g. root_fault p z i g u) o)) at)
          ∙ none_in (λ j. is_some (root_at f p z u j)) f.running (sound u low) i run

      unrefused : is_some (refused (Some x)) ≡ false
      unrefused =
          sym (ap (λ o. is_some (root_of p z i e o u)) op_is ∙ ap (λ xs. is_some (amount_fault z xs u)) args_are ∙ ap (λ w. is_some (refused w)) has)
          ∙ no_root

      amount : (m : ℕ) × (0 < m) × (x ≡ Plain (scalar.Int (pos m)))
      amount =
          let g = whole.complete.typed.each i e at in
          let first = int_first f.equations d r g.types e.of (subst (λ o. IsTyped o g.types e.of) op_is g.typed) (subst (λ xs. AreOfTypes f.equations xs g.types) args_are g.arguments) in
          let run_d = (subst (AllByRecursion (λ a. IsTrue (runs f a))) args_are (running_args f whole.proper i e run at)).0 in
          positive x (subst (λ k. IsTrue (is_of k x)) first.of_is (typed_below.each d first.at run_d first.is u low x has)) unrefused

    pub story_of : n ≤ 2 ^ 63 → (order : List ℕ) → IsRunOrder f order → (marks : List Bool) → AreKept f marks → IsStory (record { system = f; order = order; inputs = p; streams = z; kept = marks; bound = n })
    story_of small order ordered marks kept = record {
      whole = whole;
      ordered = ordered;
      small = small;
      solves = solves;
      sound = clear;
      amounts = amount;
      typed = typed_below;
      kept = kept;
    }

-- a draft stands as it is, whatever the bound
pub at_bound : (T : Tale) (bound : ℕ) (past due : ℕ → ℕ) (t : ℕ) (done : ℕ → Bool) (draft : Draft) → IsAt T past due t done draft → IsAt (record T { bound = bound }) past due t done draft
at_bound T bound past due t done draft at = record {
  right = at.right;
  latest = at.latest;
  quiet = at.quiet;
  pending = at.pending;
  now_count = at.now_count;
  latest_count = at.latest_count;
  quiet_count = at.quiet_count;
  due_count = at.due_count;
  kept = at.kept;
  pends = at.pends;
  here = at.here;
}

-- ---- root faults ask no input
module _ (p q : Inputs) (z : Streams) (i t : ℕ) where
  fault_same : (o : Op) (args : List ℕ) (of : ValueType) → fault_of (own_of p z i o args of t) ≡ fault_of (own_of q z i o args of t)
  fault_same op.Input args of = refl
  fault_same o args of = refl

  root_of-inputs : (e : Equation) (o : Op) → root_of p z i e o t ≡ root_of q z i e o t
  root_of-inputs e op.Delay = refl
  root_of-inputs e o = ap (λ fault. if is_blocked z e t then None else fault) (fault_same e.op e.args e.of)

  root_found : (at : Option Equation) → option_and_then (λ e. root_fault p z i e t) at ≡ option_and_then (λ e. root_fault q z i e t) at
  root_found None = refl
  root_found (Some e) = root_of-inputs e e.op

pub faulty_inputs : (f : System) (p q : Inputs) (z : Streams) (t : ℕ) → is_faulty f p z t ≡ is_faulty f q z t
faulty_inputs f p q z t = λ k. list_any (λ i. is_some (root_found p q z i t (equation f i) k)) f.running

-- ---- root faults at a time
module _ (f : System) (p : Inputs) (z : Streams) (t : ℕ) where
  root_there : (i : ℕ) → AreSound f p z t (length f.equations) → IsTrue (runs f i) → (found : Option Equation) → equation f i ≡ found → root_at f p z t i ≡ None
  root_there i none run None is = ap (option_and_then (λ e. root_fault p z i e t)) is
  root_there i none run (Some e) is = none i (slice_get_within f.equations i e is) run

  pub none_faulty : AreSound f p z t (length f.equations) → is_faulty f p z t ≡ false
  none_faulty none = none_from (λ i. is_some (root_at f p z t i)) f.running (λ i run. ap is_some (root_there i none run (equation f i) refl))

  pub first_named : IsClean f p z t → (root : ℕ × FaultKind) → IsFirstRoot f p z t (Some root) → IsNamed f p z t root.0 root.1
  first_named sound root first = record {
    running = first.0;
    root = first.1;
    least = λ j run lt. first.2 j lt run;
    first = λ u lt. ap not (sound u lt);
  }

  pub clean_more : IsClean f p z t → is_faulty f p z t ≡ false → IsClean f p z (suc t)
  clean_more sound here u lt = elim (cases_lt u t) [
    | inl low ↦ sound u low
    | inr high ↦ let same : t ≡ u = omega arith in subst (λ v. is_faulty f p z v ≡ false) same here
  ]
