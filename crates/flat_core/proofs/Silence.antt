-- At a time that is no instant nothing happens.
use Rattle.std.proofs.Common.{◌≡◌, ℕ, zero, suc, ◌<◌, Bool, true, false, ◌&&◌, List, [], ◌∷◌, Some, None, Ok, Err, refl, sym, ap, subst, ◌∙◌, arith}
use Rattle.std.specs.Prelude.{if◌then◌else◌, is_some, IsTrue}
use Rattle.std.specs.Option.{option_and_then}
use Rattle.std.specs.List.{AllByRecursion}
use Rattle.std.proofs.lemmas.Bool.{or_parts, true≢false, false≢true}
use Rattle.tsl_value.specs.declared.scalar.ValueType.{ValueType}
use Rattle.lift_func.specs.Apply.{Answer}
use Rattle.flat_core.specs.declared.equation.Op.{Op}
use Rattle.flat_core.specs.declared.equation.Op.TheVariants as op
use Rattle.flat_core.specs.declared.equation.Equation.{Equation}
use Rattle.flat_core.specs.Stream.{Fault, event, has_event}
use Rattle.flat_core.specs.Case.{Streams, delayed, own, used_of, is_blocked, amount_fault, root_of, root_fault}
use Rattle.flat_core.specs.Events.{Inputs, unit, expires, fault_of, outcome_of, refused}
use Rattle.flat_core.specs.Fault.{root_at, is_faulty}
use Rattle.flat_core.specs.Instant.{is_delay_op, is_delay, is_instant}
use Rattle.flat_core.specs.Line.{Line, inputs_of}
use Rattle.flat_core.specs.System.{System, runs, equation, IsProper}
use Rattle.flat_core.specs.Solution.{Solves}
use Rattle.flat_core.specs.Typed.{IsTyped, delay, update, lift}
use Rattle.flat_core.specs.TypedSystem.{AreOfTypes, IsTypedSystem}
use Rattle.flat_core.proofs.UpdateOps.{no_update}
use Rattle.flat_core.specs.WellFormed.{IsRanked}
use Rattle.flat_core.specs.inner.BoundLaws.{HappensAtInstants}
use Rattle.flat_core.proofs.DueLemmas.{delay_kept}
use Rattle.flat_core.proofs.Members.{none_from, none_in}
use Rattle.flat_core.proofs.Quiet.{HasArguments, case_of-quiet}
use Rattle.flat_core.proofs.StillLemmas.{no_input}
use Rattle.flat_core.proofs.Uniqueness.{all_by, all_used, all_with, used_all}

-- arity: a lift has an argument, and a delay two
pub typed_arguments : (equations : List Equation) (o : Op) (args : List ℕ) (ts : List ValueType) (t : ValueType) → IsTyped o ts t → AreOfTypes equations args ts → HasArguments o args
typed_arguments equations (op.Lift body strict) [] ts t (update is row) of = no_update is
typed_arguments equations (op.Lift body strict) [] [] t (lift low high kind) of = absurd (omega arith)
typed_arguments equations (op.Lift body strict) [] (x ∷ ts) t typed of = absurd of
typed_arguments equations (op.Lift body strict) (a ∷ args) ts t typed of = tt
typed_arguments equations _ args ts t typed of = tt

pub typed_delay : (equations : List Equation) (args : List ℕ) (ts : List ValueType) (t : ValueType) → IsTyped op.Delay ts t → AreOfTypes equations args ts → (d : ℕ) × (r : ℕ) × (args ≡ d ∷ r ∷ [])
typed_delay equations args ts t (update is row) of = no_update is
typed_delay equations [] ts t delay of = absurd of
typed_delay equations (d ∷ []) ts t delay of = absurd of.1
typed_delay equations (d ∷ r ∷ []) ts t delay of = (d, r, refl)
typed_delay equations (d ∷ r ∷ x ∷ args) ts t delay of = absurd of.1.1

delay_args : (s : System) → IsTypedSystem s → (i : ℕ) (e : Equation) → equation s i ≡ Some e → (o : Op) → e.op ≡ o → IsTrue (is_delay_op o) → (d : ℕ) × (r : ℕ) × (e.args ≡ d ∷ r ∷ [])
delay_args s typed i e is op.Delay op_is h = let g = typed.each i e is in typed_delay s.equations e.args g.types e.of (subst (λ o. IsTyped o g.types e.of) op_is g.typed) g.arguments
delay_args s typed i e is _ op_is h = absurd (false≢true h)

module _ (s : System) (lines : List Line) (z : Streams) (bound : ℕ) (proper : IsProper s) (typed : IsTypedSystem s) (rank : ℕ → ℕ) (ranked : IsRanked s rank) (solves : Solves s (inputs_of lines) bound z) where
  abbrev inputs : Inputs
  inputs = inputs_of lines

  module _ (t : ℕ) (below : suc t < bound) (none : is_instant s lines z (suc t) ≡ false) where
    no_delay : (i : ℕ) (e : Equation) → IsTrue (runs s i) → equation s i ≡ Some e → IsTrue (is_delay_op e.op) → delayed z i e.args (suc t) ≡ None
    no_delay i e run is h =
        let args = delay_args s typed i e is e.op refl h in
        let quiet : has_event (z i (suc t)) ≡ false =
        sym (λ k. (ap is_delay is ∙ h) k && has_event (z i (suc t))) ∙ none_in (λ j. is_delay (equation s j) && has_event (z j (suc t))) s.running (or_parts _ _ none).1 i run in
        let unexpired : expires (z args.0) (z args.1) (z i) (suc t) ≡ false = sym (kept i e run is e.op refl h args.0 args.1 args.2) ∙ quiet in
        (λ k. delayed z i (args.2 k) (suc t)) ∙ (λ k. if unexpired k then Some unit else None)
      where
        kept : (i : ℕ) (e : Equation) → IsTrue (runs s i) → equation s i ≡ Some e → (o : Op) → e.op ≡ o → IsTrue (is_delay_op o) → (d r : ℕ) → e.args ≡ d ∷ r ∷ [] → has_event (z i (suc t)) ≡ expires (z d) (z r) (z i) (suc t)
        kept i e run is op.Delay op_is h d r args_are = delay_kept s inputs z bound solves i e run is op_is d r args_are (suc t) below
        kept i e run is _ op_is h d r args_are = absurd (false≢true h)

    quiet_by_rank : (k i : ℕ) → rank i < k → IsTrue (runs s i) → z i (suc t) ≡ None
    quiet_by_rank zero i low run = absurd (omega arith)
    quiet_by_rank (suc k) i low run =
        let found = proper.runs_all i run in
        let e = found.0 in
        let g = typed.each i e found.1 in
        let has = typed_arguments s.equations e.op e.args g.types e.of g.typed g.arguments in
        let falls = all_used (λ a. rank a < rank i) e.op e.args (ranked.falls i e run found.1) in
        let running = used_all (λ a. IsTrue (runs s a)) e.op e.args found.2 in
        let now = all_with (λ a. rank a < rank i) (λ a. IsTrue (runs s a)) (λ a. z a (suc t) ≡ None) (λ a lower run_a. quiet_by_rank k a (omega arith) run_a) (used_of e.op e.args) falls running in
        let given = no_input lines i (suc t) (or_parts _ _ (or_parts _ _ none).0).1 in
        solves.each i e run found.1 (suc t) below ∙ case_of-quiet inputs z i t given e has (no_delay i e run found.1) now

  pub silent : (t : ℕ) → t < bound → is_instant s lines z t ≡ false → (i : ℕ) → IsTrue (runs s i) → z i t ≡ None
  silent zero below none i run = absurd (true≢false none)
  silent (suc t) below none i run = quiet_by_rank t below none (suc (rank i)) i (omega arith) run

  -- an equation at which nothing happens has no root fault
  module _ (t : ℕ) (below : t < bound) (none : is_instant s lines z t ≡ false) where
    no_fault : (blocked : Bool) (answer : Answer) → (if blocked then Some Fault else outcome_of answer) ≡ None → (if blocked then None else fault_of answer) ≡ None
    no_fault true answer h = refl
    no_fault false (Ok v) h = refl
    no_fault false (Err kind) h = absurd (cc)

    no_amount : (args : List ℕ) → AllByRecursion (λ a. z a t ≡ None) args → amount_fault z args t ≡ None
    no_amount (d ∷ r ∷ []) all = λ k. refused (event (all.0 k))
    no_amount [] all = refl
    no_amount (d ∷ []) all = refl
    no_amount (d ∷ r ∷ x ∷ args) all = refl

    no_root_of : (i : ℕ) (e : Equation) → IsTrue (runs s i) → equation s i ≡ Some e → AllByRecursion (λ a. z a t ≡ None) e.args → (o : Op) → root_of inputs z i e o t ≡ None
    no_root_of i e run is all op.Delay = no_amount e.args all
    no_root_of i e run is all _ = no_fault (is_blocked z e t) (own inputs z i e t) (sym (solves.each i e run is t below) ∙ silent t below none i run)

    no_root : (i : ℕ) → IsTrue (runs s i) → root_at s inputs z t i ≡ None
    no_root i run =
        let found = proper.runs_all i run in
        let e = found.0 in
        let all = all_by (λ a. IsTrue (runs s a)) (λ a. z a t ≡ None) (λ a r. silent t below none a r) e.args found.2 in
        ap (option_and_then (λ f. root_fault inputs z i f t)) found.1 ∙ no_root_of i e run found.1 all e.op

    sound : is_faulty s inputs z t ≡ false
    sound = none_from (λ i. is_some (root_at s inputs z t i)) s.running (λ i run. ap is_some (no_root i run))

  pub happens_at_instants : HappensAtInstants s lines bound z
  happens_at_instants = record { silent = silent; sound = sound }
