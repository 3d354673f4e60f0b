-- The fault time stays, and at it all root faults.
use Rattle.std.proofs.Common.{◌≡◌, ◌⊎◌, ℕ, zero, suc, ◌<◌, ◌≤◌, Bool, true, false, List, [], ◌∷◌, Option, Some, None, refl, sym, ap, subst, ◌∙◌, inl, inr, arith}
use Rattle.std.specs.Prelude.{IsTrue, if◌then◌else◌, is_some}
use Rattle.std.specs.List.{AllByRecursion}
use Rattle.std.specs.Option.{option_and_then}
use Rattle.std.proofs.lemmas.Bool.{cases_Bool, cases_lt, false_from_ne_true, true_from_ne_false, false≢true, true≢false}
use Rattle.std.proofs.lemmas.Option.{none-some}
use Rattle.lift_func.specs.declared.fault.FaultKind.{FaultKind}
use Rattle.flat_core.specs.declared.equation.Equation.{Equation}
use Rattle.flat_core.specs.declared.equation.Op.{Op}
use Rattle.flat_core.specs.declared.equation.Op.TheVariants as op
use Rattle.flat_core.specs.Stream.{Outcome, Event, Fault, event, is_fault}
use Rattle.flat_core.specs.Case.{Streams, own, used_of, is_blocked, amount_fault, root_of, root_fault}
use Rattle.flat_core.specs.Events.{Inputs, fault_of, refused}
use Rattle.flat_core.specs.Fault.{root_at, is_faulty, is_over}
use Rattle.flat_core.specs.System.{System, runs, equation}
use Rattle.flat_core.proofs.Locality.{AgreeBefore, own-same, blocked-same}
use Rattle.flat_core.proofs.Members.{some_from, some_in}
use Rattle.flat_core.proofs.PendingLemmas.{some_before_from, none_before_from}
use Rattle.flat_core.proofs.Uniqueness.{all_by, all_with, used_all}
use Rattle.flat_simplify.specs.CanFault.{can_fault_op}
use Rattle.flat_simplify.specs.Replaced.{itself}
use Rattle.flat_simplify.specs.inner.Solved.{AreSolved, IsSoundBefore, IsFaultTime}
use Rattle.flat_simplify.specs.inner.Laws.{IsFit, KeepsFaults}
use Rattle.flat_simplify.proofs.CannotFault.{never_faults}
use Rattle.flat_simplify.proofs.Renumbered.{root_moved}
use Rattle.flat_simplify.proofs.Stands.{new_is}
use Rattle.flat_simplify.proofs.Streams.{fit, new, v, Keeps, new_equation_at, arguments_keep, all_clear, kept_before, sound_kept, kept, new_for}

refused_clear : (o : Option Outcome) (kind : FaultKind) → refused (event o) ≡ Some kind → is_fault o ≡ false
refused_clear None kind h = refl
refused_clear (Some (Event x)) kind h = refl
refused_clear (Some Fault) kind h = absurd (none-some kind h)

fault_parts : (b : Bool) (x : Option FaultKind) (kind : FaultKind) → (if b then None else x) ≡ Some kind → b ≡ false
fault_parts true x kind h = absurd (none-some kind h)
fault_parts false x kind h = refl

of_some : {A : Type 0} (o : Option A) → is_some o ≡ true → (x : A) × (o ≡ Some x)
of_some None h = absurd (false≢true h)
of_some (Some x) h = (x, refl)

-- a root fault stays with other streams, where each argument that is not Fault stays
module _ (inputs : Inputs) (p q : Streams) (i t : ℕ) (kind : FaultKind) where
  abbrev Stays : ℕ → Type 0
  Stays a = is_fault (p a t) ≡ false → q a t ≡ p a t

  amount_stays : (args : List ℕ) → AllByRecursion Stays args → amount_fault p args t ≡ Some kind → amount_fault q args t ≡ Some kind
  amount_stays (d ∷ r ∷ []) all h = ap (λ o. refused (event o)) (all.0 (refused_clear (p d t) kind h)) ∙ h
  amount_stays [] all h = h
  amount_stays (d ∷ []) all h = h
  amount_stays (d ∷ r ∷ a ∷ args) all h = h

  root_stays : (e : Equation) (o : Op) → AgreeBefore (q i) (p i) t → AllByRecursion (λ a. AgreeBefore (q a) (p a) t) e.args → AllByRecursion Stays e.args → root_of inputs p i e o t ≡ Some kind → root_of inputs q i e o t ≡ Some kind
  root_stays e op.Delay self before all h = amount_stays e.args all h
  root_stays e _ self before all h =
      let used : List ℕ = used_of e.op e.args in
      let clear = all_clear p t used (fault_parts (is_blocked p e t) (fault_of (own inputs p i e t)) kind h) in
      let now = all_with (λ a. is_fault (p a t) ≡ false) Stays (λ a. q a t ≡ p a t) (λ a c stays. stays c) used clear (used_all Stays e.op e.args all) in
      let blocked = blocked-same inputs q p i t used now in
      let same = own-same inputs q p i t e.op e.args e.of self before now in
      (λ k. if blocked k then None else fault_of (same k)) ∙ h

module _ (s u : System) (inputs : Inputs) (bound : ℕ) (z w : Streams) (both : AreSolved s u inputs bound z w) where
  fitting : IsFit s u
  fitting = fit s u inputs bound z w both

  abbrev after : Streams
  after = v s u inputs bound z w both

  abbrev Kept : ℕ → Type 0
  Kept = Keeps s u inputs bound z w both

  past : (t : ℕ) → t < bound → IsSoundBefore s inputs z t → (x : ℕ) → Kept x → AgreeBefore (after x) (z x) t
  past t lt sound = kept_before s u inputs bound z w both t (omega arith) sound

  -- an equation that runs after has the same root faults as before, at what stands for its arguments
  module _ (i : ℕ) (run : IsTrue (runs s i)) (remains : IsTrue (runs u i)) (e : Equation) (is : equation s i ≡ Some e) where
    self : new s u inputs bound z w both i ≡ i
    self = new_is s both.simplified.replaced both.simplified.replacement i i e is (itself (λ a r. fitting.left i a remains r))

    keeps : Kept i
    keeps = (run, subst (λ n. IsTrue (runs u n)) (sym self) remains)

    arguments : AllByRecursion Kept e.args
    arguments = arguments_keep s u inputs bound z w both i e is run remains

    root_after : (t : ℕ) → root_at u inputs w t i ≡ root_of inputs after i e e.op t
    root_after t = ap (option_and_then (λ f. root_fault inputs w i f t)) (new_equation_at s u inputs bound z w both i e is) ∙ root_moved (new s u inputs bound z w both) inputs w i t self e e.op

    root_before : (t : ℕ) → root_at s inputs z t i ≡ root_of inputs z i e e.op t
    root_before t = ap (option_and_then (λ f. root_fault inputs z i f t)) is

    root_to : (t : ℕ) (kind : FaultKind) → t < bound → IsSoundBefore s inputs z t → root_at s inputs z t i ≡ Some kind → root_at u inputs w t i ≡ Some kind
    root_to t kind lt sound root =
        let before = all_by Kept (λ a. AgreeBefore (after a) (z a) t) (past t lt sound) e.args arguments in
        let stays = all_by Kept (Stays inputs z after i t kind) (λ a k clear. kept s u inputs bound z w both t lt sound a (new s u inputs bound z w both a) k.0 (new_for s u inputs bound z w both a k.0) k.1 clear) e.args arguments in
        root_after t ∙ root_stays inputs z after i t kind e e.op (past t lt sound i keeps) before stays (sym (root_before t) ∙ root)

    root_from : (t : ℕ) (kind : FaultKind) → t < bound → IsSoundBefore s inputs z t → is_faulty s inputs z t ≡ false → root_at u inputs w t i ≡ Some kind → root_at s inputs z t i ≡ Some kind
    root_from t kind lt sound none root =
        let before = all_by Kept (λ a. AgreeBefore (z a) (after a) t) (λ a k n less. sym (past t lt sound a k n less)) e.args arguments in
        let stays = all_by Kept (Stays inputs after z i t kind) (λ a k clear. sym (sound_kept s u inputs bound z w both t lt sound none a k)) e.args arguments in
        root_before t ∙ root_stays inputs after z i t kind e e.op (λ n less. sym (past t lt sound i keeps n less)) before stays (sym (root_after t) ∙ root)

  root_kept : (t i : ℕ) (kind : FaultKind) → t < bound → IsSoundBefore s inputs z t → IsTrue (runs s i) → root_at s inputs z t i ≡ Some kind → IsTrue (runs u i) × (root_at u inputs w t i ≡ Some kind)
  root_kept t i kind lt sound run root =
      let found = both.proper.runs_all i run in
      let e = found.0 in
      let here : root_of inputs z i e e.op t ≡ Some kind = sym (ap (option_and_then (λ f. root_fault inputs z i f t)) found.1) ∙ root in
      let can : IsTrue (can_fault_op e.op) = true_from_ne_false (can_fault_op e.op) (λ never. none-some kind (sym (never_faults inputs z i t e never) ∙ here)) in
      let remains = fitting.faulting i (record { at = e; is = found.1; running = run; faults = can }) in
      (remains, root_to i run remains e found.1 t kind lt sound root)

  root_came : (t i : ℕ) (kind : FaultKind) → t < bound → IsSoundBefore s inputs z t → is_faulty s inputs z t ≡ false → IsTrue (runs u i) → root_at u inputs w t i ≡ Some kind → IsTrue (runs s i) × (root_at s inputs z t i ≡ Some kind)
  root_came t i kind lt sound none remains root =
      let run = fitting.ran i remains in
      let found = both.proper.runs_all i run in
      (run, root_from i run remains found.0 found.1 t kind lt sound none root)

  -- up to the fault time the same times have root faults
  faulty_to : (t : ℕ) → t < bound → IsSoundBefore s inputs z t → is_faulty s inputs z t ≡ true → is_faulty u inputs w t ≡ true
  faulty_to t lt sound faulty =
      let found = some_in (λ i. is_some (root_at s inputs z t i)) s.running faulty in
      let root = of_some (root_at s inputs z t found.0) found.2 in
      let after = root_kept t found.0 root.0 lt sound found.1 root.1 in
      some_from (λ i. is_some (root_at u inputs w t i)) u.running found.0 after.0 (ap is_some after.1)

  sound_to : (t : ℕ) → t < bound → IsSoundBefore s inputs z t → is_faulty s inputs z t ≡ false → is_faulty u inputs w t ≡ false
  sound_to t lt sound none = false_from_ne_true (is_faulty u inputs w t) (λ faulty.
      let found = some_in (λ i. is_some (root_at u inputs w t i)) u.running faulty in
      let root = of_some (root_at u inputs w t found.0) found.2 in
      let before = root_came t found.0 root.0 lt sound none found.1 root.1 in
      true≢false (sym (some_from (λ i. is_some (root_at s inputs z t i)) s.running found.0 before.0 (ap is_some before.1)) ∙ none))

  -- no time before n has a root fault, or there is a least one
  pub first_fault : (n : ℕ) → IsSoundBefore s inputs z n ⊎ ((f : ℕ) × (f < n) × IsFaultTime s inputs z f)
  first_fault zero = inl (λ m lt. absurd (omega arith))
  first_fault (suc n) = elim (first_fault n) [
    | inr found ↦ let lt = found.1 in inr (found.0, omega arith, found.2)
    | inl sound ↦ elim (cases_Bool (is_faulty s inputs z n)) [
      | inl faulty ↦ inr (n, omega arith, (faulty, sound))
      | inr none ↦ inl (λ m lt. elim (cases_lt m n) [
        | inl before ↦ sound m before
        | inr here ↦ let same : n ≡ m = omega arith in subst (λ k. is_faulty s inputs z k ≡ false) same none
      ])
    ]
  ]

  pub sound_after : (n : ℕ) → n ≤ bound → IsSoundBefore s inputs z n → IsSoundBefore u inputs w n
  sound_after n le sound m lt = sound_to m (omega arith) (λ k less. sound k (omega arith)) (sound m lt)

  over_same : (t : ℕ) → t < bound → is_over u inputs w t ≡ is_over s inputs z t
  over_same t lt = elim (first_fault (suc t)) [
    | inl sound ↦ none_before_from (is_faulty u inputs w) (suc t) (sound_after (suc t) (omega arith) sound) ∙ sym (none_before_from (is_faulty s inputs z) (suc t) sound)
    | inr found ↦
        let f = found.0 in
        let less = found.1 in
        some_before_from (is_faulty u inputs w) (suc t) f less (faulty_to f (omega arith) found.2.1 found.2.0)
        ∙ sym (some_before_from (is_faulty s inputs z) (suc t) f less found.2.0)
  ]

  time_to : (t : ℕ) → t < bound → IsFaultTime s inputs z t → IsFaultTime u inputs w t
  time_to t lt at = (faulty_to t lt at.1 at.0, sound_after t (omega arith) at.1)

  time_from : (t : ℕ) → t < bound → IsFaultTime u inputs w t → IsFaultTime s inputs z t
  time_from t lt at = elim (first_fault (suc t)) [
    | inl sound ↦ absurd (true≢false (sym at.0 ∙ sound_after (suc t) (omega arith) sound t (omega arith)))
    | inr found ↦
        let f = found.0 in
        let less = found.1 in
        elim (cases_lt f t) [
          | inl before ↦ absurd (true≢false (sym (faulty_to f (omega arith) found.2.1 found.2.0) ∙ at.1 f before))
          | inr here ↦ let same : f ≡ t = omega arith in subst (λ n. IsFaultTime s inputs z n) same found.2
        ]
  ]

  pub keeps_faults : KeepsFaults s u inputs bound z w
  keeps_faults = record { root_kept = root_kept; fault_time_same = λ t lt. (time_to t lt, time_from t lt); over_same = over_same }
