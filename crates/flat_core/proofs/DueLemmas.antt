-- A delay expires where it is due, by what is pending.
use Rattle.std.proofs.Common.{◌≡◌, ℕ, ◌<◌, ◌≤◌, Bool, true, false, List, [], ◌∷◌, Option, Some, None, Ok, refl, sym, ap, ◌∙◌, inl, inr, arith}
use Rattle.std.specs.Prelude.{if◌then◌else◌, IsTrue}
use Rattle.std.specs.List.{list_any}
use Rattle.std.proofs.lemmas.Bool.{cases_Bool, eqb-true, eq-eqb, true≢false, false≢true}
use Rattle.flat_core.specs.declared.equation.Op.{Op}
use Rattle.flat_core.specs.declared.equation.Op.TheVariants as op
use Rattle.flat_core.specs.declared.equation.Equation.{Equation}
use Rattle.flat_core.specs.Stream.{History, Event, Fault, has_event, is_fault}
use Rattle.flat_core.specs.Case.{Streams, delayed, own_of, used_of, case_of}
use Rattle.flat_core.specs.Events.{Inputs, unit, expires, outcome_of}
use Rattle.flat_core.specs.Pending.{pending, option_is}
use Rattle.flat_core.specs.inner.Kept.{IsKept, AreKept}
use Rattle.flat_core.specs.System.{System, runs, equation}
use Rattle.flat_core.specs.Solution.{Solves}
use Rattle.flat_core.proofs.Locality.{expires-same}
use Rattle.flat_core.proofs.PendingLemmas.{expires_pending, pending_expires}

pub option_is-some : (t : ℕ) (o : Option ℕ) → option_is t o ≡ true → o ≡ Some t
option_is-some t None h = absurd (false≢true h)
option_is-some t (Some u) h = ap Some (eqb-true u t h)

pub some-option_is : (t : ℕ) (o : Option ℕ) → o ≡ Some t → option_is t o ≡ true
some-option_is t o is = ap (option_is t) is ∙ eq-eqb t t refl

pub expires_is-due : (amount reset delay : History) (t : ℕ) → ((w : ℕ) → w < t → has_event (delay w) ≡ expires amount reset delay w) → expires amount reset delay t ≡ option_is t (pending amount reset delay t)
expires_is-due amount reset delay t kept = elim (cases_Bool (expires amount reset delay t)) [
  | inl expired ↦ expired ∙ sym (some-option_is t (pending amount reset delay t) (expires_pending amount reset delay t kept t (omega arith) expired))
  | inr not_yet ↦ elim (cases_Bool (option_is t (pending amount reset delay t))) [
    | inl due ↦ absurd (true≢false (sym (pending_expires amount reset delay t kept t (omega arith) (option_is-some t (pending amount reset delay t) due)) ∙ not_yet))
    | inr not_due ↦ not_yet ∙ sym not_due
  ]
]

-- the own case of a delay of two arguments
pub delayed_is-due : (z : Streams) (i t d r : ℕ) → IsKept z i op.Delay (d ∷ r ∷ []) t → delayed z i (d ∷ r ∷ []) t ≡ (if option_is t (pending (z d) (z r) (z i) t) then Some unit else None)
delayed_is-due z i t d r kept = let same = expires_is-due (z d) (z r) (z i) t kept in λ k. if same k then Some unit else None

-- what a delay has in a solution
pub delay_event : (inputs : Inputs) (z : Streams) (i t : ℕ) (e : Equation) → e.op ≡ op.Delay → (d r : ℕ) → e.args ≡ d ∷ r ∷ [] → case_of inputs z i e t ≡ (if expires (z d) (z r) (z i) t then Some (Event unit) else None)
delay_event inputs z i t e is d r args_are =
    (λ k. if list_any (λ a. is_fault (z a t)) (used_of (is k) (args_are k)) then Some Fault else outcome_of (own_of inputs z i (is k) (args_are k) e.of t))
    ∙ split (expires (z d) (z r) (z i) t)
  where
    split : (b : Bool) → outcome_of (Ok (if b then Some unit else None)) ≡ (if b then Some (Event unit) else None)
    split true = refl
    split false = refl

module _ (s : System) (inputs : Inputs) (z : Streams) (bound : ℕ) (solves : Solves s inputs bound z) where
  pub delay_kept : (i : ℕ) (e : Equation) → IsTrue (runs s i) → equation s i ≡ Some e → e.op ≡ op.Delay → (d r : ℕ) → e.args ≡ d ∷ r ∷ [] → (w : ℕ) → w < bound → has_event (z i w) ≡ expires (z d) (z r) (z i) w
  delay_kept i e run is op_is d r args_are w lt = ap has_event (solves.each i e run is w lt ∙ delay_event inputs z i w e op_is d r args_are) ∙ split (expires (z d) (z r) (z i) w)
    where
      split : (b : Bool) → has_event (if b then Some (Event unit) else None) ≡ b
      split true = refl
      split false = refl

  kept_one : (i : ℕ) (e : Equation) → IsTrue (runs s i) → equation s i ≡ Some e → (o : Op) (args : List ℕ) → e.op ≡ o → e.args ≡ args → IsKept z i o args bound
  kept_one i e run is op.Delay (d ∷ r ∷ []) op_is args_are = delay_kept i e run is op_is d r args_are
  kept_one i e run is op.Delay [] op_is args_are = tt
  kept_one i e run is op.Delay (d ∷ []) op_is args_are = tt
  kept_one i e run is op.Delay (d ∷ r ∷ x ∷ args) op_is args_are = tt
  kept_one i e run is _ args op_is args_are = tt

  -- in a solution delays have their events where they expire
  pub solves-kept : AreKept s z bound
  solves-kept = record { each = λ i e run is. kept_one i e run is e.op e.args refl refl }

module _ (z w : Streams) (i t : ℕ) (same : (a u : ℕ) → u < t → z a u ≡ w a u) where
  pub kept_same : (o : Op) (args : List ℕ) → IsKept z i o args t → IsKept w i o args t
  kept_same op.Delay (d ∷ r ∷ []) kept =
      λ u lt.
      ap has_event (sym (same i u lt)) ∙ kept u lt
      ∙ expires-same (z d) (w d) (z r) (w r) (z i) (w i) u (λ v low. same d v (omega arith)) (λ v low. same r v (omega arith)) (λ v low. same i v (omega arith))
  kept_same op.Delay [] kept = tt
  kept_same op.Delay (d ∷ []) kept = tt
  kept_same op.Delay (d ∷ r ∷ x ∷ args) kept = tt
  kept_same _ args kept = tt

pub all_kept_same : (s : System) (z w : Streams) (t : ℕ) → ((a u : ℕ) → u < t → z a u ≡ w a u) → AreKept s z t → AreKept s w t
all_kept_same s z w t same kept = record { each = λ i e run is. kept_same z w i t same e.op e.args (kept.each i e run is) }

pub kept_less : (z : Streams) (i t u : ℕ) → t ≤ u → (o : Op) (args : List ℕ) → IsKept z i o args u → IsKept z i o args t
kept_less z i t u le op.Delay (d ∷ r ∷ []) kept = λ w lt. kept w (omega arith)
kept_less z i t u le op.Delay [] kept = tt
kept_less z i t u le op.Delay (d ∷ []) kept = tt
kept_less z i t u le op.Delay (d ∷ r ∷ x ∷ args) kept = tt
kept_less z i t u le _ args kept = tt

pub all_kept_less : (s : System) (z : Streams) (t u : ℕ) → t ≤ u → AreKept s z u → AreKept s z t
all_kept_less s z t u le kept = record { each = λ i e run is. kept_less z i t u le e.op e.args (kept.each i e run is) }
