-- What the actions of steps say of equations.
use Rattle.std.proofs.Common.{◌≡◌, ℕ, ◌+◌, ◌<◌, Bool, true, false, List, [], ◌∷◌, ◌++◌, length, Option, Some, Ok, refl, sym, ap, subst, ◌∙◌, inl, inr, arith}
use Rattle.std.proofs.lemmas.Bool.{cases_lt, false≢true}
use Rattle.std.proofs.lemmas.Option.{slice_get_cases, slice_get_within}
use Rattle.std.proofs.lemmas.List.{length-append}
use Rattle.std.proofs.lemmas.List.Elements.{recursion_from_All}
use Rattle.std.specs.Prelude.{◌≢◌, None, slice_get, slice_index}
use Rattle.std.specs.List.{All, AllByRecursion}
use Rattle.body_eval.specs.declared.register.Register.{Register}
use Rattle.flat_core.specs.declared.equation.Equation.{Equation}
use Rattle.flat_core.specs.declared.equation.Op.{Op}
use Rattle.flat_core.specs.declared.equation.Op.TheVariants as op
use Rattle.flat_core.specs.Complete.{IsFlat}
use Rattle.flat_core.specs.System.{System, equation}
use Rattle.flat_core.specs.inner.Arity.{HasArity}
use Rattle.flat_core.proofs.Shapes.{shape_of}
use Rattle.register_machine.specs.Machine.{Held}
use Rattle.tsl_value.proofs.Lists.{get_left, get_seam}
use Rattle.monitor_run.specs.declared.action.Action.{Action}
use Rattle.monitor_run.specs.declared.action.Action.TheVariants as action
use Rattle.monitor_run.specs.declared.machine.Machine.{Machine}
use Rattle.monitor_run.specs.inner.Actions.{IsActionAt, IsActionOf}
use Rattle.monitor_run.specs.inner.Here.{HasEffect, HasHanded, effect_here, handed_of, hands_on, is_blocked_here, is_given_op, source_of}
use Rattle.monitor_run.specs.inner.Instant.{HasRunOne, was_filled}
use Rattle.monitor_run.proofs.HandLemmas.{hands_effect}

-- the arguments of an action are known
pub known_of : (n : ℕ) (a b : Action) → a ≡ b → ((o : Op) (args : List ℕ) → IsActionOf a o args → All (λ x. x < n) args) → (o : Op) (args : List ℕ) → IsActionOf b o args → AllByRecursion (λ x. x < n) args
known_of n a b is known o args acts = recursion_from_All (λ x. x < n) args (known o args (subst (λ c. IsActionOf c o args) (sym is) acts))

-- what an action of one operation and its arguments hands on
pub handed_on : (registers last : List Register) (a b : Action) → a ≡ b → (o : Op) (args : List ℕ) → ((p : Op) (xs : List ℕ) → IsActionOf b p xs → (p ≡ o) × (xs ≡ args)) → (h : Option Held) → h ≡ handed_of registers last o args
    → (place : ℕ) (old new : List Register) → HasHanded place h old new → (p : Op) (xs : List ℕ) → IsActionOf a p xs → HasHanded place (handed_of registers last p xs) old new
handed_on registers last a b is o args one h same place old new handed p xs acts =
    let parts = one p xs (subst (λ c. IsActionOf c p xs) is acts) in
    subst (λ v. HasHanded place v old new) (same ∙ sym (λ k. handed_of registers last (parts.0 k) (parts.1 k))) handed

-- an input or a delay hands on nothing
pub given_hands : (o : Op) → is_given_op o ≡ true → hands_on o ≡ true → ⊥
given_hands op.Input is so = false≢true so
given_hands op.Delay is so = false≢true so
given_hands o is so = false≢true is

-- every other action hands on an event
pub hands : (a : Action) → a ≢ action.Given → a ≢ action.Own → (o : Op) (args : List ℕ) → IsActionOf a o args → (hands_on o ≡ true) × (is_given_op o ≡ false)
hands action.Given other own o args acts = absurd (other refl)
hands (action.Merge x y) other own o args acts = (ap hands_on acts.0, ap is_given_op acts.0)
hands (action.Filter x y) other own o args acts = (ap hands_on acts.0, ap is_given_op acts.0)
hands (action.Pick x y z) other own o args acts = (ap hands_on acts.0, ap is_given_op acts.0)
hands (action.Last x y) other own o args acts = (ap hands_on acts.0, ap is_given_op acts.0)
hands action.Own other own o args acts = absurd (own refl)
hands action.Print other own o args acts = absurd acts

-- and one action that does has the same arguments for whatever it stands for
pub same_args : (a : Action) → a ≢ action.Given → a ≢ action.Own → (o p : Op) (args xs : List ℕ) → IsActionOf a o args → IsActionOf a p xs → xs ≡ args
same_args action.Given other own o p args xs one two = absurd (other refl)
same_args (action.Merge x y) other own o p args xs one two = two.1 ∙ sym one.1
same_args (action.Filter x y) other own o p args xs one two = two.1 ∙ sym one.1
same_args (action.Pick x y z) other own o p args xs one two = two.1 ∙ sym one.1
same_args (action.Last x y) other own o p args xs one two = two.1 ∙ sym one.1
same_args action.Own other own o p args xs one two = absurd (own refl)
same_args action.Print other own o p args xs one two = absurd one

-- no argument of an input or of a delay is a fault
pub given_unblocked : (marks : List Bool) (o : Op) (args : List ℕ) → HasArity o args → is_blocked_here marks o args ≡ true → is_given_op o ≡ false
given_unblocked marks op.Input [] shape blocked = absurd (false≢true blocked)
given_unblocked marks op.Input (x ∷ args) shape blocked = absurd shape
given_unblocked marks op.Delay args shape blocked = absurd (false≢true blocked)
given_unblocked marks o args shape blocked = refl

-- An equation that hands on an event has run. What it began with is what there is now.
pub ran_handed : (s : System) → IsFlat s → (in_place : Bool) (t i : ℕ) (a : Action) → a ≢ action.Given → a ≢ action.Own → IsActionAt s i a → (now old new : Machine) → old ≡ now
    → ((e : Equation) → equation s i ≡ Some e → is_blocked_here now.faulted.items e.op e.args ≡ false)
    → ((o : Op) (args : List ℕ) → IsActionOf a o args → hands_on o ≡ true → HasHanded i (handed_of old.registers.items old.last.items o args) old.registers.items new.registers.items)
    → new.faulted ≡ old.faulted → new.store ≡ old.store → (e : Equation) → equation s i ≡ Some e → HasRunOne in_place t i e now new None
ran_handed s whole in_place t i a other own at now old new same blocked handed faulted store e is =
    subst (λ m. HasRunOne in_place t i e m new None) same
    (was_filled r.0 h.1 (subst (λ (m : Machine). is_blocked_here m.faulted.items e.op e.args ≡ false) (sym same) (blocked e is))
    (subst (λ st. HasEffect in_place i e.op (source_of old.registers.items e.args) old.store st (Ok r.0) (effect_here old.registers.items old.last.items old.store i t e)) (sym store)
    (hands_effect old.registers.items old.last.items old.store i t in_place e.op e.args e.of (source_of old.registers.items e.args) r.0 h.0 (shape_of s whole i e is) r.2))
    r.1 faulted)
  where
    h : (hands_on e.op ≡ true) × (is_given_op e.op ≡ false)
    h = hands a other own e.op e.args (at e is)

    r : HasHanded i (handed_of old.registers.items old.last.items e.op e.args) old.registers.items new.registers.items
    r = handed e.op e.args (at e is) h.0

-- ---- the actions of the first steps of an order
pub record AreActionsTo (s : System) (order : List ℕ) (k : ℕ) (actions : List Action) : Type 0 where
  pub size : length actions ≡ k
  pub each : (p : ℕ) (a : Action) → slice_get actions p ≡ Some a → slice_index order p < length s.equations → IsActionAt s (slice_index order p) a

pub actions_push : (s : System) (order : List ℕ) (k : ℕ) (actions : List Action) (a : Action) → AreActionsTo s order k actions → (slice_index order k < length s.equations → IsActionAt s (slice_index order k) a) → AreActionsTo s order (k + 1) (actions ++ a ∷ [])
actions_push s order k actions a are at = record {
  size = grown;
  each = λ p b is lt. elim (cases_lt p k) [
    | inl before ↦ are.each p b (there p b is (let size = are.size in omega arith)) lt
    | inr after ↦
        let within = slice_get_within (actions ++ a ∷ []) p b is in
        let here : p ≡ length actions = let size = are.size in let all = grown in omega arith in
        let same : b ≡ a = some_same (sym is ∙ ap (slice_get (actions ++ a ∷ [])) here ∙ get_seam actions a []) in
        let place : p ≡ k = here ∙ are.size in
        subst (λ x. IsActionAt s (slice_index order p) x) (sym same) (subst (λ n. IsActionAt s (slice_index order n) a) (sym place) (at (subst (λ n. slice_index order n < length s.equations) place lt)))
  ];
}
  where
    grown : length (actions ++ a ∷ []) ≡ k + 1
    grown = length-append actions (a ∷ []) ∙ (λ j. are.size j + 1)

    some_same : {x y : Action} → Some x ≡ Some y → x ≡ y
    some_same is = cc

    there : (p : ℕ) (b : Action) → slice_get (actions ++ a ∷ []) p ≡ Some b → p < length actions → slice_get actions p ≡ Some b
    there p b is lt = elim (slice_get_cases actions p).1 [
      | inl found ↦ found.2 ∙ sym (get_left actions (a ∷ []) p found.0 found.2) ∙ is
      | inr none ↦ absurd (let past = none.0 in omega arith)
    ]
