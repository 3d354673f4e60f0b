-- An equation that cannot fault has no root fault.
use Rattle.std.proofs.Common.{◌≡◌, ℕ, Bool, true, false, ◌||◌, List, [], ◌∷◌, map, Option, Some, None, Ok, Err, refl, ap, ◌∙◌}
use Rattle.std.specs.Prelude.{IsFalse, if◌then◌else◌, is_some}
use Rattle.std.specs.List.{list_any, list_all}
use Rattle.std.specs.Option.{option_map_or}
use Rattle.std.proofs.lemmas.Bool.{or_parts, true≢false}
use Rattle.tsl_value.specs.View.{View}
use Rattle.tsl_value.specs.declared.scalar.ValueType.{ValueType}
use Rattle.lift_func.specs.declared.fault.FaultKind.{FaultKind}
use Rattle.lift_func.specs.Apply.{Answer, of_one, chosen, apply}
use Rattle.lift_func.specs.BodyTree.{BodyTree, Literal, Argument, Absent, One, Two, Choice}
use Rattle.lift_func.specs.Operations.{can_fault_one, can_fault_two}
use Rattle.lift_func.specs.Typing.{can_fault}
use Rattle.lift_func.specs.Update.{update_faults}
use Rattle.lift_func.proofs.Updates.{answer_safe}
use Rattle.tsl_value.specs.declared.operation.Update.{Update}
use Rattle.lift_func.proofs.Fits.{HasNoFault, then_safe, chosen_safe, one_safe, two_safe}
use Rattle.flat_core.specs.declared.equation.Equation.{Equation}
use Rattle.flat_core.specs.declared.equation.Op.{Op}
use Rattle.flat_core.specs.declared.equation.Op.TheVariants as op
use Rattle.flat_core.specs.Stream.{event}
use Rattle.flat_core.specs.Case.{Streams, own, own_of, is_blocked, root_of}
use Rattle.flat_core.specs.Events.{Inputs, at_once, fault_of, updating}
use Rattle.flat_core.specs.Updates.{update_in}
use Rattle.flat_simplify.specs.CanFault.{can_fault_op}

-- the answer is no fault
abbrev IsSound : Answer → Type 0
IsSound answer = fault_of answer ≡ None

sound : (x : Answer) → HasNoFault x → IsSound x
sound (Ok v) safe = refl
sound (Err kind) safe = absurd safe

-- a body without an operation that can fault
apply_safe : (t : BodyTree) (values : List (Option View)) → IsFalse (can_fault t) → HasNoFault (apply t values)
apply_safe (Literal s) values never = tt
apply_safe (Argument n) values never = tt
apply_safe (Absent of) values never = tt
apply_safe (One o a) values never =
    let parts = or_parts (can_fault_one o) (can_fault a) never in
    then_safe (apply a values) (of_one o) (apply_safe a values parts.1) (λ v. one_safe o v parts.0)
apply_safe (Two o a b) values never =
    let parts = or_parts (can_fault_two o || can_fault a) (can_fault b) never in
    let more = or_parts (can_fault_two o) (can_fault a) parts.0 in
    two_safe o (apply a values) (apply b values) more.0 (apply_safe a values more.1) (apply_safe b values parts.1)
apply_safe (Choice c a b) values never =
    let parts = or_parts (can_fault c || can_fault a) (can_fault b) never in
    let more = or_parts (can_fault c) (can_fault a) parts.0 in
    then_safe (apply c values) (λ v. chosen v (apply a values) (apply b values)) (apply_safe c values more.0)
    (λ v. chosen_safe v (apply a values) (apply b values) (apply_safe a values more.1) (apply_safe b values parts.1))

either_sound : (b : Bool) (answer : Answer) → IsSound answer → IsSound (if b then answer else Ok None)
either_sound true answer sound = sound
either_sound false answer sound = refl

-- an update that cannot fault, and what is none
updating_sound : (w : Option Update) → option_map_or update_faults w false ≡ false → (values : List (Option View)) → IsSound (updating w values)
updating_sound None never values = refl
updating_sound (Some u) never values = ap fault_of (answer_safe u never values).1

at_once_sound : (o : Op) (of : ValueType) (values : List (Option View)) (t : ℕ) → IsFalse (can_fault_op o) → IsSound (at_once o of values t)
at_once_sound (op.Lift body true) of values t never = either_sound (list_all is_some values) (apply body values) (sound (apply body values) (apply_safe body values never))
at_once_sound (op.Lift body false) of values t never = either_sound (list_any is_some values) (apply body values) (sound (apply body values) (apply_safe body values never))
at_once_sound op.Delay of values t never = refl
at_once_sound op.Unit of [] t never = refl
at_once_sound op.Empty of [] t never = refl
at_once_sound op.Any of values t never = refl
at_once_sound op.Time of (a ∷ []) t never = refl
at_once_sound op.Merge of (a ∷ b ∷ []) t never = refl
at_once_sound op.Filter of (a ∷ c ∷ []) t never = refl
at_once_sound op.Pick of (c ∷ a ∷ b ∷ []) t never = refl
at_once_sound o of values t never = updating_sound (update_in o) never values

module _ (inputs : Inputs) (z : Streams) (i : ℕ) (t : ℕ) where
  own_sound : (o : Op) (args : List ℕ) (of : ValueType) → IsFalse (can_fault_op o) → IsSound (own_of inputs z i o args of t)
  own_sound op.Input args of never = refl
  own_sound op.Last args of never = refl
  own_sound op.Delay args of never = refl
  own_sound o args of never = at_once_sound o of (map (λ a. event (z a t)) args) t never

  none_or : (b : Bool) (kind : Option FaultKind) → kind ≡ None → (if b then None else kind) ≡ None
  none_or true kind is = refl
  none_or false kind is = is

  root_sound : (e : Equation) (o : Op) → e.op ≡ o → IsFalse (can_fault_op o) → root_of inputs z i e o t ≡ None
  root_sound e op.Delay is never = absurd (true≢false never)
  root_sound e o is never = none_or (is_blocked z e t) (fault_of (own inputs z i e t)) (ap (λ p. fault_of (own_of inputs z i p e.args e.of t)) is ∙ own_sound o e.args e.of never)

  pub never_faults : (e : Equation) → IsFalse (can_fault_op e.op) → root_of inputs z i e e.op t ≡ None
  never_faults e never = root_sound e e.op refl never
