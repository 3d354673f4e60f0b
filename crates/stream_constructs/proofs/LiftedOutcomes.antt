-- Where the equations that lift operands have their cases, the lifted ones have what is gathered of the operands.
use Rattle.std.proofs.Common.{◌≡◌, ℕ, suc, ◌+◌, Bool, true, false, ◌||◌, List, [], ◌∷◌, map, Option, Some, None, Ok, refl, ap, ◌∙◌, arith}
use Rattle.std.specs.Prelude.{if◌then◌else◌, is_some}
use Rattle.std.specs.List.{AllByRecursion, list_any}
use Rattle.std.specs.Option.{option_map}
use Rattle.std.proofs.lemmas.Bool.{or_left, or_right}
use Rattle.tsl_value.specs.declared.place.Place.{Place}
use Rattle.tsl_value.specs.declared.scalar.ValueType.{ValueType}
use Rattle.tsl_value.specs.View.{View, Plain}
use Rattle.lift_func.specs.Apply.{Answer}
use Rattle.flat_core.specs.declared.equation.Op.TheVariants as op
use Rattle.flat_core.specs.declared.equation.Equation.{Equation}
use Rattle.flat_core.specs.Stream.{Outcome, Fault, event, has_event, is_fault, latest}
use Rattle.flat_core.specs.Case.{Streams, case_of}
use Rattle.flat_core.specs.Events.{Inputs, unit, outcome_of}
use Rattle.flat_core.specs.Typed.{unit_type}
use Rattle.stream_constructs.specs.declared.construct.Stream.{Stream}
use Rattle.stream_constructs.specs.Construct.{Operand, Fixed, Varying, now}
use Rattle.stream_constructs.specs.Equations.{numbers, equation, held_each, merges, lifting, lifted_streams, literal_equations, operand_numbers}
use Rattle.stream_constructs.specs.Agree.{history_of}
use Rattle.stream_constructs.proofs.Numbered.{At, at_first, at_rest, at_second, at_after, at_from}
use Rattle.stream_constructs.proofs.Fetched.{fetched, nones, over_fetched, merge_case, held_case, held_first, held_second, held_one, alone, literal_case, literal_fetched}

-- the values of operands, where a literal is there with the first
abbrev pub literal_values : Option View → List Operand → List (Option View) → List (Option View)
literal_values first [] vs = []
literal_values first (Fixed s ∷ os) vs = option_map (λ u. Plain s) first ∷ literal_values first os vs
literal_values first (Varying ∷ os) [] = []
literal_values first (Varying ∷ os) (v ∷ vs) = v ∷ literal_values first os vs

any_case : (fault some : Bool) → (if fault then Some Fault else outcome_of (Ok (if some then Some unit else None))) ≡ fetched fault some (Some unit)
any_case true some = refl
any_case false true = refl
any_case false false = refl

module _ (inputs : Inputs) (z : Streams) (t : ℕ) where
  abbrev pub HasCase : ℕ → Equation → Type 0
  HasCase i e = z i t ≡ case_of inputs z i e t

  abbrev pub some_fault : List Stream → Bool
  some_fault parts = list_any (λ h. is_fault (h t)) (history_of z parts)

  abbrev pub some_event : List Stream → Bool
  some_event parts = list_any (λ g. has_event (g t)) (history_of z parts)

  abbrev pub values_of : List Stream → List (Option View)
  values_of parts = map (λ a. now (z a.id) t) parts

  abbrev pub outcomes_of : List Stream → List (Option Outcome)
  outcomes_of parts = map (λ b. z b.id t) parts

  held_has : (p : Place) (n trigger : ℕ) (a : Stream) → HasCase n (equation p op.Last (a.id ∷ trigger ∷ []) a.of) → HasCase (n + 1) (equation p op.Merge (a.id ∷ n ∷ []) a.of) → z (n + 1) t ≡ held_case (z a.id t) (z trigger t) (latest (z a.id) t)
  held_has p n trigger a last merge = merge ∙ ap (λ o. merge_case (z a.id t) o) last

  -- what happens to an operand happens to some
  abbrev IsCovered : Bool → Bool → Stream → Type 0
  IsCovered fault some a = (is_fault (z a.id t) ≡ true → fault ≡ true) × (has_event (z a.id t) ≡ true → some ≡ true)

  covered : (fault some : Bool) (parts : List Stream) → (some_fault parts ≡ true → fault ≡ true) → (some_event parts ≡ true → some ≡ true) → AllByRecursion (IsCovered fault some) parts
  covered fault some [] faults events = tt
  covered fault some (a ∷ rest) faults events =
      ((λ h. faults (or_left _ _ h), λ h. events (or_left _ _ h)), covered fault some rest (λ h. faults (or_right _ _ h)) (λ h. events (or_right _ _ h)))

  merges_are : (p : Place) (n trigger : ℕ) (fault some : Bool) (u : View) (parts : List Stream) → z trigger t ≡ fetched fault some (Some u) → AllByRecursion (IsCovered fault some) parts → At HasCase n (held_each p n trigger parts) → outcomes_of (merges n parts) ≡ map (fetched fault some) (values_of parts)
  merges_are p n trigger fault some u [] trig all at = refl
  merges_are p n trigger fault some u (a ∷ rest) trig all at =
      let here : z (n + 1) t ≡ fetched fault some (now (z a.id) t) =
      held_has p n trigger a (at_first at) (at_second at) ∙ ap (λ o. held_case (z a.id t) o (latest (z a.id) t)) trig ∙ held_one (z a.id t) fault some u (latest (z a.id) t) all.0.0 all.0.1 in
      let more = merges_are p (n + 2) trigger fault some u rest trig all.1 (at_after at) in
      λ k. here k ∷ more k

  fault_numbers : (parts : List Stream) → list_any (λ a. is_fault (z a t)) (numbers parts) ≡ some_fault parts
  fault_numbers [] = refl
  fault_numbers (a ∷ rest) = ap (λ b. is_fault (z a.id t) || b) (fault_numbers rest)

  event_numbers : (parts : List Stream) → list_any is_some (map (λ a. event (z a t)) (numbers parts)) ≡ some_event parts
  event_numbers [] = refl
  event_numbers (a ∷ rest) = ap (λ b. has_event (z a.id t) || b) (event_numbers rest)

  any_has : (p : Place) (n : ℕ) (parts : List Stream) (of : ValueType) → HasCase n (equation p op.Any (numbers parts) of) → z n t ≡ fetched (some_fault parts) (some_event parts) (Some unit)
  any_has p n parts of here =
      here ∙ (λ k. if fault_numbers parts k then Some Fault else outcome_of (Ok (if event_numbers parts k then Some unit else None))) ∙ any_case (some_fault parts) (some_event parts)

  -- the lifted operands
  pub lifted_are : (p : Place) (n : ℕ) (parts : List Stream) → At HasCase n (lifting p n parts) → outcomes_of (lifted_streams n parts) ≡ map (fetched (some_fault parts) (some_event parts)) (values_of parts)
  lifted_are p n [] at = refl
  lifted_are p n (a ∷ []) at = λ k. alone (z a.id t) (latest (z a.id) t) k ∷ []
  lifted_are p n (a ∷ b ∷ []) at =
      let first = held_has p n b.id a (at_first at) (at_second at) ∙ held_first (z a.id t) (z b.id t) (latest (z a.id) t) in
      let after = at_after at in
      let second = held_has p (n + 2) a.id b (at_first after) (at_second after) ∙ held_second (z a.id t) (z b.id t) (latest (z b.id) t) in
      λ k. first k ∷ second k ∷ []
  lifted_are p n (a ∷ b ∷ c ∷ rest) at =
      let parts = a ∷ b ∷ c ∷ rest in
      merges_are p (n + 1) n (some_fault parts) (some_event parts) unit parts (any_has p n parts unit_type (at_first at)) (covered _ _ parts (λ h. h) (λ h. h)) (at_from (n + 1) (omega arith) (at_rest at))

  -- operands of which some are literals
  pub operands_are : (p : Place) (first m : ℕ) (fault some : Bool) (v : Option View) (os : List Operand) (up : List Stream) (vs : List (Option View)) → z first t ≡ fetched fault some v → outcomes_of up ≡ map (fetched fault some) vs → At HasCase m (literal_equations p first os) → map (λ i. z i t) (operand_numbers m os (numbers up)) ≡ map (fetched fault some) (literal_values v os vs)
  operands_are p first m fault some v [] up vs here same at = refl
  operands_are p first m fault some v (Fixed s ∷ os) up vs here same at =
      let literal : z m t ≡ fetched fault some (option_map (λ u. Plain s) v) = at_first at ∙ ap (literal_case s) here ∙ literal_fetched s fault some v in
      let more = operands_are p first (suc m) fault some v os up vs here same (at_rest at) in
      λ k. literal k ∷ more k
  operands_are p first m fault some v (Varying ∷ os) [] [] here same at = refl
  operands_are p first m fault some v (Varying ∷ os) [] (w ∷ vs) here same at = absurd (cc)
  operands_are p first m fault some v (Varying ∷ os) (b ∷ up) [] here same at = absurd (cc)
  operands_are p first m fault some v (Varying ∷ os) (b ∷ up) (w ∷ vs) here same at =
      let head : z b.id t ≡ fetched fault some w = cc in
      let tail : outcomes_of up ≡ map (fetched fault some) vs = cc in
      let more = operands_are p first m fault some v os up vs here tail at in
      λ k. head k ∷ more k

  fault_outcomes : (args : List ℕ) → list_any (λ a. is_fault (z a t)) args ≡ list_any is_fault (map (λ i. z i t) args)
  fault_outcomes [] = refl
  fault_outcomes (a ∷ args) = ap (λ b. is_fault (z a t) || b) (fault_outcomes args)

  event_outcomes : (args : List ℕ) → map (λ a. event (z a t)) args ≡ map event (map (λ i. z i t) args)
  event_outcomes [] = refl
  event_outcomes (a ∷ args) = ap (λ vs. event (z a t) ∷ vs) (event_outcomes args)

  -- an operation g on such operands, with x where there is a fault
  pub operation_is : {R : Type 0} (x : R) (finish : Answer → R) (g : List (Option View) → Answer) (args : List ℕ) (fault some : Bool) (v : Option View) (vs : List (Option View)) → map (λ i. z i t) args ≡ map (fetched fault some) (v ∷ vs) →
      (if list_any (λ a. is_fault (z a t)) args then x else finish (g (map (λ a. event (z a t)) args))) ≡ (if fault then x else finish (if some then g (v ∷ vs) else g (nones (v ∷ vs))))
  operation_is x finish g args fault some v vs same =
      (λ k. if fault_outcomes args k then x else finish (g (event_outcomes args k)))
      ∙ (λ k. if list_any is_fault (same k) then x else finish (g (map event (same k))))
      ∙ over_fetched x finish g fault some v vs
