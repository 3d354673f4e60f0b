-- Outcomes of operands that are gathered at one time: a fault of one is one of each, and else each has its value where one of them has
-- an event.
use Rattle.std.proofs.Common.{◌≡◌, Bool, true, false, ◌&&◌, ◌||◌, List, [], ◌∷◌, map, Option, Some, None, Ok, refl}
use Rattle.std.specs.Prelude.{if◌then◌else◌, is_some}
use Rattle.std.specs.List.{list_any}
use Rattle.std.specs.Option.{option_or, option_map}
use Rattle.tsl_value.specs.View.{View, Plain}
use Rattle.tsl_value.specs.declared.scalar.Scalar.{Scalar}
use Rattle.lift_func.specs.Apply.{Answer}
use Rattle.flat_core.specs.Stream.{Outcome, Event, Fault, event, has_event, is_fault}
use Rattle.flat_core.specs.Events.{merged, outcome_of}
use Rattle.flat_core.proofs.Answered.{event_of_value, value_is_no_fault}

-- the outcome of an operand with this value: there is a fault, or some event, or neither
abbrev pub fetched : Bool → Bool → Option View → Option Outcome
fetched true some v = Some Fault
fetched false true v = outcome_of (Ok v)
fetched false false v = None

-- ---- operations on such operands
abbrev pub nones : List (Option View) → List (Option View)
nones vs = map (λ v. None) vs

no_fault : (some : Bool) (vs : List (Option View)) → list_any is_fault (map (fetched false some) vs) ≡ false
no_fault some [] = refl
no_fault true (v ∷ vs) = λ k. value_is_no_fault v k || no_fault true vs k
no_fault false (v ∷ vs) = no_fault false vs

values_there : (vs : List (Option View)) → map event (map (fetched false true) vs) ≡ vs
values_there [] = refl
values_there (v ∷ vs) = λ k. event_of_value v k ∷ values_there vs k

values_gone : (vs : List (Option View)) → map event (map (fetched false false) vs) ≡ nones vs
values_gone [] = refl
values_gone (v ∷ vs) = λ k. None ∷ values_gone vs k

-- what an operation g makes of them: x where there is a fault
pub over_fetched : {R : Type 0} (x : R) (finish : Answer → R) (g : List (Option View) → Answer) (fault some : Bool) (v : Option View) (vs : List (Option View)) →
    (if list_any is_fault (map (fetched fault some) (v ∷ vs)) then x else finish (g (map event (map (fetched fault some) (v ∷ vs))))) ≡ (if fault then x else finish (if some then g (v ∷ vs) else g (nones (v ∷ vs))))
over_fetched x finish g true some v vs = refl
over_fetched x finish g false true v vs = λ k. if no_fault true (v ∷ vs) k then x else finish (g (values_there (v ∷ vs) k))
over_fetched x finish g false false v vs = λ k. if no_fault false (v ∷ vs) k then x else finish (g (values_gone (v ∷ vs) k))

-- ---- a last, a merge and a literal over them
-- the case of a last, from the outcome of its trigger and the latest event before
abbrev pub last_case : Option Outcome → Option View → Option Outcome
last_case trigger before = if is_fault trigger || false then Some Fault else outcome_of (Ok (if has_event trigger then before else None))

abbrev pub merge_case : Option Outcome → Option Outcome → Option Outcome
merge_case a b = if is_fault a || (is_fault b || false) then Some Fault else outcome_of (Ok (merged (event a) (event b)))

abbrev pub held_case : Option Outcome → Option Outcome → Option View → Option Outcome
held_case a trigger before = merge_case a (last_case trigger before)

-- two that are each other's triggers
pub held_first : (a b : Option Outcome) (before : Option View) → held_case a b before ≡ fetched (is_fault a || (is_fault b || false)) (has_event a || (has_event b || false)) (option_or (event a) before)
held_first None None before = refl
held_first None (Some (Event w)) None = refl
held_first None (Some (Event w)) (Some u) = refl
held_first None (Some Fault) before = refl
held_first (Some (Event v)) None before = refl
held_first (Some (Event v)) (Some (Event w)) None = refl
held_first (Some (Event v)) (Some (Event w)) (Some u) = refl
held_first (Some (Event v)) (Some Fault) before = refl
held_first (Some Fault) b before = refl

pub held_second : (a b : Option Outcome) (before : Option View) → held_case b a before ≡ fetched (is_fault a || (is_fault b || false)) (has_event a || (has_event b || false)) (option_or (event b) before)
held_second None None before = refl
held_second None (Some (Event w)) before = refl
held_second None (Some Fault) before = refl
held_second (Some (Event v)) None None = refl
held_second (Some (Event v)) None (Some u) = refl
held_second (Some (Event v)) (Some (Event w)) None = refl
held_second (Some (Event v)) (Some (Event w)) (Some u) = refl
held_second (Some (Event v)) (Some Fault) before = refl
held_second (Some Fault) None before = refl
held_second (Some Fault) (Some (Event w)) before = refl
held_second (Some Fault) (Some Fault) before = refl

-- one of several: what happens to it happens to some
pub held_one : (a : Option Outcome) (fault some : Bool) (u : View) (before : Option View) → (is_fault a ≡ true → fault ≡ true) → (has_event a ≡ true → some ≡ true) → held_case a (fetched fault some (Some u)) before ≡ fetched fault some (option_or (event a) before)
held_one None true some u before faults events = refl
held_one None false true u None faults events = refl
held_one None false true u (Some v) faults events = refl
held_one None false false u before faults events = refl
held_one (Some (Event v)) true some u before faults events = refl
held_one (Some (Event v)) false true u None faults events = refl
held_one (Some (Event v)) false true u (Some w) faults events = refl
held_one (Some (Event v)) false false u before faults events = absurd (true_is_not_false (events refl))
  where
    true_is_not_false : ◌≡◌ {A = Bool} false true → ⊥
    true_is_not_false h = cc
held_one (Some Fault) true some u before faults events = refl
held_one (Some Fault) false some u before faults events = absurd (true_is_not_false (faults refl))
  where
    true_is_not_false : ◌≡◌ {A = Bool} false true → ⊥
    true_is_not_false h = cc

-- one alone
pub alone : (a : Option Outcome) (before : Option View) → a ≡ fetched (is_fault a || false) (has_event a || false) (option_or (event a) before)
alone None before = refl
alone (Some (Event v)) before = refl
alone (Some Fault) before = refl

-- a literal over one
abbrev pub literal_case : Scalar → Option Outcome → Option Outcome
literal_case s a = if is_fault a || false then Some Fault else outcome_of (if is_some (event a) && true then Ok (Some (Plain s)) else Ok None)

pub literal_fetched : (s : Scalar) (fault some : Bool) (v : Option View) → literal_case s (fetched fault some v) ≡ fetched fault some (option_map (λ u. Plain s) v)
literal_fetched s true some v = refl
literal_fetched s false true None = refl
literal_fetched s false true (Some v) = refl
literal_fetched s false false v = refl
