-- An operation on streams makes what it makes of current values.
use Rattle.std.proofs.Common.{◌≡◌, ℕ, zero, suc, ◌+◌, Bool, true, false, ◌||◌, ◌&&◌, List, [], ◌∷◌, ◌++◌, map, length, Option, Some, None, Ok, refl, sym, ap, ◌∙◌, arith}
use Rattle.std.specs.Prelude.{if◌then◌else◌, is_some}
use Rattle.std.specs.List.{list_any, list_all}
use Rattle.std.proofs.lemmas.Option.{none-some}
use Rattle.tsl_value.specs.View.{View}
use Rattle.tsl_value.specs.declared.place.Place.{Place}
use Rattle.tsl_value.specs.declared.scalar.ValueType.{ValueType}
use Rattle.lift_func.specs.BodyTree.{BodyTree}
use Rattle.lift_func.specs.Apply.{Answer, and_then, chosen, of_one, of_two, apply}
use Rattle.lift_func.specs.Typing.{ValueKind, HasKind, literal, argument, absent, one, two, choice}
use Rattle.flat_core.specs.declared.equation.Op.{Op}
use Rattle.flat_core.specs.Stream.{Outcome, Fault, event, is_fault}
use Rattle.flat_core.specs.Case.{Streams, case_of, root_fault}
use Rattle.flat_core.specs.Events.{Inputs, unit, at_zero, at_once, outcome_of, fault_of}
use Rattle.stream_constructs.specs.declared.construct.Stream.{Stream}
use Rattle.stream_constructs.specs.Construct as construct
use Rattle.stream_constructs.specs.Construct.{Construct, Operand, now, signal, outcome, root}
use Rattle.stream_constructs.specs.Equations.{numbers, equation, held_each, lifting, lifted_streams, literal_equations, operand_numbers, first_number, with_literals, own_equations}
use Rattle.stream_constructs.specs.Agree.{history_of, MakesStream}
use Rattle.stream_constructs.proofs.Numbered.{At, at_none, at_more, at_first, at_second, at_from, at_front, at_back, at_both}
use Rattle.stream_constructs.proofs.Fetched.{fetched, nones}
use Rattle.stream_constructs.proofs.LiftedOutcomes.{HasCase, some_fault, some_event, values_of, outcomes_of, literal_values, lifted_are, operands_are, operation_is}
use Rattle.stream_constructs.proofs.Making.{IsQuiet, no_root, no_literal_root, makes}

-- a body without arguments has the same answer at all values
pub closed : (f : BodyTree) (k : ValueKind) → HasKind [] f k → (vs : List (Option View)) → apply f vs ≡ apply f []
closed f k (literal same) vs = refl
closed f k (argument is) vs = absurd (none-some _ is)
closed f k absent vs = refl
closed f k (one {o} {a} h types) vs = ap (λ x. and_then x (of_one o)) (closed a _ h vs)
closed f k (two {o} {a} {b} h j types) vs = let left = closed a _ h vs in let right = closed b _ j vs in λ i. of_two o (left i) (right i)
closed f k (choice {c} {a} {b} h i j) vs =
    let test = closed c _ h vs in
    let left = closed a _ i vs in
    let right = closed b _ j vs in
    λ l. and_then (test l) (λ v. chosen v (left l) (right l))

-- where some part has an event and each has a value
pub both_tests : (some all : Bool) (x y : Answer) → (if some then (if all then x else y) else y) ≡ (if some && all then x else y)
both_tests true all x y = refl
both_tests false all x y = refl

module _ (inputs : Inputs) (z : Streams) (t : ℕ) where
  held_quiet : (p : Place) (n trigger : ℕ) (parts : List Stream) → At (IsQuiet inputs z t) n (held_each p n trigger parts)
  held_quiet p n trigger [] = at_none
  held_quiet p n trigger (a ∷ rest) = at_more (no_root _ None) (at_more (no_root _ None) (at_from (suc (suc n)) (omega arith) (held_quiet p (n + 2) trigger rest)))

  pub lifting_quiet : (p : Place) (n : ℕ) (parts : List Stream) → At (IsQuiet inputs z t) n (lifting p n parts)
  lifting_quiet p n [] = at_none
  lifting_quiet p n (a ∷ []) = at_none
  lifting_quiet p n (a ∷ b ∷ []) = at_more (no_root _ None) (at_more (no_root _ None) (at_more (no_root _ None) (at_more (no_root _ None) at_none)))
  lifting_quiet p n (a ∷ b ∷ c ∷ rest) = at_more (no_root _ None) (at_from (suc n) (omega arith) (held_quiet p (n + 1) n (a ∷ b ∷ c ∷ rest)))

  literals_quiet : (p : Place) (m first : ℕ) (os : List Operand) → At (IsQuiet inputs z t) m (literal_equations p first os)
  literals_quiet p m first [] = at_none
  literals_quiet p m first (construct.Fixed s ∷ os) = at_more (no_literal_root (is_fault (z first t) || false) (is_some (event (z first t)) && true) s) (literals_quiet p (suc m) first os)
  literals_quiet p m first (construct.Varying ∷ os) = literals_quiet p m first os

  number_outcomes : (up : List Stream) → map (λ i. z i t) (numbers up) ≡ outcomes_of inputs z t up
  number_outcomes [] = refl
  number_outcomes (a ∷ rest) = ap (λ os. z a.id t ∷ os) (number_outcomes rest)

  pub current_values : (parts : List Stream) → values_of inputs z t parts ≡ map (λ g. now g t) (history_of z parts)
  current_values [] = refl
  current_values (a ∷ rest) = ap (λ vs. now (z a.id) t ∷ vs) (current_values rest)

  pub current_all : (parts : List Stream) → list_all is_some (values_of inputs z t parts) ≡ list_all (λ g. is_some (now g t)) (history_of z parts)
  current_all [] = refl
  current_all (a ∷ rest) = ap (λ b. is_some (now (z a.id) t) && b) (current_all rest)

  -- an operation on some part
  pub signal_made : (p : Place) (of : ValueType) (n : ℕ) (f : BodyTree) (a : Stream) (parts : List Stream) → At (HasCase inputs z t) n (own_equations p of n (construct.Signal f) (a ∷ parts)) → MakesStream (construct.Signal f) (own_equations p of n (construct.Signal f) (a ∷ parts)) n (a ∷ parts) inputs z t
  signal_made p of n f a rest at =
      let parts = a ∷ rest in
      let lift = lifting p n parts in
      let up = lifted_streams n parts in
      let fault = some_fault inputs z t parts in
      let some = some_event inputs z t parts in
      let g : List (Option View) → Answer = λ vs. if list_all is_some vs then apply f vs else Ok None in
      let same = number_outcomes up ∙ lifted_are inputs z t p n parts (at_front lift _ at) in
      let answer : (if some then g (values_of inputs z t parts) else Ok None) ≡ signal (apply f) (history_of z parts) t =
      both_tests some (list_all is_some (values_of inputs z t parts)) (apply f (values_of inputs z t parts)) (Ok None)
      ∙ (λ k. if some && current_all parts k then apply f (current_values parts k) else Ok None) in
      makes inputs z t (construct.Signal f) n parts lift _ (lifting_quiet p n parts)
      (at_first (at_back lift _ at)
      ∙ operation_is inputs z t (Some Fault) outcome_of g (numbers up) fault some (now (z a.id) t) (values_of inputs z t rest) same
      ∙ ap (λ w. if fault then Some Fault else outcome_of w) answer)
      (operation_is inputs z t None fault_of g (numbers up) fault some (now (z a.id) t) (values_of inputs z t rest) same
      ∙ ap (λ w. if fault then None else fault_of w) answer)

  -- and on none
  alone_at : (f : BodyTree) (k : ValueKind) → HasKind [] f k → (t : ℕ) (o : Option Outcome) → o ≡ outcome_of (Ok (at_zero t unit)) → (if is_some (event o) && true then apply f (event o ∷ []) else Ok None) ≡ signal (apply f) [] t
  alone_at f k kind zero o is = (λ i. if is_some (event (is i)) && true then apply f (event (is i) ∷ []) else Ok None) ∙ closed f k kind (Some unit ∷ [])
  alone_at f k kind (suc u) o is = λ i. if is_some (event (is i)) && true then apply f (event (is i) ∷ []) else Ok None

  no_fault_at : (t : ℕ) → (is_fault (outcome_of (Ok (at_zero t unit))) || false) ≡ false
  no_fault_at zero = refl
  no_fault_at (suc u) = refl

  pub signal_alone_made : (p : Place) (of : ValueType) (n : ℕ) (f : BodyTree) (k : ValueKind) → HasKind [] f k → At (HasCase inputs z t) n (own_equations p of n (construct.Signal f) []) → MakesStream (construct.Signal f) (own_equations p of n (construct.Signal f) []) n [] inputs z t
  signal_alone_made p of n f k kind at =
      let is : z n t ≡ outcome_of (Ok (at_zero t unit)) = at_first at in
      let clear : (is_fault (z n t) || false) ≡ false = ap (λ o. is_fault o || false) is ∙ no_fault_at t in
      let answer = alone_at f k kind t (z n t) is in
      makes inputs z t (construct.Signal f) n [] (_ ∷ []) _ (at_more refl at_none)
      (at_second at ∙ (λ i. if clear i then Some Fault else outcome_of (answer i)))
      (λ i. if clear i then None else fault_of (answer i))

  first_outcome : (up : List Stream) (o : Option Outcome) (os : List (Option Outcome)) → outcomes_of inputs z t up ≡ o ∷ os → z (first_number up) t ≡ o
  first_outcome [] o os same = absurd (cc)
  first_outcome (a ∷ up) o os same = cc

  -- an operation o on operands of which some may be literals, with this answer
  pub literals_made :
      (p : Place) (o : Op) (of : ValueType) (n : ℕ) (os : List Operand) (a : Stream) (rest : List Stream)
      → ((i : ℕ) (args : List ℕ) → case_of inputs z i (equation p o args of) t ≡ (if list_any (λ b. is_fault (z b t)) args then Some Fault else outcome_of (at_once o of (map (λ b. event (z b t)) args) t)))
      → ((i : ℕ) (args : List ℕ) → root_fault inputs z i (equation p o args of) t ≡ (if list_any (λ b. is_fault (z b t)) args then None else fault_of (at_once o of (map (λ b. event (z b t)) args) t)))
      → (w : Option View) (ws : List (Option View)) → literal_values (now (z a.id) t) os (values_of inputs z t (a ∷ rest)) ≡ w ∷ ws
      → (answer : Answer) → (if some_event inputs z t (a ∷ rest) then at_once o of (w ∷ ws) t else at_once o of (nones (w ∷ ws)) t) ≡ answer
      → (c : Construct) → outcome inputs c (history_of z (a ∷ rest)) t ≡ (if some_fault inputs z t (a ∷ rest) then Some Fault else outcome_of answer)
      → root inputs c (history_of z (a ∷ rest)) t ≡ (if some_fault inputs z t (a ∷ rest) then None else fault_of answer)
      → At (HasCase inputs z t) n (with_literals p o of n os (a ∷ rest))
      → MakesStream c (with_literals p o of n os (a ∷ rest)) n (a ∷ rest) inputs z t
  literals_made p o of n os a rest case_is root_is w ws values answer is c outcome_is root_of at =
      let parts = a ∷ rest in
      let lift = lifting p n parts in
      let up = lifted_streams n parts in
      let fault = some_fault inputs z t parts in
      let some = some_event inputs z t parts in
      let literals = literal_equations p (first_number up) os in
      let g : List (Option View) → Answer = λ vs. at_once o of vs t in
      let before = at_front (lift ++ literals) _ at in
      let outcomes = lifted_are inputs z t p n parts (at_front lift literals before) in
      let args = operand_numbers (n + length lift) os (numbers up) in
      let same : map (λ i. z i t) args ≡ map (fetched fault some) (w ∷ ws) =
      operands_are inputs z t p (first_number up) (n + length lift) fault some (now (z a.id) t) os up (values_of inputs z t parts) (first_outcome up _ _ outcomes) outcomes (at_back lift literals before)
      ∙ ap (map (fetched fault some)) values in
      makes inputs z t c n parts (lift ++ literals) _ (at_both lift literals (lifting_quiet p n parts) (literals_quiet p (n + length lift) (first_number up) os))
      (at_first (at_back (lift ++ literals) _ at) ∙ case_is _ args
      ∙ operation_is inputs z t (Some Fault) outcome_of g args fault some w ws same
      ∙ ap (λ x. if fault then Some Fault else outcome_of x) is ∙ sym outcome_is)
      (root_is _ args
      ∙ operation_is inputs z t None fault_of g args fault some w ws same
      ∙ ap (λ x. if fault then None else fault_of x) is ∙ sym root_of)
