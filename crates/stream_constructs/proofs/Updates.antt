-- An update, and a choice between aggregates, make what they make of current values.
use Rattle.std.proofs.Common.{◌≡◌, ℕ, Bool, true, false, ◌&&◌, List, [], ◌∷◌, map, Option, Some, None, Ok, refl, sym, ap, ◌∙◌}
use Rattle.std.proofs.lemmas.Bool.{false≢true}
use Rattle.std.specs.List.{list_any, list_all}
use Rattle.std.specs.Prelude.{if◌then◌else◌, is_some}
use Rattle.std.specs.Option.{option_map}
use Rattle.tsl_value.specs.View.{View, Plain}
use Rattle.tsl_value.specs.declared.place.Place.{Place}
use Rattle.tsl_value.specs.declared.scalar.Scalar.{Scalar}
use Rattle.tsl_value.specs.declared.scalar.Scalar.TheVariants as scalar
use Rattle.tsl_value.specs.declared.scalar.ValueType.{ValueType}
use Rattle.lift_func.specs.Apply.{Answer, chosen}
use Rattle.lift_func.specs.Update.{all_of, update_of, update_answer}
use Rattle.flat_core.specs.declared.equation.Op.TheVariants as op
use Rattle.flat_core.specs.Case.{Streams, case_of, root_fault}
use Rattle.flat_core.specs.Events.{Inputs, picked, at_once, fault_of, outcome_of}
use Rattle.flat_core.specs.Stream.{Fault, event, is_fault}
use Rattle.flat_core.specs.Updates.{operation_of}
use Rattle.flat_core.proofs.UpdateOps.{own_once}
use Rattle.stream_constructs.specs.declared.construct.Stream.{Stream}
use Rattle.tsl_value.specs.declared.operation.Update.{Update}
use Rattle.tsl_value.specs.declared.operation.Update.TheVariants as update
use Rattle.stream_constructs.specs.Construct as construct
use Rattle.stream_constructs.specs.Construct.{Operand, now, operand_trees, operand_values, signal}
use Rattle.stream_constructs.specs.Equations.{equation, own_equations, choice_equations, choice}
use Rattle.stream_constructs.specs.Agree.{AreOperands, MakesStream, history_of}
use Rattle.stream_constructs.proofs.Fetched.{nones}
use Rattle.stream_constructs.proofs.Numbered.{At}
use Rattle.stream_constructs.proofs.LiftedOutcomes.{HasCase, some_event, values_of, literal_values}
use Rattle.stream_constructs.proofs.SignalsMade.{both_tests, current_values, current_all, literals_made}
use Rattle.stream_constructs.proofs.Operands.{Behind, Chooses, after, by_literal, by_stream}

-- the answer of an operation on some event, where it makes nothing unless all values are there
abbrev Answers : Bool → Bool → Answer → Answer → Type 0
Answers some all made told = ◌≡◌ {A = Answer} (if some then made else Ok None) (if some && all then told else Ok None)

-- as many values as there are operands that vary
abbrev AreFor : List Operand → List (Option View) → Type 0
AreFor [] [] = Unit {0}
AreFor (construct.Fixed s ∷ os) vs = AreFor os vs
AreFor (construct.Varying ∷ os) (v ∷ vs) = AreFor os vs
AreFor _ _ = ⊥

-- beside a value that is there a literal is itself
literals_there : (v : View) (os : List Operand) (vs : List (Option View)) → AreFor os vs → literal_values (Some v) os vs ≡ operand_values os vs
literals_there v [] [] are = refl
literals_there v [] (w ∷ vs) are = absurd are
literals_there v (construct.Fixed s ∷ os) vs are = ap (λ l. Some (Plain s) ∷ l) (literals_there v os vs are)
literals_there v (construct.Varying ∷ os) [] are = absurd are
literals_there v (construct.Varying ∷ os) (w ∷ vs) are = ap (λ l. w ∷ l) (literals_there v os vs are)

-- where one of the values is not there, not all operands are
one_missing : (x : Option View) (os : List Operand) (vs : List (Option View)) → AreFor os vs → list_all is_some vs ≡ false → all_of (literal_values x os vs) ≡ None
one_missing x [] [] are missing = absurd (false≢true (sym missing))
one_missing x [] (w ∷ vs) are missing = absurd are
one_missing None (construct.Fixed s ∷ os) vs are missing = refl
one_missing (Some v) (construct.Fixed s ∷ os) vs are missing = ap (option_map (λ l. Plain s ∷ l)) (one_missing (Some v) os vs are missing)
one_missing x (construct.Varying ∷ os) [] are missing = absurd are
one_missing x (construct.Varying ∷ os) (None ∷ vs) are missing = refl
one_missing x (construct.Varying ∷ os) (Some w ∷ vs) are missing = ap (option_map (λ l. w ∷ l)) (one_missing x os vs are missing)

-- an update of operands of which the first varies, where it makes nothing unless all values are there
all_there : (o : Update) (x : Option View) (os : List Operand) (vs : List (Option View)) → AreFor os vs
    → update_answer o (x ∷ literal_values x os vs) ≡ (if is_some x && list_all is_some vs then update_answer o (x ∷ operand_values os vs) else Ok None)
all_there o None os vs are = refl
all_there o (Some v) os vs are = at (list_all is_some vs) refl
  where
    at : (b : Bool) → list_all is_some vs ≡ b → update_answer o (Some v ∷ literal_values (Some v) os vs) ≡ (if b then update_answer o (Some v ∷ operand_values os vs) else Ok None)
    at true is = ap (λ l. update_answer o (Some v ∷ l)) (literals_there v os vs are)
    at false is = ap (λ l. update_of o (option_map (λ vs. v ∷ vs) l)) (one_missing (Some v) os vs are is)

choice_varies : (some : Bool) (c x y : Option View) → Answers some (is_some c && (is_some x && (is_some y && true))) (Ok (picked c x y)) (chosen c (Ok x) (Ok y))
choice_varies false c x y = refl
choice_varies true None x y = refl
choice_varies true (Some (Plain (scalar.Bool true))) None y = refl
choice_varies true (Some (Plain (scalar.Bool true))) (Some u) None = refl
choice_varies true (Some (Plain (scalar.Bool true))) (Some u) (Some v) = refl
choice_varies true (Some (Plain (scalar.Bool false))) None y = refl
choice_varies true (Some (Plain (scalar.Bool false))) (Some u) None = refl
choice_varies true (Some (Plain (scalar.Bool false))) (Some u) (Some v) = refl
choice_varies true (Some w) None y = refl
choice_varies true (Some w) (Some u) None = refl
choice_varies true (Some w) (Some u) (Some v) = refl

choice_fixed : (s : Scalar) (some : Bool) (x y : Option View) → Answers some (is_some x && (is_some y && true)) (Ok (picked (option_map (λ u. Plain s) x) x y)) (chosen (Some (Plain s)) (Ok x) (Ok y))
choice_fixed s false x y = refl
choice_fixed (scalar.Bool true) true None y = refl
choice_fixed (scalar.Bool true) true (Some u) None = refl
choice_fixed (scalar.Bool true) true (Some u) (Some v) = refl
choice_fixed (scalar.Bool false) true None y = refl
choice_fixed (scalar.Bool false) true (Some u) None = refl
choice_fixed (scalar.Bool false) true (Some u) (Some v) = refl
choice_fixed s true None y = refl
choice_fixed s true (Some u) None = refl
choice_fixed s true (Some u) (Some v) = refl

module _ (p : Place) (of : ValueType) (n : ℕ) (inputs : Inputs) (z : Streams) (t : ℕ) where
  operands_are_for : (os : List Operand) (parts : List Stream) (ts : List ValueType) → AreOperands os parts ts → AreFor os (values_of inputs z t parts)
  operands_are_for [] [] [] are = tt
  operands_are_for [] [] (u ∷ ts) are = absurd are
  operands_are_for [] (a ∷ parts) ts are = absurd are
  operands_are_for (construct.Fixed s ∷ os) parts [] are = absurd are
  operands_are_for (construct.Fixed s ∷ os) parts (u ∷ ts) are = operands_are_for os parts ts are.1
  operands_are_for (construct.Varying ∷ os) [] ts are = absurd are
  operands_are_for (construct.Varying ∷ os) (a ∷ parts) [] are = absurd are
  operands_are_for (construct.Varying ∷ os) (a ∷ parts) (u ∷ ts) are = operands_are_for os parts ts are.1

  own_case : (o : Update) (i : ℕ) (args : List ℕ) → case_of inputs z i (equation p (operation_of o) args of) t ≡ (if list_any (λ b. is_fault (z b t)) args then Some Fault else outcome_of (at_once (operation_of o) of (map (λ b. event (z b t)) args) t))
  own_case update.SetAdd i args = refl
  own_case o i args = refl

  own_root : (o : Update) (i : ℕ) (args : List ℕ) → root_fault inputs z i (equation p (operation_of o) args of) t ≡ (if list_any (λ b. is_fault (z b t)) args then None else fault_of (at_once (operation_of o) of (map (λ b. event (z b t)) args) t))
  own_root update.SetAdd i args = refl
  own_root o i args = refl

  update_is : (o : Update) (a : Stream) (os : List Operand) (rest : List Stream) → AreFor os (values_of inputs z t rest)
      → (if some_event inputs z t (a ∷ rest) then at_once (operation_of o) of (now (z a.id) t ∷ literal_values (now (z a.id) t) os (values_of inputs z t rest)) t else at_once (operation_of o) of (nones (now (z a.id) t ∷ literal_values (now (z a.id) t) os (values_of inputs z t rest))) t)
      ≡ signal (λ vs. update_answer o (operand_values (construct.Varying ∷ os) vs)) (history_of z (a ∷ rest)) t
  update_is o a os rest are =
      let some = some_event inputs z t (a ∷ rest) in
      let x = now (z a.id) t in
      let vs = values_of inputs z t rest in
      let each = own_once o of in
      (λ k. if some then each (x ∷ literal_values x os vs) t k else each (nones (x ∷ literal_values x os vs)) t k)
      ∙ (λ k. if some then all_there o x os vs are k else Ok None)
      ∙ both_tests some (list_all is_some (x ∷ vs)) (update_answer o (operand_values (construct.Varying ∷ os) (x ∷ vs))) (Ok None)
      ∙ (λ k. if some && current_all inputs z t (a ∷ rest) k then update_answer o (operand_values (construct.Varying ∷ os) (current_values inputs z t (a ∷ rest) k)) else Ok None)

  pub update_made : (o : Update) (ts : List ValueType) {os : List Operand} {parts : List Stream} → Behind (λ os parts. AreOperands os parts ts) os parts
      → At (HasCase inputs z t) n (own_equations p of n (construct.Update o os) parts) → MakesStream (construct.Update o os) (own_equations p of n (construct.Update o os) parts) n parts inputs z t
  update_made o ts (after {a} {os} {parts = rest} operands) at =
      literals_made inputs z t p (operation_of o) of n (construct.Varying ∷ os) a rest (own_case o) (own_root o) (now (z a.id) t) (literal_values (now (z a.id) t) os (values_of inputs z t rest)) refl
      (signal (λ vs. update_answer o (operand_values (construct.Varying ∷ os) vs)) (history_of z (a ∷ rest)) t)
      (update_is o a os rest (operands_are_for os rest ts operands))
      (construct.Update o (construct.Varying ∷ os)) refl refl at

  pub choice_made : {os : List Operand} {parts : List Stream} → Chooses os parts → At (HasCase inputs z t) n (choice_equations p of n os parts) → MakesStream (construct.Signal (choice (operand_trees 0 os))) (choice_equations p of n os parts) n parts inputs z t
  choice_made (by_literal {s} {a} {b}) at =
      literals_made inputs z t p op.Pick of n (construct.Fixed s ∷ construct.Varying ∷ construct.Varying ∷ []) a (b ∷ []) (λ i args. refl) (λ i args. refl) (option_map (λ u. Plain s) (now (z a.id) t)) (now (z a.id) t ∷ now (z b.id) t ∷ []) refl _
      (choice_fixed s (some_event inputs z t (a ∷ b ∷ [])) (now (z a.id) t) (now (z b.id) t))
      (construct.Signal (choice (operand_trees 0 (construct.Fixed s ∷ construct.Varying ∷ construct.Varying ∷ [])))) refl refl at
  choice_made (by_stream {c} {a} {b}) at =
      literals_made inputs z t p op.Pick of n (construct.Varying ∷ construct.Varying ∷ construct.Varying ∷ []) c (a ∷ b ∷ []) (λ i args. refl) (λ i args. refl) (now (z c.id) t) (now (z a.id) t ∷ now (z b.id) t ∷ []) refl _
      (choice_varies (some_event inputs z t (c ∷ a ∷ b ∷ [])) (now (z c.id) t) (now (z a.id) t) (now (z b.id) t))
      (construct.Signal (choice (operand_trees 0 (construct.Varying ∷ construct.Varying ∷ construct.Varying ∷ [])))) refl refl at
