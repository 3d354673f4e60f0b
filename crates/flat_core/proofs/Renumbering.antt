-- A system with other numbers has what a system has, where each number is of an equation of the same type.
use Rattle.std.proofs.Common.{◌≡◌, ℕ, ◌<◌, List, [], ◌∷◌, map, length, Option, Some, None, refl, sym, ap, subst, ◌∙◌, arith}
use Rattle.std.specs.Option.{option_map}
use Rattle.std.specs.List.Sorted.{IsStrictlyIncreasing}
use Rattle.std.proofs.lemmas.List.{length-map}
use Rattle.std.proofs.lemmas.Option.{same_Some, slice_get-map, slice_get_within}
use Rattle.tsl_value.specs.declared.scalar.ValueType.{ValueType}
use Rattle.flat_core.specs.declared.equation.Equation.{Equation}
use Rattle.flat_core.specs.declared.equation.Output.{Output}
use Rattle.flat_core.specs.Complete.{HasShortBody, HaveDifferentNames, IsComplete, IsFlat}
use Rattle.flat_core.specs.Renumbered.{new_number, with_new_args, with_new_equation, renumbered}
use Rattle.flat_core.specs.System.{System, equation, OutputsRun, IsProper}
use Rattle.flat_core.specs.TypedSystem.{IsOfType, AreOfTypes, IsTypedEquation, IsTypedSystem}
use Rattle.flat_core.proofs.Finished.{equation_there}
use Rattle.flat_core.proofs.Members.{all_map}
use Rattle.flat_core.proofs.Uniqueness.{all_by}

pub old_of : {A : Type 0} (g : A → A) (o : Option A) (y : A) → option_map g o ≡ Some y → (x : A) × (o ≡ Some x) × (g x ≡ y)
old_of g None y is = absurd (cc)
old_of g (Some x) y is = (x, refl, same_Some (g x) y is)

-- the names of outputs stay different
pub names_differ : (replaced : List ℕ) (outputs : List Output) → HaveDifferentNames outputs → HaveDifferentNames (map (with_new_equation replaced) outputs)
names_differ replaced [] differ = tt
names_differ replaced (o ∷ outputs) differ = (all_map (with_new_equation replaced) (λ p. ¬ (p.name ≡ o.name)) outputs differ.0, names_differ replaced outputs differ.1)

-- without numbers all stays
pub same_numbers : (ids : List ℕ) → map (new_number []) ids ≡ ids
same_numbers [] = refl
same_numbers (i ∷ ids) = ap (λ rest. i ∷ rest) (same_numbers ids)

pub same_equations : (equations : List Equation) → map (with_new_args []) equations ≡ equations
same_equations [] = refl
same_equations (e ∷ equations) = λ k. record e { args = same_numbers e.args k } ∷ same_equations equations k

module _ (s : System) (replaced running : List ℕ) where
  pub new_equation : (i : ℕ) (e : Equation) → equation s i ≡ Some e → equation (renumbered s replaced running) i ≡ Some (with_new_args replaced e)
  new_equation i e is = slice_get-map (with_new_args replaced) s.equations i ∙ ap (option_map (with_new_args replaced)) is

  pub old_equation : (i : ℕ) (f : Equation) → equation (renumbered s replaced running) i ≡ Some f → (e : Equation) × (equation s i ≡ Some e) × (with_new_args replaced e ≡ f)
  old_equation i f is = old_of (with_new_args replaced) (equation s i) f (sym (slice_get-map (with_new_args replaced) s.equations i) ∙ is)

  module _ (same_type : (i : ℕ) (t : ValueType) → IsOfType s.equations i t → IsOfType s.equations (new_number replaced i) t) where
    new_type : (a : ℕ) (t : ValueType) → IsOfType s.equations a t → IsOfType (renumbered s replaced running).equations (new_number replaced a) t
    new_type a t of =
        let new = same_type a t of in
        record { at = with_new_args replaced new.at; is = new_equation (new_number replaced a) new.at new.is; of_is = new.of_is }

    new_types : (args : List ℕ) (types : List ValueType) → AreOfTypes s.equations args types → AreOfTypes (renumbered s replaced running).equations (map (new_number replaced) args) types
    new_types [] [] of = tt
    new_types [] (t ∷ types) of = of
    new_types (a ∷ args) [] of = of
    new_types (a ∷ args) (t ∷ types) of = (new_type a t of.0, new_types args types of.1)

    pub renumbered_typed : IsTypedSystem s → IsTypedSystem (renumbered s replaced running)
    renumbered_typed typed = record {
      each = λ i f is.
          let old = old_equation i f is in
          let of = typed.each i old.0 old.1 in
          let new : IsTypedEquation (renumbered s replaced running).equations (with_new_args replaced old.0) = record { types = of.types; arguments = new_types old.0.args of.types of.arguments; typed = of.typed } in
          subst (IsTypedEquation (renumbered s replaced running).equations) old.2 new;
    }

    same_count : length (renumbered s replaced running).equations ≡ length s.equations
    same_count = length-map s.equations (with_new_args replaced)

    new_there : (o : Output) → o.equation < length s.equations → new_number replaced o.equation < length (renumbered s replaced running).equations
    new_there o lt =
        let there = equation_there s.equations o.equation lt in
        let new = same_type o.equation there.0.of (record { at = there.0; is = there.1; of_is = refl }) in
        let low = slice_get_within s.equations (new_number replaced o.equation) new.at new.is in
        let count = same_count in
        omega arith

    pub renumbered_complete : IsComplete s → IsComplete (renumbered s replaced running)
    renumbered_complete complete = record {
      typed = renumbered_typed complete.typed;
      some_output = (let some = complete.some_output in let count = length-map s.outputs (with_new_equation replaced) in omega arith);
      outputs_there = all_map (with_new_equation replaced) (λ o. o.equation < length (renumbered s replaced running).equations) s.outputs (all_by (λ o. o.equation < length s.equations) (λ o. new_number replaced o.equation < length (renumbered s replaced running).equations) new_there s.outputs complete.outputs_there);
      names_differ = names_differ replaced s.outputs complete.names_differ;
      short_texts = all_map (with_new_args replaced) (λ e. HasShortBody e.op) s.equations complete.short_texts;
    }

    pub renumbered_flat : IsFlat s → IsStrictlyIncreasing running → OutputsRun (renumbered s replaced running) → IsProper (renumbered s replaced running) → IsFlat (renumbered s replaced running)
    renumbered_flat flat ascending outputs_run proper = record {
      complete = renumbered_complete flat.complete;
      few_equations = (let few = flat.few_equations in let count = same_count in omega arith);
      few_outputs = (let few = flat.few_outputs in let count = length-map s.outputs (with_new_equation replaced) in omega arith);
      ascending = ascending;
      outputs_run = outputs_run;
      proper = proper;
    }
