-- The flat system of a checked specification is complete.
use Rattle.std.proofs.Common.{◌≡◌, ℕ, ◌+◌, List, [], ◌∷◌, ◌++◌, length, ap, sym, subst, ◌∙◌, arith, length-append}
use Rattle.std.specs.Prelude.{slice_get}
use Rattle.std.specs.List.{AllByRecursion}
use Rattle.tsl_value.specs.declared.scalar.ValueType.{ValueType}
use Rattle.flat_core.specs.declared.equation.Equation.{Equation}
use Rattle.flat_core.specs.Complete.{IsComplete, HasShortBody}
use Rattle.flat_core.specs.System.{System}
use Rattle.flat_core.specs.TypedSystem.{IsOfType, AreOfTypes, IsTypedEquation, IsTypedSystem}
use Rattle.flat_core.proofs.Members.{all_append}
use Rattle.flat_core.proofs.Uniqueness.{all_by}
use Rattle.syntax_tree.specs.Tree as tree
use Rattle.name_check.specs.Scope.{functions_of, top}
use Rattle.type_rules.specs.Kinds.{Kinds}
use Rattle.spec_meaning.specs.Flat.{IsFlatOf}
use Rattle.checked_spec.specs.inner.Checked.{IsChecked}
use Rattle.checked_spec.proofs.OwnNames.{lift_is_no_function}
use Rattle.flat_meaning.proofs.Built.{TheLaws}
use Rattle.flat_meaning.proofs.FromLaws.{the_laws}
use Rattle.tsl_value.proofs.Lists.{all_by_place}
use Rattle.flat_meaning.proofs.Plain.{plain, original, Within, within_left, within_right, all_within}
use Rattle.flat_meaning.specs.inner.Complete.{HasOutputs, FlatsAreComplete}
use Rattle.flat_meaning.proofs.ShortTexts.{AreBodiesShort, bodies_short}
use Rattle.flat_meaning.proofs.ShortFunctions.{HasNoLift}
use Rattle.flat_meaning.proofs.Streams.{IsThere, IsTopThere}
use Rattle.flat_meaning.proofs.Derived.{IsGood, AreGood}
use Rattle.flat_meaning.proofs.Items.{inputs_good, inputs_there, streams_there, streams_good}
use Rattle.flat_meaning.proofs.Outputs.{outputs_count, names_differ, AreOutputsGood, outputs_good}

-- ---- types do not look at names
module _ (s : System) where
  named_type : (a : ℕ) (t : ValueType) → IsOfType (plain s).equations a t → IsOfType s.equations a t
  named_type a t h = let found = original s a h.at h.is in record { at = found.0; is = found.1; of_is = ap (λ (e : Equation). e.of) found.2 ∙ h.of_is }

  named_types : (args : List ℕ) (ts : List ValueType) → AreOfTypes (plain s).equations args ts → AreOfTypes s.equations args ts
  named_types [] [] h = tt
  named_types (a ∷ args) (t ∷ ts) h = (named_type a t h.0, named_types args ts h.1)
  named_types [] (t ∷ ts) h = absurd h
  named_types (a ∷ args) [] h = absurd h

  named_equation : (e : Equation) → IsTypedEquation (plain s).equations e → IsTypedEquation s.equations e
  named_equation e h = record { types = h.types; arguments = named_types e.args h.types h.arguments; typed = h.typed }

module _ (items : List tree.Item) (kinds : Kinds) (s : System) (laws : TheLaws) (checked : IsChecked items kinds) (bodies : AreBodiesShort items) (no_lift : HasNoLift (functions_of (top items))) (of : IsFlatOf items kinds s.equations s.outputs) where
  front : Within s 0 (of.inputs ++ of.streams)
  front = within_left s 0 (of.inputs ++ of.streams) of.printed (all_within s (of.inputs ++ of.streams ++ of.printed) of.equations_are)

  streams_within : Within s (length of.inputs) of.streams
  streams_within = let from : 0 + length of.inputs ≡ length of.inputs = omega arith in subst (λ n. Within s n of.streams) from (within_right s 0 of.inputs of.streams front)

  printed_within : Within s (length of.inputs + length of.streams) of.printed
  printed_within =
      let from : 0 + length (of.inputs ++ of.streams) ≡ length of.inputs + length of.streams = omega (arith, length-append of.inputs of.streams) in
      subst (λ n. Within s n of.printed) from (within_right s 0 (of.inputs ++ of.streams) of.printed (all_within s (of.inputs ++ of.streams ++ of.printed) of.equations_are))

  from_first : (i : ℕ) → IsThere items kinds of.top s (of.top (0 + i)) → IsThere items kinds of.top s (of.top i)
  from_first i h = let same : 0 + i ≡ i = omega arith in subst (λ j. IsThere items kinds of.top s (of.top j)) same h

  tops : IsTopThere items kinds of.top s
  tops = record {
    inputs = λ i is. from_first i (inputs_there items kinds of.top s laws of.makes_inputs (within_left s 0 of.inputs of.streams front) i is);
    streams = λ i is. from_first i (streams_there items kinds of.top s laws of.makes_streams streams_within i is);
  }

  printed_good : AreOutputsGood items kinds of.top s laws tops bodies no_lift of.printed s.outputs
  printed_good = outputs_good items kinds of.top s laws tops bodies no_lift (record { each = λ p q e n there. bodies.output p q e n there }) of.makes_outputs printed_within

  all_good : AreGood items kinds of.top s laws s.equations
  all_good =
      let Good : Equation → Type 0 = IsGood items kinds of.top s laws in
      let inputs = inputs_good items kinds of.top s laws checked.scalar_inputs of.makes_inputs in
      let streams = streams_good items kinds of.top s laws tops bodies no_lift (λ k. let same : 0 + k ≡ k = omega arith in ap (slice_get items) same) of.makes_streams streams_within in
      subst (AllByRecursion Good) (sym of.equations_are) (all_append Good (of.inputs ++ of.streams) of.printed (all_append Good of.inputs of.streams inputs streams) printed_good.good)

  typed : IsTypedSystem s
  typed = record { each = λ i e is. named_equation s e (all_by_place (IsGood items kinds of.top s laws) s.equations all_good i e is).typed }

  complete : HasOutputs items → IsComplete s
  complete outputs = record {
    typed = typed;
    some_output = let count = outputs_count items kinds of.top of.makes_outputs in let some = outputs.some in omega arith;
    outputs_there = printed_good.there;
    names_differ = names_differ items kinds of.top outputs.once of.makes_outputs;
    short_texts = all_by (IsGood items kinds of.top s laws) (λ e. HasShortBody e.op) (λ e h. h.short) s.equations all_good;
  }

pub flats_are_complete : FlatsAreComplete
flats_are_complete items kinds s checked outputs short of =
    complete items kinds s the_laws checked (bodies_short items short) (record { none = λ j is. lift_is_no_function items kinds j checked is }) of outputs
