-- Whole specifications: their inputs, their definitions of the top and their outputs.
use Rattle.definition_cycles.specs.declared.limits.TheConstants.{MOST_CALLS}
use Rattle.std.proofs.Common.{◌≡◌, ℕ, zero, suc, ◌+◌, true, false, List, [], ◌∷◌, ◌++◌, map, Some, refl, ap, sym, subst, ◌∙◌, arith}
use Rattle.std.specs.Prelude.{if◌then◌else◌, slice_get}
use Rattle.std.specs.Option.{option_map}
use Rattle.std.proofs.lemmas.Bool.{true≢false}
use Rattle.std.proofs.lemmas.List.{map-append}
use Rattle.flat_core.specs.declared.equation.Equation.{Equation}
use Rattle.flat_core.specs.declared.equation.Output.{Output}
use Rattle.syntax_tree.specs.Tree as tree
use Rattle.syntax_tree.specs.Tree.{Expr}
use Rattle.type_rules.specs.declared.rule.ExprType.TheVariants as expr_type
use Rattle.type_rules.specs.Kinds.{Kinds}
use Rattle.expr_types.specs.Bodies.{at_top, item_kind}
use Rattle.stream_constructs.specs.declared.construct.Stream.{Stream}
use Rattle.spec_meaning.specs.Occurrence.{result_of}
use Rattle.spec_meaning.specs.Flat.{IsFlatOf, MakesInputs, MakesOutputs, MakesPrinted, MakesStreams, named, outermost}
use Rattle.spec_meaning.specs.Flat as flat
use Rattle.checked_spec.specs.inner.Checked.{IsChecked}
use Rattle.checked_spec.specs.inner.Formed.{is_input, is_stream}
use Rattle.equation_marks.specs.Marks.{input_marks, macro_marks, mark_of, marks, output_marks, printed_marks, stream_marks}
use Rattle.equation_marks.specs.Refused.{refused}
use Rattle.equation_marks.proofs.CallMarks.{named_marks_are}
use Rattle.equation_marks.proofs.Refusing.{refusal_marks}
use Rattle.macro_flatten.specs.inner.Making.{MayMake}
use Rattle.macro_flatten.specs.inner.Laws.{FlatsHaveTheMarks, RefusalsAreThoseOfMarks}
use Rattle.macro_flatten.proofs.Allowed.{HaveStreams, body_top_may, named_output_top_may, output_top_may}
use Rattle.macro_flatten.proofs.Inputs.{event_stream}
use Rattle.macro_flatten.proofs.Marked.{body_marked, marked, placed_of}

-- ---- items after the first ones
abbrev Behind : List tree.Item → ℕ → List tree.Item → Type 0
Behind items i rest = (k : ℕ) → slice_get items (i + k) ≡ slice_get rest k

first_item : (items : List tree.Item) (i : ℕ) (item : tree.Item) (rest : List tree.Item) → Behind items i (item ∷ rest) → slice_get items i ≡ Some item
first_item items i item rest same = let e : i ≡ i + 0 = omega arith in ap (slice_get items) e ∙ same 0

other_items : (items : List tree.Item) (i : ℕ) (item : tree.Item) (rest : List tree.Item) → Behind items i (item ∷ rest) → Behind items (suc i) rest
other_items items i item rest same k = let e : suc i + k ≡ i + suc k = omega arith in ap (slice_get items) e ∙ same (suc k)

module _ (items : List tree.Item) (kinds : Kinds) (streams : ℕ → Stream) (is_checked : IsChecked items kinds) where
  -- ---- inputs and definitions have streams of their types
  abbrev IsOfItsType : ℕ → Type 0
  IsOfItsType i = kinds.item i ≡ Some (expr_type.Stream (streams i).of)

  here : (i : ℕ) → IsOfItsType i → IsOfItsType (i + 0)
  here i h = let e : i ≡ i + 0 = omega arith in subst IsOfItsType e h

  later : (i k : ℕ) → IsOfItsType (suc i + k) → IsOfItsType (i + suc k)
  later i k h = let e : suc i + k ≡ i + suc k = omega arith in subst IsOfItsType e h

  inputs_typed : {i n : ℕ} {rest : List tree.Item} {made : List Equation} → Behind items i rest → MakesInputs items kinds streams i rest n made → (k : ℕ) → is_input (slice_get rest k) ≡ true → IsOfItsType (i + k)
  inputs_typed same flat.MakesInputs.end k is = absurd (true≢false (sym is))
  inputs_typed {i} same (flat.MakesInputs.input {p = p} {q = q} {x = x} {y = y} {rest = rest} of made events top_is more all_is) zero is =
      here i
      (is_checked.are_kinds.items_are i ∙ ap (item_kind items kinds i) (first_item items i (tree.Input p q x y) rest same)
      ∙ event_stream y ∙ ap (option_map expr_type.Stream) events ∙ ap (λ v. Some (expr_type.Stream v)) (sym (ap (λ (s : Stream). s.of) top_is)))
  inputs_typed {i} same (flat.MakesInputs.input {rest = rest} of made events top_is more all_is) (suc k) is = later i k (inputs_typed (other_items items i _ rest same) more k is)
  inputs_typed same (flat.MakesInputs.defined more) zero is = absurd (true≢false (sym is))
  inputs_typed {i} same (flat.MakesInputs.defined {rest = rest} more) (suc k) is = later i k (inputs_typed (other_items items i _ rest same) more k is)
  inputs_typed same (flat.MakesInputs.output more) zero is = absurd (true≢false (sym is))
  inputs_typed {i} same (flat.MakesInputs.output {rest = rest} more) (suc k) is = later i k (inputs_typed (other_items items i _ rest same) more k is)
  inputs_typed same (flat.MakesInputs.output_as more) zero is = absurd (true≢false (sym is))
  inputs_typed {i} same (flat.MakesInputs.output_as {rest = rest} more) (suc k) is = later i k (inputs_typed (other_items items i _ rest same) more k is)

  definitions_typed : {i n : ℕ} {rest : List tree.Item} {made : List Equation} → MakesStreams items kinds streams i rest n made → (k : ℕ) → is_stream (slice_get rest k) ≡ true → IsOfItsType (i + k)
  definitions_typed flat.MakesStreams.end k is = absurd (true≢false (sym is))
  definitions_typed {i} (flat.MakesStreams.stream s first made top_is typed one more all_is) zero is =
      here i (typed ∙ ap (λ (a : Stream). Some (expr_type.Stream a.of)) (sym top_is))
  definitions_typed {i} (flat.MakesStreams.stream s first made top_is typed one more all_is) (suc k) is = later i k (definitions_typed more k is)
  definitions_typed (flat.MakesStreams.with_parameters more) zero is = absurd (true≢false (sym is))
  definitions_typed {i} (flat.MakesStreams.with_parameters more) (suc k) is = later i k (definitions_typed more k is)
  definitions_typed (flat.MakesStreams.input more) zero is = absurd (true≢false (sym is))
  definitions_typed {i} (flat.MakesStreams.input more) (suc k) is = later i k (definitions_typed more k is)
  definitions_typed (flat.MakesStreams.output more) zero is = absurd (true≢false (sym is))
  definitions_typed {i} (flat.MakesStreams.output more) (suc k) is = later i k (definitions_typed more k is)
  definitions_typed (flat.MakesStreams.output_as more) zero is = absurd (true≢false (sym is))
  definitions_typed {i} (flat.MakesStreams.output_as more) (suc k) is = later i k (definitions_typed more k is)

  -- ---- their marks
  inputs_marked : {i n : ℕ} {rest : List tree.Item} {made : List Equation} → MakesInputs items kinds streams i rest n made → map mark_of made ≡ input_marks items kinds rest
  inputs_marked flat.MakesInputs.end = refl
  inputs_marked (flat.MakesInputs.input {q = q} of made events top_is more all_is) =
      ap (map mark_of) all_is ∙ ap (λ ms. record { place = q; is_update = false } ∷ ms) (inputs_marked more)
  inputs_marked (flat.MakesInputs.defined more) = inputs_marked more
  inputs_marked (flat.MakesInputs.output more) = inputs_marked more
  inputs_marked (flat.MakesInputs.output_as more) = inputs_marked more

  module _ (have : HaveStreams items kinds streams) where
    streams_marked : {i n : ℕ} {rest : List tree.Item} {made : List Equation} → Behind items i rest → MakesStreams items kinds streams i rest n made → map mark_of made ≡ stream_marks items kinds i rest
    streams_marked same flat.MakesStreams.end = refl
    streams_marked {i} same (flat.MakesStreams.stream {p = p} {q = q} {x = x} {w = w} {b = b} {rest = rest} s first made top_is typed one more all_is) =
        let may = body_top_may items kinds streams have i p q x w b (first_item items i _ rest same) in
        let placed = placed_of items kinds streams is_checked (at_top items kinds i) outermost MOST_CALLS (result_of b) may in
        let head = named_marks_are x first ∙ (body_marked items kinds streams is_checked placed one).marks_are in
        let tail = streams_marked (other_items items i _ rest same) more in
        ap (map mark_of) all_is ∙ map-append mark_of (named x first) made ∙ (λ k. head k ++ tail k)
    streams_marked {i} same (flat.MakesStreams.with_parameters {rest = rest} more) = streams_marked (other_items items i _ rest same) more
    streams_marked {i} same (flat.MakesStreams.input {rest = rest} more) = streams_marked (other_items items i _ rest same) more
    streams_marked {i} same (flat.MakesStreams.output {rest = rest} more) = streams_marked (other_items items i _ rest same) more
    streams_marked {i} same (flat.MakesStreams.output_as {rest = rest} more) = streams_marked (other_items items i _ rest same) more

    -- an output's expression, in item i
    printed_marked : (i : ℕ) {e : Expr} {x : List ℕ} {n : ℕ} {made : List Equation} {s : Stream} → MayMake items kinds streams (at_top items kinds i) outermost MOST_CALLS e → MakesPrinted items kinds streams e x n made s → map mark_of made ≡ printed_marks items kinds i e
    printed_marked i {e} may (flat.MakesPrinted.name is one) =
        sym (ap (λ b. if b then [] else marks (at_top items kinds i) (macro_marks items kinds MOST_CALLS) e) is)
    printed_marked i {e} {x} may (flat.MakesPrinted.plain made other one all_is) =
        let placed = placed_of items kinds streams is_checked (at_top items kinds i) outermost MOST_CALLS e may in
        ap (map mark_of) all_is ∙ named_marks_are x made ∙ (marked items kinds streams is_checked placed one).marks_are
        ∙ sym (ap (λ b. if b then [] else marks (at_top items kinds i) (macro_marks items kinds MOST_CALLS) e) other)

    outputs_marked : (i : ℕ) {n : ℕ} {rest : List tree.Item} {made : List Equation} {outs : List Output} → Behind items i rest → MakesOutputs items kinds streams rest n made outs → map mark_of made ≡ output_marks items kinds i rest
    outputs_marked i same flat.MakesOutputs.end = refl
    outputs_marked i same (flat.MakesOutputs.output {p = p} {q = q} {x = x} {rest = rest} s first made outs printed more all_is outs_are) =
        let head = printed_marked i (output_top_may items kinds streams have i p q x (first_item items i _ rest same)) printed in
        let tail = outputs_marked (suc i) (other_items items i _ rest same) more in
        ap (map mark_of) all_is ∙ map-append mark_of first made ∙ (λ k. head k ++ tail k)
    outputs_marked i same (flat.MakesOutputs.output_as {p = p} {q = q} {e = e} {x = x} {rest = rest} s first made outs printed more all_is outs_are) =
        let head = printed_marked i (named_output_top_may items kinds streams have i p q e x (first_item items i _ rest same)) printed in
        let tail = outputs_marked (suc i) (other_items items i _ rest same) more in
        ap (map mark_of) all_is ∙ map-append mark_of first made ∙ (λ k. head k ++ tail k)
    outputs_marked i same (flat.MakesOutputs.input {rest = rest} more) = outputs_marked (suc i) (other_items items i _ rest same) more
    outputs_marked i same (flat.MakesOutputs.defined {rest = rest} more) = outputs_marked (suc i) (other_items items i _ rest same) more

-- ---- the laws
pub flats_have_the_marks : FlatsHaveTheMarks
flats_have_the_marks items kinds equations outputs is_checked nests of =
    let all : Behind items 0 items = λ k. let e : 0 + k ≡ k = omega arith in ap (slice_get items) e in
    let at_0 : (k : ℕ) → 0 + k ≡ k = λ k. omega arith in
    let have : HaveStreams items kinds of.top = record {
      is_checked = is_checked;
      inputs = λ i is. subst (IsOfItsType items kinds of.top is_checked) (at_0 i) (inputs_typed items kinds of.top is_checked all of.makes_inputs i is);
      definitions = λ i is. subst (IsOfItsType items kinds of.top is_checked) (at_0 i) (definitions_typed items kinds of.top is_checked of.makes_streams i is);
      nests = nests;
    } in
    let inputs = inputs_marked items kinds of.top is_checked of.makes_inputs in
    let streams = streams_marked items kinds of.top is_checked have all of.makes_streams in
    let printed = outputs_marked items kinds of.top is_checked have 0 all of.makes_outputs in
    ap (map mark_of) of.equations_are
    ∙ map-append mark_of (of.inputs ++ of.streams) of.printed
    ∙ ap (λ ms. ms ++ map mark_of of.printed) (map-append mark_of of.inputs of.streams)
    ∙ (λ k. inputs k ++ streams k ++ printed k)

pub refusals_are_those_of_marks : RefusalsAreThoseOfMarks
refusals_are_those_of_marks items kinds equations outputs is_checked nests of =
    refusal_marks equations ∙ ap refused (flats_have_the_marks items kinds equations outputs is_checked nests of)
