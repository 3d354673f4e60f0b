-- The inputs of the system that is run are those that the items declare.
use Rattle.std.proofs.Common.{◌≡◌, ℕ, zero, suc, ◌+◌, Bool, true, false, List, [], ◌∷◌, ◌++◌, map, length, Option, Some, None, refl, ap, sym, subst, ◌∙◌, append_assoc}
use Rattle.std.specs.Prelude.{◌≢◌}
use Rattle.std.specs.List.{AllByRecursion}
use Rattle.std.proofs.lemmas.Bool.{true≢false}
use Rattle.std.proofs.lemmas.List.{map-append}
use Rattle.std.proofs.lemmas.Option.{none-some, same_Some}
use Rattle.tsl_value.specs.declared.place.Place.{Place}
use Rattle.tsl_value.specs.declared.scalar.ValueType.{ValueType}
use Rattle.flat_core.specs.declared.equation.Op.{Op}
use Rattle.flat_core.specs.declared.equation.Op.TheVariants as op
use Rattle.flat_core.specs.declared.equation.Equation.{Equation}
use Rattle.flat_core.specs.declared.equation.Output.{Output}
use Rattle.flat_core.specs.Renumbered.{with_new_args}
use Rattle.flat_core.proofs.Members.{all_append, all_map}
use Rattle.flat_core.proofs.Uniqueness.{all_by}
use Rattle.syntax_tree.specs.Tree as tree
use Rattle.syntax_tree.specs.Tree.{Expr, place_of}
use Rattle.type_rules.specs.Kinds.{Kinds}
use Rattle.tsl_value.specs.declared.operation.Update.{Update as UpdateOp}
use Rattle.tsl_value.specs.declared.operation.Update.TheVariants as update
use Rattle.stream_constructs.specs.declared.construct.Stream.{Stream}
use Rattle.stream_constructs.specs.Construct.{Construct, Operand, Fixed, Varying}
use Rattle.stream_constructs.specs.Construct as construct
use Rattle.stream_constructs.specs.Made.{input_equation}
use Rattle.stream_constructs.specs.Equations.{equation, first_number, held, held_each, lifted_streams, lifting, literal_equations, numbers, operand_numbers, own_equations, strict_lift, with_literals}
use Rattle.spec_meaning.specs.Flat.{MakesInputs, MakesOutputs, MakesPrinted, MakesStreams, event_type, named}
use Rattle.spec_meaning.specs.Flat as flat
use Rattle.spec_meaning.specs.Makes.{Makes, MakesAll, MakesBlock, MakesBody, Standing, choice_operands}
use Rattle.spec_meaning.specs.Makes as makes
use Rattle.spec_meaning.specs.Inputs.{declared_inputs, type_or_unit}
use Rattle.compiled_meaning.specs.inner.Laws.{InputsAreDeclared, InputsStandAtTheirNumbers}
use Rattle.flat_core.specs.Updates.{operation_of}

-- ---- the equations of constructs are no inputs
abbrev takes_input : Op → Bool
takes_input op.Input = true
takes_input _ = false

abbrev IsOther : Equation → Type 0
IsOther e = takes_input e.op ≡ false

abbrev AreOthers : List Equation → Type 0
AreOthers es = AllByRecursion IsOther es

no_input : (e : Equation) → IsOther e → e.op ≢ op.Input
no_input e other is = true≢false (ap takes_input (sym is) ∙ other)

held_others : (p : Place) (n trigger : ℕ) (a : Stream) → AreOthers (held p n trigger a)
held_others p n trigger a = (refl, (refl, tt))

each_held_others : (p : Place) (n trigger : ℕ) (parts : List Stream) → AreOthers (held_each p n trigger parts)
each_held_others p n trigger [] = tt
each_held_others p n trigger (a ∷ rest) = all_append IsOther (held p n trigger a) (held_each p (n + 2) trigger rest) (held_others p n trigger a) (each_held_others p (n + 2) trigger rest)

lifting_others : (p : Place) (n : ℕ) (parts : List Stream) → AreOthers (lifting p n parts)
lifting_others p n [] = tt
lifting_others p n (a ∷ []) = tt
lifting_others p n (a ∷ b ∷ []) = all_append IsOther (held p n b.id a) (held p (n + 2) a.id b) (held_others p n b.id a) (held_others p (n + 2) a.id b)
lifting_others p n (a ∷ b ∷ d ∷ rest) = (refl, each_held_others p (n + 1) n (a ∷ b ∷ d ∷ rest))

literals_others : (p : Place) (first : ℕ) (os : List Operand) → AreOthers (literal_equations p first os)
literals_others p first [] = tt
literals_others p first (Fixed s ∷ os) = (refl, literals_others p first os)
literals_others p first (Varying ∷ os) = literals_others p first os

with_literals_others : (p : Place) (o : Op) → takes_input o ≡ false → (of : ValueType) (n : ℕ) (os : List Operand) (parts : List Stream) → AreOthers (with_literals p o of n os parts)
with_literals_others p o other of n os parts =
    all_append IsOther (lifting p n parts ++ literal_equations p (first_number (lifted_streams n parts)) os) (equation p o (operand_numbers (n + length (lifting p n parts)) os (numbers (lifted_streams n parts))) of ∷ [])
    (all_append IsOther (lifting p n parts) (literal_equations p (first_number (lifted_streams n parts)) os) (lifting_others p n parts) (literals_others p (first_number (lifted_streams n parts)) os))
    (other, tt)

update_other : (o : UpdateOp) → takes_input (operation_of o) ≡ false
update_other update.SetAdd = refl
update_other o = refl

own_others : (p : Place) (of : ValueType) (n : ℕ) (c : Construct) (parts : List Stream) → AreOthers (own_equations p of n c parts)
own_others p of n construct.Nil [] = (refl, tt)
own_others p of n construct.Unit [] = (refl, tt)
own_others p of n (construct.Literal s) [] = (refl, (refl, tt))
own_others p of n (construct.Empty t) [] = (refl, tt)
own_others p of n construct.Time (a ∷ []) = (refl, tt)
own_others p of n construct.Last (v ∷ r ∷ []) = (refl, tt)
own_others p of n construct.Delay (d ∷ r ∷ x ∷ []) = (refl, tt)
own_others p of n construct.Merge (a ∷ b ∷ []) = (refl, tt)
own_others p of n (construct.Const s) (a ∷ []) = (refl, tt)
own_others p of n construct.Filter (e ∷ c ∷ []) = all_append IsOther (held p n e.id c) (equation p op.Filter (e.id ∷ (n + 1) ∷ []) e.of ∷ []) (held_others p n e.id c) (refl, tt)
own_others p of n (construct.FilterBy b) (e ∷ []) = (refl, (refl, tt))
own_others p of n (construct.Lift f) parts = (refl, tt)
own_others p of n (construct.Signal f) [] = (refl, (refl, tt))
own_others p of n (construct.Signal f) (a ∷ parts) =
    all_append IsOther (lifting p n (a ∷ parts)) (strict_lift p f (numbers (lifted_streams n (a ∷ parts))) of ∷ []) (lifting_others p n (a ∷ parts)) (refl, tt)
own_others p of n (construct.Update o os) parts = with_literals_others p (operation_of o) (update_other o) of n os parts
own_others p of n c parts = tt

-- ---- nor are those of expressions
named_others : (x : List ℕ) (es : List Equation) → AreOthers es → AreOthers (named x es)
named_others x [] all = tt
named_others x (e ∷ []) all = (all.0, tt)
named_others x (d ∷ e ∷ es) all = (all.0, named_others x (e ∷ es) all.1)

both_others : (made before after : List Equation) → made ≡ before ++ after → AreOthers before → AreOthers after → AreOthers made
both_others made before after is first second = subst AreOthers (sym is) (all_append IsOther before after first second)

module _ (items : List tree.Item) (kinds : Kinds) (top : ℕ → Stream) where
  mutual
    made_others : {at : Standing} {e : Expr} {n : ℕ} {made : List Equation} {s : Stream} → Makes items kinds top at e n made s → AreOthers made
    made_others (makes.Makes.name d free is stands) = tt
    made_others (makes.Makes.chain one) = made_others one
    made_others {made = made} (makes.Makes.own {e = e} {n = n} sh parts before after {of = of} is own plain all_made written fits after_is made_is s_is) =
        both_others made before after made_is (all_others all_made) (subst AreOthers (sym after_is) (own_others (place_of e) of (n + length before) sh.construct _))
    made_others {made = made} (makes.Makes.choice {e = e} {n = n} sh parts before after {of = of} is chosen all_made fits after_is made_is s_is) =
        both_others made before after made_is (all_others all_made) (subst AreOthers (sym after_is) (with_literals_others (place_of e) op.Pick refl of (n + length before) (choice_operands e) parts))
    made_others {made = made} (makes.Makes.call i params locals b before block after free is body arguments typed definitions result made_is) =
        both_others made (before ++ block) after made_is (all_append IsOther before block (all_others arguments) (block_others definitions)) (body_others result)

    all_others : {at : Standing} {es : List Expr} {n : ℕ} {made : List Equation} {ss : List Stream} → MakesAll items kinds top at es n made ss → AreOthers made
    all_others makes.MakesAll.no_part = tt
    all_others {made = made} (makes.MakesAll.part first rest one more is) = both_others made first rest is (made_others one) (all_others more)

    body_others : {at : Standing} {e : Expr} {n : ℕ} {made : List Equation} {s : Stream} → MakesBody items kinds top at e n made s → AreOthers made
    body_others (makes.MakesBody.plain other one) = made_others one
    body_others (makes.MakesBody.alias a is one made_is s_is) = subst AreOthers (sym made_is) (refl, tt)

    block_others : {at : Standing} {ds : tree.Definitions} {n : ℕ} {made : List Equation} {ss : List Stream} → MakesBlock items kinds top at ds n made ss → AreOthers made
    block_others makes.MakesBlock.no_definition = tt
    block_others {made = made} (makes.MakesBlock.definition first rest one more is) = both_others made first rest is (body_others one) (block_others more)

  -- ---- nor those of definitions and of outputs
  streams_others : {i n : ℕ} {rest : List tree.Item} {made : List Equation} → MakesStreams items kinds top i rest n made → AreOthers made
  streams_others flat.MakesStreams.end = tt
  streams_others {made = all} (flat.MakesStreams.stream {x = x} s first made top_is typed one more all_is) =
      both_others all (named x first) made all_is (named_others x first (body_others one)) (streams_others more)
  streams_others (flat.MakesStreams.with_parameters more) = streams_others more
  streams_others (flat.MakesStreams.input more) = streams_others more
  streams_others (flat.MakesStreams.output more) = streams_others more
  streams_others (flat.MakesStreams.output_as more) = streams_others more

  printed_others : {e : Expr} {x : List ℕ} {n : ℕ} {made : List Equation} {s : Stream} → MakesPrinted items kinds top e x n made s → AreOthers made
  printed_others (flat.MakesPrinted.name is one) = tt
  printed_others (flat.MakesPrinted.plain {x = x} made other one all_is) = subst AreOthers (sym all_is) (named_others x made (made_others one))

  outputs_others : {n : ℕ} {rest : List tree.Item} {made : List Equation} {outs : List Output} → MakesOutputs items kinds top rest n made outs → AreOthers made
  outputs_others flat.MakesOutputs.end = tt
  outputs_others {made = all} (flat.MakesOutputs.output s first made outs printed more all_is outs_are) = both_others all first made all_is (printed_others printed) (outputs_others more)
  outputs_others {made = all} (flat.MakesOutputs.output_as s first made outs printed more all_is outs_are) = both_others all first made all_is (printed_others printed) (outputs_others more)
  outputs_others (flat.MakesOutputs.input more) = outputs_others more
  outputs_others (flat.MakesOutputs.defined more) = outputs_others more

  -- ---- those of inputs are the declared ones
  inputs_declared : {i n : ℕ} {rest : List tree.Item} {made : List Equation} → MakesInputs items kinds top i rest n made → made ≡ declared_inputs rest
  inputs_declared flat.MakesInputs.end = refl
  inputs_declared (flat.MakesInputs.input {q = q} {x = x} {y = y} of made events top_is more all_is) =
      let type : of ≡ type_or_unit (event_type y) = sym (ap type_or_unit events) in
      all_is ∙ (λ k. record (equation q op.Input [] (type k)) { name = Some x } ∷ inputs_declared more k)
  inputs_declared (flat.MakesInputs.defined more) = inputs_declared more
  inputs_declared (flat.MakesInputs.output more) = inputs_declared more
  inputs_declared (flat.MakesInputs.output_as more) = inputs_declared more

-- other numbers as arguments leave them as they are
inputs_kept : (replaced : List ℕ) (items : List tree.Item) → map (with_new_args replaced) (declared_inputs items) ≡ declared_inputs items
inputs_kept replaced [] = refl
inputs_kept replaced (tree.Input p q x y ∷ items) =
    ap (λ es. input_equation q x (type_or_unit (event_type y)) ∷ es) (inputs_kept replaced items)
inputs_kept replaced (tree.Defined p d ∷ items) = inputs_kept replaced items
inputs_kept replaced (tree.Output p q x ∷ items) = inputs_kept replaced items
inputs_kept replaced (tree.OutputAs p e q x ∷ items) = inputs_kept replaced items

pub inputs_are_declared : InputsAreDeclared
inputs_are_declared source items u c = record {
  others = map f rest;
  equations_are =
      c.simplified.renumbered.equations_are
      ∙ ap (map f) (of.equations_are ∙ append_assoc of.inputs of.streams of.printed)
      ∙ map-append f of.inputs rest
      ∙ ap (λ es. es ++ map f rest) (ap (map f) (inputs_declared items c.spells.system.kinds of.top of.makes_inputs) ∙ inputs_kept c.simplified.replaced items);
  no_inputs = all_map f (λ e. e.op ≢ op.Input) rest
      (all_by IsOther (λ e. e.op ≢ op.Input) no_input rest
      (all_append IsOther of.streams of.printed (streams_others items c.spells.system.kinds of.top of.makes_streams) (outputs_others items c.spells.system.kinds of.top of.makes_outputs)));
}
  where
    of : flat.IsFlatOf items c.spells.system.kinds c.flat.equations c.flat.outputs
    of = c.spells.system.is_flat_of

    f : Equation → Equation
    f = with_new_args c.simplified.replaced

    rest : List Equation
    rest = of.streams ++ of.printed

-- ---- their numbers
abbrev input_name : tree.Item → Option (List ℕ)
input_name (tree.Input p q x y) = Some x
input_name item = None

pub inputs_stand_at_their_numbers : InputsStandAtTheirNumbers
inputs_stand_at_their_numbers [] i p q name y is = absurd (none-some _ is)
inputs_stand_at_their_numbers (tree.Input r t x z ∷ items) zero p q name y is =
    record { at = _; is = refl; name_is = ap input_name (same_Some (tree.Input r t x z) (tree.Input p q name y) is) }
inputs_stand_at_their_numbers (tree.Input r t x z ∷ items) (suc i) p q name y is =
    let found = inputs_stand_at_their_numbers items i p q name y is in record { at = found.at; is = found.is; name_is = found.name_is }
inputs_stand_at_their_numbers (tree.Defined r d ∷ items) zero p q name y is = absurd (none-some name (ap input_name (same_Some (tree.Defined r d) (tree.Input p q name y) is)))
inputs_stand_at_their_numbers (tree.Defined r d ∷ items) (suc i) p q name y is =
    let found = inputs_stand_at_their_numbers items i p q name y is in record { at = found.at; is = found.is; name_is = found.name_is }
inputs_stand_at_their_numbers (tree.Output r t x ∷ items) zero p q name y is = absurd (none-some name (ap input_name (same_Some (tree.Output r t x) (tree.Input p q name y) is)))
inputs_stand_at_their_numbers (tree.Output r t x ∷ items) (suc i) p q name y is =
    let found = inputs_stand_at_their_numbers items i p q name y is in record { at = found.at; is = found.is; name_is = found.name_is }
inputs_stand_at_their_numbers (tree.OutputAs r e t x ∷ items) zero p q name y is = absurd (none-some name (ap input_name (same_Some (tree.OutputAs r e t x) (tree.Input p q name y) is)))
inputs_stand_at_their_numbers (tree.OutputAs r e t x ∷ items) (suc i) p q name y is =
    let found = inputs_stand_at_their_numbers items i p q name y is in record { at = found.at; is = found.is; name_is = found.name_is }
