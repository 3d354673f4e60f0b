-- The parts of a whole specification make its flat system.
use Rattle.std.proofs.Common.{◌≡◌, ℕ, ◌+◌, ◌-◌, ◌<◌, ◌≤◌, ◌^◌, true, false, List, [], ◌∷◌, ◌++◌, map, length, Option, Some, None, refl, ap, sym, subst, ◌∙◌, arith, length-append}
use Rattle.std.specs.Prelude.{slice_get}
use Rattle.std.specs.Option.{option_map}
use Rattle.std.proofs.lemmas.Bool.{true≢false}
use Rattle.std.proofs.lemmas.List.{map-append}
use Rattle.tsl_value.specs.declared.scalar.ValueType.{ValueType}
use Rattle.flat_core.specs.Complete.{IsComplete}
use Rattle.flat_core.specs.System.{System}
use Rattle.flat_core.specs.declared.limits.TheConstants.{MOST_EQUATIONS}
use Rattle.syntax_tree.specs.Tree as tree
use Rattle.name_check.specs.Scope.{top}
use Rattle.type_rules.specs.declared.rule.ExprType.TheVariants as expr_type
use Rattle.type_rules.specs.Asked.{inner}
use Rattle.type_rules.specs.Kinds.{Kinds}
use Rattle.expr_types.specs.Bodies.{item_kind}
use Rattle.stream_constructs.specs.declared.construct.Stream.{Stream}
use Rattle.stream_constructs.specs.declared.maker.MakeFault.{MakeFault}
use Rattle.stream_constructs.specs.Limits.{IsRefusal, refusal}
use Rattle.stream_constructs.specs.Made.{with_equations}
use Rattle.spec_meaning.specs.Flat.{IsFlatOf, MakesOutputs}
use Rattle.flat_meaning.proofs.Scopes.{IsStreamItem}
use Rattle.checked_spec.specs.inner.Checked.{IsChecked}
use Rattle.checked_spec.specs.inner.Formed.{is_input, is_stream}
use Rattle.tsl_value.proofs.Lists.{contains_at}
use Rattle.checked_spec.proofs.BodyLaws.{streams_are_typed}
use Rattle.function_bodies.specs.Bodies.{AreBodies, too_large_bodies}
use Rattle.parsed_spec.specs.inner.Short.{HaveShortTexts}
use Rattle.flat_meaning.specs.inner.Complete.{HasOutputs}
use Rattle.flat_meaning.proofs.Whole.{flats_are_complete}
use Rattle.equation_marks.specs.Marks.{Mark, all_marks, input_marks, mark_of, output_marks, stream_marks}
use Rattle.equation_marks.specs.Refused.{AreRefused, refused}
use Rattle.equation_marks.proofs.Refusing.{are_refused_of, are_refused-append, refusal_marks}
use Rattle.macro_flatten.specs.declared.context.Context.{Context}
use Rattle.macro_flatten.specs.inner.Laws.{NestsWithin}
use Rattle.macro_flatten.specs.inner.Answers.{IsRefusedAfter}
use Rattle.macro_flatten.specs.inner.Items.{AreForeseen, AreOutputsMade, AreStreamsMade, AreTopNumbered, Follows, IsBegun, IsReady, count_to, input_streams, items_in, kinds_in, stream_or_any, top_in}
use Rattle.spec_meaning.specs.Inputs.{declared_inputs, type_or_unit}
use Rattle.macro_flatten.proofs.Inputs.{event_stream, have_event_types, input_at, declared_inputs_marks, input_here, inputs_made}
use Rattle.macro_flatten.proofs.Lists.{outputs_moved, streams_moved}

-- a definition without parameters
stream_item : (item : Option tree.Item) → is_stream item ≡ true → IsStreamItem item
stream_item (Some (tree.Defined p (tree.Define q x [] w b))) h = record { place = p; at = q; name = x; written = w; body = b; is = refl }
stream_item (Some (tree.Defined p (tree.Define q x (a ∷ ps) w b))) h = absurd (true≢false (sym h))
stream_item (Some (tree.Input p q x y)) h = absurd (true≢false (sym h))
stream_item (Some (tree.Output p q x)) h = absurd (true≢false (sym h))
stream_item (Some (tree.OutputAs p e q x)) h = absurd (true≢false (sym h))
stream_item None h = absurd (true≢false (sym h))

no_stream : (item : Option tree.Item) → is_input item ≡ true → is_stream item ≡ false
no_stream (Some (tree.Input p q x y)) h = refl
no_stream (Some (tree.Defined p d)) h = absurd (true≢false (sym h))
no_stream (Some (tree.Output p q x)) h = refl
no_stream (Some (tree.OutputAs p e q x)) h = refl
no_stream None h = refl

-- ---- what is known where the streams are foreseen
module _ (context : Context) (names : context.names.now ≡ top (items_in context)) (checked : IsChecked (items_in context) (kinds_in context)) (n : ℕ) (first : List (Option Stream)) (m : ℕ) (table : first ≡ input_streams m (items_in context)) (foreseen : AreForeseen (items_in context) (kinds_in context) n first context.streams.now) where
  abbrev items : List tree.Item
  items = items_in context

  -- an input keeps its stream
  input_there : (i : ℕ) (s : Stream) → is_input (slice_get items i) ≡ true → slice_get (input_streams m items) i ≡ Some (Some s) → slice_get context.streams.now i ≡ Some (Some s)
  input_there i s is at = foreseen.others i (no_stream (slice_get items i) is) ∙ ap (λ l. slice_get l i) table ∙ at

  -- what the table has stands for the item
  its_own : (i : ℕ) (s : Stream) → slice_get context.streams.now i ≡ Some (Some s) → top_in context i ≡ s
  its_own i s at = ap stream_or_any at

  has_own : (i : ℕ) (s : Stream) → slice_get context.streams.now i ≡ Some (Some s) → slice_get context.streams.now i ≡ Some (Some (top_in context i))
  has_own i s at = at ∙ ap (λ t. Some (Some t)) (sym (its_own i s at))

  pub inputs_follow : Follows (top_in context) 0 (input_streams m items)
  inputs_follow = record { each = λ k s at. let e : 0 + k ≡ k = omega arith in ap (top_in context) e ∙ its_own k s (input_there k s (input_here m items k s at) at) }

  -- an input and its type
  input_known : (i : ℕ) → is_input (slice_get items i) ≡ true → slice_get context.streams.now i ≡ Some (Some (top_in context i))
  input_known i is = let a = input_at m items i is in has_own i a.stream (input_there i a.stream is a.stream_is)

  input_typed : (i : ℕ) → is_input (slice_get items i) ≡ true → (kinds_in context).item i ≡ Some (expr_type.Stream (top_in context i).of)
  input_typed i is =
      let a = input_at m items i is in
      let item = tree.Input a.place a.at a.name a.written in
      let typed = (have_event_types items checked.good_types).each item (contains_at items i item a.item_is) in
      let own = its_own i a.stream (input_there i a.stream is a.stream_is) in
      let of : typed.0 ≡ (top_in context i).of = sym (ap (λ (s : Stream). s.of) own ∙ a.of_is ∙ ap type_or_unit typed.1) in
      checked.are_kinds.items_are i
      ∙ ap (item_kind items (kinds_in context) i) a.item_is
      ∙ event_stream a.written
      ∙ ap (option_map expr_type.Stream) typed.1
      ∙ ap (λ t. Some (expr_type.Stream t)) of

  -- a definition without parameters and its type
  definition_there : (i : ℕ) (h : is_stream (slice_get items i) ≡ true) → (of : ValueType) → (kinds_in context).item i ≡ Some (expr_type.Stream of) → slice_get context.streams.now i ≡ Some (Some (record { id = count_to items (kinds_in context) n i - 1; of = of }))
  definition_there i h of kind =
      foreseen.definitions i h ∙ ap (λ o. Some (option_map (λ t. record { id = count_to items (kinds_in context) n i - 1; of = inner t }) o)) kind

  definition_kind : (i : ℕ) → is_stream (slice_get items i) ≡ true → (of : ValueType) × ((kinds_in context).item i ≡ Some (expr_type.Stream of))
  definition_kind i h =
      let d = stream_item (slice_get items i) h in
      let body = streams_are_typed items (kinds_in context) i d.place d.at d.name d.written d.body checked d.is in
      (body.of, body.kind_is)

  definition_known : (i : ℕ) → is_stream (slice_get items i) ≡ true → slice_get context.streams.now i ≡ Some (Some (top_in context i))
  definition_known i h = let kind = definition_kind i h in has_own i (record { id = count_to items (kinds_in context) n i - 1; of = kind.0 }) (definition_there i h kind.0 kind.1)

  definition_typed : (i : ℕ) → is_stream (slice_get items i) ≡ true → (kinds_in context).item i ≡ Some (expr_type.Stream (top_in context i).of)
  definition_typed i h =
      let kind = definition_kind i h in
      let own = its_own i (record { id = count_to items (kinds_in context) n i - 1; of = kind.0 }) (definition_there i h kind.0 kind.1) in
      kind.1 ∙ ap (λ (s : Stream). Some (expr_type.Stream s.of)) (sym own)

  pub are_numbered : AreTopNumbered context n
  are_numbered i h =
      let kind = definition_kind i h in
      ap (λ (s : Stream). s.id) (its_own i (record { id = count_to items (kinds_in context) n i - 1; of = kind.0 }) (definition_there i h kind.0 kind.1))

  pub is_ready : AreBodies items context.functions.now → too_large_bodies items ≡ [] → NestsWithin items → IsReady context
  is_ready bodies small nests = record {
    known = record {
      items_are = refl;
      kinds_are = refl;
      names_are = names;
      checked = checked;
      bodies = bodies;
      none_large = small;
      inputs = input_known;
      definitions = definition_known;
    };
    inputs = input_typed;
    definitions = definition_typed;
    nests = nests;
  }

-- ---- all equations
pub inputs_refused : (items : List tree.Item) (kinds : Kinds) (first : System) → first.equations ≡ [] → (f : MakeFault) → IsRefusal (first.equations ++ declared_inputs items) f → AreRefused (all_marks items kinds) f
inputs_refused items kinds first none f h =
    let marks : map mark_of (first.equations ++ declared_inputs items) ≡ input_marks items kinds items =
    ap (λ es. map mark_of (es ++ declared_inputs items)) none ∙ declared_inputs_marks items kinds items in
    let front = input_marks items kinds items in
    let middle = stream_marks items kinds 0 items in
    let back = output_marks items kinds 0 items in
    are_refused-append (front ++ middle) back f (are_refused-append front middle f (subst (λ ms. AreRefused ms f) marks (are_refused_of (first.equations ++ declared_inputs items) f h)))

module _ (context : Context) (second : System) (begun : IsBegun context second) where
  abbrev kinds : Kinds
  kinds = kinds_in context

  abbrev all : List Mark
  all = all_marks (items_in context) kinds

  second_marks : map mark_of second.equations ≡ input_marks (items_in context) kinds (items_in context)
  second_marks = ap (map mark_of) begun.equations_are ∙ declared_inputs_marks (items_in context) kinds (items_in context)

  -- a refusal
  pub streams_refused : (f : MakeFault) → IsRefusedAfter second (stream_marks (items_in context) kinds 0 (items_in context)) f → AreRefused all f
  streams_refused f h =
      let middle = stream_marks (items_in context) kinds 0 (items_in context) in
      let back = output_marks (items_in context) kinds 0 (items_in context) in
      are_refused-append (input_marks (items_in context) kinds (items_in context) ++ middle) back f (subst (λ ms. AreRefused (ms ++ middle) f) second_marks h)

  module _ (third : System) (streams : AreStreamsMade context (items_in context) second third) where
    third_marks : map mark_of third.equations ≡ input_marks (items_in context) kinds (items_in context) ++ stream_marks (items_in context) kinds 0 (items_in context)
    third_marks = ap (λ (s : System). map mark_of s.equations) streams.new_is ∙ map-append mark_of second.equations streams.made ∙ (λ k. second_marks k ++ streams.marks_are k)

    no_output : third.outputs ≡ []
    no_output = ap (λ (s : System). s.outputs) streams.new_is ∙ begun.no_output

    -- there is room for the outputs
    pub outputs_room : length context.items.now < 2 ^ 31 → length third.outputs + length context.items.now < 2 ^ 31
    outputs_room few = let none : length third.outputs ≡ 0 = ap length no_output in omega arith

    pub outputs_refused : (f : MakeFault) → IsRefusedAfter third (output_marks (items_in context) kinds 0 (items_in context)) f → AreRefused all f
    outputs_refused f h = subst (λ ms. AreRefused (ms ++ output_marks (items_in context) kinds 0 (items_in context)) f) third_marks h

    module _ (last : System) (outputs : AreOutputsMade context 0 (items_in context) third last) where
      pub marks_are : map mark_of last.equations ≡ all
      marks_are = ap (λ (s : System). map mark_of s.equations) outputs.new_is ∙ map-append mark_of third.equations outputs.made ∙ (λ k. third_marks k ++ outputs.marks_are k)

      -- the flat system
      pub is_flat_of : length last.equations ≤ MOST_EQUATIONS → IsFlatOf (items_in context) kinds last.equations last.outputs
      is_flat_of few =
          let own = declared_inputs (items_in context) in
          let third_count : length third.equations ≡ length second.equations + length streams.made = ap (λ (s : System). length s.equations) streams.new_is ∙ length-append second.equations streams.made in
          let last_count : length last.equations ≡ length third.equations + length outputs.made = ap (λ (s : System). length s.equations) outputs.new_is ∙ length-append third.equations outputs.made in
          let second_count : length second.equations ≡ length own = ap length begun.equations_are in
          let third_number : length third.equations ≡ length own + length streams.made = omega arith in
          let printed : last.outputs ≡ outputs.printed = ap (λ (s : System). s.outputs) outputs.new_is ∙ ap (λ os. os ++ outputs.printed) no_output in
          record {
            top = top_in context;
            inputs = own;
            streams = streams.made;
            printed = outputs.made;
            makes_inputs = inputs_made (items_in context) kinds (top_in context) 0 0 (items_in context) (have_event_types (items_in context) begun.ready.known.checked.good_types).each begun.follows;
            makes_streams = streams_moved (items_in context) kinds (top_in context) 0 0 (length second.equations) (length own) (items_in context) streams.made refl second_count (streams.makes begun.numbered (omega arith));
            makes_outputs = subst (MakesOutputs (items_in context) kinds (top_in context) (items_in context) (length own + length streams.made) outputs.made) (sym printed) (outputs_moved (items_in context) kinds (top_in context) (length third.equations) (length own + length streams.made) (items_in context) outputs.made outputs.printed third_number outputs.makes);
            equations_are =
                ap (λ (s : System). s.equations) outputs.new_is
                ∙ ap (λ (s : System). s.equations ++ outputs.made) streams.new_is
                ∙ ap (λ es. (es ++ streams.made) ++ outputs.made) begun.equations_are;
          }

      -- it is complete
      pub is_complete : HasOutputs (items_in context) → HaveShortTexts (items_in context) → length last.equations ≤ MOST_EQUATIONS → IsComplete last
      is_complete some short few = flats_are_complete (items_in context) kinds last begun.ready.known.checked some short (is_flat_of few)

      -- another system of these equations and outputs
      module _ (whole : System) (equations : whole.equations ≡ last.equations) where
        pub whole_flat : whole.outputs ≡ last.outputs → length last.equations ≤ MOST_EQUATIONS → IsFlatOf (items_in context) kinds whole.equations whole.outputs
        whole_flat same few =
            subst (λ es. IsFlatOf (items_in context) kinds es whole.outputs) (sym equations) (subst (IsFlatOf (items_in context) kinds last.equations) (sym same) (is_flat_of few))

        pub whole_marks : map mark_of whole.equations ≡ all
        whole_marks = ap (map mark_of) equations ∙ marks_are

        pub whole_within : refusal last.equations ≡ None → refused all ≡ None
        whole_within none = ap refused (sym marks_are) ∙ sym (refusal_marks last.equations) ∙ none

-- ---- what is known before the definitions are made
-- where an empty system got the inputs, and the table of streams what is foreseen after them
begun_at : (context : Context) (n : ℕ) (first second : System) (table : List (Option Stream)) → context.names.now ≡ top (items_in context) → IsChecked (items_in context) (kinds_in context) → first.equations ≡ [] → first.outputs ≡ [] → second ≡ with_equations first (declared_inputs (items_in context)) → n ≡ length second.equations → table ≡ input_streams (length first.equations) (items_in context) → AreForeseen (items_in context) (kinds_in context) n table context.streams.now → AreBodies (items_in context) context.functions.now → too_large_bodies (items_in context) ≡ [] → NestsWithin (items_in context) → IsBegun context second
begun_at context n first second table names checked none no_output inputs count table_is foreseen bodies small nests =
    let m = length first.equations in
    record {
      ready = is_ready context names checked n table m table_is foreseen bodies small nests;
      equations_are = ap (λ (s : System). s.equations) inputs ∙ ap (λ es. es ++ declared_inputs (items_in context)) none;
      no_output = ap (λ (s : System). s.outputs) inputs ∙ no_output;
      follows = subst (λ k. Follows (top_in context) 0 (input_streams k (items_in context))) (ap length none) (inputs_follow context names checked n table m table_is foreseen);
      numbered = subst (AreTopNumbered context) count (are_numbered context names checked n table m table_is foreseen);
    }

-- the streams are those of a vector
pub is_begun : (context : Context) (n : ℕ) (first second : System) (table streams : List (Option Stream)) → context.streams.now ≡ streams → context.names.now ≡ top (items_in context) → IsChecked (items_in context) (kinds_in context) → first.equations ≡ [] → first.outputs ≡ [] → second ≡ with_equations first (declared_inputs (items_in context)) → n ≡ length second.equations → table ≡ input_streams (length first.equations) (items_in context) → AreForeseen (items_in context) (kinds_in context) n table streams → AreBodies (items_in context) context.functions.now → too_large_bodies (items_in context) ≡ [] → NestsWithin (items_in context) → IsBegun context second
is_begun context n first second table streams same names checked none no_output inputs count table_is foreseen bodies small nests =
    begun_at context n first second table names checked none no_output inputs count table_is (subst (AreForeseen (items_in context) (kinds_in context) n table) (sym same) foreseen) bodies small nests
