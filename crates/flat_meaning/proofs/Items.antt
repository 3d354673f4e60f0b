-- The equations of inputs and of streams of the top.
use Rattle.std.proofs.Common.{◌≡◌, ℕ, zero, suc, ◌+◌, Bool, true, false, List, [], ◌∷◌, Some, refl, ap, sym, subst, ◌∙◌, arith}
use Rattle.std.specs.Prelude.{slice_get, if◌then◌else◌}
use Rattle.std.proofs.lemmas.Bool.{true≢false}
use Rattle.std.proofs.lemmas.Option.{same_Some, none-some}
use Rattle.tsl_value.specs.declared.place.Place.{Place}
use Rattle.tsl_value.specs.declared.scalar.ValueType.{ValueType}
use Rattle.flat_core.specs.declared.equation.Op.TheVariants as op
use Rattle.flat_core.specs.declared.equation.Equation.{Equation}
use Rattle.flat_core.specs.System.{System}
use Rattle.flat_core.specs.Typed.{IsTyped}
use Rattle.flat_core.specs.Typed as typed
use Rattle.flat_core.proofs.Members.{all_append}
use Rattle.syntax_tree.specs.Tree as tree
use Rattle.name_check.specs.Scope.{functions_of, top}
use Rattle.type_rules.specs.Written.{value_of}
use Rattle.form_check.specs.Declared.{is_aggregate, is_of_aggregates, aggregate_in_item, aggregate_inputs}
use Rattle.type_rules.specs.Kinds.{Kinds}
use Rattle.stream_constructs.specs.declared.construct.Stream.{Stream}
use Rattle.stream_constructs.specs.Equations.{equation}
use Rattle.stream_constructs.specs.Agree.{IsScalar}
use Rattle.spec_meaning.specs.Occurrence.{body_of}
use Rattle.spec_meaning.specs.Flat.{outermost, named, event_type, MakesInputs, MakesStreams}
use Rattle.spec_meaning.specs.Flat as flat
use Rattle.tsl_value.proofs.Lists.{append_empty}
use Rattle.flat_meaning.proofs.Built.{TheLaws}
use Rattle.flat_meaning.proofs.Plain.{plain, unnamed, Within, within_left, within_right, within_named, named_length}
use Rattle.flat_meaning.proofs.Scopes.{IsInputItem, IsStreamItem}
use Rattle.flat_meaning.proofs.Lookup.{stream_at}
use Rattle.flat_meaning.proofs.ShortTexts.{AreBodiesShort, result_short}
use Rattle.flat_meaning.proofs.ShortFunctions.{HasNoLift}
use Rattle.flat_meaning.proofs.Streams.{IsThere, AreKnown, IsTopThere, body_there}
use Rattle.flat_meaning.proofs.Derived.{IsGood, AreGood, body_good}

-- ---- the events of an input are scalars
scalar_value : (y : tree.TypeName) (of : ValueType) → is_aggregate y ≡ false → value_of y ≡ Some of → IsScalar of
scalar_value (tree.UnitType p) of other is = record { scalar = _; is = sym (same_Some _ of is) }
scalar_value (tree.IntType p) of other is = record { scalar = _; is = sym (same_Some _ of is) }
scalar_value (tree.BoolType p) of other is = record { scalar = _; is = sym (same_Some _ of is) }
scalar_value (tree.TextType p) of other is = record { scalar = _; is = sym (same_Some _ of is) }
scalar_value (tree.AggregateType p a) of other is = absurd (true≢false other)
scalar_value (tree.OptionType p y) of other is = absurd (none-some of is)
scalar_value (tree.EventsType p y) of other is = absurd (none-some of is)

scalar_events : (y : tree.TypeName) (of : ValueType) → is_of_aggregates y ≡ false → event_type y ≡ Some of → IsScalar of
scalar_events (tree.EventsType p y) of other is = scalar_value y of other is
scalar_events y of other is = scalar_value y of other is

-- a test that gives a place where it holds
pub not_placed : (b : Bool) (q : Place) → (if b then q ∷ [] else []) ≡ [] → b ≡ false
not_placed true q none = cc
not_placed false q none = refl

module _ (items : List tree.Item) (kinds : Kinds) (at_top : ℕ → Stream) (s : System) (laws : TheLaws) where
  abbrev Good : Equation → Type 0
  Good e = IsGood items kinds at_top s laws e

  abbrev AllGood : List Equation → Type 0
  AllGood made = AreGood items kinds at_top s laws made

  -- whatever name it has
  named_one : (x : List ℕ) (e : Equation) → Good e → Good (record e { name = Some x })
  named_one x e h = record { typed = record { types = h.typed.types; arguments = h.typed.arguments; typed = h.typed.typed }; short = h.short }

  pub named_good : (x : List ℕ) (made : List Equation) → AllGood made → AllGood (named x made)
  named_good x [] all = tt
  named_good x (e ∷ []) all = (named_one x e all.0, tt)
  named_good x (d ∷ e ∷ es) all = (all.0, named_good x (e ∷ es) all.1)

  -- ---- inputs
  input_good : (q : Place) (y : tree.TypeName) (of : ValueType) → is_of_aggregates y ≡ false → event_type y ≡ Some of → Good (equation q op.Input [] of)
  input_good q y of other is =
      let scalar = scalar_events y of other is in
      record { typed = record { types = []; arguments = tt; typed = subst (IsTyped op.Input []) (sym scalar.is) typed.IsTyped.input }; short = tt }

  pub inputs_good : {i : ℕ} {rest : List tree.Item} {n : ℕ} {made : List Equation} → aggregate_inputs rest ≡ [] → MakesInputs items kinds at_top i rest n made → AllGood made
  inputs_good none flat.MakesInputs.end = tt
  inputs_good none (flat.MakesInputs.input {p = p} {q = q} {x = x} {y = y} {rest = rest} of made events top_is more all_is) =
      let both = append_empty (aggregate_in_item (tree.Input p q x y)) (aggregate_inputs rest) none in
      let here = input_good q y of (not_placed (is_of_aggregates y) q both.0) events in
      subst AllGood (sym all_is) (named_one x (equation q op.Input [] of) here, inputs_good both.1 more)
  inputs_good none (flat.MakesInputs.defined more) = inputs_good none more
  inputs_good none (flat.MakesInputs.output more) = inputs_good none more
  inputs_good none (flat.MakesInputs.output_as more) = inputs_good none more

  -- from the item with number i on
  moved : (i k : ℕ) → IsThere items kinds at_top s (at_top (suc i + k)) → IsThere items kinds at_top s (at_top (i + suc k))
  moved i k h = let same : suc i + k ≡ i + suc k = omega arith in subst (λ j. IsThere items kinds at_top s (at_top j)) same h

  pub inputs_there : {i : ℕ} {rest : List tree.Item} {n : ℕ} {made : List Equation} → MakesInputs items kinds at_top i rest n made → Within s n made → (k : ℕ) → IsInputItem (slice_get rest k) → IsThere items kinds at_top s (at_top (i + k))
  inputs_there flat.MakesInputs.end within k is = absurd (none-some _ is.is)
  inputs_there {i} {n = n} (flat.MakesInputs.input {q = q} {x = x} of made events top_is more all_is) within zero is =
      let first : n + 0 ≡ n = omega arith in
      let here : i ≡ i + 0 = omega arith in
      let e : Equation = record (equation q op.Input [] of) { name = Some x } in
      let there = subst (λ m. slice_get (plain s).equations m ≡ Some (unnamed e)) first (subst (Within s n) all_is within 0 e refl) in
      subst (λ j. IsThere items kinds at_top s (at_top j)) here (subst (IsThere items kinds at_top s) (sym top_is) (record { at = unnamed e; is = there; of_is = refl }))
  inputs_there {i} {n = n} (flat.MakesInputs.input of made events top_is more all_is) within (suc k) is =
      let next : n + 1 ≡ suc n = omega arith in
      let rest = subst (λ m. Within s m made) next (within_right s n (_ ∷ []) made (subst (Within s n) all_is within)) in
      moved i k (inputs_there more rest k is)
  inputs_there (flat.MakesInputs.defined more) within zero is = let e = is.is in cc
  inputs_there {i} (flat.MakesInputs.defined more) within (suc k) is = moved i k (inputs_there more within k is)
  inputs_there (flat.MakesInputs.output more) within zero is = let e = is.is in cc
  inputs_there {i} (flat.MakesInputs.output more) within (suc k) is = moved i k (inputs_there more within k is)
  inputs_there (flat.MakesInputs.output_as more) within zero is = let e = is.is in cc
  inputs_there {i} (flat.MakesInputs.output_as more) within (suc k) is = moved i k (inputs_there more within k is)

  -- ---- streams
  pub streams_there : {i : ℕ} {rest : List tree.Item} {n : ℕ} {made : List Equation} → MakesStreams items kinds at_top i rest n made → Within s n made → (k : ℕ) → IsStreamItem (slice_get rest k) → IsThere items kinds at_top s (at_top (i + k))
  streams_there makes within k is =
      let found = stream_at items kinds at_top s makes within k is.place is.at is.name is.written is.body is.is in
      body_there items kinds at_top s found.makes found.within

  pub nowhere : AreKnown items kinds at_top s outermost
  nowhere = record { params = tt; locals = tt }

  first_item : (i : ℕ) (item : tree.Item) (rest : List tree.Item) → ((k : ℕ) → slice_get items (i + k) ≡ slice_get (item ∷ rest) k) → slice_get items i ≡ Some item
  first_item i item rest same = let e : i ≡ i + 0 = omega arith in ap (slice_get items) e ∙ same 0

  other_items : (i : ℕ) (item : tree.Item) (rest : List tree.Item) → ((k : ℕ) → slice_get items (i + k) ≡ slice_get (item ∷ rest) k) → (k : ℕ) → slice_get items (suc i + k) ≡ slice_get rest k
  other_items i item rest same k = let e : suc i + k ≡ i + suc k = omega arith in ap (slice_get items) e ∙ same (suc k)

  module _ (tops : IsTopThere items kinds at_top s) (bodies : AreBodiesShort items) (no_lift : HasNoLift (functions_of (top items))) where
    -- the items from number i on
    pub streams_good : {i : ℕ} {rest : List tree.Item} {n : ℕ} {made : List Equation} → ((k : ℕ) → slice_get items (i + k) ≡ slice_get rest k) → MakesStreams items kinds at_top i rest n made → Within s n made → AllGood made
    streams_good same flat.MakesStreams.end within = tt
    streams_good {i} {n = n} same (flat.MakesStreams.stream {x = x} {b = b} {rest = rest} a first made top_is typed one more all_is) within =
        let both = subst (Within s n) all_is within in
        let here = within_named s n x first (within_left s n (named x first) made both) in
        let there = subst (λ m. Within s (n + m) made) (named_length x first) (within_right s n (named x first) made both) in
        let short = result_short b (bodies.body i b (ap body_of (first_item i _ rest same))) in
        subst AllGood (sym all_is)
        (all_append Good (named x first) made (named_good x first (body_good items kinds at_top s laws tops bodies no_lift nowhere short one here)) (streams_good (other_items i _ rest same) more there))
    streams_good {i} same (flat.MakesStreams.with_parameters {rest = rest} more) within = streams_good (other_items i _ rest same) more within
    streams_good {i} same (flat.MakesStreams.input {rest = rest} more) within = streams_good (other_items i _ rest same) more within
    streams_good {i} same (flat.MakesStreams.output {rest = rest} more) within = streams_good (other_items i _ rest same) more within
    streams_good {i} same (flat.MakesStreams.output_as {rest = rest} more) within = streams_good (other_items i _ rest same) more within
