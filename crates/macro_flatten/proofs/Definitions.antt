-- The definitions of the top, made one after the other.
use Rattle.std.proofs.Common.{◌≡◌, ℕ, suc, ◌+◌, ◌-◌, ◌<◌, ◌≤◌, true, false, List, [], ◌∷◌, ◌++◌, map, length, get_or, take, drop, min, Option, Some, Result, Ok, Err, refl, ap, sym, subst, ◌∙◌, append_assoc, add-one, arith, length-append}
use Rattle.std.specs.Prelude.{slice_get}
use Rattle.std.proofs.lemmas.List.{append-nil, length-map, map-append, take-map, take_all}
use Rattle.std.proofs.lemmas.Option.{same_Some}
use Rattle.std.proofs.lemmas.Bool.{true≢false}
use Rattle.tsl_value.specs.declared.place.Place.{Place}
use Rattle.flat_core.specs.declared.equation.Equation.{Equation}
use Rattle.flat_core.specs.System.{System, with_name}
use Rattle.flat_core.specs.declared.limits.TheConstants.{MOST_EQUATIONS}
use Rattle.syntax_tree.specs.Tree as tree
use Rattle.syntax_tree.specs.Tree.{Expr}
use Rattle.syntax_tree.specs.inner.OneLevel.{body_of, item_of}
use Rattle.syntax_tree.specs.declared.tree.DefinitionParts.{DefinitionParts}
use Rattle.syntax_tree.specs.declared.tree.Item.{Item}
use Rattle.type_rules.specs.declared.rule.ExprType.TheVariants as expr_type
use Rattle.type_rules.specs.Asked.{inner}
use Rattle.expr_types.specs.Bodies.{at_top, in_definition}
use Rattle.expr_types.specs.Judge.{type_of}
use Rattle.stream_constructs.specs.declared.construct.Stream.{Stream}
use Rattle.stream_constructs.specs.declared.maker.MakeFault.{MakeFault}
use Rattle.stream_constructs.specs.Made.{with_equations}
use Rattle.spec_meaning.specs.Occurrence.{result_of}
use Rattle.spec_meaning.specs.Flat.{MakesStreams, named}
use Rattle.spec_meaning.specs.Flat as flat
use Rattle.flat_meaning.proofs.Plain.{named_length}
use Rattle.flat_meaning.proofs.Numbers.{body_number}
use Rattle.checked_spec.specs.inner.Formed.{is_stream}
use Rattle.equation_marks.specs.Marks.{Mark, body_marks, macro_marks, mark_of, stream_marks}
use Rattle.equation_marks.specs.Refused.{AreRefused}
use Rattle.equation_marks.proofs.CallMarks.{named_marks_are}
use Rattle.equation_marks.proofs.Refusing.{are_refused-append}
use Rattle.equation_marks.specs.declared.own.TheConstants.{ENOUGH}
use Rattle.macro_flatten.specs.declared.context.Context.{Context}
use Rattle.macro_flatten.specs.declared.context.Here.{Here}
use Rattle.macro_flatten.specs.inner.Answers.{CanMake, IsBody, IsBodyAnswer, IsBodyMade, IsRefusedAfter}
use Rattle.macro_flatten.specs.inner.Here.{IsHere, MayMakeAt}
use Rattle.macro_flatten.specs.inner.Items.{AreTopNumbered, AreStreamsMade, IsReady, IsStreamDefinition, IsStreamMade, IsTopHere, items_in, kinds_in, top_in, top_site}
use Rattle.macro_flatten.proofs.Lists.{items_before, items_more, items_split, no_stream_marks, stream_marks-append, stream_marks_after, streams_join, streams_moved, with_both}
use Rattle.macro_flatten.proofs.Named.{body_some, with_named}
use Rattle.macro_flatten.proofs.TopPlaces.{body_may, is_here, plain_body}
use Rattle.definition_cycles.specs.declared.limits.TheConstants.{MOST_CALLS}
use Rattle.function_bodies.proofs.EndLemmas.{item_at}

-- after what is refused more is refused
pub refused_after : (old : System) (xs ys : List Mark) (f : MakeFault) → IsRefusedAfter old xs f → IsRefusedAfter old (xs ++ ys) f
refused_after old xs ys f h =
    subst (λ ms. AreRefused ms f) (append_assoc (map mark_of old.equations) xs ys) (are_refused-append (map mark_of old.equations ++ xs) ys f h)

-- what is refused after equations that were made is refused in the whole
pub refused_later : (old mid : System) (made : List Equation) (xs ys : List Mark) (f : MakeFault) → mid ≡ with_equations old made → map mark_of made ≡ xs → IsRefusedAfter mid ys f → IsRefusedAfter old (xs ++ ys) f
refused_later old mid made xs ys f is marks h =
    let all : map mark_of mid.equations ++ ys ≡ map mark_of old.equations ++ (xs ++ ys) =
    ap (λ (s : System). map mark_of s.equations ++ ys) is
    ∙ ap (λ ms. ms ++ ys) (map-append mark_of old.equations made ∙ ap (λ ms. map mark_of old.equations ++ ms) marks)
    ∙ append_assoc (map mark_of old.equations) xs ys in
    subst (λ ms. AreRefused ms f) all h

module _ (context : Context) where
  abbrev items : List tree.Item
  items = items_in context

  -- ---- one definition
  module _ (ready : IsReady context) (i : ℕ) (p q : Place) (x : List ℕ) (w : Option tree.TypeName) (b : tree.Body) (is : slice_get items i ≡ Some (tree.Defined p (tree.Define q x [] w b))) where
    -- the type of its stream
    same_type : (s : Stream) → type_of (at_top items (kinds_in context) i) (result_of b) ≡ Some (expr_type.Stream s.of) → (top_in context i).of ≡ s.of
    same_type s typed =
        let body = plain_body context ready i p q x w b is in
        let first : Some (expr_type.Stream (top_in context i).of) ≡ Some (expr_type.Stream body.of) = sym (ready.definitions i (ap is_stream is)) ∙ body.kind_is in
        let second : Some (expr_type.Stream s.of) ≡ Some (expr_type.Stream body.of) = sym typed ∙ ap (λ c. type_of (at_top items (kinds_in context) i) (result_of c)) body.plain ∙ body.typed.is in
        ap inner (same_Some (expr_type.Stream (top_in context i).of) (expr_type.Stream s.of) (first ∙ sym second))

    stream_made : (old mid new : System) (s : Stream) → IsBodyMade (top_site context i) MOST_CALLS (result_of b) old mid s → new ≡ with_name mid (length mid.equations - 1) x → IsStreamMade context i (tree.Defined p (tree.Define q x [] w b)) old new
    stream_made old mid new s body name =
        let of = same_type s body.of_is in
        record {
          made = named x body.made;
          new_is = with_named old mid new body.made x body.new_is (body_some items (kinds_in context) (top_in context) body.makes) name;
          marks_are = named_marks_are x body.made ∙ body.marks_are ∙ sym (append-nil (body_marks (in_definition items (kinds_in context) i []) (macro_marks items (kinds_in context) MOST_CALLS) (result_of b)));
          makes = λ last.
              let own = last refl in
              let count = named_length x body.made in
              let number = body_number items (kinds_in context) (top_in context) body.makes in
              let id : (top_in context i).id ≡ s.id = omega arith in
              let stream : top_in context i ≡ s = λ k. record { id = id k; of = of k } in
              flat.MakesStreams.stream s body.made [] stream (ready.definitions i (ap is_stream is) ∙ ap (λ t. Some (expr_type.Stream t)) of) body.makes flat.MakesStreams.end (sym (append-nil (named x body.made)));
        }

  -- an item that is no definition without parameters makes nothing
  pub other_made : (i : ℕ) (item : tree.Item) (old : System) → is_stream (Some item) ≡ false → IsStreamMade context i item old old
  other_made i item old other = record {
    made = [];
    new_is = sym (ap (λ es. record old { equations = es }) (append-nil old.equations));
    marks_are = sym (no_stream_marks items (kinds_in context) i item other);
    makes = λ last. makes_none item other;
  }
    where
      makes_none : (item : tree.Item) → is_stream (Some item) ≡ false → MakesStreams items (kinds_in context) (top_in context) i (item ∷ []) (length old.equations) []
      makes_none (tree.Input p q x y) h = flat.MakesStreams.input flat.MakesStreams.end
      makes_none (tree.Defined p (tree.Define q x [] w b)) h = absurd (true≢false h)
      makes_none (tree.Defined p (tree.Define q x (a ∷ ps) w b)) h = flat.MakesStreams.with_parameters flat.MakesStreams.end
      makes_none (tree.Output p q x) h = flat.MakesStreams.output flat.MakesStreams.end
      makes_none (tree.OutputAs p e q x) h = flat.MakesStreams.output_as flat.MakesStreams.end

  -- ---- a definition where the code makes it
  module _ (ready : IsReady context) (here : Here) (at : IsTopHere context here) (item : tree.Item) (is : slice_get items here.around.number ≡ Some item) (d : DefinitionParts) (h : IsStreamDefinition item d) (e : Expr) (e_is : e ≡ result_of (body_of d.body)) where
    abbrev definition : tree.Item
    definition = tree.Defined h.place (tree.Define d.place d.name [] d.written (body_of d.body))

    there : slice_get items here.around.number ≡ Some definition
    there = is ∙ ap Some h.is

    here_is : IsHere context here (top_site context here.around.number)
    here_is = is_here context ready here at definition there refl

    may : MayMakeAt (top_site context here.around.number) here.deep e
    may =
        let at_most = body_may context ready here.around.number h.place d.place d.name d.written (body_of d.body) there in
        subst (λ n. MayMakeAt (top_site context here.around.number) n e) (sym at.deep_is) (subst (MayMakeAt (top_site context here.around.number) MOST_CALLS) (sym e_is) at_most)

    pub can_define : CanMake context here e
    can_define = record { site = top_site context here.around.number; is_here = here_is; may = may }

    answered : (old mid : System) (r : Result Stream MakeFault) → IsBody context here e old mid r → IsBodyAnswer (top_site context here.around.number) MOST_CALLS (result_of (body_of d.body)) old mid r
    answered old mid r body =
        subst (λ b. IsBodyAnswer (top_site context here.around.number) MOST_CALLS b old mid r) e_is
        (subst (λ n. IsBodyAnswer (top_site context here.around.number) n e old mid r) at.deep_is (body.at (top_site context here.around.number) here_is may))

    pub definition_made : (old mid new : System) (s : Stream) → IsBody context here e old mid (Ok s) → new ≡ with_name mid (length mid.equations - 1) d.name → IsStreamMade context here.around.number item old new
    definition_made old mid new s body name =
        subst (λ it. IsStreamMade context here.around.number it old new) (sym h.is) (stream_made ready here.around.number h.place d.place d.name d.written (body_of d.body) there old mid new s (answered old mid (Ok s) body) name)

    pub definition_refused : (old mid : System) (f : MakeFault) → IsBody context here e old mid (Err f) → IsRefusedAfter old (stream_marks items (kinds_in context) here.around.number (item ∷ [])) f
    definition_refused old mid f body =
        subst (λ it. IsRefusedAfter old (stream_marks items (kinds_in context) here.around.number (it ∷ [])) f) (sym h.is)
        (refused_after old (body_marks (at_top items (kinds_in context) here.around.number) (macro_marks items (kinds_in context) MOST_CALLS) (result_of (body_of d.body))) [] f (answered old mid (Err f) body))

  -- ---- one after the other
  pub none_made : (old : System) → AreStreamsMade context [] old old
  none_made old = record {
    made = [];
    new_is = sym (ap (λ es. record old { equations = es }) (append-nil old.equations));
    marks_are = refl;
    makes = λ numbered few. flat.MakesStreams.end;
  }

  -- a turn: item k
  module _ (k : ℕ) (item : Item) (lt : k < length context.items.now) (is : item ≡ get_or context.items.now k item) where
    abbrev before : List tree.Item
    before = map item_of (take k context.items.now)

    marks_more : stream_marks items (kinds_in context) 0 (before ++ item_of item ∷ []) ≡ stream_marks items (kinds_in context) 0 before ++ stream_marks items (kinds_in context) k (item_of item ∷ [])
    marks_more = stream_marks_after items (kinds_in context) context.items.now k (item_of item ∷ []) lt

    -- the items up to it
    up_to : take (suc k) items ≡ before ++ item_of item ∷ []
    up_to = ap (λ n. take n items) (sym (add-one k)) ∙ take-map item_of (k + 1) context.items.now ∙ items_more context.items.now k item lt is

    pub streams_turn : (old mid new : System) → AreStreamsMade context before old mid → IsStreamMade context k (item_of item) mid new → AreStreamsMade context (map item_of (take (k + 1) context.items.now)) old new
    streams_turn old mid new first own = subst (λ xs. AreStreamsMade context xs old new) (sym (items_more context.items.now k item lt is)) (record {
      made = first.made ++ own.made;
      new_is = own.new_is ∙ ap (λ s. with_equations s own.made) first.new_is ∙ with_both old first.made own.made;
      marks_are = marks;
      makes = λ numbered few.
          let count : length mid.equations ≡ length old.equations + length first.made = ap (λ (s : System). length s.equations) first.new_is ∙ length-append old.equations first.made in
          let both = length-append first.made own.made in
          let here : length (stream_marks items (kinds_in context) 0 (take (suc k) items)) ≡ length (first.made ++ own.made) = ap (λ xs. length (stream_marks items (kinds_in context) 0 xs)) up_to ∙ sym (ap length marks) ∙ length-map (first.made ++ own.made) mark_of in
          let last = λ (h : is_stream (Some (item_of item)) ≡ true). ends numbered (length first.made + length own.made) h (omega arith) (omega arith) (length mid.equations + length own.made) (omega arith) in
          let count_before = items_before context.items.now k lt in
          let start : k ≡ 0 + length before = omega arith in
          streams_join items (kinds_in context) (top_in context) (first.makes numbered (omega arith)) (streams_moved items (kinds_in context) (top_in context) k (0 + length before) (length mid.equations) (length old.equations + length first.made) (item_of item ∷ []) own.made start count (own.makes last));
    })
      where
        marks : map mark_of (first.made ++ own.made) ≡ stream_marks items (kinds_in context) 0 (before ++ item_of item ∷ [])
        marks = map-append mark_of first.made own.made ∙ (λ j. first.marks_are j ++ own.marks_are j) ∙ sym marks_more

        ends : AreTopNumbered context (length old.equations) → (made : ℕ) → is_stream (Some (item_of item)) ≡ true → length (stream_marks items (kinds_in context) 0 (take (suc k) items)) ≡ made → length old.equations + made ≤ MOST_EQUATIONS → (all : ℕ) → length old.equations + made ≡ all → (top_in context k).id ≡ all - 1
        ends numbered made h many few all same =
            let id : (top_in context k).id ≡ min (length old.equations + length (stream_marks items (kinds_in context) 0 (take (suc k) items))) ENOUGH - 1 = numbered k (ap is_stream (item_at context.items.now k item lt is) ∙ h) in
            omega arith

    -- a refusal
    pub streams_refused : (old mid : System) (f : MakeFault) → AreStreamsMade context before old mid → IsRefusedAfter mid (stream_marks items (kinds_in context) k (item_of item ∷ [])) f → IsRefusedAfter old (stream_marks items (kinds_in context) 0 items) f
    streams_refused old mid f first own =
        let front = stream_marks items (kinds_in context) 0 before in
        let own_marks = stream_marks items (kinds_in context) k (item_of item ∷ []) in
        let rest = map item_of (drop (k + 1) context.items.now) in
        let back = stream_marks items (kinds_in context) (k + 1) rest in
        let all : stream_marks items (kinds_in context) 0 items ≡ front ++ (own_marks ++ back) =
        ap (stream_marks items (kinds_in context) 0) (items_split context.items.now k item lt is)
        ∙ stream_marks_after items (kinds_in context) context.items.now k (item_of item ∷ rest) lt
        ∙ ap (λ ms. front ++ ms) (stream_marks-append items (kinds_in context) k (item_of item ∷ []) rest) in
        subst (λ ms. IsRefusedAfter old ms f) (append_assoc front own_marks back ∙ sym all)
        (refused_after old (front ++ own_marks) back f (refused_later old mid first.made front own_marks f first.new_is first.marks_are own))

  -- none is left
  pub streams_end : (k : ℕ) (old new : System) → length context.items.now ≤ k → AreStreamsMade context (map item_of (take k context.items.now)) old new → AreStreamsMade context items old new
  streams_end k old new past made = subst (λ xs. AreStreamsMade context xs old new) (ap (map item_of) (take_all k context.items.now past)) made
