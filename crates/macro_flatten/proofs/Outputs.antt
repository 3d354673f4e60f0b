-- The outputs, made one after the other.
use Rattle.std.proofs.Common.{◌≡◌, ℕ, ◌+◌, ◌-◌, ◌<◌, ◌≤◌, ◌^◌, Bool, true, false, List, [], ◌∷◌, ◌++◌, map, length, get_or, take, drop, Some, Result, Ok, Err, refl, ap, sym, subst, ◌∙◌, append_assoc, arith, length-append}
use Rattle.std.specs.Prelude.{IfErr, IfOk, OnOk, if◌then◌else◌, slice_get}
use Rattle.std.proofs.lemmas.List.{append-nil, map-append, take_all}
use Rattle.tsl_value.specs.declared.place.Place.{Place}
use Rattle.flat_core.specs.declared.equation.Op.TheVariants as op
use Rattle.flat_core.specs.System.{System, with_name}
use Rattle.flat_core.specs.Typed.{unit_type}
use Rattle.syntax_tree.specs.Tree as tree
use Rattle.syntax_tree.specs.Tree.{Expr}
use Rattle.syntax_tree.specs.inner.OneLevel.{item_of}
use Rattle.syntax_tree.specs.declared.tree.Item.{Item}
use Rattle.name_check.specs.Builtin.{is_unit}
use Rattle.name_check.specs.Scope.{meaning, top}
use Rattle.expr_types.specs.Bodies.{at_top}
use Rattle.stream_constructs.specs.declared.construct.Stream.{Stream}
use Rattle.stream_constructs.specs.declared.maker.MakeFault.{MakeFault}
use Rattle.stream_constructs.specs.Construct as construct
use Rattle.stream_constructs.specs.Equations.{equation}
use Rattle.stream_constructs.specs.Limits.{IsRefusal}
use Rattle.stream_constructs.specs.Made.{equations_for, stream_of, with_equations}
use Rattle.spec_meaning.specs.Shape.{Shape, name_shape, with_parts}
use Rattle.spec_meaning.specs.Makes.{Makes, is_name}
use Rattle.spec_meaning.specs.Makes as makes
use Rattle.spec_meaning.specs.Flat.{MakesOutputs, MakesPrinted, outermost}
use Rattle.spec_meaning.specs.Flat as flat
use Rattle.equation_marks.specs.Marks.{Mark, macro_marks, mark_of, marks, output_marks, own_marks, printed_marks}
use Rattle.equation_marks.specs.Refused.{AreRefused}
use Rattle.equation_marks.proofs.CallMarks.{named_marks_are}
use Rattle.equation_marks.proofs.Refusing.{are_refused_of}
use Rattle.macro_flatten.specs.declared.context.Context.{Context}
use Rattle.macro_flatten.specs.declared.context.Here.{Here}
use Rattle.macro_flatten.specs.inner.Answers.{CanName, IsAnswer, IsExpression, IsMadeAt, IsNamed, IsRefusedAfter}
use Rattle.macro_flatten.specs.inner.Here.{IsHere, MayMakeAt}
use Rattle.macro_flatten.specs.inner.Items.{AreOutputsMade, CanPrint, IsPrinted, IsReady, IsTopHere, items_in, kinds_in, named_unit, top_in, top_site}
use Rattle.macro_flatten.proofs.Definitions.{refused_after}
use Rattle.macro_flatten.proofs.Lists.{items_before, items_more, items_split, output_marks-append, output_marks_after, outputs_join, outputs_moved}
use Rattle.macro_flatten.proofs.Named.{makes_some, name_marks, no_equations, with_named}
use Rattle.macro_flatten.proofs.TopPlaces.{can_make, is_here, named_output_may, output_may}
use Rattle.definition_cycles.specs.declared.limits.TheConstants.{MOST_CALLS}

module _ (context : Context) where
  abbrev items : List tree.Item
  items = items_in context

  -- the marks of an expression that stands in item i
  abbrev marks_in : ℕ → Expr → List Mark
  marks_in i e = marks (at_top items (kinds_in context) i) (macro_marks items (kinds_in context) MOST_CALLS) e

  printed_are : (i : ℕ) (e : Expr) → printed_marks items (kinds_in context) i e ≡ marks_in i e
  printed_are i e = by (is_name e) refl
    where
      by : (b : Bool) → is_name e ≡ b → (if b then [] else marks_in i e) ≡ marks_in i e
      by true is = sym (name_marks (at_top items (kinds_in context) i) (macro_marks items (kinds_in context) MOST_CALLS) e is)
      by false is = refl

  -- ---- expressions
  -- a name
  pub name_printed : (i : ℕ) (e : Expr) (x : List ℕ) (old new : System) (s : Stream) → is_name e ≡ true → IsMadeAt (top_site context i) MOST_CALLS e old new s → IsPrinted context i e x old new s
  name_printed i e x old new s name h =
      let none : h.made ≡ [] = no_equations h.made (h.marks_are ∙ name_marks (at_top items (kinds_in context) i) (macro_marks items (kinds_in context) MOST_CALLS) e name) in
      record {
        made = [];
        new_is = h.new_is ∙ ap (with_equations old) none;
        marks_are = sym (ap (λ b. if b then [] else marks_in i e) name);
        makes = flat.MakesPrinted.name name (subst (λ es. Makes items (kinds_in context) (top_in context) outermost e (length old.equations) es s) none h.makes);
      }

  -- another
  pub other_printed : (i : ℕ) (e : Expr) (x : List ℕ) (old mid new : System) (s : Stream) → is_name e ≡ false → IsMadeAt (top_site context i) MOST_CALLS e old mid s → new ≡ with_name mid (length mid.equations - 1) x → IsPrinted context i e x old new s
  other_printed i e x old mid new s other h name = record {
    made = flat.named x h.made;
    new_is = with_named old mid new h.made x h.new_is (makes_some items (kinds_in context) (top_in context) h.makes other) name;
    marks_are = named_marks_are x h.made ∙ h.marks_are ∙ sym (printed_are i e);
    makes = flat.MakesPrinted.plain h.made other h.makes refl;
  }

  pub printed_refused : (i : ℕ) (e : Expr) (old : System) (f : MakeFault) → IsRefusedAfter old (marks_in i e) f → IsRefusedAfter old (printed_marks items (kinds_in context) i e) f
  printed_refused i e old f h = subst (λ ms. IsRefusedAfter old ms f) (sym (printed_are i e)) h

  -- the name `unit`, which is an expression of its own
  unit_made : (q : Place) (x : List ℕ) (n : ℕ) → is_unit x ≡ true → Makes items (kinds_in context) (top_in context) outermost (tree.Name q x) n (equation q op.Unit [] unit_type ∷ []) (record { id = n + 1 - 1; of = unit_type })
  unit_made q x n unit =
      let sh : Shape = record { construct = construct.Unit; parts = [] } in
      let id : n + 1 - 1 ≡ n + 0 + 1 - 1 = omega arith in
      makes.Makes.own sh [] [] (equation q op.Unit [] unit_type ∷ []) (ap (λ b. if b then with_parts [] construct.Unit [] else name_shape items [] (meaning (top items) x)) unit) refl refl makes.MakesAll.no_part tt refl refl refl (λ k. record { id = id k; of = unit_type })

  pub unit_printed : (i : ℕ) (q : Place) (x : List ℕ) (old new : System) (s : Stream) → is_unit x ≡ true → s ≡ stream_of old (named_unit q x ∷ []) unit_type → new ≡ with_equations old (named_unit q x ∷ []) → IsPrinted context i (tree.Name q x) x old new s
  unit_printed i q x old new s unit stream made = record {
    made = named_unit q x ∷ [];
    new_is = made;
    marks_are = sym (ap (λ b. if (if b then false else true) then [] else (if b then own_marks q construct.Unit 0 else [])) unit);
    makes = subst (λ t. MakesPrinted items (kinds_in context) (top_in context) (tree.Name q x) x (length old.equations) (named_unit q x ∷ []) t) (sym stream)
        (flat.MakesPrinted.plain (equation q op.Unit [] unit_type ∷ []) (ap (λ b. if b then false else true) unit) (unit_made q x (length old.equations) unit) refl);
  }

  pub unit_refused : (i : ℕ) (q : Place) (x : List ℕ) (old : System) (f : MakeFault) → is_unit x ≡ true → IsRefusal (old.equations ++ equations_for old q unit_type construct.Unit []) f → IsRefusedAfter old (printed_marks items (kinds_in context) i (tree.Name q x)) f
  unit_refused i q x old f unit h =
      let own : own_marks q construct.Unit 0 ≡ printed_marks items (kinds_in context) i (tree.Name q x) = sym (ap (λ b. if (if b then false else true) then [] else (if b then own_marks q construct.Unit 0 else [])) unit) in
      let all : map mark_of (old.equations ++ equations_for old q unit_type construct.Unit []) ≡ map mark_of old.equations ++ printed_marks items (kinds_in context) i (tree.Name q x) =
      map-append mark_of old.equations (equations_for old q unit_type construct.Unit []) ∙ ap (λ ms. map mark_of old.equations ++ ms) own in
      subst (λ ms. AreRefused ms f) all (are_refused_of (old.equations ++ equations_for old q unit_type construct.Unit []) f h)

  -- ---- expressions where the code makes them
  module _ (here : Here) (e : Expr) (h : CanPrint context here e) where
    here_is : IsHere context here (top_site context here.around.number)
    here_is = is_here context h.at.ready here h.at.is_here h.item h.at.is_item h.at.no_params

    may : MayMakeAt (top_site context here.around.number) here.deep e
    may = subst (λ n. MayMakeAt (top_site context here.around.number) n e) (sym h.at.is_here.deep_is) h.may

    same_deep : (old new : System) (r : Result Stream MakeFault) → IsAnswer (top_site context here.around.number) here.deep e old new r → IsAnswer (top_site context here.around.number) MOST_CALLS e old new r
    same_deep old new r answer = subst (λ n. IsAnswer (top_site context here.around.number) n e old new r) h.at.is_here.deep_is answer

    pub expression_made : (old new : System) (r : Result Stream MakeFault) → IsExpression context here e old new r → IsAnswer (top_site context here.around.number) MOST_CALLS e old new r
    expression_made old new r answer = same_deep old new r (answer.at (top_site context here.around.number) here_is may)

  module _ (here : Here) (q : Place) (x : List ℕ) (h : CanPrint context here (tree.Name q x)) (other : is_unit x ≡ false) where
    pub can_name : CanName context here x
    can_name = record { place = q; other = other; can = can_make context here h.item (tree.Name q x) h.at h.may }

    name_made : (system : System) (r : Result Stream MakeFault) → IsNamed context here x r → IsAnswer (top_site context here.around.number) MOST_CALLS (tree.Name q x) system system r
    name_made system r answer =
        same_deep here (tree.Name q x) h system system r (answer.at (top_site context here.around.number) q system other (here_is here (tree.Name q x) h) (may here (tree.Name q x) h))

    pub named_printed : (system : System) (s : Stream) → IsNamed context here x (Ok s) → IsPrinted context here.around.number (tree.Name q x) x system system s
    named_printed system s answer =
        name_printed here.around.number (tree.Name q x) x system system s (ap (λ b. if b then false else true) other) (name_made system (Ok s) answer)

    pub named_refused : (system : System) (f : MakeFault) → IsNamed context here x (Err f) → IsRefusedAfter system (printed_marks items (kinds_in context) here.around.number (tree.Name q x)) f
    named_refused system f answer = printed_refused here.around.number (tree.Name q x) system f (name_made system (Err f) answer)

  -- ---- what a name answers
  unit_answered : (i : ℕ) (q : Place) (x : List ℕ) (old new : System) (r : Result Stream MakeFault) → is_unit x ≡ true → IfOk r (λ s. s ≡ stream_of old (named_unit q x ∷ []) unit_type) → OnOk r (new ≡ with_equations old (named_unit q x ∷ [])) → IfOk r (λ s. IsPrinted context i (tree.Name q x) x old new s)
  unit_answered i q x old new (Ok s) unit stream made = unit_printed i q x old new s unit stream made
  unit_answered i q x old new (Err f) unit stream made = tt

  pub unit_is : (i : ℕ) (q : Place) (x y : List ℕ) (b : Bool) (old new : System) (r : Result Stream MakeFault) → y ≡ x → b ≡ is_unit y → b ≡ true → IfOk r (λ s. s ≡ stream_of old (named_unit q x ∷ []) unit_type) → OnOk r (new ≡ with_equations old (named_unit q x ∷ [])) → IfOk r (λ s. IsPrinted context i (tree.Name q x) x old new s)
  unit_is i q x y b old new r same is unit stream made = unit_answered i q x old new r (ap is_unit (sym same) ∙ sym is ∙ unit) stream made

  pub unit_is_refused : (i : ℕ) (q : Place) (x y : List ℕ) (b : Bool) (old : System) (r : Result Stream MakeFault) → y ≡ x → b ≡ is_unit y → b ≡ true → IfErr r (IsRefusal (old.equations ++ equations_for old q unit_type construct.Unit [])) → IfErr r (IsRefusedAfter old (printed_marks items (kinds_in context) i (tree.Name q x)))
  unit_is_refused i q x y b old (Ok s) same is unit h = tt
  unit_is_refused i q x y b old (Err f) same is unit h = unit_refused i q x old f (ap is_unit (sym same) ∙ sym is ∙ unit) h

  module _ (here : Here) (q : Place) (x y z : List ℕ) (b : Bool) (h : CanPrint context here (tree.Name q x)) (same : y ≡ x) (again : z ≡ x) (is : b ≡ is_unit y) (other : b ≡ false) where
    pub name_can : CanName context here z
    name_can = subst (CanName context here) (sym again) (can_name here q x h (ap is_unit (sym same) ∙ sym is ∙ other))

    pub name_is : (system : System) (r : Result Stream MakeFault) → IsNamed context here z r → IfOk r (λ s. IsPrinted context here.around.number (tree.Name q x) x system system s)
    name_is system (Ok s) answer = named_printed here q x h (ap is_unit (sym same) ∙ sym is ∙ other) system s (subst (λ n. IsNamed context here n (Ok s)) again answer)
    name_is system (Err f) answer = tt

    pub name_is_refused : (system : System) (r : Result Stream MakeFault) → IsNamed context here z r → IfErr r (IsRefusedAfter system (printed_marks items (kinds_in context) here.around.number (tree.Name q x)))
    name_is_refused system (Ok s) answer = tt
    name_is_refused system (Err f) answer = named_refused here q x h (ap is_unit (sym same) ∙ sym is ∙ other) system f (subst (λ n. IsNamed context here n (Err f)) again answer)

  -- ---- one output
  -- which may be printed where it stands
  pub output_can : (here : Here) (p q : Place) (x : List ℕ) (item : tree.Item) → IsReady context → IsTopHere context here → slice_get items here.around.number ≡ Some item → item ≡ tree.Output p q x → CanPrint context here (tree.Name q x)
  output_can here p q x item ready at is output = record {
    item = tree.Output p q x;
    at = record { ready = ready; is_here = at; is_item = is ∙ ap Some output; no_params = refl };
    may = output_may context ready here.around.number p q x (is ∙ ap Some output);
  }

  pub named_output_can : (here : Here) (p q : Place) (e : Expr) (x : List ℕ) (item : tree.Item) → IsReady context → IsTopHere context here → slice_get items here.around.number ≡ Some item → item ≡ tree.OutputAs p e q x → CanPrint context here e
  named_output_can here p q e x item ready at is output = record {
    item = tree.OutputAs p e q x;
    at = record { ready = ready; is_here = at; is_item = is ∙ ap Some output; no_params = refl };
    may = named_output_may context ready here.around.number p q e x (is ∙ ap Some output);
  }

  -- there is room for it
  pub printed_room : (i : ℕ) (e : Expr) (x : List ℕ) (old mid : System) (s : Stream) → IsPrinted context i e x old mid s → length old.outputs < 2 ^ 31 → length mid.outputs < 2 ^ 31
  printed_room i e x old mid s h few = let same : length mid.outputs ≡ length old.outputs = ap (λ (t : System). length t.outputs) h.new_is in omega arith

  -- with what it prints
  with_output : (i : ℕ) (e : Expr) (x : List ℕ) (it : tree.Item) (old mid new : System) (s : Stream) → output_marks items (kinds_in context) i (it ∷ []) ≡ printed_marks items (kinds_in context) i e ++ [] → (h : IsPrinted context i e x old mid s) → new ≡ record mid { outputs = mid.outputs ++ record { name = x; equation = s.id } ∷ [] } → MakesOutputs items (kinds_in context) (top_in context) (it ∷ []) (length old.equations) h.made (record { name = x; equation = s.id } ∷ []) → AreOutputsMade context i (it ∷ []) old new
  with_output i e x it old mid new s own h added makes = record {
    made = h.made;
    printed = record { name = x; equation = s.id } ∷ [];
    new_is = added ∙ ap (λ (t : System). record t { outputs = t.outputs ++ record { name = x; equation = s.id } ∷ [] }) h.new_is;
    marks_are = h.marks_are ∙ sym (append-nil (printed_marks items (kinds_in context) i e)) ∙ sym own;
    makes = makes;
    few = omega arith;
  }

  pub output_made : (i : ℕ) (p q : Place) (x : List ℕ) (item : tree.Item) (old mid new : System) (s : Stream) → item ≡ tree.Output p q x → IsPrinted context i (tree.Name q x) x old mid s → new ≡ record mid { outputs = mid.outputs ++ record { name = x; equation = s.id } ∷ [] } → AreOutputsMade context i (item ∷ []) old new
  output_made i p q x item old mid new s output h added =
      subst (λ it. AreOutputsMade context i (it ∷ []) old new) (sym output)
      (with_output i (tree.Name q x) x (tree.Output p q x) old mid new s refl h added (flat.MakesOutputs.output s h.made [] [] h.makes flat.MakesOutputs.end (sym (append-nil h.made)) refl))

  pub named_output_made : (i : ℕ) (p q : Place) (e : Expr) (x : List ℕ) (item : tree.Item) (old mid new : System) (s : Stream) → item ≡ tree.OutputAs p e q x → IsPrinted context i e x old mid s → new ≡ record mid { outputs = mid.outputs ++ record { name = x; equation = s.id } ∷ [] } → AreOutputsMade context i (item ∷ []) old new
  named_output_made i p q e x item old mid new s output h added =
      subst (λ it. AreOutputsMade context i (it ∷ []) old new) (sym output)
      (with_output i e x (tree.OutputAs p e q x) old mid new s refl h added (flat.MakesOutputs.output_as s h.made [] [] h.makes flat.MakesOutputs.end (sym (append-nil h.made)) refl))

  pub output_refused : (i : ℕ) (p q : Place) (x : List ℕ) (item : tree.Item) (old : System) (f : MakeFault) → item ≡ tree.Output p q x → IsRefusedAfter old (printed_marks items (kinds_in context) i (tree.Name q x)) f → IsRefusedAfter old (output_marks items (kinds_in context) i (item ∷ [])) f
  output_refused i p q x item old f output h =
      subst (λ it. IsRefusedAfter old (output_marks items (kinds_in context) i (it ∷ [])) f) (sym output) (refused_after old (printed_marks items (kinds_in context) i (tree.Name q x)) [] f h)

  pub named_output_refused : (i : ℕ) (p q : Place) (e : Expr) (x : List ℕ) (item : tree.Item) (old : System) (f : MakeFault) → item ≡ tree.OutputAs p e q x → IsRefusedAfter old (printed_marks items (kinds_in context) i e) f → IsRefusedAfter old (output_marks items (kinds_in context) i (item ∷ [])) f
  named_output_refused i p q e x item old f output h =
      subst (λ it. IsRefusedAfter old (output_marks items (kinds_in context) i (it ∷ [])) f) (sym output) (refused_after old (printed_marks items (kinds_in context) i e) [] f h)

  -- nothing is made
  same_system : (old : System) → old ≡ record (with_equations old []) { outputs = old.outputs ++ [] }
  same_system old = λ k. record old { equations = sym (append-nil old.equations) k; outputs = sym (append-nil old.outputs) k }

  pub input_no_output : (i : ℕ) (p q : Place) (x : List ℕ) (y : tree.TypeName) (item : tree.Item) (old : System) → item ≡ tree.Input p q x y → AreOutputsMade context i (item ∷ []) old old
  input_no_output i p q x y item old is =
      subst (λ it. AreOutputsMade context i (it ∷ []) old old) (sym is)
      (record { made = []; printed = []; new_is = same_system old; marks_are = refl; makes = flat.MakesOutputs.input flat.MakesOutputs.end; few = omega arith })

  pub definition_no_output : (i : ℕ) (p : Place) (d : tree.Definition) (item : tree.Item) (old : System) → item ≡ tree.Defined p d → AreOutputsMade context i (item ∷ []) old old
  definition_no_output i p d item old is =
      subst (λ it. AreOutputsMade context i (it ∷ []) old old) (sym is)
      (record { made = []; printed = []; new_is = same_system old; marks_are = refl; makes = flat.MakesOutputs.defined flat.MakesOutputs.end; few = omega arith })

  -- ---- one after the other
  pub none_printed : (old : System) → AreOutputsMade context 0 [] old old
  none_printed old = record { made = []; printed = []; new_is = same_system old; marks_are = refl; makes = flat.MakesOutputs.end; few = omega arith }

  -- a turn: item k
  module _ (k : ℕ) (item : Item) (lt : k < length context.items.now) (is : item ≡ get_or context.items.now k item) where
    abbrev before : List tree.Item
    before = map item_of (take k context.items.now)

    pub outputs_turn : (old mid new : System) → AreOutputsMade context 0 before old mid → AreOutputsMade context k (item_of item ∷ []) mid new → AreOutputsMade context 0 (map item_of (take (k + 1) context.items.now)) old new
    outputs_turn old mid new first own = subst (λ xs. AreOutputsMade context 0 xs old new) (sym (items_more context.items.now k item lt is)) (record {
      made = first.made ++ own.made;
      printed = first.printed ++ own.printed;
      new_is = own.new_is
          ∙ ap (λ (s : System). record (with_equations s own.made) { outputs = s.outputs ++ own.printed }) first.new_is
          ∙ (λ j. record old { equations = append_assoc old.equations first.made own.made j; outputs = append_assoc old.outputs first.printed own.printed j });
      marks_are = map-append mark_of first.made own.made ∙ (λ j. first.marks_are j ++ own.marks_are j) ∙ sym (output_marks_after items (kinds_in context) context.items.now k (item_of item ∷ []) lt);
      makes =
          let count : length mid.equations ≡ length old.equations + length first.made = ap (λ (s : System). length s.equations) first.new_is ∙ length-append old.equations first.made in
          outputs_join items (kinds_in context) (top_in context) first.makes (outputs_moved items (kinds_in context) (top_in context) (length mid.equations) (length old.equations + length first.made) (item_of item ∷ []) own.made own.printed count own.makes);
      few = omega (arith, length-append first.printed own.printed, length-append before (item_of item ∷ []), first.few, own.few);
    })

    -- there is room for one more
    pub room_turn : (old mid : System) → AreOutputsMade context 0 before old mid → length mid.outputs ≤ length old.outputs + k
    room_turn old mid first =
        let count : length mid.outputs ≡ length old.outputs + length first.printed = ap (λ (s : System). length s.outputs) first.new_is ∙ length-append old.outputs first.printed in
        omega (arith, items_before context.items.now k lt, first.few)

    -- a refusal
    pub outputs_refused : (old mid : System) (f : MakeFault) → AreOutputsMade context 0 before old mid → IsRefusedAfter mid (output_marks items (kinds_in context) k (item_of item ∷ [])) f → IsRefusedAfter old (output_marks items (kinds_in context) 0 items) f
    outputs_refused old mid f first own =
        let front = output_marks items (kinds_in context) 0 before in
        let own_marks = output_marks items (kinds_in context) k (item_of item ∷ []) in
        let rest = map item_of (drop (k + 1) context.items.now) in
        let back = output_marks items (kinds_in context) (k + 1) rest in
        let all : output_marks items (kinds_in context) 0 items ≡ front ++ (own_marks ++ back) =
        ap (output_marks items (kinds_in context) 0) (items_split context.items.now k item lt is)
        ∙ output_marks_after items (kinds_in context) context.items.now k (item_of item ∷ rest) lt
        ∙ ap (λ ms. front ++ ms) (output_marks-append items (kinds_in context) k (item_of item ∷ []) rest) in
        let equations_are : map mark_of mid.equations ≡ map mark_of old.equations ++ front =
        ap (λ (s : System). map mark_of s.equations) first.new_is ∙ map-append mark_of old.equations first.made ∙ ap (λ ms. map mark_of old.equations ++ ms) first.marks_are in
        subst (λ ms. IsRefusedAfter old ms f) (append_assoc front own_marks back ∙ sym all)
        (refused_after old (front ++ own_marks) back f (subst (λ ms. AreRefused ms f) (ap (λ ms. ms ++ own_marks) equations_are ∙ append_assoc (map mark_of old.equations) front own_marks) own))

  -- none is left
  pub outputs_end : (k : ℕ) (old new : System) → length context.items.now ≤ k → AreOutputsMade context 0 (map item_of (take k context.items.now)) old new → AreOutputsMade context 0 items old new
  outputs_end k old new past made = subst (λ xs. AreOutputsMade context 0 xs old new) (ap (map item_of) (take_all k context.items.now past)) made
