-- Which expressions of a checked specification may be made: the result and the block of a macro, the definitions of the top and the
-- outputs.
use Rattle.definition_cycles.specs.declared.limits.TheConstants.{MOST_CALLS}
use Rattle.std.proofs.Common.{◌≡◌, ℕ, suc, true, List, [], ◌∷◌, Option, Some, None, refl, ap, sym, subst, ◌∙◌}
use Rattle.std.specs.Prelude.{slice_get}
use Rattle.std.specs.List.{Contains}
use Rattle.std.specs.Option.{option_map}
use Rattle.std.proofs.lemmas.List.Elements.{Contains-append_left, Contains-append_right}
use Rattle.std.proofs.lemmas.Option.{same_Some, none-some}
use Rattle.tsl_value.specs.declared.place.Place.{Place}
use Rattle.tsl_value.specs.declared.scalar.ValueType.{ValueType}
use Rattle.flat_core.proofs.Members.{contains_head}
use Rattle.syntax_tree.specs.Tree as tree
use Rattle.syntax_tree.specs.Tree.{Expr}
use Rattle.name_check.specs.declared.declaration.Declaration.{Declaration}
use Rattle.name_check.specs.Bodies.{block_bodies, bodies, item_bodies}
use Rattle.name_check.specs.Parts.{Part, parts}
use Rattle.name_check.specs.Scope.{Scope, in_block, inside, top}
use Rattle.name_check.specs.inner.Steps.{local_body}
use Rattle.type_rules.specs.declared.rule.ExprType.TheVariants as expr_type
use Rattle.expr_types.specs.Around.{Around, declared_type}
use Rattle.type_rules.specs.Kinds.{Kinds}
use Rattle.syntax_tree.specs.Tree.{params_of}
use Rattle.expr_types.specs.Bodies.{at_top, may_have_braces}
use Rattle.stream_constructs.specs.declared.construct.Stream.{Stream}
use Rattle.spec_meaning.specs.Occurrence.{block_of, body_of, local, result_of}
use Rattle.spec_meaning.specs.Flat.{outermost}
use Rattle.spec_meaning.specs.Makes.{Standing, Stands}
use Rattle.spec_meaning.specs.Makes as makes
use Rattle.call_limits.specs.Nesting.{CallsMacro, Chain}
use Rattle.checked_spec.specs.inner.Checked.{IsChecked, IsTyped}
use Rattle.checked_spec.specs.inner.Formed.{IsDeclared, is_input, is_stream}
use Rattle.checked_spec.specs.Laws.{IsMacro, in_macro}
use Rattle.checked_spec.proofs.BlockLemmas.{local_is, nth, nth_body}
use Rattle.checked_spec.proofs.BodyLaws.{macros_are_typed, named_outputs_are_typed, outputs_are_typed, streams_are_typed}
use Rattle.checked_spec.specs.inner.Matches.{Matches}
use Rattle.macro_flatten.specs.inner.Making.{MayMake, StandsIn}

-- ---- the bodies of a definition
-- the result, with what is seen in it
result_there : (s : Scope) (b : tree.Body) → Contains (bodies 0 s b) (record { scope = in_block 0 s (block_of (Some b)); expr = result_of b })
result_there s (tree.Plain e) = contains_head (record { scope = s; expr = e }) []
result_there s (tree.Block ds e) =
    Contains-append_right (block_bodies 0 (in_block 0 s ds) ds) (record { scope = in_block 0 s ds; expr = e } ∷ []) (record { scope = in_block 0 s ds; expr = e })
    (contains_head (record { scope = in_block 0 s ds; expr = e }) [])

-- and a definition of the block
local_there : (s : Scope) (b : tree.Body) (k : ℕ) (e : Expr) → local k (block_of (Some b)) ≡ Some (tree.Plain e) → Contains (bodies 0 s b) (record { scope = in_block 0 s (block_of (Some b)); expr = e })
local_there s (tree.Plain f) k e h = absurd (none-some (tree.Plain e) h)
local_there s (tree.Block ds f) k e h =
    Contains-append_left (block_bodies 0 (in_block 0 s ds) ds) (record { scope = in_block 0 s ds; expr = f } ∷ []) (record { scope = in_block 0 s ds; expr = e })
    (by (nth k ds) refl (sym (local_is k ds) ∙ h))
  where
    by : (o : Option tree.Definition) → nth k ds ≡ o → option_map local_body o ≡ Some (tree.Plain e) → Contains (block_bodies 0 (in_block 0 s ds) ds) (record { scope = in_block 0 s ds; expr = e })
    by None is h = absurd (none-some (tree.Plain e) h)
    by (Some (tree.Define q x ps w c)) is h =
        nth_body (in_block 0 s ds) 0 ds k q x ps w e (is ∙ ap (λ b. Some (tree.Define q x ps w b)) (same_Some c (tree.Plain e) h))

-- the definition that has a body
record IsDefinition (item : Option tree.Item) (b : tree.Body) : Type 0 where
  place : Place
  at : Place
  name : List ℕ
  params : List tree.Param
  written : Option tree.TypeName
  is : item ≡ Some (tree.Defined place (tree.Define at name params written b))

has_body : (item : Option tree.Item) (b : tree.Body) → body_of item ≡ Some b → IsDefinition item b
has_body (Some (tree.Defined p (tree.Define q x ps w c))) b h = record {
  place = p;
  at = q;
  name = x;
  params = ps;
  written = w;
  is = ap (λ d. Some (tree.Defined p (tree.Define q x ps w d))) (same_Some c b h);
}
has_body (Some (tree.Input p q x y)) b h = absurd (none-some b h)
has_body (Some (tree.Output p q x)) b h = absurd (none-some b h)
has_body (Some (tree.OutputAs p e q x)) b h = absurd (none-some b h)
has_body None b h = absurd (none-some b h)

-- ---- inside of a call of macro i, from where calls nest no deeper
module _ (items : List tree.Item) (kinds : Kinds) (streams : ℕ → Stream) (i : ℕ) (st : Standing) (deep : ℕ) (is_checked : IsChecked items kinds) (is_macro : may_have_braces (params_of (slice_get items i)) ≡ true) (matches : Matches items streams (in_macro items kinds i) st) (nests : (to : ℕ) → Chain (CallsMacro items) (suc deep) i to → ⊥) (b : tree.Body) (is : body_of (slice_get items i) ≡ Some b) where
  abbrev at : Around
  at = in_macro items kinds i

  of_macro : IsMacro items kinds i
  of_macro = macros_are_typed items kinds i is_checked is_macro

  same_body : of_macro.body ≡ b
  same_body = same_Some of_macro.body b (sym of_macro.body_is ∙ is)

  d : IsDefinition (slice_get items i) b
  d = has_body (slice_get items i) b is

  -- what stands in a body of it
  abbrev IsBodyOf : Expr → Type 0
  IsBodyOf e = Contains (bodies 0 (inside (top items) d.params) b) (record { scope = in_block 0 (inside (top items) d.params) (block_of (Some b)); expr = e })

  stands_there : (e : Expr) → IsBodyOf e → (part : Part) → Contains (parts e) part → StandsIn items i at.scope part
  stands_there e there part in_it = record {
    item = tree.Defined d.place (tree.Define d.at d.name d.params d.written b);
    is_item = d.is;
    seen = record { scope = in_block 0 (inside (top items) d.params) (block_of (Some b)); expr = e };
    is_body = there;
    scope_is = ap (λ o. in_block 0 (inside (top items) (params_of o)) (block_of (body_of o))) (sym d.is);
    is_part = in_it;
  }

  may_inside : (e : Expr) (t : ValueType) → IsBodyOf e → IsTyped items at e (expr_type.Stream t) → MayMake items kinds streams at st deep e
  may_inside e t there typed = record { kinds_are = refl; matches = matches; nests = nests; stands = stands_there e there; of = (t, typed) }

  pub result_inside_may : MayMake items kinds streams at st deep (result_of b)
  result_inside_may =
      may_inside (result_of b) of_macro.of (result_there (inside (top items) d.params) b)
      (subst (λ c. IsTyped items at (result_of c) (expr_type.Stream of_macro.of)) same_body of_macro.result)

  pub local_inside_may : (k : ℕ) (c : tree.Body) → local k (block_of (Some b)) ≡ Some c → MayMake items kinds streams at st deep (result_of c)
  local_inside_may k c h =
      let stream = of_macro.locals k c (ap (λ x. local k (block_of (Some x))) same_body ∙ h) in
      let plain = h ∙ ap (λ x. Some x) stream.plain in
      subst (λ x. MayMake items kinds streams at st deep (result_of x)) (sym stream.plain)
      (may_inside stream.expr stream.of (local_there (inside (top items) d.params) b k stream.expr plain) stream.typed)

-- ---- outside of all calls
-- inputs and definitions of the top have streams of their types, and no call nests too deep
pub record HaveStreams (items : List tree.Item) (kinds : Kinds) (streams : ℕ → Stream) : Type 0 where
  pub is_checked : IsChecked items kinds
  pub inputs : (i : ℕ) → is_input (slice_get items i) ≡ true → kinds.item i ≡ Some (expr_type.Stream (streams i).of)
  pub definitions : (i : ℕ) → is_stream (slice_get items i) ≡ true → kinds.item i ≡ Some (expr_type.Stream (streams i).of)
  pub nests : (i to : ℕ) → Chain (CallsMacro items) (suc MOST_CALLS) i to → ⊥

module _ (items : List tree.Item) (kinds : Kinds) (streams : ℕ → Stream) (have : HaveStreams items kinds streams) where
  types : (i : ℕ) (d : Declaration) (s : Stream) → IsDeclared items d → Stands items streams outermost d s → declared_type (at_top items kinds i) d ≡ Some (expr_type.Stream s.of)
  types i d s declared (makes.Stands.input {i = j}) = have.inputs j declared
  types i d s declared (makes.Stands.stream {i = j}) = have.definitions j declared
  types i d s declared (makes.Stands.parameter is) = absurd (none-some s is)
  types i d s declared (makes.Stands.local is) = absurd (none-some s is)

  abbrev MayMakeTop : ℕ → Expr → Type 0
  MayMakeTop i e = MayMake items kinds streams (at_top items kinds i) outermost MOST_CALLS e

  -- the body of an item, seen from the top
  module _ (i : ℕ) (item : tree.Item) (is : slice_get items i ≡ Some item) (e : Expr) (t : ValueType) where
    stands_in : Contains (item_bodies (top items) item) (record { scope = top items; expr = e }) → (part : Part) → Contains (parts e) part → StandsIn items i (top items) part
    stands_in body part there = record { item = item; is_item = is; seen = record { scope = top items; expr = e }; is_body = body; scope_is = refl; is_part = there }

    may_make : Contains (item_bodies (top items) item) (record { scope = top items; expr = e }) → IsTyped items (at_top items kinds i) e (expr_type.Stream t) → MayMakeTop i e
    may_make body typed = record {
      kinds_are = refl;
      matches = record { items_are = refl; scope_is = refl; setting_is = refl; types = types i };
      nests = have.nests i;
      stands = stands_in body;
      of = (t, typed);
    }

  pub body_top_may : (i : ℕ) (p q : Place) (x : List ℕ) (w : Option tree.TypeName) (b : tree.Body) → slice_get items i ≡ Some (tree.Defined p (tree.Define q x [] w b)) → MayMakeTop i (result_of b)
  body_top_may i p q x w b is =
      let body = streams_are_typed items kinds i p q x w b have.is_checked is in
      let as_plain = is ∙ ap (λ c. Some (tree.Defined p (tree.Define q x [] w c))) body.plain in
      let at = may_make i (tree.Defined p (tree.Define q x [] w (tree.Plain body.expr))) as_plain body.expr body.of (contains_head _ []) body.typed in
      subst (λ c. MayMakeTop i (result_of c)) (sym body.plain) at

  pub output_top_may : (i : ℕ) (p q : Place) (x : List ℕ) → slice_get items i ≡ Some (tree.Output p q x) → MayMakeTop i (tree.Name q x)
  output_top_may i p q x is =
      let typed = outputs_are_typed items kinds i p q x have.is_checked is in
      may_make i (tree.Output p q x) is (tree.Name q x) typed.0 (contains_head _ []) typed.1

  pub named_output_top_may : (i : ℕ) (p q : Place) (e : Expr) (x : List ℕ) → slice_get items i ≡ Some (tree.OutputAs p e q x) → MayMakeTop i e
  named_output_top_may i p q e x is =
      let typed = named_outputs_are_typed items kinds i p q e x have.is_checked is in
      may_make i (tree.OutputAs p e q x) is e typed.0 (contains_head _ []) typed.1
