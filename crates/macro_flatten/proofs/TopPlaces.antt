-- The definitions of the top and the outputs may be made where the code makes them.
use Rattle.definition_cycles.specs.declared.limits.TheConstants.{MOST_CALLS}
use Rattle.std.proofs.Common.{◌≡◌, ℕ, List, [], Option, Some, None, refl, ap, sym, subst, ◌∙◌}
use Rattle.std.specs.Prelude.{if◌then◌else◌, slice_get}
use Rattle.std.proofs.lemmas.List.{append-nil}
use Rattle.std.proofs.lemmas.Option.{none-some}
use Rattle.tsl_value.specs.declared.place.Place.{Place}
use Rattle.tsl_value.specs.declared.scalar.ValueType.{ValueType}
use Rattle.syntax_tree.specs.Tree as tree
use Rattle.syntax_tree.specs.Tree.{Expr}
use Rattle.name_check.specs.declared.declaration.Declaration.{Declaration}
use Rattle.name_check.specs.declared.declaration.Declaration.TheVariants as declaration
use Rattle.name_check.specs.Scope.{seen, top}
use Rattle.name_check.proofs.AgreeLemmas.{agree_same}
use Rattle.type_rules.specs.declared.rule.ExprType.TheVariants as expr_type
use Rattle.expr_types.specs.Around.{Around, declared_type}
use Rattle.type_rules.specs.Kinds.{Kinds}
use Rattle.syntax_tree.specs.Tree.{params_of}
use Rattle.expr_types.specs.Bodies.{at_top, block_kind, in_definition, local_kind, may_have_braces, within_block}
use Rattle.spec_meaning.specs.Occurrence.{result_of}
use Rattle.spec_meaning.specs.Makes as makes
use Rattle.checked_spec.specs.Laws.{IsStreamBody}
use Rattle.checked_spec.proofs.BodyLaws.{streams_are_typed}
use Rattle.macro_flatten.specs.declared.context.Context.{Context}
use Rattle.macro_flatten.specs.declared.context.Here.{Here}
use Rattle.macro_flatten.specs.inner.Answers.{CanMake}
use Rattle.macro_flatten.specs.inner.Here.{HasStream, IsHere, MayMakeAt}
use Rattle.macro_flatten.specs.inner.Items.{CanPrint, IsReady, IsTopHere, IsTopItem, items_in, kinds_in, top_in, top_site}
use Rattle.macro_flatten.proofs.Allowed.{HaveStreams, body_top_may, named_output_top_may, output_top_may}

-- an item without parameters has no block in which something is declared
no_locals : (items : List tree.Item) (kinds : Kinds) (i k : ℕ) (item : tree.Item) → params_of (Some item) ≡ [] → block_kind items kinds i k (Some item) ≡ None
no_locals items kinds i k (tree.Input p q x y) none = refl
no_locals items kinds i k (tree.Defined p (tree.Define q x ps w (tree.Plain e))) none = refl
no_locals items kinds i k (tree.Defined p (tree.Define q x ps w (tree.Block ds e))) none =
    ap (λ qs. if may_have_braces qs then local_kind (within_block (in_definition items kinds i ps) ds) k ds else None) none
no_locals items kinds i k (tree.Output p q x) none = refl
no_locals items kinds i k (tree.OutputAs p e q x) none = refl

module _ (context : Context) (ready : IsReady context) where
  abbrev items : List tree.Item
  items = items_in context

  abbrev kinds : Kinds
  kinds = kinds_in context

  have : HaveStreams items kinds (top_in context)
  have = record { is_checked = ready.known.checked; inputs = ready.inputs; definitions = ready.definitions; nests = ready.nests }

  -- what is a stream there has one
  has_stream : (i : ℕ) (item : tree.Item) → slice_get items i ≡ Some item → params_of (Some item) ≡ [] → (d : Declaration) (t : ValueType) → declared_type (at_top items kinds i) d ≡ Some (expr_type.Stream t) → HasStream (top_site context i) d
  has_stream i item is none (declaration.Input j) t typed = record { stream = top_in context j; stands = makes.Stands.input }
  has_stream i item is none (declaration.Stream j) t typed = record { stream = top_in context j; stands = makes.Stands.stream }
  has_stream i item is none (declaration.Parameter k) t typed = absurd (none-some _ typed)
  has_stream i item is none (declaration.Local k) t typed =
      absurd (none-some _ (sym (ready.known.checked.are_kinds.locals_are i k ∙ ap (block_kind items kinds i k) is ∙ no_locals items kinds i k item none) ∙ typed))
  has_stream i item is none (declaration.Macro j) t typed = absurd (none-some _ typed)
  has_stream i item is none (declaration.Function j) t typed = absurd (none-some _ typed)
  has_stream i item is none (declaration.Mixed j) t typed = absurd (none-some _ typed)

  -- ---- the code is there
  module _ (here : Here) (at : IsTopHere context here) (item : tree.Item) (is : slice_get items here.around.number ≡ Some item) (none : params_of (Some item) ≡ []) where
    same_scope : seen here.around.scope.now ≡ top items
    same_scope = ap seen at.scope_is ∙ append-nil context.names.now ∙ ready.known.names_are

    pub is_here : IsHere context here (top_site context here.around.number)
    is_here = record {
      known = ready.known;
      around_is = ap (λ (a : Around). record a { scope = top items }) at.around_is;
      agrees = agree_same (seen here.around.scope.now) (top items) same_scope;
      params_are = at.params_are;
      locals_are = at.locals_are;
      have_streams = λ x d t stands typed. has_stream here.around.number item is none d t typed;
    }

  -- ---- expressions may be made
  pub plain_body : (i : ℕ) (p q : Place) (x : List ℕ) (w : Option tree.TypeName) (b : tree.Body) → slice_get items i ≡ Some (tree.Defined p (tree.Define q x [] w b)) → IsStreamBody items (at_top items kinds i) b (kinds.item i)
  plain_body i p q x w b is = streams_are_typed items kinds i p q x w b ready.known.checked is

  pub body_may : (i : ℕ) (p q : Place) (x : List ℕ) (w : Option tree.TypeName) (b : tree.Body) → slice_get items i ≡ Some (tree.Defined p (tree.Define q x [] w b)) → MayMakeAt (top_site context i) MOST_CALLS (result_of b)
  body_may i p q x w b is = body_top_may items kinds (top_in context) have i p q x w b is

  pub output_may : (i : ℕ) (p q : Place) (x : List ℕ) → slice_get items i ≡ Some (tree.Output p q x) → MayMakeAt (top_site context i) MOST_CALLS (tree.Name q x)
  output_may i p q x is = output_top_may items kinds (top_in context) have i p q x is

  pub named_output_may : (i : ℕ) (p q : Place) (e : Expr) (x : List ℕ) → slice_get items i ≡ Some (tree.OutputAs p e q x) → MayMakeAt (top_site context i) MOST_CALLS e
  named_output_may i p q e x is = named_output_top_may items kinds (top_in context) have i p q e x is

-- ---- what the code asks
-- in an item without parameters
pub can_make : (context : Context) (here : Here) (item : tree.Item) (e : Expr) → IsTopItem context here item → MayMakeAt (top_site context here.around.number) MOST_CALLS e → CanMake context here e
can_make context here item e at may =
    let m : MayMakeAt (top_site context here.around.number) here.deep e = subst (λ n. MayMakeAt (top_site context here.around.number) n e) (sym at.is_here.deep_is) may in
    record { site = top_site context here.around.number; is_here = is_here context at.ready here at.is_here item at.is_item at.no_params; may = m }

pub can_print : (context : Context) (here : Here) (e : Expr) → CanPrint context here e → CanMake context here e
can_print context here e h = can_make context here h.item e h.at h.may
