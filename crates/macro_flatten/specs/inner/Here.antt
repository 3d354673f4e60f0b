-- Where expressions are made, as the code has it, and the place of the specification for which that stands.
use Rattle.std.specs.Prelude.{◌≡◌, ℕ, suc, true, List, [], map, Option, Some, None, length, slice_get}
use Rattle.std.specs.Option.{option_and_then}
use Rattle.std.specs.List.{Contains}
use Rattle.tsl_value.specs.declared.scalar.ValueType.{ValueType}
use Rattle.syntax_tree.specs.Tree as tree
use Rattle.syntax_tree.specs.Tree.{Expr, Exprs}
use Rattle.syntax_tree.specs.inner.OneLevel.{item_of}
use Rattle.name_check.specs.declared.declaration.Declaration.{Declaration}
use Rattle.name_check.specs.declared.declaration.Declaration.TheVariants as declaration
use Rattle.name_check.specs.Scope as scope
use Rattle.name_check.specs.Scope.{Agree, meaning, seen}
use Rattle.type_rules.specs.declared.rule.ExprType.TheVariants as expr_type
use Rattle.expr_types.specs.Around.{Around, declared_type}
use Rattle.type_rules.specs.Kinds.{Kinds}
use Rattle.syntax_tree.specs.Tree.{params_of}
use Rattle.expr_types.specs.Bodies.{may_have_braces}
use Rattle.expr_types.specs.inner.Shown.{around_of, kinds_of}
use Rattle.stream_constructs.specs.declared.construct.Stream.{Stream}
use Rattle.spec_meaning.specs.Makes.{AreLocals, Standing, Stands, inside_call}
use Rattle.call_limits.specs.Nesting.{CallsMacro, Chain}
use Rattle.checked_spec.specs.inner.Checked.{IsChecked}
use Rattle.checked_spec.specs.inner.Formed.{is_input, is_stream}
use Rattle.checked_spec.specs.Laws.{in_macro}
use Rattle.checked_spec.specs.inner.Matches.{Matches}
use Rattle.function_bodies.specs.Bodies.{AreBodies, too_large_bodies}
use Rattle.macro_flatten.specs.declared.context.Context.{Context}
use Rattle.macro_flatten.specs.declared.context.Here.{Here}
use Rattle.macro_flatten.specs.inner.Making.{MayMake}

-- ---- the streams for which names stand, as the code has them
abbrev pub top_stream : Context → ℕ → Option Stream
top_stream context i = option_and_then (λ s. s) (slice_get context.streams.now i)

abbrev pub stream_at : Context → Here → Option Declaration → Option Stream
stream_at context here (Some (declaration.Input i)) = top_stream context i
stream_at context here (Some (declaration.Stream i)) = top_stream context i
stream_at context here (Some (declaration.Parameter k)) = slice_get here.params.now k
stream_at context here (Some (declaration.Local k)) = slice_get here.locals.now k
stream_at context here d = None

-- the macro for which a name stands
abbrev pub macro_in : Option Declaration → Option ℕ
macro_in (Some (declaration.Macro i)) = Some i
macro_in d = None

-- ---- places
-- A place of a specification: its items, what the declared names are, the streams of its inputs and definitions of the top, what is
-- around, and the calls around.
pub record Site : Type 0 where
  pub items : List tree.Item
  pub kinds : Kinds
  pub top : ℕ → Stream
  pub at : Around
  pub st : Standing

-- what is known of the whole specification
pub record IsContext (context : Context) (items : List tree.Item) (kinds : Kinds) (top : ℕ → Stream) : Type 0 where
  pub items_are : map item_of context.items.now ≡ items
  pub kinds_are : kinds_of context.kinds.now ≡ kinds
  pub names_are : context.names.now ≡ scope.top items
  pub checked : IsChecked items kinds
  pub bodies : AreBodies items context.functions.now
  pub none_large : too_large_bodies items ≡ []
  pub inputs : (i : ℕ) → is_input (slice_get items i) ≡ true → slice_get context.streams.now i ≡ Some (Some (top i))
  pub definitions : (i : ℕ) → is_stream (slice_get items i) ≡ true → slice_get context.streams.now i ≡ Some (Some (top i))

-- a declaration stands for a stream
pub record HasStream (site : Site) (d : Declaration) : Type 0 where
  pub stream : Stream
  pub stands : Stands site.items site.top site.st d stream

-- The code makes expressions at this place. What is declared there as a stream has one.
pub record IsHere (context : Context) (here : Here) (site : Site) : Type 0 where
  pub known : IsContext context site.items site.kinds site.top
  pub around_is : record (around_of here.around) { scope = site.at.scope } ≡ site.at
  pub agrees : Agree (seen here.around.scope.now) site.at.scope
  pub params_are : here.params.now ≡ site.st.params
  pub locals_are : here.locals.now ≡ site.st.locals
  pub have_streams :
      (x : List ℕ) (d : Declaration) (t : ValueType) →
      meaning site.at.scope x ≡ Some d →
      declared_type site.at d ≡ Some (expr_type.Stream t) →
      HasStream site d

abbrev pub MayMakeAt : Site → ℕ → Expr → Type 0
MayMakeAt site deep e = MayMake site.items site.kinds site.top site.at site.st deep e

-- each of some expressions may be made there
pub record MayMakeAll (site : Site) (deep : ℕ) (es : List Expr) : Type 0 where
  pub each : (e : Expr) → Contains es e → MayMakeAt site deep e

-- ---- inside of a call
-- a call in a place of a specification
pub record Entry : Type 0 where
  pub items : List tree.Item
  pub kinds : Kinds
  pub top : ℕ → Stream
  pub st : Standing
  pub arguments : Exprs

abbrev pub inside_of : Entry → ℕ → List Stream → List Stream → Site
inside_of entry i params locals = record {
  items = entry.items;
  kinds = entry.kinds;
  top = entry.top;
  at = in_macro entry.items entry.kinds i;
  st = inside_call entry.items entry.top entry.st i entry.arguments params locals;
}

-- macro i is called there with arguments of these streams, and calls nest no deeper inside of it
pub record IsEntered (context : Context) (i : ℕ) (params : List Stream) (deep : ℕ) (entry : Entry) : Type 0 where
  pub known : IsContext context entry.items entry.kinds entry.top
  pub is_macro : may_have_braces (params_of (slice_get entry.items i)) ≡ true
  pub all_given : length params ≡ length (params_of (slice_get entry.items i))
  pub matches :
      (locals : List Stream) →
      AreLocals entry.kinds i locals →
      Matches entry.items entry.top (in_macro entry.items entry.kinds i)
      (inside_call entry.items entry.top entry.st i entry.arguments params locals)
  pub nests : (to : ℕ) → Chain (CallsMacro entry.items) (suc deep) i to → ⊥
