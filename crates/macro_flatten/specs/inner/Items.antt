-- What the parts of a whole specification ask, and what they answer: its inputs, its definitions of the top, and its outputs.
use Rattle.std.specs.Prelude.{◌≡◌, ℕ, suc, ◌+◌, ◌-◌, ◌≤◌, true, false, List, [], ◌∷◌, ◌++◌, length, map, take, Option, Some, None}
use Rattle.std.specs.Prelude.{slice_get}
use Rattle.std.specs.List.{Contains}
use Rattle.std.specs.Option.{option_map}
use Rattle.tsl_value.specs.declared.place.Place.{Place}
use Rattle.tsl_value.specs.declared.scalar.ValueType.{ValueType}
use Rattle.flat_core.specs.declared.equation.Op.TheVariants as op
use Rattle.flat_core.specs.declared.equation.Equation.{Equation}
use Rattle.flat_core.specs.declared.equation.Output.{Output}
use Rattle.flat_core.specs.System.{System}
use Rattle.flat_core.specs.Typed.{unit_type}
use Rattle.flat_core.specs.declared.limits.TheConstants.{MOST_EQUATIONS}
use Rattle.syntax_tree.specs.Tree as tree
use Rattle.syntax_tree.specs.Tree.{Expr}
use Rattle.syntax_tree.specs.inner.OneLevel.{body_of, item_of}
use Rattle.syntax_tree.specs.declared.tree.DefinitionParts.{DefinitionParts}
use Rattle.type_rules.specs.Asked.{inner}
use Rattle.type_rules.specs.declared.rule.ExprType.TheVariants as expr_type
use Rattle.type_rules.specs.Kinds.{Kinds}
use Rattle.syntax_tree.specs.Tree.{params_of}
use Rattle.expr_types.specs.Bodies.{at_top}
use Rattle.expr_types.specs.inner.Shown.{around_of, kinds_of}
use Rattle.stream_constructs.specs.declared.construct.Stream.{Stream}
use Rattle.stream_constructs.specs.Made.{with_equations}
use Rattle.spec_meaning.specs.Flat.{event_type, outermost, MakesOutputs, MakesPrinted, MakesStreams}
use Rattle.spec_meaning.specs.Inputs.{declared_inputs, type_or_unit}
use Rattle.call_limits.specs.Nesting.{CallsMacro, Chain}
use Rattle.checked_spec.specs.inner.Formed.{is_input, is_stream}
use Rattle.equation_marks.specs.inner.Counted.{counted}
use Rattle.equation_marks.specs.Marks.{mark_of, output_marks, printed_marks, stream_marks}
use Rattle.macro_flatten.specs.declared.context.Context.{Context}
use Rattle.macro_flatten.specs.declared.context.Here.{Here}
use Rattle.macro_flatten.specs.inner.Here.{IsContext, MayMakeAt, Site}
use Rattle.definition_cycles.specs.declared.limits.TheConstants.{MOST_CALLS}

-- ---- inputs
-- their streams, by the numbers of their items, where n equations are made; other items have none
abbrev pub input_streams : ℕ → List tree.Item → List (Option Stream)
input_streams n [] = []
input_streams n (tree.Input p q x y ∷ rest) = Some (record { id = n; of = type_or_unit (event_type y) }) ∷ input_streams (suc n) rest
input_streams n (item ∷ rest) = None ∷ input_streams n rest

abbrev pub HasEventType : tree.Item → Type 0
HasEventType (tree.Input p q x y) = (of : ValueType) × (event_type y ≡ Some of)
HasEventType item = Unit {0}

pub record HaveEventTypes (items : List tree.Item) : Type 0 where
  pub each : (item : tree.Item) → Contains items item → HasEventType item

-- ---- the streams that the definitions of the top will have
-- a definition of the top without parameters
pub record IsStreamDefinition (item : tree.Item) (d : DefinitionParts) : Type 0 where
  pub place : Place
  pub is : item ≡ tree.Defined place (tree.Define d.place d.name [] d.written (body_of d.body))

-- the number of equations up to definition i, after n equations; none is counted beyond more than any system has
abbrev pub count_to : List tree.Item → Kinds → ℕ → ℕ → ℕ
count_to items kinds n i = counted n (stream_marks items kinds 0 (take (suc i) items))

-- each definition gets the last one up to it, and other items keep theirs
pub record AreForeseen (items : List tree.Item) (kinds : Kinds) (n : ℕ) (old new : List (Option Stream)) : Type 0 where
  pub definitions :
      (i : ℕ) →
      is_stream (slice_get items i) ≡ true →
      slice_get new i ≡ Some (option_map (λ t. record { id = count_to items kinds n i - 1; of = inner t }) (kinds.item i))
  pub others : (i : ℕ) → is_stream (slice_get items i) ≡ false → slice_get new i ≡ slice_get old i

-- ---- what is known before the definitions are made
abbrev pub items_in : Context → List tree.Item
items_in context = map item_of context.items.now

abbrev pub kinds_in : Context → Kinds
kinds_in context = kinds_of context.kinds.now

-- the stream of a place in a table; any stream for what has none
abbrev pub stream_or_any : Option (Option Stream) → Stream
stream_or_any (Some (Some s)) = s
stream_or_any o = record { id = 0; of = unit_type }

abbrev pub top_of : List (Option Stream) → ℕ → Stream
top_of streams i = stream_or_any (slice_get streams i)

abbrev pub top_in : Context → ℕ → Stream
top_in context = top_of context.streams.now

-- inputs and definitions of the top have streams of their types, and no call nests too deep
pub record IsReady (context : Context) : Type 0 where
  pub known : IsContext context (items_in context) (kinds_in context) (top_in context)
  pub inputs :
      (i : ℕ) →
      is_input (slice_get (items_in context) i) ≡ true →
      (kinds_in context).item i ≡ Some (expr_type.Stream (top_in context i).of)
  pub definitions :
      (i : ℕ) →
      is_stream (slice_get (items_in context) i) ≡ true →
      (kinds_in context).item i ≡ Some (expr_type.Stream (top_in context i).of)
  pub nests : (i to : ℕ) → Chain (CallsMacro (items_in context)) (suc MOST_CALLS) i to → ⊥

-- ---- where the bodies of the top and the outputs are made
-- in item i, outside of all calls; in the definition of an item without parameters the same is seen as in an output
abbrev pub top_site : Context → ℕ → Site
top_site context i = record {
  items = items_in context;
  kinds = kinds_in context;
  top = top_in context;
  at = at_top (items_in context) (kinds_in context) i;
  st = outermost;
}

pub record IsTopHere (context : Context) (here : Here) : Type 0 where
  pub around_is :
      around_of here.around ≡ record (at_top (items_in context) (kinds_in context) here.around.number) { scope = context.names.now ++ [] }
  pub scope_is : here.around.scope.now ≡ context.names.now ∷ []
  pub params_are : here.params.now ≡ []
  pub locals_are : here.locals.now ≡ []
  pub deep_is : here.deep ≡ MOST_CALLS

-- the item around, which has no parameters
pub record IsTopItem (context : Context) (here : Here) (item : tree.Item) : Type 0 where
  pub ready : IsReady context
  pub is_here : IsTopHere context here
  pub is_item : slice_get (items_in context) here.around.number ≡ Some item
  pub no_params : params_of (Some item) ≡ []

-- ---- definitions
-- What item i makes, if it is a definition without parameters. It is what is asked for where the last of its equations is the stream of
-- the item.
pub record IsStreamMade (context : Context) (i : ℕ) (item : tree.Item) (old new : System) : Type 0 where
  pub made : List Equation
  pub new_is : new ≡ with_equations old made
  pub marks_are : map mark_of made ≡ stream_marks (items_in context) (kinds_in context) i (item ∷ [])
  pub makes :
      (is_stream (Some item) ≡ true → (top_in context i).id ≡ length old.equations + length made - 1) →
      MakesStreams (items_in context) (kinds_in context) (top_in context) i (item ∷ []) (length old.equations) made

-- the streams of the definitions are those that are foreseen after n equations
abbrev pub AreTopNumbered : Context → ℕ → Type 0
AreTopNumbered context n =
    (i : ℕ) →
    is_stream (slice_get (items_in context) i) ≡ true →
    (top_in context i).id ≡ count_to (items_in context) (kinds_in context) n i - 1

-- names stand for the streams of a table, the first place of which has number i
pub record Follows (top : ℕ → Stream) (i : ℕ) (streams : List (Option Stream)) : Type 0 where
  pub each : (k : ℕ) (s : Stream) → slice_get streams k ≡ Some (Some s) → top (i + k) ≡ s

-- The inputs alone are made, and names stand for their streams and for those that are foreseen.
pub record IsBegun (context : Context) (system : System) : Type 0 where
  pub ready : IsReady context
  pub equations_are : system.equations ≡ declared_inputs (items_in context)
  pub no_output : system.outputs ≡ []
  pub follows : Follows (top_in context) 0 (input_streams 0 (items_in context))
  pub numbered : AreTopNumbered context (length system.equations)

-- what the first items make; foreseen streams are exact where there are no more equations than a system has
pub record AreStreamsMade (context : Context) (items : List tree.Item) (old new : System) : Type 0 where
  pub made : List Equation
  pub new_is : new ≡ with_equations old made
  pub marks_are : map mark_of made ≡ stream_marks (items_in context) (kinds_in context) 0 items
  pub makes :
      AreTopNumbered context (length old.equations) →
      length old.equations + length made ≤ MOST_EQUATIONS →
      MakesStreams (items_in context) (kinds_in context) (top_in context) 0 items (length old.equations) made

-- ---- outputs
abbrev pub named_unit : Place → List ℕ → Equation
named_unit p x = record { op = op.Unit; args = []; of = unit_type; place = p; name = Some x }

-- an expression may be printed there
pub record CanPrint (context : Context) (here : Here) (e : Expr) : Type 0 where
  pub item : tree.Item
  pub at : IsTopItem context here item
  pub may : MayMakeAt (top_site context here.around.number) MOST_CALLS e

-- what is made of it in item i
pub record IsPrinted (context : Context) (i : ℕ) (e : Expr) (x : List ℕ) (old new : System) (s : Stream) : Type 0 where
  pub made : List Equation
  pub new_is : new ≡ with_equations old made
  pub marks_are : map mark_of made ≡ printed_marks (items_in context) (kinds_in context) i e
  pub makes : MakesPrinted (items_in context) (kinds_in context) (top_in context) e x (length old.equations) made s

-- what items make, the first of which has number i, if they are outputs
pub record AreOutputsMade (context : Context) (i : ℕ) (items : List tree.Item) (old new : System) : Type 0 where
  pub made : List Equation
  pub printed : List Output
  pub new_is : new ≡ record (with_equations old made) { outputs = old.outputs ++ printed }
  pub marks_are : map mark_of made ≡ output_marks (items_in context) (kinds_in context) i items
  pub makes : MakesOutputs (items_in context) (kinds_in context) (top_in context) items (length old.equations) made printed
  pub few : length printed ≤ length items
