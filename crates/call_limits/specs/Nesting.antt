-- Which calls nest, and how deep.
use Rattle.std.specs.Prelude.{◌≡◌, ℕ, suc, ◌⊎◌, true, List, map, Option, Some, slice_get}
use Rattle.std.specs.List.{Contains}
use Rattle.tsl_value.specs.declared.place.Place.{Place}
use Rattle.syntax_tree.specs.Tree as tree
use Rattle.translation_order.specs.Graph.{Path}
use Rattle.name_check.specs.declared.declaration.Declaration.{Declaration}
use Rattle.name_check.specs.declared.declaration.Declaration.TheVariants as declaration
use Rattle.name_check.specs.Scope.{top}
use Rattle.name_check.specs.Parts.{Part, parts}
use Rattle.name_check.specs.Bodies.{Seen, item_bodies}
use Rattle.definition_cycles.specs.Mentions.{declared}
use Rattle.definition_cycles.specs.Calls.{is_call, name_place}
use Rattle.definition_cycles.specs.Cycles.{IsFirstPlace}
use Rattle.definition_cycles.specs.declared.limits.TheConstants.{MOST_CALLS}

-- an expression in item i, which may be an output, calls what is declared as d
pub record CallsDeclared (items : List tree.Item) (i : ℕ) (d : Declaration) : Type 0 where
  pub item : tree.Item
  pub is_item : slice_get items i ≡ Some item
  pub seen : Seen
  pub is_body : Contains (item_bodies (top items) item) seen
  pub part : Part
  pub is_part : Contains (parts seen.expr) part
  pub calls : is_call part ≡ true
  pub stands_for : declared seen.scope part ≡ Some d

abbrev pub CallsMacro : List tree.Item → ℕ → ℕ → Type 0
CallsMacro items i j = CallsDeclared items i (declaration.Macro j)

abbrev pub CallsFunction : List tree.Item → ℕ → ℕ → Type 0
CallsFunction items i j = CallsDeclared items i (declaration.Function j)

-- ---- cycles of macros
-- the macro of item i lies on a cycle of calls
abbrev pub MacroCycle : List tree.Item → ℕ → Type 0
MacroCycle items i = Path (CallsMacro items) i i

-- the name of the first macro in the order of the source that lies on one
abbrev pub IsFirstMacroCycle : List tree.Item → Option Place → Type 0
IsFirstMacroCycle items found = IsFirstPlace (MacroCycle items) (map name_place items) found

-- ---- calls that nest
-- so many edges lead from a to c, one after the other
pub data Chain (E : ℕ → ℕ → Type 0) : ℕ → ℕ → ℕ → Type 0 where
  none : {a : ℕ} → Chain E 0 a a
  link : {n a b c : ℕ} → E a b → Chain E n b c → Chain E (suc n) a c

-- more macros are called in each other than may be
pub record NestsMacros (items : List tree.Item) (i : ℕ) : Type 0 where
  pub to : ℕ
  pub chain : Chain (CallsMacro items) (suc MOST_CALLS) i to

-- More value functions are called in each other than may be. Those that are called in a macro count for its caller, but macros
-- and value functions are counted apart.
pub record NestsFunctions (items : List tree.Item) (i : ℕ) : Type 0 where
  pub through : ℕ
  pub depth : ℕ
  pub macros : Chain (CallsMacro items) depth i through
  pub to : ℕ
  pub functions : Chain (CallsFunction items) (suc MOST_CALLS) through to

abbrev pub IsTooDeep : List tree.Item → ℕ → Type 0
IsTooDeep items i = NestsMacros items i ⊎ NestsFunctions items i

-- the name of a definition or an input, and the word `out` of an output
abbrev pub deep_place : tree.Item → Place
deep_place (tree.Input p q n y) = q
deep_place (tree.Defined p (tree.Define q n ps w b)) = q
deep_place (tree.Output p q n) = p
deep_place (tree.OutputAs p e q n) = p

-- the first definition or output in the order of the source in which calls nest too deep
abbrev pub IsFirstTooDeep : List tree.Item → Option Place → Type 0
IsFirstTooDeep items found = IsFirstPlace (IsTooDeep items) (map deep_place items) found
