-- What the code makes of one definition or item, from the bodies that are there.
use Rattle.std.specs.Prelude.{◌≡◌, ℕ, false, if◌then◌else◌, true, List, [], ◌∷◌, length, Option, None, Some, slice_get, slice_index_or}
use Rattle.std.specs.Prelude.{slice_set}
use Rattle.std.specs.List.{Contains}
use Rattle.tsl_value.specs.declared.place.Place.{Place}
use Rattle.lift_func.specs.BodyTree.{BodyTree}
use Rattle.lift_func.specs.inner.Placed.{within}
use Rattle.syntax_tree.specs.Tree as tree
use Rattle.name_check.specs.Scope.{Scope, are_values, functions_of, parameters_from, seen, Agree}
use Rattle.spec_meaning.specs.Occurrence.{result_of}
use Rattle.spec_meaning.specs.Function.{arguments_from, tree_of}
use Rattle.function_bodies.specs.inner.Around.{call_of}
use Rattle.function_bodies.specs.Bodies.{body_at}

-- the body of a value function, whose parameters are in a level of their own
pub record IsFunctionMade (functions : List (Option BodyTree)) (names : Scope) (ps : List tree.Param) (b : tree.Body)
    (made : Option BodyTree) : Type 0 where
  pub level : Scope
  pub agrees : Agree level (parameters_from 0 ps)
  pub is : made ≡ within (tree_of (seen (level ∷ functions_of names ∷ [])) (arguments_from 0 ps) (call_of functions) (result_of b))

abbrev pub IsMade : List (Option BodyTree) → Scope → List tree.Param → tree.Body → Option BodyTree → Type 0
IsMade functions names ps b made =
    (are_values ps ≡ true → IsFunctionMade functions names ps b made) × (are_values ps ≡ false → made ≡ None)

abbrev pub IsDefinitionMade : List (Option BodyTree) → Scope → tree.Definition → Option BodyTree → Type 0
IsDefinitionMade functions names (tree.Define q n ps w b) made = IsMade functions names ps b made

abbrev pub IsItemMade : List (Option BodyTree) → Scope → tree.Item → Option BodyTree → Type 0
IsItemMade functions names (tree.Input p q n y) made = made ≡ None
IsItemMade functions names (tree.Defined p d) made = IsDefinitionMade functions names d made
IsItemMade functions names (tree.Output p q n) made = made ≡ None
IsItemMade functions names (tree.OutputAs p e q n) made = made ≡ None

-- the name of a value function
abbrev pub function_places : tree.Definition → List Place
function_places (tree.Define q n ps w b) = if are_values ps then q ∷ [] else []

abbrev pub item_places : tree.Item → List Place
item_places (tree.Defined p d) = function_places d
item_places item = []

-- one more body is made, from those that were there before
pub record IsStep (items : List tree.Item) (names : Scope) (number : ℕ) (old new : List (Option BodyTree)) : Type 0 where
  pub made : Option BodyTree
  pub is : new ≡ slice_set old number made
  pub right : (item : tree.Item) → slice_get items number ≡ Some item → IsItemMade old names item made

-- the items that stand in front in the order have their bodies
pub record AreMade (items : List tree.Item) (front : List ℕ) (bodies : List (Option BodyTree)) : Type 0 where
  pub count : length bodies ≡ length items
  pub made : (i : ℕ) → Contains front i → slice_index_or bodies i None ≡ body_at items i
