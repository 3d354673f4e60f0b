-- Which value functions are called in an item.
use Rattle.std.specs.Prelude.{◌≡◌, ℕ, Bool, true, false, List, Some, slice_get}
use Rattle.std.specs.List.{Contains}
use Rattle.tsl_value.specs.declared.place.Place.{Place}
use Rattle.syntax_tree.specs.Tree as tree
use Rattle.name_check.specs.declared.declaration.Declaration.TheVariants as declaration
use Rattle.name_check.specs.Scope.{top}
use Rattle.name_check.specs.Parts.{Part, Operand, Function, parts}
use Rattle.name_check.specs.Bodies.{Seen, item_bodies}
use Rattle.definition_cycles.specs.Mentions.{declared}

-- a call, or what stands where `lift` has the name of its function
abbrev pub is_call : Part → Bool
is_call (Operand (tree.Call p n es)) = true
is_call (Operand e) = false
is_call (Function e) = true

-- an expression in the definition of item i calls the value function of item j
pub record Calls (items : List tree.Item) (i j : ℕ) : Type 0 where
  pub place : Place
  pub definition : tree.Definition
  pub is_item : slice_get items i ≡ Some (tree.Defined place definition)
  pub seen : Seen
  pub is_body : Contains (item_bodies (top items) (tree.Defined place definition)) seen
  pub part : Part
  pub is_part : Contains (parts seen.expr) part
  pub calls : is_call part ≡ true
  pub stands_for : declared seen.scope part ≡ Some (declaration.Function j)

abbrev pub name_place : tree.Item → Place
name_place (tree.Input p q n y) = q
name_place (tree.Defined p (tree.Define q n ps w b)) = q
name_place (tree.Output p q n) = q
name_place (tree.OutputAs p e q n) = q
