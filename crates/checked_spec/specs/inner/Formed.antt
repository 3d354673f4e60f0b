-- What holds of each expression of a specification of which no call is refused.
use Rattle.std.specs.Prelude.{◌≡◌, Bool, true, false, List, [], Option, Some, slice_get}
use Rattle.std.specs.List.{Contains}
use Rattle.syntax_tree.specs.Tree as tree
use Rattle.syntax_tree.specs.Tree.{Expr, Links, no_links, more_links}
use Rattle.syntax_tree.specs.declared.tree.Level.{Level}
use Rattle.syntax_tree.specs.Levels.{level_of}
use Rattle.name_check.specs.declared.declaration.Declaration.{Declaration}
use Rattle.name_check.specs.declared.declaration.Declaration.TheVariants as declaration
use Rattle.name_check.specs.Bodies.{Seen, item_bodies}
use Rattle.name_check.specs.Parts.{Operand, parts}
use Rattle.name_check.specs.Scope.{Scope, are_values, top}
use Rattle.form_check.specs.Arity.{is_wrong}
use Rattle.syntax_tree.specs.Tree.{params_of}
use Rattle.expr_types.specs.Bodies.{may_have_braces}

-- ---- the operators of a chain are those of its level
abbrev pub AreOfLevel : Level → Links → Type 0
AreOfLevel l no_links = Unit {0}
AreOfLevel l (more_links o e ls) = (level_of o ≡ l) × AreOfLevel l ls

abbrev pub HasItsOperators : Expr → Type 0
HasItsOperators (tree.Chain p l e ls) = AreOfLevel l ls
HasItsOperators e = Unit {0}

-- an expression is no call with another number of arguments than it takes, and its operators are of its level
pub record IsFormed (items : List tree.Item) (scope : Scope) (e : Expr) : Type 0 where
  pub fits : is_wrong items scope (Operand e) ≡ false
  pub operators : HasItsOperators e

-- ---- what names of a scope stand for
abbrev pub is_input : Option tree.Item → Bool
is_input (Some (tree.Input p q n y)) = true
is_input _ = false

-- a definition without parameters
abbrev pub is_stream : Option tree.Item → Bool
is_stream (Some (tree.Defined p (tree.Define q n [] w b))) = true
is_stream _ = false

-- A declaration stands for the item that it says. The parameters of a macro are all streams, and none of a value function is.
abbrev pub IsDeclared : List tree.Item → Declaration → Type 0
IsDeclared items (declaration.Input i) = is_input (slice_get items i) ≡ true
IsDeclared items (declaration.Stream i) = is_stream (slice_get items i) ≡ true
IsDeclared items (declaration.Macro i) = may_have_braces (params_of (slice_get items i)) ≡ true
IsDeclared items (declaration.Function i) = are_values (params_of (slice_get items i)) ≡ true
IsDeclared items d = Unit {0}

-- ---- all the expressions that stand in the bodies of a specification have operators of their level, which the grammar gives
pub record HaveTheirOperators (items : List tree.Item) : Type 0 where
  pub each :
      (item : tree.Item) (seen : Seen) (e : Expr) →
      Contains items item →
      Contains (item_bodies (top items) item) seen →
      Contains (parts seen.expr) (Operand e) →
      HasItsOperators e
