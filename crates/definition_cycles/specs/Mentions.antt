-- Which nodes are mentioned in the expression of a node.
use Rattle.std.specs.Prelude.{◌≡◌, ℕ, false, List, Option, Some, None, slice_get}
use Rattle.std.specs.List.{Contains}
use Rattle.syntax_tree.specs.Tree as tree
use Rattle.syntax_tree.specs.Tree.{Expr}
use Rattle.name_check.specs.declared.declaration.Declaration.{Declaration}
use Rattle.name_check.specs.Scope.{Scope, meaning}
use Rattle.name_check.specs.Parts.{Part, Operand, Function, parts}
use Rattle.name_check.specs.Bodies.{Seen}
use Rattle.definition_cycles.specs.Nodes.{Node, nodes, node_of}

-- what the name of an expression stands for
abbrev pub declared_in : Scope → Expr → Option Declaration
declared_in scope (tree.Name p n) = meaning scope n
declared_in scope (tree.Call p n es) = meaning scope n
declared_in scope e = None

abbrev pub declared : Scope → Part → Option Declaration
declared scope (Operand e) = declared_in scope e
declared scope (Function e) = declared_in scope e

-- a part of the expression of node a is a name or a call, and the name stands for node b there
pub record Mentions (items : List tree.Item) (a b : ℕ) : Type 0 where
  pub node : Node
  pub is_node : slice_get (nodes items) a ≡ Some node
  pub seen : Seen
  pub is_body : node.body ≡ Some seen
  pub part : Part
  pub is_part : Contains (parts seen.expr) part
  pub declaration : Declaration
  pub stands_for : declared seen.scope part ≡ Some declaration
  pub is_mentioned : node_of items node.item declaration ≡ Some b

-- a node without a written type
pub record IsUntyped (items : List tree.Item) (a : ℕ) : Type 0 where
  pub node : Node
  pub is_node : slice_get (nodes items) a ≡ Some node
  pub not_written : node.is_written ≡ false

-- one mentions the other, and neither has a written type
pub record MentionsUntyped (items : List tree.Item) (a b : ℕ) : Type 0 where
  pub from : IsUntyped items a
  pub to : IsUntyped items b
  pub mentions : Mentions items a b
