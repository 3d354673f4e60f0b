-- Orders in which called value functions come first, and what is asked of value functions that become bodies.
use Rattle.std.specs.Prelude.{◌≡◌, ℕ, ◌<◌, true, List, ◌∷◌, ◌++◌, length, Some, slice_get}
use Rattle.std.specs.List.{Contains}
use Rattle.syntax_tree.specs.Tree as tree
use Rattle.syntax_tree.specs.Tree.{Expr}
use Rattle.name_check.specs.declared.declaration.Declaration.TheVariants as declaration
use Rattle.name_check.specs.Builtin.{lift_name}
use Rattle.name_check.specs.Scope.{top, meaning, are_values, functions_of}
use Rattle.spec_meaning.specs.Occurrence.{body_of}
use Rattle.syntax_tree.specs.Tree.{params_of}
use Rattle.definition_cycles.specs.Calls.{Calls}

-- each item is in the order, and what its definition calls stands before it
pub record IsCallOrder (items : List tree.Item) (order : List ℕ) : Type 0 where
  pub all : (i : ℕ) → i < length items → Contains order i
  pub called_first : (front rest : List ℕ) (i j : ℕ) → order ≡ front ++ i ∷ rest → Calls items i j → Contains front j

-- a value function, by its parameters
abbrev pub IsFunction : List tree.Item → ℕ → Type 0
IsFunction items i = are_values (params_of (slice_get items i)) ≡ true

-- What is called in a value function is what stands in its expression: it has no braces, and `lift` is no value function.
pub record ArePlain (items : List tree.Item) : Type 0 where
  pub no_braces : (i : ℕ) → IsFunction items i → (e : Expr) × (body_of (slice_get items i) ≡ Some (tree.Plain e))
  pub no_lift : (j : ℕ) → meaning (functions_of (top items)) lift_name ≡ Some (declaration.Function j) → ⊥
