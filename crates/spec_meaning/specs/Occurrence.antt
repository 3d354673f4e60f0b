-- Occurrences of expressions: an expression of a specification, with the calls of macros in which it stands.
use Rattle.std.specs.Prelude.{ℕ, zero, suc, List, [], ◌∷◌, Option, Some, None, slice_get}
use Rattle.std.specs.Option.{option_map}
use Rattle.syntax_tree.specs.Tree as tree
use Rattle.syntax_tree.specs.Tree.{Expr, Exprs, no_exprs, more_exprs}
use Rattle.name_check.specs.declared.declaration.Declaration.{Declaration}
use Rattle.name_check.specs.declared.declaration.Declaration.TheVariants as declaration
use Rattle.name_check.specs.Scope.{Scope, top, inside, in_block}
use Rattle.syntax_tree.specs.Tree.{params_of}

-- a call of a macro: the number of its item, and what it is called with
pub record Call : Type 0 where
  pub item : ℕ
  pub arguments : Exprs

-- The calls around an expression, the innermost first. An expression without one stands in a definition of the top or in an output.
pub record Occurrence : Type 0 where
  pub calls : List Call
  pub expr : Expr

-- ---- the parts of a specification
-- an item's body, and the expression that is the result of a body
abbrev pub body_of : Option tree.Item → Option tree.Body
body_of (Some (tree.Defined p (tree.Define q n ps w b))) = Some b
body_of _ = None

abbrev pub result_of : tree.Body → Expr
result_of (tree.Plain e) = e
result_of (tree.Block ds e) = e

-- an argument by its number, counted from 0
abbrev pub argument : ℕ → Exprs → Option Expr
argument k no_exprs = None
argument zero (more_exprs e es) = Some e
argument (suc k) (more_exprs e es) = argument k es

-- a definition in a block, by its number
abbrev pub local : ℕ → tree.Definitions → Option tree.Body
local k tree.no_definitions = None
local zero (tree.more_definitions (tree.Define q n ps w b) ds) = Some b
local (suc k) (tree.more_definitions d ds) = local k ds

abbrev pub block_of : Option tree.Body → tree.Definitions
block_of (Some (tree.Block ds e)) = ds
block_of _ = tree.no_definitions

module _ (items : List tree.Item) where
  -- an item's result, and what is seen there
  abbrev pub result : ℕ → Option Expr
  result i = option_map result_of (body_of (slice_get items i))

  abbrev pub seen_in : List tree.Param → Option tree.Body → Scope
  seen_in ps b = in_block 0 (inside (top items) ps) (block_of b)

  abbrev pub scope_at : List Call → Scope
  scope_at [] = top items
  scope_at (c ∷ cs) = seen_in (params_of (slice_get items c.item)) (body_of (slice_get items c.item))

  -- the definition of the top, the argument, or the definition of the block for which a name stands
  abbrev pub stands_for : List Call → Declaration → Option Occurrence
  stands_for cs (declaration.Stream i) = option_map (λ e. record { calls = []; expr = e }) (result i)
  stands_for (c ∷ cs) (declaration.Parameter k) = option_map (λ e. record { calls = cs; expr = e }) (argument k c.arguments)
  stands_for (c ∷ cs) (declaration.Local k) =
      option_map (λ b. record { calls = c ∷ cs; expr = result_of b }) (local k (block_of (body_of (slice_get items c.item))))
  stands_for cs d = None

  -- the result of a macro that is called with these arguments
  abbrev pub macro_result : List Call → ℕ → Exprs → Option Occurrence
  macro_result cs i es = option_map (λ e. record { calls = record { item = i; arguments = es } ∷ cs; expr = e }) (result i)
