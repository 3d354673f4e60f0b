-- Where an expression stands, and what the declared names are there.
use Rattle.std.specs.Prelude.{ℕ, List, [], ◌∷◌, Option, Some, None, slice_get}
use Rattle.std.specs.Option.{option_and_then}
use Rattle.syntax_tree.specs.Tree as tree
use Rattle.name_check.specs.declared.declaration.Declaration.{Declaration}
use Rattle.name_check.specs.declared.declaration.Declaration.TheVariants as declaration
use Rattle.name_check.specs.Scope.{Scope}
use Rattle.type_rules.specs.declared.rule.ExprType.{ExprType}
use Rattle.type_rules.specs.declared.rule.Setting.{Setting}
use Rattle.type_rules.specs.Kinds.{Kinds}
use Rattle.type_rules.specs.Written.{as_written}

pub record Around : Type 0 where
  pub items : List tree.Item
  pub kinds : Kinds
  pub scope : Scope
  pub setting : Setting
  -- the item around, and its parameters
  pub number : ℕ
  pub params : List tree.Param

-- all of the types, if each is something
abbrev pub cons : Option ExprType → Option (List ExprType) → Option (List ExprType)
cons (Some t) (Some ts) = Some (t ∷ ts)
cons _ _ = None

abbrev pub param_types : List tree.Param → Option (List ExprType)
param_types [] = Some []
param_types (p ∷ ps) = cons (as_written p.of) (param_types ps)

-- what a name is that is mentioned; one that takes arguments is nothing
abbrev pub declared_type : Around → Declaration → Option ExprType
declared_type at (declaration.Input i) = at.kinds.item i
declared_type at (declaration.Stream i) = at.kinds.item i
declared_type at (declaration.Parameter k) = option_and_then (λ p. as_written p.of) (slice_get at.params k)
declared_type at (declaration.Local k) = at.kinds.local at.number k
declared_type at d = None

-- a macro or a value function: its parameters, and what a call of it gives
pub record Callee : Type 0 where
  pub params : List ExprType
  pub result : ExprType

abbrev pub callee_of : Option (List ExprType) → Option ExprType → Option Callee
callee_of (Some ps) (Some t) = Some (record { params = ps; result = t })
callee_of _ _ = None

abbrev pub callee_at : Around → ℕ → Option Callee
callee_at at i = callee_of (param_types (tree.params_of (slice_get at.items i))) (at.kinds.item i)
