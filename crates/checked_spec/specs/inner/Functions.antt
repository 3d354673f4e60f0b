-- Value functions of which the bodies are typed.
use Rattle.std.specs.Prelude.{◌≡◌, ℕ, ◌≤◌, true, List, [], ◌∷◌, length, Option, Some, slice_get}
use Rattle.tsl_value.specs.declared.scalar.ValueType.TheVariants as value_type
use Rattle.lift_func.specs.BodyTree.{BodyTree}
use Rattle.lift_func.specs.Typing.{ValueKind, Value, Optional, HasKind}
use Rattle.syntax_tree.specs.Tree as tree
use Rattle.name_check.specs.Scope.{are_values}
use Rattle.type_rules.specs.declared.rule.ExprType.{ExprType}
use Rattle.type_rules.specs.declared.rule.ExprType.TheVariants as expr_type
use Rattle.expr_types.specs.Around.{Callee, param_types, callee_of}
use Rattle.type_rules.specs.Kinds.{Kinds}
use Rattle.syntax_tree.specs.Tree.{params_of}
use Rattle.spec_meaning.specs.Function.{function_at}

-- a tree is a value or an option of a type; it is no stream
abbrev pub HasType : List ValueKind → BodyTree → ExprType → Type 0
HasType ks t (expr_type.Value v) = HasKind ks t (Value v)
HasType ks t (expr_type.Optional v) = HasKind ks t (Optional v)
HasType ks t (expr_type.Stream v) = ⊥

-- trees, each of its type
abbrev pub HaveTypes : List ValueKind → List BodyTree → List ExprType → Type 0
HaveTypes ks [] [] = Unit {0}
HaveTypes ks (t ∷ ts) (p ∷ ps) = HasType ks t p × HaveTypes ks ts ps
HaveTypes ks _ _ = ⊥

-- a scalar or an option of one
abbrev pub IsScalarResult : ExprType → Type 0
IsScalarResult (expr_type.Value (value_type.Scalar s)) = Unit {0}
IsScalarResult (expr_type.Optional (value_type.Scalar s)) = Unit {0}
IsScalarResult t = ⊥

-- what item i takes and gives where it is called
abbrev pub callee : List tree.Item → Kinds → ℕ → Option Callee
callee items kinds i = callee_of (param_types (params_of (slice_get items i))) (kinds.item i)

-- The value function of item i has at most eight parameters, gives a scalar or an option of one, and its body is that where the operands
-- are what it takes.
pub record IsTypedFunction (items : List tree.Item) (kinds : Kinds) (i : ℕ) : Type 0 where
  pub few : length (params_of (slice_get items i)) ≤ 8
  pub result : (c : Callee) → callee items kinds i ≡ Some c → IsScalarResult c.result
  pub body :
      (c : Callee) (ks : List ValueKind) (ts : List BodyTree) →
      callee items kinds i ≡ Some c →
      HaveTypes ks ts c.params →
      HasType ks (function_at items i ts) c.result

pub record AreTypedFunctions (items : List tree.Item) (kinds : Kinds) : Type 0 where
  pub each : (i : ℕ) → are_values (params_of (slice_get items i)) ≡ true → IsTypedFunction items kinds i
