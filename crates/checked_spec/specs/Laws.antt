-- The bodies of a checked specification are of the types of what they define.
use Rattle.std.specs.Prelude.{◌≡◌, ℕ, true, List, [], Option, Some, slice_get}
use Rattle.tsl_value.specs.declared.place.Place.{Place}
use Rattle.tsl_value.specs.declared.scalar.ValueType.{ValueType}
use Rattle.syntax_tree.specs.Tree as tree
use Rattle.syntax_tree.specs.Tree.{Expr, TypeName}
use Rattle.name_check.specs.declared.declaration.Declaration.TheVariants as declaration
use Rattle.name_check.specs.Builtin.{lift_name}
use Rattle.name_check.specs.Scope.{top, meaning, are_values, functions_of}
use Rattle.type_rules.specs.declared.rule.ExprType.{ExprType}
use Rattle.type_rules.specs.declared.rule.ExprType.TheVariants as expr_type
use Rattle.type_rules.specs.Written.{as_written}
use Rattle.expr_types.specs.Around.{Around}
use Rattle.type_rules.specs.Kinds.{Kinds}
use Rattle.syntax_tree.specs.Tree.{params_of}
use Rattle.expr_types.specs.Bodies.{in_definition, at_top, within_block, may_have_braces}
use Rattle.spec_meaning.specs.Occurrence.{body_of, result_of, block_of, local}
use Rattle.checked_spec.specs.inner.Checked.{IsChecked, IsTyped}

-- ---- a body without braces is an expression of a stream
pub record IsStreamBody (items : List tree.Item) (at : Around) (b : tree.Body) (kind : Option ExprType) : Type 0 where
  pub of : ValueType
  pub kind_is : kind ≡ Some (expr_type.Stream of)
  pub expr : Expr
  pub plain : b ≡ tree.Plain expr
  pub typed : IsTyped items at expr (expr_type.Stream of)

-- definitions of the top without parameters
abbrev pub StreamsAreTyped : Type 0
StreamsAreTyped =
    (items : List tree.Item) (kinds : Kinds) (i : ℕ) (p q : Place) (x : List ℕ) (w : Option TypeName) (b : tree.Body) →
    IsChecked items kinds →
    slice_get items i ≡ Some (tree.Defined p (tree.Define q x [] w b)) →
    IsStreamBody items (in_definition items kinds i []) b (kinds.item i)

-- ---- a macro: its parameters are streams, and so are its result and the definitions of its block
abbrev pub in_macro : List tree.Item → Kinds → ℕ → Around
in_macro items kinds i =
    within_block (in_definition items kinds i (params_of (slice_get items i))) (block_of (body_of (slice_get items i)))

pub record IsMacro (items : List tree.Item) (kinds : Kinds) (i : ℕ) : Type 0 where
  pub of : ValueType
  pub kind_is : kinds.item i ≡ Some (expr_type.Stream of)
  pub body : tree.Body
  pub body_is : body_of (slice_get items i) ≡ Some body
  pub result : IsTyped items (in_macro items kinds i) (result_of body) (expr_type.Stream of)
  pub params :
      (k : ℕ) (p : tree.Param) →
      slice_get (params_of (slice_get items i)) k ≡ Some p →
      (t : ValueType) × (as_written p.of ≡ Some (expr_type.Stream t))
  pub locals :
      (k : ℕ) (b : tree.Body) →
      local k (block_of (Some body)) ≡ Some b →
      IsStreamBody items (in_macro items kinds i) b (kinds.local i k)

abbrev pub MacrosAreTyped : Type 0
MacrosAreTyped =
    (items : List tree.Item) (kinds : Kinds) (i : ℕ) →
    IsChecked items kinds →
    may_have_braces (params_of (slice_get items i)) ≡ true →
    IsMacro items kinds i

-- ---- outputs
abbrev pub OutputsAreTyped : Type 0
OutputsAreTyped =
    (items : List tree.Item) (kinds : Kinds) (i : ℕ) (p q : Place) (x : List ℕ) →
    IsChecked items kinds →
    slice_get items i ≡ Some (tree.Output p q x) →
    (t : ValueType) × IsTyped items (at_top items kinds i) (tree.Name q x) (expr_type.Stream t)

abbrev pub NamedOutputsAreTyped : Type 0
NamedOutputsAreTyped =
    (items : List tree.Item) (kinds : Kinds) (i : ℕ) (p q : Place) (e : Expr) (x : List ℕ) →
    IsChecked items kinds →
    slice_get items i ≡ Some (tree.OutputAs p e q x) →
    (t : ValueType) × IsTyped items (at_top items kinds i) e (expr_type.Stream t)

-- ---- value functions: an expression, whose type is what a call gives
pub record IsFunctionBody (items : List tree.Item) (kinds : Kinds) (i : ℕ) : Type 0 where
  pub of : ExprType
  pub kind_is : kinds.item i ≡ Some of
  pub expr : Expr
  pub plain : body_of (slice_get items i) ≡ Some (tree.Plain expr)
  pub typed : IsTyped items (in_definition items kinds i (params_of (slice_get items i))) expr of
  pub params : (k : ℕ) (p : tree.Param) → slice_get (params_of (slice_get items i)) k ≡ Some p → (t : ExprType) × (as_written p.of ≡ Some t)

abbrev pub FunctionBodiesAreTyped : Type 0
FunctionBodiesAreTyped =
    (items : List tree.Item) (kinds : Kinds) (i : ℕ) →
    IsChecked items kinds →
    are_values (params_of (slice_get items i)) ≡ true →
    IsFunctionBody items kinds i

-- `lift` is a name of the language, and no value function
abbrev pub LiftIsNoFunction : Type 0
LiftIsNoFunction =
    (items : List tree.Item) (kinds : Kinds) (j : ℕ) →
    IsChecked items kinds →
    meaning (functions_of (top items)) lift_name ≡ Some (declaration.Function j) →
    ⊥
