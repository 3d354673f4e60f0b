-- What is made of an expression: its equations, and where they pass the limits.
use Rattle.std.specs.Prelude.{◌≡◌, ℕ, suc, List, ◌++◌, length, map, Some, slice_get}
use Rattle.std.specs.List.{Contains}
use Rattle.flat_core.specs.declared.equation.Equation.{Equation}
use Rattle.flat_core.specs.System.{System}
use Rattle.syntax_tree.specs.Tree as tree
use Rattle.syntax_tree.specs.Tree.{Expr}
use Rattle.name_check.specs.Bodies.{Seen, item_bodies}
use Rattle.name_check.specs.Parts.{Part, parts}
use Rattle.name_check.specs.Scope.{Scope, top}
use Rattle.type_rules.specs.declared.rule.ExprType.TheVariants as expr_type
use Rattle.expr_types.specs.Around.{Around}
use Rattle.type_rules.specs.Kinds.{Kinds}
use Rattle.expr_types.specs.Judge.{type_of}
use Rattle.stream_constructs.specs.declared.construct.Stream.{Stream}
use Rattle.stream_constructs.specs.declared.maker.MakeFault.{MakeFault}
use Rattle.stream_constructs.specs.Made.{with_equations}
use Rattle.spec_meaning.specs.Makes.{Standing, Makes}
use Rattle.call_limits.specs.Nesting.{Chain, CallsMacro}
use Rattle.checked_spec.specs.inner.Checked.{IsTyped}
use Rattle.checked_spec.specs.inner.Matches.{Matches}
use Rattle.equation_marks.specs.Marks.{Mark, mark_of, marks, macro_marks}
use Rattle.equation_marks.specs.Refused.{AreRefused}

-- a part of an expression stands in a body of item i, at what is seen there
pub record StandsIn (items : List tree.Item) (i : ℕ) (scope : Scope) (part : Part) : Type 0 where
  pub item : tree.Item
  pub is_item : slice_get items i ≡ Some item
  pub seen : Seen
  pub is_body : Contains (item_bodies (top items) item) seen
  pub scope_is : seen.scope ≡ scope
  pub is_part : Contains (parts seen.expr) part

-- An expression of a stream may be made where it stands: it is typed there, it stands in an item, and calls of macros nest no deeper
-- from that item on.
pub record MayMake (items : List tree.Item) (kinds : Kinds) (top : ℕ → Stream) (at : Around) (st : Standing) (deep : ℕ)
    (e : Expr) : Type 0 where
  pub kinds_are : at.kinds ≡ kinds
  pub matches : Matches items top at st
  pub nests : (to : ℕ) → Chain (CallsMacro items) (suc deep) at.number to → ⊥
  pub stands : (part : Part) → Contains (parts e) part → StandsIn items at.number at.scope part
  pub of : (t : _) × IsTyped items at e (expr_type.Stream t)

module _ (items : List tree.Item) (kinds : Kinds) (top : ℕ → Stream) (at : Around) (st : Standing) (deep : ℕ) where
  -- its marks
  abbrev pub marks_here : Expr → List Mark
  marks_here e = marks at (macro_marks items kinds deep) e

  -- its equations were made, and this is its stream
  pub record IsMade (e : Expr) (old new : System) (s : Stream) : Type 0 where
    pub made : List Equation
    pub new_is : new ≡ with_equations old made
    pub makes : Makes items kinds top st e (length old.equations) made s
    pub marks_are : map mark_of made ≡ marks_here e
    pub of_is : type_of at e ≡ Some (expr_type.Stream s.of)

  -- the limits are passed after the equations that were made before
  abbrev pub IsNotMade : Expr → System → MakeFault → Type 0
  IsNotMade e old fault = AreRefused (map mark_of old.equations ++ marks_here e) fault
