-- Specifications that have none of the faults that are checked before flattening, and what is known of their expressions then.
use Rattle.std.specs.Prelude.{◌≡◌, false, List, [], Some, None}
use Rattle.std.specs.List.{Contains}
use Rattle.syntax_tree.specs.Tree as tree
use Rattle.syntax_tree.specs.Tree.{Expr}
use Rattle.name_check.specs.Faults.{declared_twice, unknown_names, is_unknown}
use Rattle.name_check.specs.Parts.{Part, Operand, parts}
use Rattle.form_check.specs.Types.{bad_types}
use Rattle.form_check.specs.Declared.{mixed_parameters, aggregate_inputs}
use Rattle.form_check.specs.Arity.{wrong_arities}
use Rattle.type_rules.specs.declared.rule.ExprType.{ExprType}
use Rattle.expr_types.specs.Around.{Around}
use Rattle.type_rules.specs.Kinds.{Kinds}
use Rattle.expr_types.specs.Bodies.{AreKinds, all_wrongs, aggregate_results_from}
use Rattle.expr_types.specs.Judge.{type_of}
use Rattle.definition_cycles.specs.Cycles.{IsFirstFunctionCycle, IsFirstUntypedCycle}
use Rattle.checked_spec.specs.inner.Formed.{IsFormed, HaveTheirOperators}

-- the specification has none of these faults, and its declared names are this
pub record IsChecked (items : List tree.Item) (kinds : Kinds) : Type 0 where
  pub names_once : declared_twice items ≡ []
  pub names_known : unknown_names items ≡ []
  pub good_types : bad_types items ≡ []
  pub not_mixed : mixed_parameters items ≡ []
  pub scalar_inputs : aggregate_inputs items ≡ []
  pub no_cycle : IsFirstFunctionCycle items None
  pub no_untyped_cycle : IsFirstUntypedCycle items None
  pub are_kinds : AreKinds items kinds
  pub arities : wrong_arities items ≡ []
  pub fit : all_wrongs items kinds ≡ []
  pub scalar_results : aggregate_results_from kinds 0 items ≡ []
  pub operators : HaveTheirOperators items

-- an expression is of this type where it stands, and each expression in it is formed and mentions known names
pub record IsTyped (items : List tree.Item) (at : Around) (e : Expr) (t : ExprType) : Type 0 where
  pub formed : (part : Expr) → Contains (parts e) (Operand part) → IsFormed items at.scope part
  pub known : (part : Part) → Contains (parts e) part → is_unknown at.scope part ≡ false
  pub is : type_of at e ≡ Some t
