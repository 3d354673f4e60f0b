-- Typed chains: their beginnings and their operands.
use Rattle.std.specs.Prelude.{◌≡◌, ℕ, List, Some}
use Rattle.tsl_value.specs.declared.place.Place.{Place}
use Rattle.tsl_value.specs.declared.scalar.ValueType.{ValueType}
use Rattle.syntax_tree.specs.Tree as tree
use Rattle.syntax_tree.specs.Tree.{Expr, Links, no_links, more_links}
use Rattle.syntax_tree.specs.inner.Joins.{join_links}
use Rattle.syntax_tree.specs.declared.tree.Level.{Level}
use Rattle.syntax_tree.specs.declared.tree.Operator.{Operator}
use Rattle.type_rules.specs.declared.rule.ExprType.TheVariants as expr_type
use Rattle.type_rules.specs.Rules.{operand_type}
use Rattle.expr_types.specs.Around.{Around}
use Rattle.expr_types.specs.Judge.{type_of}
use Rattle.stream_constructs.specs.declared.construct.Stream.{Stream}
use Rattle.spec_meaning.specs.Makes.{Standing}
use Rattle.checked_spec.specs.inner.Matches.{IsTypedAt}

-- each beginning of a typed chain is of the type of the whole, also that of one operand
abbrev pub ChainsBegin : Type 0
ChainsBegin =
    (items : List tree.Item) (top : ℕ → Stream) (at : Around) (st : Standing) (p : Place) (l : Level) (e : Expr) (front rest : Links)
    (t : ValueType) →
    IsTypedAt items top at st (tree.Chain p l e (join_links front rest)) t →
    IsTypedAt items top at st (tree.Chain p l e front) t

-- a chain with an operator is of the type of the operands of its level
abbrev pub ChainsAreOfLevel : Type 0
ChainsAreOfLevel =
    (items : List tree.Item) (top : ℕ → Stream) (at : Around) (st : Standing) (p : Place) (l : Level) (e : Expr) (o : Operator) (f : Expr)
    (ls : Links) (t : ValueType) →
    IsTypedAt items top at st (tree.Chain p l e (more_links o f ls)) t →
    t ≡ operand_type l

-- the operands after the first are streams of this type
abbrev pub HaveOperands : Around → ValueType → Links → Type 0
HaveOperands at t no_links = Unit {0}
HaveOperands at t (more_links o f ls) = (type_of at f ≡ Some (expr_type.Stream t)) × HaveOperands at t ls

-- all the operands of a typed chain are of the type of the operands of its level
abbrev pub OperandsOfChains : Type 0
OperandsOfChains =
    (items : List tree.Item) (top : ℕ → Stream) (at : Around) (st : Standing) (p : Place) (l : Level) (e : Expr) (o : Operator) (f : Expr)
    (ls : Links) (t : ValueType) →
    IsTypedAt items top at st (tree.Chain p l e (more_links o f ls)) t →
    (type_of at e ≡ Some (expr_type.Stream (operand_type l))) × HaveOperands at (operand_type l) (more_links o f ls)

-- a chain of one operand is of the type of that
abbrev pub OneOperandIsTyped : Type 0
OneOperandIsTyped =
    (items : List tree.Item) (top : ℕ → Stream) (at : Around) (st : Standing) (p : Place) (l : Level) (e : Expr) (t : ValueType) →
    IsTypedAt items top at st (tree.Chain p l e no_links) t →
    type_of at e ≡ Some (expr_type.Stream t)
