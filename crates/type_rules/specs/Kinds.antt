-- What the declared names of a specification are.
use Rattle.std.specs.Prelude.{ℕ, Option}
use Rattle.type_rules.specs.declared.rule.ExprType.{ExprType}

-- What the definitions are, by the numbers of their items, and those of blocks by the numbers of their items and their own: a stream
-- definition is what its body is, a macro or a value function what a call of it gives. One without a written type whose body is
-- refused is nothing.
pub record Kinds : Type 0 where
  pub item : ℕ → Option ExprType
  pub local : ℕ → ℕ → Option ExprType
