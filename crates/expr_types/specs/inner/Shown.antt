-- Tables and places of expressions, without where they lie in memory.
use Rattle.std.specs.Prelude.{ℕ, List, Option, Vec, map, slice_get}
use Rattle.std.specs.Global.{Global}
use Rattle.std.specs.Option.{option_and_then}
use Rattle.syntax_tree.specs.inner.OneLevel.{params_in, item_of}
use Rattle.name_check.specs.Scope.{seen}
use Rattle.type_rules.specs.declared.rule.ExprType.{ExprType}
use Rattle.expr_types.specs.declared.kinds.KindTable.{KindTable}
use Rattle.expr_types.specs.declared.around.Around as code
use Rattle.expr_types.specs.declared.around.Callee as callee
use Rattle.expr_types.specs.Around.{Around, Callee}
use Rattle.type_rules.specs.Kinds.{Kinds}

-- what stands at a place; nothing stands past the end
abbrev pub kind_at : List (Option ExprType) → ℕ → Option ExprType
kind_at kinds i = option_and_then (λ kind. kind) (slice_get kinds i)

-- what a list of such lists has at two numbers
abbrev pub kinds_at : List (Vec (Option ExprType) Global) → ℕ → ℕ → Option ExprType
kinds_at locals i k = option_and_then (λ kinds. kind_at kinds.items k) (slice_get locals i)

abbrev pub kinds_of : KindTable → Kinds
kinds_of table = record {
  item = λ i. kind_at table.items.items i;
  local = λ i k. kinds_at table.locals.items i k;
}

abbrev pub around_of : code.Around → Around
around_of at = record {
  items = map item_of at.items.now;
  kinds = kinds_of at.kinds.now;
  scope = seen at.scope.now;
  setting = at.setting;
  number = at.number;
  params = params_in at.params.now;
}

abbrev pub callee_in : callee.Callee → Callee
callee_in c = record { params = c.params.items; result = c.of }
