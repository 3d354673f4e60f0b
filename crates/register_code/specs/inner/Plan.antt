-- Orders for plans in which no update happens in place.
use Rattle.std.specs.Prelude.{ℕ, List}
use Rattle.flat_core.specs.System.{System}
use Rattle.alias_rules.specs.Steps.{MustPrecede, IsOrderBy, IsLeastOrderBy}

abbrev pub IsPlanOrder : System → List ℕ → Type 0
IsPlanOrder s order = IsOrderBy s (MustPrecede s) order

-- the one that is taken
abbrev pub IsLeastPlanOrder : System → List ℕ → Type 0
IsLeastPlanOrder s order = IsLeastOrderBy s (MustPrecede s) order
