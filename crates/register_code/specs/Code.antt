-- What contracts see of code: the system, the updates that happen in place, and the order of the steps.
use Rattle.std.specs.Prelude.{ℕ, List}
use Rattle.flat_core.specs.Complete.{IsFlat}
use Rattle.flat_core.specs.System.{System}
use Rattle.alias_rules.specs.Fine.{IsFinePlan}

pub record Code : Type 0 where
  pub system : System
  pub in_place : List ℕ
  pub order : List ℕ

-- what all code has
pub record IsCode (c : Code) : Type 0 where
  pub is_flat : IsFlat c.system
  pub fine : IsFinePlan c.system c.in_place c.order
