-- The updates that do not happen in place.
use Rattle.std.specs.Prelude.{ℕ, ◌↔◌, List, IsTrue}
use Rattle.std.specs.List.Sorted.{IsStrictlyIncreasing}
use Rattle.flat_core.specs.Members.{is_in}
use Rattle.flat_core.specs.System.{System}
use Rattle.alias_rules.specs.Uses.{IsUpdate}

-- y runs, is an update, and is not in the set
pub record IsOutside (s : System) (set : List ℕ) (y : ℕ) : Type 0 where
  pub update : IsUpdate s y
  pub outside : IsTrue (is_in set y) → ⊥

-- all of them, each once, in ascending order
pub record AreOutside (s : System) (set updates : List ℕ) : Type 0 where
  pub ascending : IsStrictlyIncreasing updates
  pub each : (y : ℕ) → IsTrue (is_in updates y) ↔ IsOutside s set y
