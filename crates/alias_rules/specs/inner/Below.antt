-- The listed set, as far as the updates below a number were tried.
use Rattle.std.specs.Prelude.{ℕ, ◌<◌, ◌↔◌, List, IsTrue}
use Rattle.std.specs.List.Sorted.{IsStrictlyIncreasing}
use Rattle.flat_core.specs.Members.{is_in}
use Rattle.flat_core.specs.System.{System}
use Rattle.alias_rules.specs.Fine.{IsFine, with_tried}
use Rattle.alias_rules.specs.Uses.{IsUpdate}

-- y is below n, and can happen in place with those of the set before it
pub record IsTakenBelow (s : System) (n : ℕ) (set : List ℕ) (y : ℕ) : Type 0 where
  pub low : y < n
  pub update : IsUpdate s y
  pub fine : IsFine s (with_tried set y)

pub record IsListedBelow (s : System) (n : ℕ) (set : List ℕ) : Type 0 where
  pub ascending : IsStrictlyIncreasing set
  pub each : (y : ℕ) → IsTrue (is_in set y) ↔ IsTakenBelow s n set y
