-- Sets with all updates of a block of equations.
use Rattle.std.specs.Prelude.{ℕ, ◌<◌, ◌≤◌, ◌↔◌, ◌⊎◌, List, length, IsTrue}
use Rattle.std.specs.List.Sorted.{IsStrictlyIncreasing}
use Rattle.flat_core.specs.Members.{is_in}
use Rattle.flat_core.specs.System.{System}
use Rattle.alias_rules.specs.Fine.{IsFine}
use Rattle.alias_rules.specs.Uses.{IsUpdate}
use Rattle.alias_nears.specs.inner.Nears.{AreNears}
use Rattle.last_use.specs.declared.block.Block.{Block}
use Rattle.last_use.specs.declared.trial.InPlace.{InPlace}

-- y is an update from one number on and below another
pub record IsUpdateWithin (s : System) (from end y : ℕ) : Type 0 where
  pub high : from ≤ y
  pub low : y < end
  pub update : IsUpdate s y

-- the set with the updates of a block
pub record IsWithBlock (s : System) (set : List ℕ) (from end : ℕ) (more : List ℕ) : Type 0 where
  pub ascending : IsStrictlyIncreasing more
  pub each : (y : ℕ) → IsTrue (is_in more y) ↔ (IsTrue (is_in set y) ⊎ IsUpdateWithin s from end y)

-- it is fine, and what is near its updates is known
pub record IsFineBlock (s : System) (set : List ℕ) (from end : ℕ) (p : InPlace) : Type 0 where
  pub block : IsWithBlock s set from end p.set
  pub fine : IsFine s p.set
  pub nears : AreNears s p.set p.nears

-- a fine block of several updates from one number on
pub record IsBlock (s : System) (set : List ℕ) (from most : ℕ) (b : Block) : Type 0 where
  pub several : 1 < most
  pub begun : from < b.end
  pub within : b.end ≤ length s.equations
  pub fine : IsFineBlock s set from b.end b.in_place
