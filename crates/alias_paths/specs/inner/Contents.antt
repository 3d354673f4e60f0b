-- Where content begins, by what is marked.
use Rattle.std.specs.Prelude.{◌≡◌, ℕ, Bool, List, IsTrue}
use Rattle.flat_core.specs.inner.Marks.{has_mark}
use Rattle.flat_core.specs.Members.{is_in}
use Rattle.flat_core.specs.System.{System}
use Rattle.translation_order.specs.Order.{Before}
use Rattle.alias_rules.specs.Uses.{IsWritten}
use Rattle.alias_rules.specs.Roots.{IsOrigin, IsRoot}

pub record IsInside (pairs : List (ℕ × ℕ)) (set : List ℕ) (a i : ℕ) : Type 0 where
  pub among : Before pairs a i
  pub inside : IsTrue (is_in set i)

pub record IsReachedOrigin (s : System) (set : List ℕ) (marks : List Bool) (x : ℕ) : Type 0 where
  pub marked : IsTrue (has_mark marks x)
  pub origin : IsOrigin s set x

-- r is a root of a marked equation
pub record IsRootOfOne (s : System) (set : List ℕ) (marks : List Bool) (r : ℕ) : Type 0 where
  pub one : ℕ
  pub marked : IsTrue (has_mark marks one)
  pub root : IsRoot s set r one

-- r is a root of what update y writes
pub record IsRootOfSource (s : System) (set : List ℕ) (y r : ℕ) : Type 0 where
  pub source : ℕ
  pub written : IsWritten s source y
  pub root : IsRoot s set r source
