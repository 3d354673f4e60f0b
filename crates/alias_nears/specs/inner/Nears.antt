-- What is near the updates of a set.
use Rattle.std.specs.Prelude.{◌≡◌, ℕ, ◌<◌, List, length, slice_index, slice_index_or, IsTrue}
use Rattle.flat_core.specs.Members.{is_in}
use Rattle.flat_core.specs.System.{System}
use Rattle.translation_order.specs.Order.{Before}
use Rattle.alias_rules.specs.Bypass.{Bypasses}
use Rattle.alias_rules.specs.Uses.{IsStored, IsWritten}
use Rattle.alias_paths.specs.inner.Pairs.{ArePairs}
use Rattle.alias_paths.specs.inner.Marking.{AreJust}
use Rattle.alias_paths.specs.inner.Flows.{SharesWithOne}
use Rattle.alias_nears.specs.declared.near.Begun.{Begun}
use Rattle.alias_nears.specs.declared.near.Near.{Near}
use Rattle.alias_nears.specs.declared.near.Sharers.{Sharers}
use Rattle.alias_nears.specs.declared.near.Nears.{Nears}
use Rattle.alias_nears.specs.inner.Contents.{SharesWithLast, IsBegin, IsNear}

-- the stored variables that share with one of these
abbrev pub IsShared : System → List ℕ → Sharers → Type 0
IsShared s set h = AreJust (length s.equations) (SharesWithOne s set h.stored) h.all

-- these are such, and are those that share with one whose last value is a root of what update y writes
pub record AreSharers (s : System) (set : List ℕ) (y : ℕ) (h : Sharers) : Type 0 where
  pub shared : IsShared s set h
  pub of_source : AreJust (length s.equations) (SharesWithLast s set y) h.all

abbrev pub AreShared : System → List ℕ → Near → Type 0
AreShared s set n = IsShared s set n.sharers

-- where content begins that may be that of the source of update y
pub record AreBegun (s : System) (set : List ℕ) (y : ℕ) (b : Begun) : Type 0 where
  pub sharers : AreSharers s set y b.sharers
  pub begins : AreJust (length s.equations) (IsBegin s set y) b.begins

-- what is near update y
pub record AreNear (s : System) (set : List ℕ) (y : ℕ) (n : Near) : Type 0 where
  pub sharers : AreSharers s set y n.sharers
  pub around : AreJust (length s.equations) (IsNear s set y) n.around
  pub bypassed : AreJust (length s.equations) (Bypasses s set y) n.bypassed

-- what is near the first updates of the set
pub record AreNearFirst (s : System) (set : List ℕ) (count : ℕ) (nears : List Near) : Type 0 where
  pub one_each : length nears ≡ count
  pub each : (k : ℕ) → k < count → (d : Near) → AreNear s set (slice_index set k) (slice_index_or nears k d)

abbrev pub AreNearEach : System → List ℕ → List Near → Type 0
AreNearEach s set nears = AreNearFirst s set (length set) nears

-- a writes the content of x, and is in the set, but not in a smaller one
pub record IsAdded (s : System) (set smaller : List ℕ) (x a : ℕ) : Type 0 where
  pub writes : IsWritten s x a
  pub inside : IsTrue (is_in set a)
  pub new : IsTrue (is_in smaller a) → ⊥

-- one of these pairs, whose second is in the set, but not in a smaller one
pub record IsAddedPair (pairs : List (ℕ × ℕ)) (set smaller : List ℕ) (x a : ℕ) : Type 0 where
  pub among : Before pairs x a
  pub inside : IsTrue (is_in set a)
  pub new : IsTrue (is_in smaller a) → ⊥

-- what is near update y of a smaller set, and the writes that are added
pub record IsEarlier (s : System) (set : List ℕ) (added : List (ℕ × ℕ)) (y : ℕ) (n : Near) : Type 0 where
  pub smaller : List ℕ
  pub wider : (x : ℕ) → IsTrue (is_in smaller x) → IsTrue (is_in set x)
  pub inside : IsTrue (is_in smaller y)
  pub are_added : ArePairs (IsAdded s set smaller) added
  pub near : AreNear s smaller y n

pub record AreNears (s : System) (set : List ℕ) (n : Nears) : Type 0 where
  pub stored : AreJust (length s.equations) (IsStored s) n.stored
  pub updates : AreNearEach s set n.updates.items
