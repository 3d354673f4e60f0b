-- What the questions for conflicts answer.
use Rattle.std.specs.Prelude.{ℕ, List, Option, None, Some, MatchOption}
use Rattle.flat_core.specs.System.{System}
use Rattle.translation_order.specs.Least.{IsLeast}
use Rattle.alias_rules.specs.Conflict.{IsInConflict, IsFirst, NoneKept, AllOverwritten, IsFirstKept, IsFirstNotOverwritten}
use Rattle.alias_nears.specs.declared.reason.Reason.{Reason}
use Rattle.alias_nears.specs.declared.reason.Reason.TheVariants as reason

-- the least number with a property, if there is one
abbrev pub IsLeastOrNone : (ℕ → Type 0) → Option ℕ → Type 0
IsLeastOrNone P r = MatchOption r ((x : ℕ) → P x → ⊥) (IsLeast P)

-- the first conflict of a kind, if there is one
abbrev pub IsFirstOrNone : List ℕ → (ℕ → ℕ → Type 0) → Option (ℕ × ℕ) → Type 0
IsFirstOrNone set Conflict r = MatchOption r ((y : ℕ) → IsInConflict set Conflict y → ⊥) (λ p. IsFirst set Conflict p.0 p.1)

-- the first conflict of all
abbrev pub IsFirstConflict : System → List ℕ → Option Reason → Type 0
IsFirstConflict s set None = NoneKept s set × AllOverwritten s set
IsFirstConflict s set (Some (reason.Kept y x)) = IsFirstKept s set y x
IsFirstConflict s set (Some (reason.NotOverwritten y v)) = IsFirstNotOverwritten s set y v
IsFirstConflict s set (Some (reason.Cycle steps)) = ⊥
