-- Laws of reasons.
use Rattle.std.specs.Prelude.{◌≡◌, ℕ, List}
use Rattle.flat_core.specs.System.{System}
use Rattle.alias_rules.specs.Fine.{IsFine}
use Rattle.alias_nears.specs.declared.reason.Reason.{Reason}
use Rattle.last_use.specs.Reasons.{IsReason}

-- a set has at most one reason
abbrev pub OneReason : Type 0
OneReason = (s : System) (set : List ℕ) (r q : Reason) → IsReason s set r → IsReason s set q → r ≡ q

-- a fine set has none
abbrev pub FineSetHasNoReason : Type 0
FineSetHasNoReason = (s : System) (set : List ℕ) (r : Reason) → IsFine s set → IsReason s set r → ⊥
