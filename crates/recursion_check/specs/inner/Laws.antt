-- A law of cycles.
use Rattle.std.specs.Prelude.{◌≡◌, List, ℕ, length}
use Rattle.flat_core.specs.System.{System}
use Rattle.translation_order.specs.Cycle.{IsCycleOfWalk}
use Rattle.recursion_check.specs.Feeds.{Feeds}

-- at most one list is the cycle of a system
abbrev pub OneCycle : Type 0
OneCycle =
    (s : System) (xs ys : List ℕ) →
    IsCycleOfWalk (length s.equations) (Feeds s) xs →
    IsCycleOfWalk (length s.equations) (Feeds s) ys →
    xs ≡ ys
