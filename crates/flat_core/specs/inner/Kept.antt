-- Delays that have had their events where they expire.
use Rattle.std.specs.Prelude.{◌≡◌, ℕ, ◌<◌, List, [], ◌∷◌, Some, IsTrue}
use Rattle.flat_core.specs.declared.equation.Op.{Op}
use Rattle.flat_core.specs.declared.equation.Op.TheVariants as op
use Rattle.flat_core.specs.declared.equation.Equation.{Equation}
use Rattle.flat_core.specs.Stream.{has_event}
use Rattle.flat_core.specs.Case.{Streams}
use Rattle.flat_core.specs.Events.{expires}
use Rattle.flat_core.specs.System.{System, runs, equation}

-- equation i has them below t, if it is a delay
abbrev pub IsKept : Streams → ℕ → Op → List ℕ → ℕ → Type 0
IsKept z i op.Delay (d ∷ r ∷ []) t = (w : ℕ) → w < t → has_event (z i w) ≡ expires (z d) (z r) (z i) w
IsKept z i o args t = Unit {0}

-- each running equation has
pub record AreKept (s : System) (z : Streams) (t : ℕ) : Type 0 where
  pub each : (i : ℕ) (e : Equation) → IsTrue (runs s i) → equation s i ≡ Some e → IsKept z i e.op e.args t
