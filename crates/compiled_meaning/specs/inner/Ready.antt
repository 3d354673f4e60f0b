-- Systems that can be run.
use Rattle.std.specs.Prelude.{◌≡◌, ℕ, ◌<◌, IsTrue}
use Rattle.std.specs.List.{AllByRecursion}
use Rattle.flat_core.specs.Case.{Streams}
use Rattle.flat_core.specs.Events.{Inputs}
use Rattle.flat_core.specs.Complete.{IsFlat}
use Rattle.flat_core.specs.Solution.{Solves}
use Rattle.flat_core.specs.System.{System, runs, IsProper}
use Rattle.flat_core.specs.WellFormed.{IsWellFormed}

-- It is whole and well-formed, arguments of running equations run, outputs run, and for all inputs there is a solution below each bound
-- and two agree.
pub record IsReady (s : System) : Type 0 where
  pub is_flat : IsFlat s
  pub well_formed : IsWellFormed s
  pub proper : IsProper s
  pub outputs_run : AllByRecursion (λ o. IsTrue (runs s o.equation)) s.outputs
  pub exists : (inputs : Inputs) (bound : ℕ) → (z : Streams) × Solves s inputs bound z
  pub agree : (inputs : Inputs) (bound : ℕ) (z w : Streams)
      → Solves s inputs bound z
      → Solves s inputs bound w
      → (i : ℕ)
      → IsTrue (runs s i)
      → (t : ℕ)
      → t < bound
      → z i t ≡ w i t
