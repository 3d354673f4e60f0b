-- A system and what simplification makes of it, each with streams that solve it.
use Rattle.std.specs.Prelude.{ℕ, ◌<◌, IsTrue, IsFalse}
use Rattle.flat_core.specs.Case.{Streams}
use Rattle.flat_core.specs.Events.{Inputs}
use Rattle.flat_core.specs.Fault.{is_faulty}
use Rattle.flat_core.specs.Solution.{Solves}
use Rattle.flat_core.specs.System.{System, OutputsRun, IsProper}
use Rattle.flat_core.specs.inner.TypedEvents.{AreTypedInputs}
use Rattle.flat_core.specs.TypedSystem.{IsTypedSystem}
use Rattle.flat_core.specs.WellFormed.{IsWellFormed}
use Rattle.flat_simplify.specs.Simplified.{IsSimplified}

-- below the bound z solves s and w solves what simplification makes of s, for inputs of their types
pub record AreSolved (s u : System) (inputs : Inputs) (bound : ℕ) (z w : Streams) : Type 0 where
  pub proper : IsProper s
  pub typed : IsTypedSystem s
  pub well_formed : IsWellFormed s
  pub outputs_run : OutputsRun s
  pub simplified : IsSimplified s u
  pub solves : Solves s inputs bound z
  pub typed_inputs : AreTypedInputs s inputs
  pub solves_simplified : Solves u inputs bound w

-- no root fault comes before t, so t is at most the fault time
abbrev pub IsSoundBefore : System → Inputs → Streams → ℕ → Type 0
IsSoundBefore s inputs z t = (v : ℕ) → v < t → IsFalse (is_faulty s inputs z v)

-- t is the least time with a root fault
abbrev pub IsFaultTime : System → Inputs → Streams → ℕ → Type 0
IsFaultTime s inputs z t = IsTrue (is_faulty s inputs z t) × IsSoundBefore s inputs z t
