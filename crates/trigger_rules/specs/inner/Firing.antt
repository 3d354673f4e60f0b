-- What is at a time of a solution.
use Rattle.std.specs.Prelude.{◌==◌, ℕ, ◌<◌, Bool, true, false, Option, Some, IsFalse}
use Rattle.tsl_value.specs.declared.scalar.Scalar.TheVariants as scalar
use Rattle.tsl_value.specs.View.{View, Plain}
use Rattle.flat_core.specs.Case.{Streams}
use Rattle.flat_core.specs.Events.{Inputs}
use Rattle.flat_core.specs.Fault.{is_faulty}
use Rattle.flat_core.specs.Solution.{Solves}
use Rattle.flat_core.specs.Stream.{event, has_event}
use Rattle.flat_core.specs.System.{System, IsProper}
use Rattle.flat_core.specs.inner.TypedEvents.{AreTypedInputs}
use Rattle.flat_core.specs.TypedSystem.{IsTypedSystem}
use Rattle.flat_core.specs.WellFormed.{IsRanked}
use Rattle.trigger_rules.specs.declared.atom.Atom.TheVariants.{Start, Happens, Holds}
use Rattle.trigger_rules.specs.Formula.{Assignment}

abbrev pub is_true : Option View → Bool
is_true (Some (Plain (scalar.Bool true))) = true
is_true _ = false

-- the assignment of a time
abbrev pub at_time : Streams → ℕ → Assignment
at_time z t Start = t == 0
at_time z t (Happens x) = has_event (z x t)
at_time z t (Holds c) = is_true (event (z c t))

-- The streams solve a system in dependency order, as each well-formed one is, for typed inputs below a bound, t is below the bound, and
-- no root fault came before t. So t is at most the fault time, which is the least time with a root fault.
pub record IsUpToFault (s : System) (inputs : Inputs) (bound : ℕ) (z : Streams) (t : ℕ) : Type 0 where
  pub proper : IsProper s
  pub typed : IsTypedSystem s
  pub rank : ℕ → ℕ
  pub ranked : IsRanked s rank
  pub solves : Solves s inputs bound z
  pub typed_inputs : AreTypedInputs s inputs
  pub below : t < bound
  pub sound : (u : ℕ) → u < t → IsFalse (is_faulty s inputs z u)
