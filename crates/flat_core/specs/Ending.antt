-- How a run of a system ends at a bound: in a fault, at a limit of instants, or in neither.
use Rattle.std.specs.Prelude.{◌≡◌, ℕ, List, Some, take, slice_get, IsFalse}
use Rattle.std.specs.List.{AllByRecursion, Contains}
use Rattle.lift_func.specs.declared.fault.FaultKind.{FaultKind}
use Rattle.flat_core.specs.Case.{Streams}
use Rattle.flat_core.specs.Fault.{is_faulty, IsNamed}
use Rattle.flat_core.specs.Instant.{instants}
use Rattle.flat_core.specs.Line.{Line, inputs_of}
use Rattle.flat_core.specs.System.{System}

module _ (s : System) (lines : List Line) (z : Streams) (bound limit : ℕ) where
  -- the fault that is named comes at t, which is one of the first instants, as many as the limit
  pub record EndsInFault (t i : ℕ) (kind : FaultKind) : Type 0 where
    pub named : IsNamed s (inputs_of lines) z t i kind
    pub within : Contains (take limit (instants s lines z bound)) t

  -- none of these has a root fault, and t is the next instant below the bound
  pub record EndsAtLimit (t : ℕ) : Type 0 where
    pub next : slice_get (instants s lines z bound) limit ≡ Some t
    pub sound : AllByRecursion (λ u. IsFalse (is_faulty s (inputs_of lines) z u)) (take limit (instants s lines z bound))

  -- neither
  pub record EndsAtBound : Type 0 where
    pub no_fault : (t i : ℕ) (kind : FaultKind) → EndsInFault t i kind → ⊥
    pub no_limit : (t : ℕ) → EndsAtLimit t → ⊥
