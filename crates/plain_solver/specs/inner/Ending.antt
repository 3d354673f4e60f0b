-- That a run ended as the solutions of the system say.
use Rattle.std.specs.Prelude.{◌≡◌, ℕ, ◌↔◌, List}
use Rattle.lift_func.specs.declared.fault.FaultKind.{FaultKind}
use Rattle.flat_core.specs.Case.{Streams}
use Rattle.flat_core.specs.Ending.{EndsInFault, EndsAtLimit, EndsAtBound}
use Rattle.flat_core.specs.Line.{Line, inputs_of}
use Rattle.flat_core.specs.Solution.{Solves}
use Rattle.flat_core.specs.System.{System}
use Rattle.flat_core.specs.Text.{due_text}
use Rattle.plain_solver.specs.declared.events.Moment.{Moment}
use Rattle.plain_solver.specs.declared.solve.End.{End}
use Rattle.plain_solver.specs.declared.solve.End.TheVariants as end
use Rattle.plain_solver.specs.inner.Solved.{IsEnded}

-- the answer is the fault, the limit or the bound exactly where the solution ends so
pub record IsEnding (s : System) (lines : List Line) (z : Streams) (bound limit : ℕ) (ends : End) : Type 0 where
  pub in_fault : (t i : ℕ) (kind : FaultKind) → (ends ≡ end.Fault t i kind) ↔ EndsInFault s lines z bound limit t i kind
  pub at_limit : (t : ℕ) → (ends ≡ end.Limit t) ↔ EndsAtLimit s lines z bound limit t
  pub at_bound : (ends ≡ end.Bound) ↔ EndsAtBound s lines z bound limit

-- it is so for each solution
abbrev pub EndsSo : System → List Line → ℕ → ℕ → End → Type 0
EndsSo s lines bound limit ends = (w : Streams) → Solves s (inputs_of lines) bound w → IsEnding s lines w bound limit ends

-- The text is the due text of each solution, for lines, a bound and a limit with which the run ended so.
abbrev pub IsDueText : System → List (List Moment) → List ℕ → End → List ℕ → Type 0
IsDueText s all ran ends text =
    (lines : List Line) (bound limit : ℕ) →
    IsEnded s lines bound limit all ran ends →
    (w : Streams) → Solves s (inputs_of lines) bound w →
    text ≡ due_text s lines w bound limit
