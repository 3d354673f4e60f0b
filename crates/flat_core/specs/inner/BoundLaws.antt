-- Laws of what happens below a bound.
use Rattle.std.specs.Prelude.{◌≡◌, ℕ, ◌<◌, ◌≤◌, ◌↔◌, List, ◌++◌, None, IsTrue, IsFalse}
use Rattle.std.specs.List.{AllByRecursion}
use Rattle.lift_func.specs.declared.fault.FaultKind.{FaultKind}
use Rattle.flat_core.specs.Stream.{event}
use Rattle.flat_core.specs.Case.{Streams}
use Rattle.flat_core.specs.Events.{Inputs}
use Rattle.flat_core.specs.Line.{Line, inputs_of}
use Rattle.flat_core.specs.System.{System, runs, IsProper}
use Rattle.flat_core.specs.Solution.{Solves}
use Rattle.flat_core.specs.Fault.{root_at, is_faulty, is_over, IsNamed}
use Rattle.flat_core.specs.Instant.{is_instant, instants}
use Rattle.flat_core.specs.TypedSystem.{IsTypedSystem}
use Rattle.flat_core.specs.WellFormed.{IsWellFormed}

-- Below the bound streams z with the lines ls have the instants, the root faults and the named fault that w has with ms.
pub record HappensAlike (s : System) (bound : ℕ) (ls : List Line) (z : Streams) (ms : List Line) (w : Streams) : Type 0 where
  pub instants_same : (n : ℕ) → n ≤ bound → instants s ls z n ≡ instants s ms w n
  pub root_same : (t i : ℕ) → t < bound → IsTrue (runs s i) → root_at s (inputs_of ls) z t i ≡ root_at s (inputs_of ms) w t i
  pub faulty_same : (t : ℕ) → t < bound → is_faulty s (inputs_of ls) z t ≡ is_faulty s (inputs_of ms) w t
  pub over_same : (t : ℕ) → t < bound → is_over s (inputs_of ls) z t ≡ is_over s (inputs_of ms) w t
  pub named_same : (t i : ℕ) (kind : FaultKind) → t < bound → IsNamed s (inputs_of ls) z t i kind ↔ IsNamed s (inputs_of ms) w t i kind

-- the lines have times from the bound on
abbrev pub AreFrom : ℕ → List Line → Type 0
AreFrom bound lines = AllByRecursion (λ l. bound ≤ l.time) lines

-- what further lines from the bound on leave as it is
pub record LeavesEarlier (s : System) (bound : ℕ) (ls more : List Line) : Type 0 where
  pub inputs_same : (i t : ℕ) → t < bound → inputs_of ls i t ≡ inputs_of (ls ++ more) i t
  pub solves_same : (z : Streams) → Solves s (inputs_of ls) bound z ↔ Solves s (inputs_of (ls ++ more)) bound z
  pub happens : (z : Streams) → HappensAlike s bound ls z (ls ++ more) z

-- what happens below a bound does not depend on lines from the bound on
abbrev pub LaterLinesLeaveEarlier : Type 0
LaterLinesLeaveEarlier = (s : System) (bound : ℕ) (ls more : List Line) → AreFrom bound more → LeavesEarlier s bound ls more

-- a solution below a bound is one below each smaller bound, and the instants below that come first
abbrev pub SmallerBoundIsSolved : Type 0
SmallerBoundIsSolved =
    (s : System) (inputs : Inputs) (low high : ℕ) (z : Streams) →
    low ≤ high →
    Solves s inputs high z →
    Solves s inputs low z

abbrev pub EarlierInstantsComeFirst : Type 0
EarlierInstantsComeFirst =
    (s : System) (lines : List Line) (z : Streams) (low high : ℕ) →
    low ≤ high →
    (rest : List ℕ) × (instants s lines z high ≡ instants s lines z low ++ rest) × AllByRecursion (λ t. (low ≤ t) × (t < high)) rest

-- each output has the same events in both
abbrev pub OutputsAgree : System → ℕ → Streams → Streams → Type 0
OutputsAgree s bound z w = AllByRecursion (λ o. (t : ℕ) → t < bound → event (z o.equation t) ≡ event (w o.equation t)) s.outputs

-- streams of running equations that agree below the bound mean the same there, whichever is taken
abbrev pub AgreeingStreamsMeanTheSame : Type 0
AgreeingStreamsMeanTheSame =
    (s : System) (lines : List Line) (bound : ℕ) (z w : Streams) →
    IsProper s →
    AllByRecursion (λ o. IsTrue (runs s o.equation)) s.outputs →
    ((i : ℕ) → IsTrue (runs s i) → (t : ℕ) → t < bound → z i t ≡ w i t) →
    HappensAlike s bound lines z lines w × OutputsAgree s bound z w

-- at most one fault is named
abbrev pub OneFaultIsNamed : Type 0
OneFaultIsNamed =
    (s : System) (inputs : Inputs) (z : Streams) (t u i j : ℕ) (kind other : FaultKind) →
    IsNamed s inputs z t i kind →
    IsNamed s inputs z u j other →
    (t ≡ u) × (i ≡ j) × (kind ≡ other)

-- In a solution of a well-formed system all that happens, root faults among it, happens at instants.
pub record HappensAtInstants (s : System) (lines : List Line) (bound : ℕ) (z : Streams) : Type 0 where
  pub silent : (t : ℕ) → t < bound → IsFalse (is_instant s lines z t) → (i : ℕ) → IsTrue (runs s i) → z i t ≡ None
  pub sound : (t : ℕ) → t < bound → IsFalse (is_instant s lines z t) → IsFalse (is_faulty s (inputs_of lines) z t)

abbrev pub AllHappensAtInstants : Type 0
AllHappensAtInstants =
    (s : System) (lines : List Line) (bound : ℕ) (z : Streams) →
    IsProper s →
    IsTypedSystem s →
    IsWellFormed s →
    Solves s (inputs_of lines) bound z →
    HappensAtInstants s lines bound z
