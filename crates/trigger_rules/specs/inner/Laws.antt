-- Laws of trigger formulas: they tell at which times of a solution equations have events, up to the fault time. There some outcomes
-- are Fault. An equation that takes a Fault at the same time is Fault itself, so nothing is said of it.
use Rattle.std.specs.Prelude.{◌≡◌, ℕ, ◌<◌, ◌↔◌, [], ◌∷◌, Some, IsTrue, IsFalse}
use Rattle.flat_core.specs.declared.equation.Equation.{Equation}
use Rattle.flat_core.specs.declared.equation.Op.TheVariants as op
use Rattle.flat_core.specs.Case.{Streams}
use Rattle.flat_core.specs.Events.{Inputs}
use Rattle.flat_core.specs.Fault.{is_faulty}
use Rattle.flat_core.specs.Stream.{has_event, is_fault}
use Rattle.flat_core.specs.System.{System, runs, equation}
use Rattle.trigger_rules.specs.Question.{Fires, Starts, Implies, Together}
use Rattle.trigger_rules.specs.inner.Firing.{at_time, IsUpToFault}

-- the formula of an equation that is not Fault is true exactly where the equation has an event
abbrev pub FormulasTellEvents : Type 0
FormulasTellEvents =
    (s : System) (inputs : Inputs) (bound : ℕ) (z : Streams) (t : ℕ) →
    IsUpToFault s inputs bound z t →
    (x : ℕ) → IsTrue (runs s x) →
    IsFalse (is_fault (z x t)) →
    Fires s (at_time z t) x ↔ IsTrue (has_event (z x t))

-- no outcome is Fault at a time that has no root fault
abbrev pub SoundTimesHaveNoFault : Type 0
SoundTimesHaveNoFault =
    (s : System) (inputs : Inputs) (bound : ℕ) (z : Streams) (t : ℕ) →
    IsUpToFault s inputs bound z t →
    IsFalse (is_faulty s inputs z t) →
    (x : ℕ) → IsTrue (runs s x) →
    IsFalse (is_fault (z x t))

-- an equation that starts has an event at 0, where it is not Fault
abbrev pub StartingHappens : Type 0
StartingHappens =
    (s : System) (inputs : Inputs) (bound : ℕ) (z : Streams) →
    IsUpToFault s inputs bound z 0 →
    (x : ℕ) → IsTrue (runs s x) →
    Starts s x →
    IsFalse (is_fault (z x 0)) →
    IsTrue (has_event (z x 0))

-- after 0 the last value of an equation that starts is there wherever it is asked for
abbrev pub StartedIsThere : Type 0
StartedIsThere =
    (s : System) (inputs : Inputs) (bound : ℕ) (z : Streams) (t : ℕ) →
    IsUpToFault s inputs bound z t →
    0 < t →
    (x : ℕ) (e : Equation) (v r : ℕ) → IsTrue (runs s x) →
    equation s x ≡ Some e →
    e.op ≡ op.Last →
    e.args ≡ v ∷ r ∷ [] →
    Starts s v →
    has_event (z x t) ≡ has_event (z r t)

-- where x has an event, so has each y that it implies, unless that is Fault
abbrev pub ImpliedHappens : Type 0
ImpliedHappens =
    (s : System) (inputs : Inputs) (bound : ℕ) (z : Streams) (t : ℕ) →
    IsUpToFault s inputs bound z t →
    (x y : ℕ) → IsTrue (runs s x) →
    IsTrue (runs s y) →
    Implies s x y →
    IsFalse (is_fault (z y t)) →
    IsTrue (has_event (z x t)) →
    IsTrue (has_event (z y t))

-- equations that are not together never have an event at one time
abbrev pub ApartNeverMeet : Type 0
ApartNeverMeet =
    (s : System) (inputs : Inputs) (bound : ℕ) (z : Streams) (t : ℕ) →
    IsUpToFault s inputs bound z t →
    (x y : ℕ) → IsTrue (runs s x) →
    IsTrue (runs s y) →
    (Together s x y → ⊥) →
    IsTrue (has_event (z x t)) →
    IsTrue (has_event (z y t)) →
    ⊥
