-- What is known of an equation at a time, and why it has an event then.
use Rattle.std.specs.Prelude.{◌≡◌, ℕ, suc, ◌<◌, false, List, Option, Some, None, length, MatchOption}
use Rattle.tsl_value.specs.View.{View}
use Rattle.flat_core.specs.Case.{Streams}
use Rattle.flat_core.specs.Events.{Inputs}
use Rattle.flat_core.specs.Fault.{IsNamed, is_faulty}
use Rattle.flat_core.specs.Stream.{event}
use Rattle.flat_core.specs.System.{System}
use Rattle.why_rules.specs.Facts.{Happens}
use Rattle.event_why.specs.declared.explained.Explained.{Explained}
use Rattle.event_why.specs.declared.explained.Explained.TheVariants as explained
use Rattle.event_why.specs.declared.fact.WhyStep.{WhyStep}
use Rattle.event_why.specs.Check.{AreRight, AreUsed, EndsInEvent}
use Rattle.event_why.specs.inner.Drafted.{fact_at}

-- right steps, each but the last named by a later one, and the last is this event
pub record IsReason (s : System) (slice : List ℕ) (p : Inputs) (o t : ℕ) (v : View) (steps : List WhyStep) : Type 0 where
  pub right : AreRight s slice p steps (length steps)
  pub used : AreUsed steps
  pub ends : EndsInEvent steps o t v

-- no running equation has a root fault before a time
abbrev pub IsClean : System → Inputs → Streams → ℕ → Type 0
IsClean s p z n = (u : ℕ) → u < n → is_faulty s p z u ≡ false

-- steps with the number of the event that equation o has at t, where it has one
abbrev pub IsEventNumber : List WhyStep → ℕ → ℕ → Option View → Option ℕ → Type 0
IsEventNumber steps o t x number =
    MatchOption number (x ≡ None) (λ n. (v : View) × (x ≡ Some v) × (fact_at steps (Some n) ≡ Some (Happens o t v)))

-- What is known of equation o at t, by streams that solve a system up to then: its event, and why it has it; that it has none; or the fault
-- that is named.
abbrev pub Knows : System → Inputs → Streams → ℕ → ℕ → Explained → Type 0
Knows s p z o t (explained.Why why) =
    IsClean s p z (suc t) × ((v : View) × (event (z o t) ≡ Some v) × IsReason s s.running p o t v why.steps.items)
Knows s p z o t explained.NoEvent = IsClean s p z (suc t) × (event (z o t) ≡ None)
Knows s p z o t (explained.Fault u i kind) = (u < suc t) × IsNamed s p z u i kind
