-- What is left to judge of steps, once each is right.
use Rattle.std.specs.Prelude.{ℕ, List, Option, Some, None}
use Rattle.tsl_value.specs.View.{View}
use Rattle.event_why.specs.declared.fact.WhyStep.{WhyStep}
use Rattle.event_why.specs.declared.fact.WhyFault.{WhyFault}
use Rattle.event_why.specs.declared.fact.WhyFault.TheVariants as fault
use Rattle.event_why.specs.Check.{AreUsed, EndsInEvent, IsFirstUnused}

-- whether the last fact is an event of equation o
abbrev pub IsEnded : List WhyStep → ℕ → Option WhyFault → Type 0
IsEnded steps o None = (t : ℕ) × (v : View) × EndsInEvent steps o t v
IsEnded steps o (Some fault.NoEvent) = (t : ℕ) (v : View) → ¬ EndsInEvent steps o t v
IsEnded steps o (Some f) = ⊥

-- and whether each fact but the last is used
abbrev pub IsRest : List WhyStep → ℕ → Option WhyFault → Type 0
IsRest steps o (Some (fault.Unused k)) = IsFirstUnused steps k
IsRest steps o f = AreUsed steps × IsEnded steps o f
