-- Which derivations are right, and what a check answers.
use Rattle.std.specs.Prelude.{◌≡◌, ◌↔◌, ℕ, suc, ◌<◌, ◌≤◌, ◌^◌, List, [], ◌∷◌, Result, Ok, Err, Option, Some, None, length, slice_get}
use Rattle.std.specs.List.{Contains}
use Rattle.std.specs.List.Sorted.{IsStrictlyIncreasing}
use Rattle.tsl_value.specs.View.{View}
use Rattle.flat_core.specs.declared.equation.Output.{Output}
use Rattle.flat_core.specs.Case.{Streams}
use Rattle.flat_core.specs.Events.{Inputs}
use Rattle.flat_core.specs.Solution.{Solves}
use Rattle.flat_core.specs.Stream.{event}
use Rattle.flat_core.specs.System.{System}
use Rattle.flat_slice.specs.Slice.{IsSlice}
use Rattle.why_rules.specs.Facts.{Fact, Happens}
use Rattle.why_rules.specs.Rules.{Follows}
use Rattle.why_rules.specs.Derivation.{IsSound}
use Rattle.event_why.specs.declared.fact.WhyStep.{WhyStep}
use Rattle.event_why.specs.declared.fact.WhyFault.{WhyFault}
use Rattle.event_why.specs.declared.fact.WhyFault.TheVariants as fault
use Rattle.event_why.specs.Said.{said}

-- the facts of the steps with these numbers, each of which is before step k
pub data AreNamed (steps : List WhyStep) (k : ℕ) : List ℕ → List Fact → Type 0 where
  done : AreNamed steps k [] []
  next :
      {n : ℕ} {ns : List ℕ} {fs : List Fact} (step : WhyStep) →
      n < k →
      slice_get steps n ≡ Some step →
      AreNamed steps k ns fs →
      AreNamed steps k (n ∷ ns) (said step.fact ∷ fs)

-- both lists have the same facts, in whatever order and however often
abbrev pub HaveSame : List Fact → List Fact → Type 0
HaveSame fs gs = (f : Fact) → Contains fs f ↔ Contains gs f

module _ (s : System) (slice : List ℕ) (p : Inputs) (steps : List WhyStep) where
  -- The fact of step k follows by a rule, and the facts of the earlier steps that it names are just those that the rule uses.
  pub record IsRight (k : ℕ) : Type 0 where
    pub step : WhyStep
    pub is : slice_get steps k ≡ Some step
    pub facts : List Fact
    pub named : AreNamed steps k step.by.items facts
    pub uses : List Fact
    pub same : HaveSame uses facts
    pub follows : Follows s slice p (said step.fact) uses

  abbrev pub AreRight : ℕ → Type 0
  AreRight n = (k : ℕ) → k < n → IsRight k

  -- step k is the first that is not right
  pub record IsFirstWrong (k : ℕ) : Type 0 where
    pub there : k < length steps
    pub wrong : ¬ IsRight k
    pub before : AreRight k

module _ (steps : List WhyStep) where
  -- a later step names step k
  pub record IsUsed (k : ℕ) : Type 0 where
    pub number : ℕ
    pub later : k < number
    pub step : WhyStep
    pub is : slice_get steps number ≡ Some step
    pub names : Contains step.by.items k

  -- step k is the first but the last that none does
  pub record IsFirstUnused (k : ℕ) : Type 0 where
    pub there : suc k < length steps
    pub unused : ¬ IsUsed k
    pub before : (j : ℕ) → j < k → IsUsed j

  abbrev pub AreUsed : Type 0
  AreUsed = (k : ℕ) → suc k < length steps → IsUsed k

  -- the last fact is this event of equation o
  pub record EndsInEvent (o t : ℕ) (v : View) : Type 0 where
    pub number : ℕ
    pub last : suc number ≡ length steps
    pub step : WhyStep
    pub is : slice_get steps number ≡ Some step
    pub event : said step.fact ≡ Happens o t v

-- what is wrong with the steps, if anything is, for an output of equation o with this slice
module _ (s : System) (slice : List ℕ) (p : Inputs) (steps : List WhyStep) (o : ℕ) where
  abbrev pub IsVerdict : Option WhyFault → Type 0
  IsVerdict None = AreRight s slice p steps (length steps) × AreUsed steps × ((t : ℕ) × (v : View) × EndsInEvent steps o t v)
  IsVerdict (Some (fault.Wrong k)) = IsFirstWrong s slice p steps k
  IsVerdict (Some (fault.Unused k)) = AreRight s slice p steps (length steps) × IsFirstUnused steps k
  IsVerdict (Some fault.NoEvent) =
      AreRight s slice p steps (length steps) × AreUsed steps × ((t : ℕ) (v : View) → ¬ EndsInEvent steps o t v)
  IsVerdict (Some fault.Memory) = ⊥

-- for the output of this number
pub record IsJudged (s : System) (p : Inputs) (number : ℕ) (steps : List WhyStep) (answer : Option WhyFault) : Type 0 where
  pub output : Output
  pub is_output : slice_get s.outputs number ≡ Some output
  pub slice : List ℕ
  pub ascending : IsStrictlyIncreasing slice
  pub is_slice : IsSlice s output.equation slice
  pub verdict : IsVerdict s slice p steps output.equation answer

-- what a check answers; out of memory alone is free
abbrev pub IsChecked : System → Inputs → ℕ → List WhyStep → Result (Unit {0}) WhyFault → Type 0
IsChecked s p number steps (Ok _) = IsJudged s p number steps None
IsChecked s p number steps (Err fault.Memory) = Unit {0}
IsChecked s p number steps (Err f) = IsJudged s p number steps (Some f)

-- the last fact, if it is an event of this output, happens in each solution in which no equation of the slice has a fault up to its time
pub record IsForced (s : System) (p : Inputs) (number : ℕ) (steps : List WhyStep) : Type 0 where
  pub happens :
      (output : Output) →
      slice_get s.outputs number ≡ Some output →
      (slice : List ℕ) →
      IsSlice s output.equation slice →
      (t : ℕ) (v : View) →
      EndsInEvent steps output.equation t v →
      (bound : ℕ) → t < bound → bound ≤ 2 ^ 63 →
      (z : Streams) →
      Solves s p bound z →
      IsSound slice z (suc t) →
      event (z output.equation t) ≡ Some v
