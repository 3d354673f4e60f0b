-- Drafts: steps that are right, and tables of the numbers of those that say what happens.
use Rattle.std.specs.Prelude.{◌≡◌, ◌⊎◌, ℕ, ◌<◌, ◌≤◌, Bool, true, false, not, List, [], ◌∷◌, ◌++◌, Option, Some, None}
use Rattle.std.specs.Prelude.{length, replicate, slice_get, slice_index_or}
use Rattle.std.specs.List.{Contains}
use Rattle.std.specs.Option.{option_map}
use Rattle.flat_core.specs.Events.{Inputs}
use Rattle.flat_core.specs.System.{System}
use Rattle.why_rules.specs.Facts.{Fact, Happens, Silent, Pending}
use Rattle.why_rules.specs.Rules.{Follows}
use Rattle.event_why.specs.declared.draft.Draft.{Draft}
use Rattle.event_why.specs.declared.fact.WhyStep.{WhyStep}
use Rattle.event_why.specs.Check.{AreNamed, AreRight, HaveSame}
use Rattle.event_why.specs.Said.{said}

-- the number that a table has for equation i
abbrev pub number_at : List (Option ℕ) → ℕ → Option ℕ
number_at numbers i = slice_index_or numbers i None

-- the fact of the step with a number
abbrev pub fact_at : List WhyStep → Option ℕ → Option Fact
fact_at steps None = None
fact_at steps (Some n) = option_map (λ (step : WhyStep). said step.fact) (slice_get steps n)

-- what a table says of equation i
abbrev pub fact_of : List WhyStep → List (Option ℕ) → ℕ → Option Fact
fact_of steps numbers i = fact_at steps (number_at numbers i)

-- each number of a table is that of a step
abbrev pub AreWithin : List WhyStep → List (Option ℕ) → Type 0
AreWithin steps numbers = (i n : ℕ) → number_at numbers i ≡ Some n → n < length steps

-- a fact follows from those of the steps with these numbers
pub record IsGrounded (s : System) (slice : List ℕ) (p : Inputs) (steps : List WhyStep) (f : Fact) (by : List ℕ) : Type 0 where
  pub facts : List Fact
  pub named : AreNamed steps (length steps) by facts
  pub uses : List Fact
  pub same : HaveSame uses facts
  pub follows : Follows s slice p f uses

-- Each step is right, and tables name steps. Those that `here` names may have been left out, between two instants.
pub record IsDraft (s : System) (slice : List ℕ) (p : Inputs) (draft : Draft) : Type 0 where
  pub right : AreRight s slice p draft.steps.items (length draft.steps.items)
  pub latest : AreWithin draft.steps.items draft.latest.numbers.items
  pub quiet : AreWithin draft.steps.items draft.quiet.numbers.items
  pub pending : AreWithin draft.steps.items draft.pending.numbers.items

-- a table has what it had, as a table of other steps
pub record SaysTheSame (old : List WhyStep) (before : List (Option ℕ)) (new : List WhyStep) (now : List (Option ℕ)) : Type 0 where
  pub count : length now ≡ length before
  pub none : (i : ℕ) → number_at before i ≡ None → number_at now i ≡ None
  pub same : (i : ℕ) (f : Fact) → fact_of old before i ≡ Some f → fact_of new now i ≡ Some f

-- all tables have, but that of what happens at this instant
pub record KeepsFacts (old new : Draft) : Type 0 where
  pub latest : SaysTheSame old.steps.items old.latest.numbers.items new.steps.items new.latest.numbers.items
  pub quiet : SaysTheSame old.steps.items old.quiet.numbers.items new.steps.items new.quiet.numbers.items
  pub pending : SaysTheSame old.steps.items old.pending.numbers.items new.steps.items new.pending.numbers.items
  pub here_count : length new.here.numbers.items ≡ length old.here.numbers.items

-- the numbers that are there
abbrev pub there : List (Option ℕ) → List ℕ
there [] = []
there (None ∷ numbers) = there numbers
there (Some n ∷ numbers) = n ∷ there numbers

-- what a fact says, where there is one
abbrev pub happens_in : Option Fact → Bool
happens_in (Some (Happens i t v)) = true
happens_in _ = false

abbrev pub due_of : Option Fact → Option ℕ
due_of (Some (Pending i t due)) = due
due_of _ = None

abbrev pub silence_of : Option Fact → Option (ℕ × ℕ)
silence_of (Some (Silent i from to)) = Some (from, to)
silence_of _ = None

-- the first time of one silence and the last of another
abbrev pub joined_of : Option (ℕ × ℕ) → Option (ℕ × ℕ) → Option (ℕ × ℕ)
joined_of (Some a) (Some b) = Some (a.0, b.1)
joined_of _ _ = None

-- no step, and nothing in the tables of so many equations
pub record IsBlank (count : ℕ) (draft : Draft) : Type 0 where
  pub steps : draft.steps.items ≡ []
  pub here : draft.here.numbers.items ≡ replicate count None
  pub latest : draft.latest.numbers.items ≡ replicate count None
  pub quiet : draft.quiet.numbers.items ≡ replicate count None
  pub pending : draft.pending.numbers.items ≡ replicate count None

-- the tables are as they were
pub record HasSameTables (old new : Draft) : Type 0 where
  pub here : new.here.numbers.items ≡ old.here.numbers.items
  pub latest : new.latest.numbers.items ≡ old.latest.numbers.items
  pub quiet : new.quiet.numbers.items ≡ old.quiet.numbers.items
  pub pending : new.pending.numbers.items ≡ old.pending.numbers.items

-- one more step, of this number
pub record IsPut (old new : Draft) (step : WhyStep) (n : ℕ) : Type 0 where
  pub number : n ≡ length old.steps.items
  pub steps : new.steps.items ≡ old.steps.items ++ step ∷ []
  pub tables : HasSameTables old new

-- more steps, which are right if all others are; the last of them has this number and this fact
pub record IsGrown (s : System) (slice : List ℕ) (p : Inputs) (old new : Draft) (n : ℕ) (f : Fact) : Type 0 where
  pub longer : length old.steps.items ≤ length new.steps.items
  pub same : (k : ℕ) (g : Fact) → fact_at old.steps.items (Some k) ≡ Some g → fact_at new.steps.items (Some k) ≡ Some g
  pub right :
      AreRight s slice p old.steps.items (length old.steps.items) →
      AreRight s slice p new.steps.items (length new.steps.items)
  pub tables : HasSameTables old new
  pub here : fact_at new.steps.items (Some n) ≡ Some f

-- the number that a table has for an argument, if that is there
abbrev pub table_at : List (Option ℕ) → Option ℕ → Option ℕ
table_at numbers None = None
table_at numbers (Some a) = number_at numbers a

-- whether equation a has an event at this instant
abbrev pub happens_now : Draft → ℕ → Bool
happens_now draft a = happens_in (fact_of draft.steps.items draft.here.numbers.items a)

abbrev pub happens_at : Draft → Option ℕ → Bool
happens_at draft None = false
happens_at draft (Some a) = happens_now draft a

-- the number of what happens at one of these arguments, that has an event or none; or there is no such argument
abbrev pub IsByFirst : Draft → List ℕ → Bool → List ℕ → Type 0
IsByFirst draft args has by =
    ((a : ℕ) × Contains args a × (happens_now draft a ≡ has) × (by ≡ there (number_at draft.here.numbers.items a ∷ [])))
    ⊎ ((a : ℕ) → Contains args a → happens_now draft a ≡ not has)
