-- Steps that are left over when others are left out.
use Rattle.std.specs.Prelude.{◌≡◌, ◌⊎◌, ℕ, suc, ◌<◌, Bool, true, false, List, [], ◌∷◌, Option, Some, IsTrue, length, map, slice_get, slice_index_or, take}
use Rattle.std.specs.List.{Contains, filter, filter_map}
use Rattle.std.specs.Option.{option_map}
use Rattle.flat_core.specs.Events.{Inputs}
use Rattle.flat_core.specs.System.{System}
use Rattle.event_why.specs.declared.draft.Draft.{Draft}
use Rattle.event_why.specs.declared.fact.WhyStep.{WhyStep}
use Rattle.event_why.specs.Check.{AreRight, AreUsed}
use Rattle.event_why.specs.inner.Drafted.{IsDraft, KeepsFacts, fact_at, number_at}

-- ---- marks
abbrev pub is_marked : List Bool → ℕ → Bool
is_marked marks k = slice_index_or marks k false

-- how many places before one are marked
abbrev pub marked_before : List Bool → ℕ → ℕ
marked_before marks k = length (filter (λ b. b) (take k marks))

-- the numbers that are there
abbrev pub some_of : List (Option ℕ) → List ℕ
some_of numbers = filter_map (λ n. n) numbers

-- step k names step n
pub record IsGround (steps : List WhyStep) (k n : ℕ) : Type 0 where
  pub step : WhyStep
  pub is : slice_get steps k ≡ Some step
  pub names : Contains step.by.items n

-- what marked steps name is marked
abbrev pub HasGrounds : List WhyStep → List Bool → Type 0
HasGrounds steps marks = (k n : ℕ) → IsGround steps k n → IsTrue (is_marked marks k) → IsTrue (is_marked marks n)

-- besides what was marked, just what marked steps name is
pub record AreGroundsMarked (steps : List WhyStep) (old new : List Bool) : Type 0 where
  pub first : (k : ℕ) → IsTrue (is_marked old k) → IsTrue (is_marked new k)
  pub grounds : HasGrounds steps new
  pub only : (n : ℕ) → IsTrue (is_marked new n) → IsTrue (is_marked old n) ⊎ ((k : ℕ) × IsGround steps k n × IsTrue (is_marked new k))

-- the last one is marked, and what it stands on
pub record IsMarkedFrom (steps : List WhyStep) (last : ℕ) (old new : List Bool) : Type 0 where
  pub first : IsTrue (is_marked new last)
  pub grounds : HasGrounds steps new
  pub only :
      (n : ℕ) →
      IsTrue (is_marked new n) →
      IsTrue (is_marked old n) ⊎ (n ≡ last) ⊎ ((k : ℕ) × IsGround steps k n × IsTrue (is_marked new k))

-- what a table names is marked
abbrev pub HasNamed : List WhyStep → List Bool → List (Option ℕ) → Type 0
HasNamed steps marks numbers = (i n : ℕ) → number_at numbers i ≡ Some n → n < length steps → IsTrue (is_marked marks n)

-- what the tables of what happened before name is, and what that stands on
pub record HasKnown (draft : Draft) (marks : List Bool) : Type 0 where
  pub grounds : HasGrounds draft.steps.items marks
  pub latest : HasNamed draft.steps.items marks draft.latest.numbers.items
  pub quiet : HasNamed draft.steps.items marks draft.quiet.numbers.items
  pub pending : HasNamed draft.steps.items marks draft.pending.numbers.items

-- for each place its number once what is not marked is left out
pub record AreNumbers (marks : List Bool) (numbers : List ℕ) : Type 0 where
  pub one_each : length numbers ≡ length marks
  pub each : (k n : ℕ) → slice_get numbers k ≡ Some n → n ≡ marked_before marks k

-- ---- steps
-- the new number of a step, where it has one
abbrev pub new_number : List ℕ → ℕ → ℕ
new_number numbers n = slice_index_or numbers n n

-- the same fact, by new numbers
pub record IsRenumbered (numbers : List ℕ) (old new : WhyStep) : Type 0 where
  pub fact : new.fact ≡ old.fact
  pub by : new.by.items ≡ map (new_number numbers) old.by.items

-- the steps at the marked places, in order, by new numbers
pub data AreKept (numbers : List ℕ) : List Bool → List WhyStep → List WhyStep → Type 0 where
  done : AreKept numbers [] [] []
  kept :
      {old new : WhyStep} {marks : List Bool} {olds news : List WhyStep} →
      IsRenumbered numbers old new →
      AreKept numbers marks olds news →
      AreKept numbers (true ∷ marks) (old ∷ olds) (new ∷ news)
  left :
      {old : WhyStep} {marks : List Bool} {olds news : List WhyStep} →
      AreKept numbers marks olds news →
      AreKept numbers (false ∷ marks) (old ∷ olds) news

-- just the marked steps of a draft are left, and tables name them by their new numbers
pub record KeepsMarked (marks : List Bool) (old new : Draft) : Type 0 where
  pub numbers : List ℕ
  pub are : AreNumbers marks numbers
  pub steps : AreKept numbers marks old.steps.items new.steps.items
  pub latest : new.latest.numbers.items ≡ map (option_map (new_number numbers)) old.latest.numbers.items
  pub quiet : new.quiet.numbers.items ≡ map (option_map (new_number numbers)) old.quiet.numbers.items
  pub pending : new.pending.numbers.items ≡ map (option_map (new_number numbers)) old.pending.numbers.items
  pub here : new.here ≡ old.here

-- right steps, each but the last named by a later one, and the last has the fact that this one has
pub record EndsInFact (s : System) (slice : List ℕ) (p : Inputs) (old : List WhyStep) (last : ℕ) (new : List WhyStep) : Type 0 where
  pub right : AreRight s slice p new (length new)
  pub used : AreUsed new
  pub number : ℕ
  pub ends : suc number ≡ length new
  pub fact : fact_at new (Some number) ≡ fact_at old (Some last)

-- it is so where the old steps are right
abbrev pub IsEndOf : List WhyStep → ℕ → List WhyStep → Type 0
IsEndOf old last new =
    (s : System) (slice : List ℕ) (p : Inputs) →
    AreRight s slice p old (length old) →
    last < length old →
    EndsInFact s slice p old last new

-- a draft stays one, and what is known of what happened before is
abbrev pub IsPruned : Draft → Draft → Type 0
IsPruned old new = (s : System) (slice : List ℕ) (p : Inputs) → IsDraft s slice p old → IsDraft s slice p new × KeepsFacts old new
