-- Which steps are named.
use Rattle.std.specs.Prelude.{◌≡◌, ℕ, ◌<◌, Bool, ◌||◌, List, length, Some, slice_get, slice_index_or, false}
use Rattle.std.specs.List.{Contains, list_any}
use Rattle.flat_core.specs.Members.{is_in}
use Rattle.event_why.specs.declared.fact.WhyStep.{WhyStep}

-- some step names step k
abbrev pub is_named : List WhyStep → ℕ → Bool
is_named steps k = list_any (λ step. is_in step.by.items k) steps

-- each step names earlier ones alone
pub record NamesEarlier (steps : List WhyStep) : Type 0 where
  pub each : (k : ℕ) (step : WhyStep) → slice_get steps k ≡ Some step → (n : ℕ) → Contains step.by.items n → n < k

-- the marks of some of so many numbers, beside those that were marked before
pub record AreMarked (ns : List ℕ) (old new : List Bool) : Type 0 where
  pub as_long : length new ≡ length old
  pub each : (k : ℕ) → k < length old → slice_index_or new k false ≡ (is_in ns k || slice_index_or old k false)
