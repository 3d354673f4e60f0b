-- A file is read, and then something is done with it.
use Rattle.std.proofs.Common.{ℕ, List, ◌++◌}
use Rattle.tsl_world.specs.declared.outside.Did.{Did}
use Rattle.tsl_world.specs.declared.outside.Slot.{Slot}
use Rattle.tsl_world.specs.declared.outside.Slot.TheVariants.{Spec}
use Rattle.spec_lexer.specs.declared.limits.TheConstants.{MOST_SOURCE_BYTES}
use Rattle.tessla_cli.specs.inner.RunPhases.{FileEnds, GivesName, given_name, RunsFile, RunsSpec, SpecEnds, whole, whole_ends}

module _ (from : Slot) (most : ℕ) (name : List ℕ) (W : List ℕ → List Did → Type 0) (bytes : List ℕ) where
  pub file_runs : (p q : List Did) → GivesName from most name bytes p → W bytes q → RunsFile from most name W (p ++ q)
  file_runs _ q (given_name reads r g) does = whole reads q bytes r g does

  pub file_ends : (p q : List Did) → GivesName from most name bytes p → W bytes q → FileEnds from most name W (p ++ q)
  file_ends _ q (given_name reads r g) does = whole_ends reads q bytes r g does

-- so it is with a specification
module _ (name : List ℕ) (W : List ℕ → List Did → Type 0) (source : List ℕ) where
  pub joins_runs : (p q : List Did) → GivesName Spec MOST_SOURCE_BYTES name source p → W source q → RunsSpec name W (p ++ q)
  joins_runs = file_runs Spec MOST_SOURCE_BYTES name W source

  pub joins_ends : (p q : List Did) → GivesName Spec MOST_SOURCE_BYTES name source p → W source q → SpecEnds name W (p ++ q)
  joins_ends = file_ends Spec MOST_SOURCE_BYTES name W source
