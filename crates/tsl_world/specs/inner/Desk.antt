-- What a world in memory keeps.
use Rattle.std.specs.Prelude.{ℕ, Bool, List}
use Rattle.tsl_world.specs.inner.Sources.{source_at, rest_of}
use Rattle.tsl_world.specs.Standing.{Standing}
use Rattle.tsl_world.specs.declared.outside.Slot.{Slot}
use Rattle.tsl_world.specs.declared.outside.Did.{Did}
use Rattle.tsl_world.specs.declared.files.NamedFile.{NamedFile}
use Rattle.tsl_world.specs.declared.desk.Sources.{Sources}

pub record Kept : Type 0 where
  pub told : Bool
  pub journal : List Did
  pub sources : Sources
  pub writes_state : Bool
  pub writes_code : Bool
  pub files : List NamedFile
  pub pieces : List ℕ
  pub out : List ℕ
  pub err : List ℕ
  pub state : List ℕ
  pub code : List ℕ

abbrev pub standing_in : Kept → Standing
standing_in k = record {
  reads_spec = k.sources.spec.is_open;
  reads_trace = k.sources.trace.is_open;
  reads_state = k.sources.state.is_open;
  reads_code = k.sources.code.is_open;
  writes_state = k.writes_state;
  writes_code = k.writes_code;
}

-- what a slot has left
abbrev pub left_in : Kept → Slot → List ℕ
left_in k slot = rest_of k.files (source_at k.sources slot)
