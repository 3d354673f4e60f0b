-- What the slots of a world in memory read from.
use Rattle.std.specs.Prelude.{ℕ, List, drop}
use Rattle.tsl_world.specs.inner.Files.{bytes_at}
use Rattle.tsl_world.specs.declared.outside.Slot.{Slot}
use Rattle.tsl_world.specs.declared.outside.Slot.TheVariants as slot
use Rattle.tsl_world.specs.declared.files.NamedFile.{NamedFile}
use Rattle.tsl_world.specs.declared.desk.Source.{Source}
use Rattle.tsl_world.specs.declared.desk.Sources.{Sources}

abbrev pub source_at : Sources → Slot → Source
source_at s slot.Spec = s.spec
source_at s slot.Trace = s.trace
source_at s slot.State = s.state
source_at s slot.Code = s.code

abbrev pub with_source : Sources → Slot → Source → Sources
with_source s slot.Spec x = record s { spec = x }
with_source s slot.Trace x = record s { trace = x }
with_source s slot.State x = record s { state = x }
with_source s slot.Code x = record s { code = x }

-- what a source has left
abbrev pub rest_of : List NamedFile → Source → List ℕ
rest_of files s = drop s.place (bytes_at files s.file)
