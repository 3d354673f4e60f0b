-- What a `MemoryWorld` means, what it was made with, and which call comes next.
use Rattle.std.specs.Prelude.{ℕ, Bool, List}
use Rattle.tsl_world.specs.inner.Desk.{standing_in, left_in}
use Rattle.tsl_world.specs.inner.Sizes.{size_at}
use Rattle.tsl_world.specs.Standing.{Standing}
use Rattle.tsl_world.specs.declared.outside.Did.{Did}
use Rattle.tsl_world.specs.declared.outside.Slot.{Slot}
use Rattle.tsl_world.specs.declared.files.NamedFile.{NamedFile}
use Rattle.tsl_world.specs.declared.memory.MemoryWorld.{MemoryWorld}

abbrev pub journal_of : MemoryWorld → List Did
journal_of w = w.desk.journal

abbrev pub told_of : MemoryWorld → Bool
told_of w = w.desk.told

abbrev pub left_of : MemoryWorld → Slot → List ℕ
left_of w = left_in w.desk

abbrev pub standing_of : MemoryWorld → Standing
standing_of w = standing_in w.desk

abbrev pub faults_of : MemoryWorld → ℕ
faults_of w = w.faults

abbrev pub unheard_of : MemoryWorld → ℕ
unheard_of w = w.unheard

-- the files
abbrev pub files_of : MemoryWorld → List NamedFile
files_of w = w.desk.files

-- the most that calls take or give, in turn
abbrev pub pieces_of : MemoryWorld → List ℕ
pieces_of w = w.desk.pieces

-- the numbers of the calls that fail
abbrev pub fails_of : MemoryWorld → List ℕ
fails_of w = w.fails

-- the number of the next call
abbrev pub next_of : MemoryWorld → ℕ
next_of w = w.calls

-- the most that the next call takes or gives
abbrev pub piece_of : MemoryWorld → ℕ
piece_of w = size_at w.desk.pieces w.calls
