-- What a `CalmWorld` means, and what it was made with.
use Rattle.std.specs.Prelude.{ℕ, Bool, List}
use Rattle.tsl_world.specs.inner.Desk.{standing_in, left_in}
use Rattle.tsl_world.specs.inner.Sizes.{size_at}
use Rattle.tsl_world.specs.Standing.{Standing}
use Rattle.tsl_world.specs.declared.outside.Did.{Did}
use Rattle.tsl_world.specs.declared.outside.Slot.{Slot}
use Rattle.tsl_world.specs.declared.files.NamedFile.{NamedFile}
use Rattle.tsl_world.specs.declared.calm.CalmWorld.{CalmWorld}

abbrev pub journal_of : CalmWorld → List Did
journal_of w = w.desk.journal

abbrev pub told_of : CalmWorld → Bool
told_of w = w.desk.told

abbrev pub left_of : CalmWorld → Slot → List ℕ
left_of w = left_in w.desk

abbrev pub standing_of : CalmWorld → Standing
standing_of w = standing_in w.desk

-- the files
abbrev pub files_of : CalmWorld → List NamedFile
files_of w = w.desk.files

-- the most that one call takes or gives
abbrev pub piece_of : CalmWorld → ℕ
piece_of w = size_at w.desk.pieces 0
