-- The least marked place apart from the marks of the others.
use Rattle.std.specs.Prelude.{ℕ, ◌<◌, ◌≤◌, Bool, true, List, Option, Some, None, length, IsTrue, IsFalse, slice_set}
use Rattle.agenda.specs.inner.Marks.{HasNoMark, has_mark}

abbrev pub with_next : Option ℕ → List Bool → List Bool
with_next None marks = marks
with_next (Some place) marks = slice_set marks place true

-- it is one of the places, and neither it nor one before it is marked there
abbrev pub IsBefore : Option ℕ → List Bool → Type 0
IsBefore None marks = Unit {0}
IsBefore (Some place) marks = (place < length marks) × ((other : ℕ) → other ≤ place → IsFalse (has_mark marks other))

pub record IsApart (next : Option ℕ) (is_clear : Bool) (marks : List Bool) : Type 0 where
  pub before : IsBefore next marks
  pub clear : IsTrue is_clear → HasNoMark marks
