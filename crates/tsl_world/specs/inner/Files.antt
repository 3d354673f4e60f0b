-- Files in memory, by their names.
use Rattle.std.specs.Prelude.{ℕ, List, [], Option, Some, None, IsNone, slice_get, nat_eq}
use Rattle.std.specs.List.{find, position}
use Rattle.std.specs.Cmp.Lexicographic.{pointwise}
use Rattle.tsl_world.specs.declared.files.NamedFile.{NamedFile}

abbrev pub bytes_or_none : Option NamedFile → List ℕ
bytes_or_none (Some file) = file.bytes
bytes_or_none None = []

-- the first file of a name
abbrev pub file_named : List NamedFile → List ℕ → Option NamedFile
file_named files name = find (λ file. pointwise nat_eq file.name name) files

-- no file has the name
abbrev pub IsAbsent : List NamedFile → List ℕ → Type 0
IsAbsent files name = IsNone (file_named files name)

-- the bytes of the first file of a name; none where there is no such file
abbrev pub bytes_named : List NamedFile → List ℕ → List ℕ
bytes_named files name = bytes_or_none (file_named files name)

-- the place of the first file of a name
abbrev pub place_named : List NamedFile → List ℕ → Option ℕ
place_named files name = position (λ file. pointwise nat_eq file.name name) files

-- the bytes of the file at a place; none past the last
abbrev pub bytes_at : List NamedFile → ℕ → List ℕ
bytes_at files place = bytes_or_none (slice_get files place)
