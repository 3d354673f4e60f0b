-- A written type stands for something just where nothing in it may not stand.
use Rattle.std.specs.Prelude.{◌≡◌, is_some, is_none, slice_get}
use Rattle.syntax_tree.specs.Tree.{TypeName}
use Rattle.type_rules.specs.Written.{as_written, as_stream, bad_as_written, bad_as_stream}

abbrev pub WrittenOrBad : Type 0
WrittenOrBad = (y : TypeName) → is_some (as_written y) ≡ is_none (slice_get (bad_as_written y) 0)

abbrev pub StreamOrBad : Type 0
StreamOrBad = (y : TypeName) → is_some (as_stream y) ≡ is_none (slice_get (bad_as_stream y) 0)
