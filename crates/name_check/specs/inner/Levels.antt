-- The levels of a scope, the innermost of which is the first.
use Rattle.std.specs.Prelude.{List, [], ◌∷◌}
use Rattle.name_check.specs.Scope.{Scope as Entries, functions_of}
use Rattle.name_check.specs.declared.scope.Seen.{Seen}
use Rattle.name_check.specs.declared.scope.Seen.TheVariants.{All, Functions, Inner, Within}

abbrev pub levels_of : Seen → List Entries
levels_of (All names) = names.now ∷ []
levels_of (Functions names) = functions_of names.now ∷ []
levels_of (Inner level outer) = level ∷ outer.now
levels_of (Within level outer) = level.now ∷ outer.now
