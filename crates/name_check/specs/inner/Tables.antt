-- What a table stands for.
use Rattle.std.specs.Prelude.{List, map, String}
use Rattle.std.specs.String.{string_bytes}
use Rattle.name_check.specs.declared.declaration.Declaration.{Declaration}
use Rattle.name_check.specs.Scope.{Scope}

-- the entries of a table, in the order in which they were made
abbrev pub entries_in : {A : Type 0} → List (String A × Declaration) → Scope
entries_in es = map (λ e. record { name = string_bytes e.0; is = e.1 }) es
