-- What one body adds to the calls of a wrong number of arguments. Which numbers the definitions of blocks have does not matter.
use Rattle.std.specs.Prelude.{List}
use Rattle.std.specs.List.{flat_map}
use Rattle.tsl_value.specs.declared.place.Place.{Place}
use Rattle.syntax_tree.specs.Tree as tree
use Rattle.name_check.specs.Scope.{Scope, inside}
use Rattle.name_check.specs.Bodies.{bodies, block_bodies}
use Rattle.form_check.specs.Arity.{wrong_in}

abbrev pub wrong_in_body : List tree.Item → Scope → tree.Body → List Place
wrong_in_body items scope b = flat_map (wrong_in items) (bodies 0 scope b)

abbrev pub wrong_in_locals : List tree.Item → Scope → tree.Definitions → List Place
wrong_in_locals items scope ds = flat_map (wrong_in items) (block_bodies 0 scope ds)

-- the calls in the body of a definition of an item
abbrev pub wrong_in_definition : List tree.Item → Scope → tree.Definition → List Place
wrong_in_definition items names (tree.Define q n ps w b) = wrong_in_body items (inside names ps) b
