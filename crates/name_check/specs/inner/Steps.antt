-- What one item, or one definition of a block, adds to what is declared and to the faults.
use Rattle.std.specs.Prelude.{ℕ, List, [], ◌∷◌, ◌++◌}
use Rattle.std.specs.List.{flat_map}
use Rattle.tsl_value.specs.declared.place.Place.{Place}
use Rattle.syntax_tree.specs.Tree as tree
use Rattle.name_check.specs.declared.declaration.Declaration.TheVariants as declaration
use Rattle.name_check.specs.Scope.{Scope, declared_as, inside}
use Rattle.name_check.specs.Bodies.{bodies, block_bodies, item_bodies}
use Rattle.name_check.specs.Faults.{again, twice_in_params, twice_in_body, unknown_in}

-- the names of a scope, the last of which is the first, before other names
abbrev pub names_onto : List (List ℕ) → Scope → List (List ℕ)
names_onto before [] = before
names_onto before (e ∷ es) = names_onto (e.name ∷ before) es

abbrev pub names_of : Scope → List (List ℕ)
names_of scope = names_onto [] scope

-- ---- definitions of a block
abbrev pub local_name : tree.Definition → List ℕ
local_name (tree.Define q n ps w b) = n

abbrev pub twice_in_local : List (List ℕ) → tree.Definition → List Place
twice_in_local before (tree.Define q n ps w b) = again before q n ++ twice_in_body b

-- ---- items; this one has number i
abbrev pub declared_by_definition : ℕ → tree.Definition → Scope
declared_by_definition i (tree.Define q n ps w b) = record { name = n; is = declared_as i ps } ∷ []

abbrev pub declared_by : ℕ → tree.Item → Scope
declared_by i (tree.Input p q n y) = record { name = n; is = declaration.Input i } ∷ []
declared_by i (tree.Defined p d) = declared_by_definition i d
declared_by i (tree.Output p q n) = []
declared_by i (tree.OutputAs p e q n) = []

abbrev pub twice_in_definition : List (List ℕ) → tree.Definition → List Place
twice_in_definition before (tree.Define q n ps w b) = again before q n ++ twice_in_params [] ps ++ twice_in_body b

abbrev pub twice_in_item : List (List ℕ) → tree.Item → List Place
twice_in_item before (tree.Input p q n y) = again before q n
twice_in_item before (tree.Defined p d) = twice_in_definition before d
twice_in_item before (tree.Output p q n) = []
twice_in_item before (tree.OutputAs p e q n) = []

-- ---- unknown names, where these names are seen; which numbers the definitions of blocks have does not matter
abbrev pub unknown_in_body : Scope → tree.Body → List Place
unknown_in_body scope b = flat_map unknown_in (bodies 0 scope b)

abbrev pub unknown_in_locals : Scope → tree.Definitions → List Place
unknown_in_locals scope ds = flat_map unknown_in (block_bodies 0 scope ds)

abbrev pub unknown_in_definition : Scope → tree.Definition → List Place
unknown_in_definition scope (tree.Define q n ps w b) = unknown_in_body (inside scope ps) b

abbrev pub unknown_in_item : Scope → tree.Item → List Place
unknown_in_item scope i = flat_map unknown_in (item_bodies scope i)

-- the body of a definition of a block
abbrev pub local_body : tree.Definition → tree.Body
local_body (tree.Define q n ps w b) = b
