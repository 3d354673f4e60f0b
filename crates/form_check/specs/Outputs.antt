-- Outputs of one printed name, and sources without an output.
use Rattle.std.specs.Prelude.{ℕ, Bool, true, false, if◌then◌else◌, List, [], ◌∷◌, ◌++◌}
use Rattle.std.specs.List.{list_any}
use Rattle.std.specs.Str.{bytes_eq}
use Rattle.tsl_value.specs.declared.place.Place.{Place}
use Rattle.syntax_tree.specs.Tree as tree

-- the place of an output that prints a name that stands before
abbrev pub printed_again : List (List ℕ) → Place → List ℕ → List Place
printed_again before p n = if list_any (bytes_eq n) before then p ∷ [] else []

-- the name under which an item is printed, if it is an output
abbrev pub printed_name : tree.Item → List (List ℕ)
printed_name (tree.Input p q n y) = []
printed_name (tree.Defined p d) = []
printed_name (tree.Output p q n) = n ∷ []
printed_name (tree.OutputAs p e q n) = n ∷ []

-- the place of an output is its word `out`
abbrev pub printed_again_by : List (List ℕ) → tree.Item → List Place
printed_again_by before (tree.Input p q n y) = []
printed_again_by before (tree.Defined p d) = []
printed_again_by before (tree.Output p q n) = printed_again before p n
printed_again_by before (tree.OutputAs p e q n) = printed_again before p n

-- after outputs that print these names
abbrev pub twice_after : List (List ℕ) → List tree.Item → List Place
twice_after before [] = []
twice_after before (i ∷ items) = printed_again_by before i ++ twice_after (before ++ printed_name i) items

-- the word `out` of each output whose printed name an earlier output has
abbrev pub outputs_twice : List tree.Item → List Place
outputs_twice items = twice_after [] items

abbrev pub is_output : tree.Item → Bool
is_output (tree.Input p q n y) = false
is_output (tree.Defined p d) = false
is_output (tree.Output p q n) = true
is_output (tree.OutputAs p e q n) = true

-- the end of a source that has no output
abbrev pub without_output : List tree.Item → Place → List Place
without_output items end = if list_any is_output items then [] else end ∷ []
