-- Names that are declared twice, and names that are not declared: the places of each kind, in the order of the source.
use Rattle.std.specs.Prelude.{ℕ, Bool, true, false, not, ◌||◌, if◌then◌else◌, List, [], ◌∷◌, ◌++◌, map, filter, Option, Some, None}
use Rattle.std.specs.List.{list_any, flat_map}
use Rattle.std.specs.Str.{bytes_eq}
use Rattle.tsl_value.specs.declared.place.Place.{Place}
use Rattle.syntax_tree.specs.Tree as tree
use Rattle.syntax_tree.specs.Tree.{Expr}
use Rattle.name_check.specs.declared.declaration.Declaration.{Declaration}
use Rattle.name_check.specs.Builtin.{is_built_in, is_called, is_unit}
use Rattle.name_check.specs.Scope.{Scope, top, meaning, is_function, takes_arguments}
use Rattle.name_check.specs.Parts.{Part, Operand, Function, parts, part_place}
use Rattle.name_check.specs.Bodies.{Seen, item_bodies}

-- the first of some places
abbrev pub first : List Place → Option Place
first [] = None
first (p ∷ ps) = Some p

-- ---- declared twice: a name that stands before in its scope, or that the language has itself
abbrev pub again : List (List ℕ) → Place → List ℕ → List Place
again before p n = if is_built_in n || list_any (bytes_eq n) before then p ∷ [] else []

abbrev pub twice_in_params : List (List ℕ) → List tree.Param → List Place
twice_in_params before [] = []
twice_in_params before (p ∷ ps) = again before p.place p.name ++ twice_in_params (p.name ∷ before) ps

abbrev mutual
  pub twice_in_body : tree.Body → List Place
  twice_in_body (tree.Plain e) = []
  twice_in_body (tree.Block ds e) = twice_in_block [] ds

  -- each name of a block before what is in its body
  pub twice_in_block : List (List ℕ) → tree.Definitions → List Place
  twice_in_block before tree.no_definitions = []
  twice_in_block before (tree.more_definitions (tree.Define q n ps w b) ds) =
      again before q n ++ twice_in_body b ++ twice_in_block (n ∷ before) ds

abbrev pub twice_from : List (List ℕ) → List tree.Item → List Place
twice_from before [] = []
twice_from before (tree.Input p q n y ∷ items) = again before q n ++ twice_from (n ∷ before) items
twice_from before (tree.Defined p (tree.Define q n ps w b) ∷ items) =
    again before q n ++ twice_in_params [] ps ++ twice_in_body b ++ twice_from (n ∷ before) items
twice_from before (tree.Output p q n ∷ items) = twice_from before items
twice_from before (tree.OutputAs p e q n ∷ items) = twice_from before items

abbrev pub declared_twice : List tree.Item → List Place
declared_twice items = twice_from [] items

-- ---- unknown: a name that is not declared where it stands, or that is a function without being called
abbrev pub is_mentionable : Option Declaration → Bool
is_mentionable None = false
is_mentionable (Some d) = not (takes_arguments d)

abbrev pub is_declared : Option Declaration → Bool
is_declared None = false
is_declared (Some d) = true

abbrev pub is_a_function : Option Declaration → Bool
is_a_function None = false
is_a_function (Some d) = is_function d

abbrev pub is_unknown : Scope → Part → Bool
is_unknown scope (Operand (tree.Name p n)) = not (is_unit n || is_mentionable (meaning scope n))
is_unknown scope (Operand (tree.Call p n es)) = not (is_unit n || is_called n || is_declared (meaning scope n))
is_unknown scope (Operand e) = false
is_unknown scope (Function (tree.Name p n)) = not (is_a_function (meaning scope n))
is_unknown scope (Function e) = true

abbrev pub unknown_in : Seen → List Place
unknown_in s = map part_place (filter (is_unknown s.scope) (parts s.expr))

abbrev pub unknown_names : List tree.Item → List Place
unknown_names items = flat_map (λ i. flat_map unknown_in (item_bodies (top items) i)) items
