-- The names that the language has itself. They are declared nowhere.
use Rattle.std.specs.Prelude.{ℕ, Bool, ◌||◌, List, [], ◌∷◌, map, codes}
use Rattle.std.specs.List.{list_any}
use Rattle.std.specs.Str.{bytes_eq}
use Rattle.vocabulary.specs.declared.dotted.Family.TheVariants as family
use Rattle.vocabulary.specs.Table.{family_name}
use Rattle.vocabulary.specs.Kinds.{kind_name, kinds}
use Rattle.vocabulary.specs.declared.plain.Plain.TheVariants as plain
use Rattle.vocabulary.specs.PlainTable.{plains, spelling}

-- those that are called with arguments
abbrev pub callable_names : List (List ℕ)
callable_names = map spelling plains

-- those that stand before a bracket or a dot alone
abbrev pub prefixes : List (List ℕ)
prefixes = codes "nil" ∷ codes "None" ∷ family_name family.Text ∷ map kind_name kinds

abbrev pub unit_name : List ℕ
unit_name = codes "unit"

abbrev pub lift_name : List ℕ
lift_name = spelling plain.Lift

unfoldable pub is_called : List ℕ → Bool
is_called n = list_any (bytes_eq n) callable_names

unfoldable pub is_unit : List ℕ → Bool
is_unit n = bytes_eq n unit_name

unfoldable pub is_lift : List ℕ → Bool
is_lift n = bytes_eq n lift_name

unfoldable pub is_built_in : List ℕ → Bool
is_built_in n = list_any (bytes_eq n) (unit_name ∷ callable_names) || list_any (bytes_eq n) prefixes
