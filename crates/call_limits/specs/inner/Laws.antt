-- Laws of the two refusals.
use Rattle.std.specs.Prelude.{◌≡◌, List, Option}
use Rattle.tsl_value.specs.declared.place.Place.{Place}
use Rattle.syntax_tree.specs.Tree as tree
use Rattle.call_limits.specs.Nesting.{IsFirstMacroCycle, IsFirstTooDeep}

-- at most one place is that of the first cycle of macros
abbrev pub OneMacroCycle : Type 0
OneMacroCycle = (items : List tree.Item) (a b : Option Place) → IsFirstMacroCycle items a → IsFirstMacroCycle items b → a ≡ b

-- at most one place is the first where calls nest too deep
abbrev pub OneTooDeep : Type 0
OneTooDeep = (items : List tree.Item) (a b : Option Place) → IsFirstTooDeep items a → IsFirstTooDeep items b → a ≡ b
