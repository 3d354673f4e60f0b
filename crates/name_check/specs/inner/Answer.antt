-- What the check of the names of a specification answers.
use Rattle.std.specs.Prelude.{◌≡◌, List, [], Some, Result, Ok, Err}
use Rattle.syntax_tree.specs.Tree as tree
use Rattle.syntax_tree.specs.declared.tree.Tree.{Tree}
use Rattle.syntax_tree.specs.inner.OneLevel.{items_of}
use Rattle.name_check.specs.declared.check.NameFault.{NameFault}
use Rattle.name_check.specs.declared.check.NameFault.TheVariants as fault
use Rattle.name_check.specs.Scope.{Scope, top}
use Rattle.name_check.specs.Faults.{first, declared_twice, unknown_names}

-- The names of the top where no name is declared twice and none is unknown, or else the first place of such a name. Names that
-- are declared twice come before unknown ones.
abbrev pub IsAnswerOf : List tree.Item → Result Scope NameFault → Type 0
IsAnswerOf items (Ok names) = (declared_twice items ≡ []) × (unknown_names items ≡ []) × (names ≡ top items)
IsAnswerOf items (Err (fault.DefinedTwice p)) = first (declared_twice items) ≡ Some p
IsAnswerOf items (Err (fault.UnknownName p)) = (declared_twice items ≡ []) × (first (unknown_names items) ≡ Some p)
IsAnswerOf items (Err fault.Memory) = Unit {0}

abbrev pub IsAnswer : Tree → Result Scope NameFault → Type 0
IsAnswer t answer = IsAnswerOf (items_of t) answer

-- the same of the names that are declared twice alone
abbrev pub AreDeclared : List tree.Item → Result Scope NameFault → Type 0
AreDeclared items (Ok names) = (declared_twice items ≡ []) × (names ≡ top items)
AreDeclared items (Err (fault.DefinedTwice p)) = first (declared_twice items) ≡ Some p
AreDeclared items (Err (fault.UnknownName p)) = ⊥
AreDeclared items (Err fault.Memory) = Unit {0}
