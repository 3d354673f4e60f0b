-- What holds of all answers.
use Rattle.std.specs.Prelude.{◌≡◌, Result, Ok, Err}
use Rattle.syntax_tree.specs.declared.tree.Tree.{Tree}
use Rattle.name_check.specs.declared.check.NameFault.{NameFault}
use Rattle.name_check.specs.declared.check.NameFault.TheVariants as fault
use Rattle.name_check.specs.Scope.{Scope}
use Rattle.name_check.specs.inner.Answer.{IsAnswer}

abbrev pub IsNotMemory : Result Scope NameFault → Type 0
IsNotMemory (Ok names) = Unit {0}
IsNotMemory (Err (fault.DefinedTwice p)) = Unit {0}
IsNotMemory (Err (fault.UnknownName p)) = Unit {0}
IsNotMemory (Err fault.Memory) = ⊥

-- no tree has two answers, other than out of memory
abbrev pub HasOneAnswer : Type 0
HasOneAnswer = (t : Tree) (r s : Result Scope NameFault) → IsAnswer t r → IsAnswer t s → IsNotMemory r → IsNotMemory s → r ≡ s
