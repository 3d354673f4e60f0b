-- What the parts of the check answer.
use Rattle.std.specs.Prelude.{◌≡◌, List, Some}
use Rattle.syntax_tree.specs.Tree as tree
use Rattle.type_check.specs.declared.fault.TypeFault.{TypeFault}
use Rattle.type_check.specs.declared.fault.TypeFault.TheVariants as fault
use Rattle.type_check.specs.Faults.{first_fault, IsCycleFault}

-- it is the first of these faults, or out of memory
abbrev pub IsFirstOf : List TypeFault → TypeFault → Type 0
IsFirstOf faults fault.Memory = Unit {0}
IsFirstOf faults f = first_fault faults ≡ Some f

-- it is the first cycle, or out of memory
abbrev pub IsCycleOf : List tree.Item → TypeFault → Type 0
IsCycleOf items fault.Memory = Unit {0}
IsCycleOf items f = IsCycleFault items f
