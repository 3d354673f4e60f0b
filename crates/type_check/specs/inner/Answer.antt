-- What the check answers where it refuses.
use Rattle.std.specs.Prelude.{◌≡◌, List, Result, Ok, Err}
use Rattle.tsl_value.specs.declared.place.Place.{Place}
use Rattle.syntax_tree.specs.Tree as tree
use Rattle.type_check.specs.declared.fault.TypeFault.{TypeFault}
use Rattle.type_check.specs.declared.fault.TypeFault.TheVariants as fault
use Rattle.type_check.specs.Faults.{IsFirstFault}

-- out of memory says nothing of the specification
abbrev pub IsFaultOf : List tree.Item → Place → TypeFault → Type 0
IsFaultOf items end fault.Memory = Unit {0}
IsFaultOf items end f = IsFirstFault items end f

-- unless out of memory, a specification without a fault is accepted
abbrev pub IsAcceptedUnlessMemory : {X : Type 0} → Result X TypeFault → Type 0
IsAcceptedUnlessMemory (Ok typed) = Unit {0}
IsAcceptedUnlessMemory (Err fault.Memory) = Unit {0}
IsAcceptedUnlessMemory (Err f) = ⊥

-- and one with this fault is refused for it
abbrev pub IsRefusedUnlessMemory : {X : Type 0} → Result X TypeFault → TypeFault → Type 0
IsRefusedUnlessMemory (Ok typed) f = ⊥
IsRefusedUnlessMemory (Err fault.Memory) f = Unit {0}
IsRefusedUnlessMemory (Err g) f = g ≡ f
