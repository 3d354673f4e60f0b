-- What a function of reading answers.
use Rattle.std.specs.Prelude.{◌≡◌, Option, Some, None, Result, Ok, Err}
use Rattle.code_file.specs.declared.fault.CodeFault.{CodeFault}
use Rattle.code_file.specs.declared.fault.CodeFault.TheVariants as fault

-- what a function answers, seen by a view, is what reading gives, unless out of memory
abbrev pub Fails : {Y : Type 0} → CodeFault → Option Y → Type 0
Fails fault.WrongForm read = read ≡ None
Fails fault.Memory read = Unit {0}
Fails _ read = ⊥

abbrev pub Gives : {X Y : Type 0} → (X → Y) → Result X CodeFault → Option Y → Type 0
Gives view (Ok x) read = read ≡ Some (view x)
Gives view (Err e) read = Fails e read
