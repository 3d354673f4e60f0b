-- Why bytes are not of the form of a code file.
use Rattle.std.specs.Prelude.{◌≡◌, ◌<◌, ◌≤◌, ℕ, List, length}
use Rattle.register_code.specs.Code.{Code}
use Rattle.code_file.specs.declared.fault.CodeFault.{CodeFault}
use Rattle.code_file.specs.declared.fault.CodeFault.TheVariants as fault
use Rattle.code_file.specs.declared.limits.TheConstants.{MOST_CODE_BYTES}
use Rattle.code_file.specs.Form.{IsForm}
use Rattle.code_file.specs.Spelling.{spelling}

-- they are too many, or no code has them as its spelling, or out of memory
abbrev pub IsFormFault : List ℕ → CodeFault → Type 0
IsFormFault bytes fault.TooLong = MOST_CODE_BYTES < length bytes
IsFormFault bytes fault.WrongForm = (length bytes ≤ MOST_CODE_BYTES) × ((c : Code) → IsForm c → bytes ≡ spelling c → ⊥)
IsFormFault bytes fault.Memory = Unit {0}
IsFormFault bytes _ = ⊥
