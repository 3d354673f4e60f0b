-- What bytes are read as: code, or why they are refused.
use Rattle.std.specs.Prelude.{◌≡◌, ◌<◌, ◌≤◌, ℕ, List, length}
use Rattle.register_code.specs.Code.{Code}
use Rattle.code_file.specs.declared.fault.CodeFault.{CodeFault}
use Rattle.code_file.specs.declared.fault.CodeFault.TheVariants as fault
use Rattle.code_file.specs.declared.limits.TheConstants.{MOST_CODE_BYTES}
use Rattle.code_file.specs.Form.{IsForm, bare}
use Rattle.code_file.specs.Spelling.{spelling}
use Rattle.code_check.specs.Checked.{IsRefusedFor}

module _ (bytes : List ℕ) where
  -- Bytes spell code. There is nothing in place of each equation that is not spelled, so they spell no other.
  pub record SpellCode (c : Code) : Type 0 where
    pub short : length bytes ≤ MOST_CODE_BYTES
    pub form : IsForm c
    pub is : bytes ≡ spelling c
    pub bare : bare c ≡ c

  -- they spell none
  pub record SpellNoCode : Type 0 where
    pub short : length bytes ≤ MOST_CODE_BYTES
    pub none : (c : Code) → IsForm c → bytes ≡ spelling c → ⊥

  -- they spell code that is refused
  pub record SpellRefused (why : CodeFault) : Type 0 where
    pub code : Code
    pub spelled : SpellCode code
    pub refused : IsRefusedFor code why

  -- why bytes are read as no code, the first cause in the order of faults, or out of memory
  abbrev pub IsReadFault : CodeFault → Type 0
  IsReadFault fault.TooLong = MOST_CODE_BYTES < length bytes
  IsReadFault fault.WrongForm = SpellNoCode
  IsReadFault (fault.WrongTypes i) = SpellRefused (fault.WrongTypes i)
  IsReadFault fault.Cycle = SpellRefused fault.Cycle
  IsReadFault fault.NotFine = SpellRefused fault.NotFine
  IsReadFault fault.Memory = Unit {0}
