-- Laws of what is answered.
use Rattle.std.specs.Prelude.{◌≡◌, ℕ, List}
use Rattle.register_code.specs.Code.{Code}
use Rattle.code_file.specs.declared.fault.CodeFault.{CodeFault}
use Rattle.code_file.specs.declared.fault.CodeFault.TheVariants as fault
use Rattle.code_check.specs.Checked.{IsChecked}
use Rattle.code_check.specs.Read.{IsReadFault, SpellCode}

-- Bytes are one code or one fault: where they are code that is taken, they are no other code, and no fault other than out of memory is
-- theirs; and no two other faults are.
pub record OneAnswer (bytes : List ℕ) : Type 0 where
  pub one_code : (c d : Code) → SpellCode bytes c → SpellCode bytes d → c ≡ d
  pub code_or_fault : (c : Code) (why : CodeFault) → SpellCode bytes c → IsChecked c → IsReadFault bytes why → why ≡ fault.Memory
  pub one_fault :
      (why other : CodeFault)
      → IsReadFault bytes why
      → IsReadFault bytes other
      → ¬ (why ≡ fault.Memory)
      → ¬ (other ≡ fault.Memory)
      → why ≡ other

abbrev pub AllHaveOneAnswer : Type 0
AllHaveOneAnswer = (bytes : List ℕ) → OneAnswer bytes
