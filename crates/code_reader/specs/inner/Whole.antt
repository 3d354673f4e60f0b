-- What stands after the mark of a code file.
use Rattle.std.specs.Prelude.{◌≡◌, ◌++◌, ℕ, List}
use Rattle.register_code.specs.Code.{Code}
use Rattle.code_file.specs.declared.fault.CodeFault.{CodeFault}
use Rattle.code_file.specs.declared.fault.CodeFault.TheVariants as fault
use Rattle.code_file.specs.Form.{IsForm, bare}
use Rattle.code_file.specs.Spelling.{equations_bytes, list_bytes, outputs_bytes}

abbrev pub after_mark : Code → List ℕ
after_mark c = equations_bytes c.system ++ (outputs_bytes c.system.outputs ++ (list_bytes c.in_place ++ list_bytes c.order))

-- after the mark these bytes spell the code, which has nothing that is not spelled
pub record HasSpelled (bytes : List ℕ) (c : Code) : Type 0 where
  pub form : IsForm c
  pub bare_is : bare c ≡ c
  pub spelled : bytes ≡ after_mark c

-- no code has them after the mark
abbrev pub IsNoForm : List ℕ → Type 0
IsNoForm bytes = (c : Code) → IsForm c → bytes ≡ after_mark c → ⊥

-- why they are refused
abbrev pub AnswersForm : List ℕ → CodeFault → Type 0
AnswersForm bytes fault.WrongForm = IsNoForm bytes
AnswersForm bytes fault.Memory = Unit {0}
AnswersForm bytes _ = ⊥
