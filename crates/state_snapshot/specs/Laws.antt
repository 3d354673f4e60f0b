-- The laws of the spelling.
use Rattle.std.specs.Prelude.{◌≡◌, ◌≢◌, ◌++◌, ◌<◌, ◌^◌, List, [], ℕ, length}
use Rattle.register_code.specs.Code.{Code, IsCode}
use Rattle.register_code.specs.Text.{code_text}
use Rattle.run_state.specs.declared.state.RunState.{RunState}
use Rattle.run_state.specs.Fits.{FitsRun}
use Rattle.run_state.specs.Spelling.{spelling}

-- a state that fits a code
pub record IsStateOf (c : Code) (st : RunState) : Type 0 where
  pub code : IsCode c
  pub fits : FitsRun c.system st

-- no two states have one spelling
abbrev pub SpellOneState : Type 0
SpellOneState =
    (c : Code) (a b : RunState)
    → IsStateOf c a
    → IsStateOf c b
    → spelling c a ≡ spelling c b
    → a ≡ b

-- no spelling begins another, so nothing may follow one
abbrev pub NoneBegins : Type 0
NoneBegins =
    (c : Code) (a b : RunState) (more : List ℕ)
    → IsStateOf c a
    → IsStateOf c b
    → spelling c a ++ more ≡ spelling c b
    → more ≡ []

-- No spelling begins one of a program with another text.
abbrev pub NoneBeginsOther : Type 0
NoneBeginsOther =
    (c d : Code) (a b : RunState) (more : List ℕ)
    → length (code_text c) < 2 ^ 64
    → length (code_text d) < 2 ^ 64
    → code_text c ≢ code_text d
    → spelling c a ++ more ≢ spelling d b
