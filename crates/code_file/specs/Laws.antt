-- The laws of the spelling.
use Rattle.std.specs.Prelude.{◌≡◌, ◌++◌, ℕ, List}
use Rattle.register_code.specs.Code.{Code}
use Rattle.code_file.specs.Form.{IsForm, bare}
use Rattle.code_file.specs.Spelling.{spelling}

-- No two codes have one spelling, aside from equations that do not run, and no spelling begins another.
abbrev pub SpellOneCode : Type 0
SpellOneCode =
    (c d : Code) (x y : List ℕ)
    → IsForm c
    → IsForm d
    → spelling c ++ x ≡ spelling d ++ y
    → (bare c ≡ bare d) × (x ≡ y)
