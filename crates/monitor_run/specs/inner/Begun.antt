-- Texts that were begun.
use Rattle.std.specs.Prelude.{◌≡◌, ℕ, List, ◌++◌}

-- a beginning of a text was appended
pub record IsBegunOf (before after text : List ℕ) : Type 0 where
  pub added : List ℕ
  pub rest : List ℕ
  pub after_is : after ≡ before ++ added
  pub text_is : text ≡ added ++ rest
