-- The language's own names, one by one.
use Rattle.std.proofs.Common.{◌≡◌, ℕ, false, List, Option, Some, None, refl, ap, ◌∙◌}
use Rattle.std.specs.Prelude.{is_some}
use Rattle.vocabulary.specs.declared.plain.Plain.{Plain}
use Rattle.vocabulary.specs.PlainTable.{spelling, plain_of}
use Rattle.vocabulary.proofs.Plains.{plain_is, any_plain}
use Rattle.name_check.specs.Builtin.{is_called}

-- a name is one of these, or it is none of the language's that are called
pub data IsWord (n : List ℕ) : Type 0 where
  word : (p : Plain) → n ≡ spelling p → IsWord n
  other : is_called n ≡ false → IsWord n

not_called : (n : List ℕ) → plain_of n ≡ None → is_called n ≡ false
unfolding is_called
not_called n none = any_plain n ∙ ap is_some none

pub is_word : (n : List ℕ) → IsWord n
is_word n = by (plain_of n) refl
  where
    by : (o : Option Plain) → plain_of n ≡ o → IsWord n
    by (Some p) is = word p (plain_is n p is)
    by None none = other (not_called n none)
