-- Which lines are made on the stack.
use Rattle.std.specs.Prelude.{ℕ, Bool, true, false, ◌&&◌, List, length, nat_le}
use Rattle.tsl_value.specs.declared.scalar.Scalar.{Scalar}
use Rattle.tsl_value.specs.declared.scalar.Scalar.TheVariants as scalar

abbrev pub is_no_text : Scalar → Bool
is_no_text (scalar.Text bytes) = false
is_no_text _ = true

-- a name of 40 bytes at most, and a value that is no text
abbrev pub is_short : List ℕ → Scalar → Bool
is_short name value = nat_le (length name) 40 && is_no_text value
