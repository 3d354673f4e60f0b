-- Laws of values.
use Rattle.std.specs.Prelude.{◌≡◌, ◌≤◌, length, Ok, FitsSigned}
use Rattle.std.specs.Int.{w64}
use Rattle.std.specs.Str.{IsUtf8}
use Rattle.tsl_value.specs.declared.scalar.Scalar.{Scalar}
use Rattle.tsl_value.specs.declared.scalar.Scalar.TheVariants as scalar
use Rattle.tsl_value.specs.Literal.{literal}
use Rattle.tsl_value.specs.Print.{scalar_text}
use Rattle.tsl_value.specs.View.{type_of}
use Rattle.tsl_value.specs.declared.limits.TheConstants.{MOST_TEXT_BYTES}

-- a scalar that a run can have: an Int of 64 bits, and a text of at most 65,536 bytes in UTF-8
abbrev pub IsInBounds : Scalar → Type 0
IsInBounds scalar.Unit = Unit {0}
IsInBounds (scalar.Int z) = FitsSigned w64 z
IsInBounds (scalar.Bool b) = Unit {0}
IsInBounds (scalar.Text bytes) = IsUtf8 bytes × (length bytes ≤ MOST_TEXT_BYTES)

-- what is printed of a scalar is read as the same value
abbrev pub ReadsPrinted : Type 0
ReadsPrinted = (s : Scalar) → IsInBounds s → literal (type_of s) (scalar_text s) ≡ Ok s
