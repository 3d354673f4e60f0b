-- Worked rows of the definitions.
use Rattle.std.proofs.Common.{◌≡◌, true, [], ◌∷◌, Ok, Err, Some, None, pos, negsuc, codes, refl}
use Rattle.std.specs.Str.{is_utf8, chars}
use lib.Utf8.{encode}
use Rattle.tsl_value.specs.declared.scalar.Scalar.TheVariants as scalar
use Rattle.tsl_value.specs.declared.literal.LiteralFault.TheVariants.{BadLiteral, LiteralTooWide}
use Rattle.tsl_value.specs.declared.scalar.ScalarType.TheVariants as scalar_type
use Rattle.tsl_value.specs.declared.scalar.ValueType.TheVariants as value_type
use Rattle.tsl_value.specs.Literal.{bool_literal, int_literal, text_literal, unquoted}
use Rattle.tsl_value.specs.Print.{type_text, view_text}
use Rattle.tsl_value.specs.View.{Listed}

least : int_literal (codes "-9223372036854775808") ≡ Ok (scalar.Int (negsuc 9223372036854775807))
least = refl

below_least : int_literal (codes "-9223372036854775809") ≡ Err LiteralTooWide
below_least = refl

greatest : int_literal (codes "0009223372036854775807") ≡ Ok (scalar.Int (pos 9223372036854775807))
greatest = refl

above_greatest : int_literal (codes "9223372036854775808") ≡ Err LiteralTooWide
above_greatest = refl

minus_zero : int_literal (codes "-0") ≡ Ok (scalar.Int (pos 0))
minus_zero = refl

plus : int_literal (codes "+1") ≡ Err BadLiteral
plus = refl

only_minus : int_literal (codes "-") ≡ Err BadLiteral
only_minus = refl

blank : int_literal (codes "1 ") ≡ Err BadLiteral
blank = refl

capital : bool_literal (codes "True") ≡ Err BadLiteral
capital = refl

escapes : unquoted (codes "\"a\\n\\\\\\\"\"") ≡ Some (codes "a\n\\\"")
escapes = refl

other_escape : unquoted (codes "\"\\x\"") ≡ None
other_escape = refl

open_text : unquoted (codes "\"a\\\"") ≡ None
open_text = refl

bytes_after : unquoted (codes "\"a\"b") ≡ None
bytes_after = refl

line_end : unquoted (codes "\"\n\"") ≡ None
line_end = refl

two_bytes : text_literal (34 ∷ 195 ∷ 169 ∷ 34 ∷ []) ≡ Ok (scalar.Text (195 ∷ 169 ∷ []))
unfolding is_utf8 chars encode
two_bytes = refl

no_text : text_literal (34 ∷ 195 ∷ 34 ∷ []) ≡ Err BadLiteral
unfolding is_utf8 chars encode
no_text = refl

queue : view_text (Listed (scalar.Text (codes "a") ∷ scalar.Bool true ∷ [])) ≡ codes "Queue(\"a\", true)"
queue = refl

empty_queue : view_text (Listed []) ≡ codes "Queue()"
empty_queue = refl

queue_type : type_text (value_type.Queue scalar_type.Text) ≡ codes "Queue[String]"
queue_type = refl
