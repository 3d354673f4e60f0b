-- Literals of scalars: `()`, a number, `true` or `false`, and a text between quotes.
use Rattle.std.specs.Prelude.{◌≡◌, ◌≢◌, ◌<◌, ◌==◌, ℕ, Bool, true, false, not, ◌&&◌, ◌||◌, if◌then◌else◌, nat_lt, ℤ, pos, negsuc, neg_ℤ}
use Rattle.std.specs.Prelude.{int_le, int_lt, List, [], ◌∷◌, length, drop, Option, Some, None, Result, Ok, Err, codes}
use Rattle.std.specs.List.{list_all}
use Rattle.std.specs.Char.{is_ascii_digit}
use Rattle.std.specs.Str.{bytes_eq, is_utf8}
use Rattle.std.specs.Str.Parse.{digits_value}
use Rattle.tsl_value.specs.declared.scalar.Scalar.{Scalar}
use Rattle.tsl_value.specs.declared.scalar.Scalar.TheVariants as scalar
use Rattle.tsl_value.specs.declared.scalar.ScalarType.{ScalarType}
use Rattle.tsl_value.specs.declared.scalar.ScalarType.TheVariants as scalar_type
use Rattle.tsl_value.specs.declared.literal.LiteralFault.{LiteralFault}
use Rattle.tsl_value.specs.declared.literal.LiteralFault.TheVariants.{BadLiteral, LiteralTooWide, TextTooLong, Memory}
use Rattle.tsl_value.specs.declared.limits.TheConstants.{MOST_TEXT_BYTES}

-- one digit or more, and nothing else
abbrev pub are_digits : List ℕ → Bool
are_digits bytes = not (length bytes == 0) && list_all is_ascii_digit bytes

-- numbers of 64 bits with a sign
abbrev pub is_int : ℤ → Bool
is_int z = int_le (negsuc 0x7fff_ffff_ffff_ffff) z && int_lt z (pos 0x8000_0000_0000_0000)

abbrev pub begins_with_minus : List ℕ → Bool
begins_with_minus [] = false
begins_with_minus (b ∷ bs) = b == 45

-- a minus or nothing, and digits
abbrev pub without_minus : List ℕ → List ℕ
without_minus bytes = if begins_with_minus bytes then drop 1 bytes else bytes

abbrev pub signed_value : List ℕ → ℤ
signed_value bytes =
    if begins_with_minus bytes then neg_ℤ (pos (digits_value 10 (drop 1 bytes))) else pos (digits_value 10 bytes)

abbrev pub int_literal : List ℕ → Result Scalar LiteralFault
int_literal bytes =
    if not (are_digits (without_minus bytes)) then Err BadLiteral
    else (if is_int (signed_value bytes) then Ok (scalar.Int (signed_value bytes)) else Err LiteralTooWide)

abbrev pub bool_literal : List ℕ → Result Scalar LiteralFault
bool_literal bytes =
    if bytes_eq bytes (codes "true") then Ok (scalar.Bool true)
    else (if bytes_eq bytes (codes "false") then Ok (scalar.Bool false) else Err BadLiteral)

abbrev pub unit_literal : List ℕ → Result Scalar LiteralFault
unit_literal bytes = if bytes_eq bytes (codes "()") then Ok scalar.Unit else Err BadLiteral

-- the byte that an escape stands for, by the byte after its backslash
abbrev pub unescaped : ℕ → Option ℕ
unescaped b =
    if b == 34 then Some 34
    else (if b == 92 then Some 92 else (if b == 110 then Some 10 else (if b == 116 then Some 9 else (if b == 114 then Some 13 else None))))

abbrev pub put_before : Option ℕ → Option (List ℕ) → Option (List ℕ)
put_before (Some b) (Some bytes) = Some (b ∷ bytes)
put_before _ _ = None

-- The text of the bytes after a first quote. A second quote ends them, a backslash begins an escape, and no line ends within.
abbrev pub quoted : List ℕ → Option (List ℕ)
quoted [] = None
quoted (b ∷ []) = if b == 34 then Some [] else None
quoted (b ∷ c ∷ rest) =
    if (b == 34) || (b == 10) then None
    else (if b == 92 then put_before (unescaped c) (quoted rest) else put_before (Some b) (quoted (c ∷ rest)))

-- a text of at most 65,536 bytes
abbrev pub short_text : Option (List ℕ) → Result Scalar LiteralFault
short_text None = Err BadLiteral
short_text (Some bytes) = if nat_lt MOST_TEXT_BYTES (length bytes) then Err TextTooLong else Ok (scalar.Text bytes)

abbrev pub unquoted : List ℕ → Option (List ℕ)
unquoted [] = None
unquoted (b ∷ bytes) = if b == 34 then quoted bytes else None

abbrev pub text_literal : List ℕ → Result Scalar LiteralFault
text_literal bytes = if is_utf8 bytes then short_text (unquoted bytes) else Err BadLiteral

-- the scalar that bytes spell at a type, or why they spell none
unfoldable pub literal : ScalarType → List ℕ → Result Scalar LiteralFault
literal scalar_type.Unit bytes = unit_literal bytes
literal scalar_type.Int bytes = int_literal bytes
literal scalar_type.Bool bytes = bool_literal bytes
literal scalar_type.Text bytes = text_literal bytes

-- what is answered is what the bytes spell, unless out of memory
abbrev pub IsAnswer : Result Scalar LiteralFault → Result Scalar LiteralFault → Type 0
IsAnswer spelled (Ok value) = spelled ≡ Ok value
IsAnswer spelled (Err Memory) = Unit {0}
IsAnswer spelled (Err fault) = spelled ≡ Err fault

-- the bytes that a text within quotes has, as they are read: they, a grammar's refusal, or out of memory
abbrev pub IsContent : Option (List ℕ) → Result (List ℕ) LiteralFault → Type 0
IsContent content (Ok bytes) = content ≡ Some bytes
IsContent content (Err Memory) = Unit {0}
IsContent content (Err fault) = (content ≡ None) × (fault ≡ BadLiteral)

-- a text within quotes begins with a byte, and goes on with the rest
pub record BeginsWith (byte : ℕ) (rest bytes : List ℕ) : Type 0 where
  pub content : quoted bytes ≡ put_before (Some byte) (quoted rest)
  pub shorter : length rest < length bytes

-- no byte is left before a text's last quote, or what is left is no text
abbrev pub HasNoByte : List ℕ → Type 0
HasNoByte bytes = bytes ≢ 34 ∷ [] → quoted bytes ≡ None
