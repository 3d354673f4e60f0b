-- The forms of a trace line: `TIME :`, `TIME : NAME` and `TIME : NAME = VALUE`, with blanks before and between their parts. They are
-- cut as the code cuts them; `Spelling` has the relation that `SpelledAgrees` proves the same.
use Rattle.std.specs.Prelude.{◌==◌, ℕ, Bool, true, false, ◌&&◌, ◌||◌, if◌then◌else◌, nat_lt, is_none, List, [], ◌∷◌, Option, Some, None}
use Rattle.std.specs.Prelude.{chars}
use Rattle.std.specs.List.{list_all}
use Rattle.std.specs.Option.{option_and_then, option_map}
use Rattle.std.specs.Str.{is_utf8}
use Rattle.std.specs.Str.Parse.{digits_value}
use Rattle.unicode_ident.specs.Ident.{is_xid_continue}
use Rattle.tsl_value.specs.Literal.{are_digits}
use Rattle.spec_lexer.specs.Spelling.{begins_name}
use Rattle.spec_lexer.specs.Found.{word_of}
use Rattle.trace_reader.specs.declared.limits.TheConstants.{MOST_LINE_BYTES}

-- the bytes of a line's time, its name and its value, where it has them
pub record LineParts : Type 0 where
  pub time : List ℕ
  pub name : Option (List ℕ)
  pub value : Option (List ℕ)

-- what stands before the first such byte, and what stands after it
abbrev pub put_first : ℕ → List ℕ × List ℕ → List ℕ × List ℕ
put_first b p = (b ∷ p.0, p.1)

abbrev pub split_once : ℕ → List ℕ → Option (List ℕ × List ℕ)
split_once mark [] = None
split_once mark (b ∷ bytes) = if b == mark then Some ([], bytes) else option_map (put_first b) (split_once mark bytes)

-- space and tab; at a line's end CR is a blank too
abbrev pub is_blank : ℕ → Bool
is_blank b = (b == 32) || (b == 9)

abbrev pub is_end_blank : ℕ → Bool
is_end_blank b = is_blank b || (b == 13)

-- the bytes from the first other one on, and those up to the last other one
abbrev pub without_front : (ℕ → Bool) → List ℕ → List ℕ
without_front passes [] = []
without_front passes (b ∷ bytes) = if passes b then without_front passes bytes else b ∷ bytes

abbrev pub put_kept : Bool → ℕ → List ℕ → List ℕ
put_kept passes b [] = if passes then [] else b ∷ []
put_kept passes b (c ∷ bytes) = b ∷ c ∷ bytes

abbrev pub without_end : (ℕ → Bool) → List ℕ → List ℕ
without_end passes [] = []
without_end passes (b ∷ bytes) = put_kept (passes b) b (without_end passes bytes)

-- a line without the blanks around it
abbrev pub content : List ℕ → List ℕ
content line = without_front is_blank (without_end is_end_blank line)

-- nothing, or a comment
abbrev pub says_nothing : List ℕ → Bool
says_nothing [] = true
says_nothing (b ∷ []) = b == 35
says_nothing (b ∷ c ∷ bytes) = (b == 35) || ((b == 45) && (c == 45))

-- so many bytes are more than the 65,536 that a line may have
abbrev pub is_long : ℕ → Bool
is_long count = nat_lt MOST_LINE_BYTES count

-- a name of a specification, of any length
abbrev pub are_name_characters : List ℕ → Bool
are_name_characters [] = false
are_name_characters (c ∷ cs) = begins_name c && list_all is_xid_continue cs

unfoldable pub is_name : List ℕ → Bool
is_name bytes = is_utf8 bytes && (are_name_characters (chars bytes) && is_none (word_of bytes))

-- a name, and perhaps a value, after a time
abbrev pub line_of_name : List ℕ → List ℕ → Option (List ℕ) → Option LineParts
line_of_name time name value = if is_name name then Some (record { time = time; name = Some name; value = value }) else None

-- what stands after `=` is not empty
abbrev pub valued : List ℕ → List ℕ → List ℕ → Option LineParts
valued time name [] = None
valued time name (b ∷ value) = line_of_name time name (Some (b ∷ value))

-- `NAME` or `NAME = VALUE`, by the first `=`
abbrev pub named_by : List ℕ → List ℕ → Option (List ℕ × List ℕ) → Option LineParts
named_by time bytes None = line_of_name time bytes None
named_by time bytes (Some p) = valued time (without_end is_blank p.0) (without_front is_blank p.1)

-- what stands after the colon
abbrev pub after_time : List ℕ → List ℕ → Option LineParts
after_time time [] = Some (record { time = time; name = None; value = None })
after_time time (b ∷ rest) = named_by time (b ∷ rest) (split_once 61 (b ∷ rest))

abbrev pub timed : List ℕ → List ℕ → Option LineParts
timed time rest = if are_digits time then after_time time rest else None

-- the parts of a line without the blanks around it, where it is of one of the forms
abbrev pub parts_of : List ℕ → Option LineParts
parts_of line = option_and_then (λ p. timed (without_end is_blank p.0) (without_front is_blank p.1)) (split_once 58 line)

-- the time that digits spell, where it is below 2^63
abbrev pub time_of : List ℕ → Option ℕ
time_of digits = if nat_lt (digits_value 10 digits) 0x8000_0000_0000_0000 then Some (digits_value 10 digits) else None
