-- The lines of small traces, by computation.
use Rattle.std.proofs.Common.{◌≡◌, ℕ, ◌+◌, List, [], ◌∷◌, ◌++◌, length, Some, None, refl, true, false}
use Rattle.std.specs.Prelude.{if◌then◌else◌, pos, negsuc, codes}
use Rattle.std.specs.Char.{encode_utf8}
use Rattle.std.specs.Str.{chars, is_utf8}
use Rattle.unicode_ident.proofs.Computing.{unicode_ident}
use Rattle.tsl_value.specs.declared.scalar.Scalar.{Scalar}
use Rattle.tsl_value.specs.declared.scalar.Scalar.TheVariants as scalar
use Rattle.tsl_value.specs.declared.scalar.ScalarType.{ScalarType}
use Rattle.tsl_value.specs.declared.scalar.ScalarType.TheVariants as scalar_type
use Rattle.tsl_value.specs.declared.scalar.ValueType.TheVariants as value_type
use Rattle.tsl_value.specs.Literal.{literal}
use Rattle.flat_core.specs.declared.equation.Equation.{Equation}
use Rattle.flat_core.specs.declared.equation.Op.TheVariants as op
use Rattle.flat_core.specs.System.{System}
use Rattle.flat_core.specs.Line.{Line}
use Rattle.trace_reader.specs.declared.fault.TraceFault.{TraceFault}
use Rattle.trace_reader.specs.declared.fault.TraceFault.TheVariants as fault
use Rattle.trace_reader.specs.Closed.{closed_below}
use Rattle.trace_reader.specs.Form.{is_long, is_name}
use Rattle.trace_reader.specs.Reading.{Reading, reading, unfinished}
use Rattle.trace_reader.specs.declared.limits.TheConstants.{MOST_LINE_BYTES}

abbrev input : List ℕ → ScalarType → Equation
input name of = record { op = op.Input; args = []; of = value_type.Scalar of; place = record { line = 1; column = 1 }; name = Some name }

-- inputs of numbers, i and j, one of units, u, one of truth values, b, and one of texts, t
abbrev system : System
system = record {
  equations =
      input (codes "i") scalar_type.Int ∷ input (codes "j") scalar_type.Int ∷ input (codes "u") scalar_type.Unit ∷ input (codes "b") scalar_type.Bool ∷ input (codes "t") scalar_type.Text ∷ [];
  outputs = [];
  running = [];
}

-- texts, each with a line end
abbrev lines : List (List ℕ) → List ℕ
lines [] = []
lines (l ∷ ls) = l ++ (10 ∷ lines ls)

abbrev event : ℕ → ℕ → Scalar → Line
event t i v = record { time = t; event = Some (i, v) }

abbrev bare : ℕ → Line
bare t = record { time = t; event = None }

abbrev int : ℕ → Scalar
int n = scalar.Int (pos n)

abbrev all : List Line → Reading
all ls = record { lines = ls; refused = None }

abbrev refused : List Line → TraceFault → Reading
refused ls f = record { lines = ls; refused = Some f }

-- the whole trace of lines, where names may be unknown
abbrev read : List (List ℕ) → Reading
read ls = reading system false 1000 (lines ls) true

two_lines : read (codes "1: i = 5" ∷ codes "02: j = -7" ∷ []) ≡ all (event 1 0 (int 5) ∷ event 2 1 (scalar.Int (negsuc 6)) ∷ [])
unfolding reading literal is_name chars encode_utf8 is_utf8 unicode_ident
two_lines = refl

-- blanks before the parts and between them, and after the last one
blanks : read (codes "\t 1 :i=5" ∷ codes "2\t:  b  =  true " ∷ codes "3:u" ∷ codes "4 : j = 7 \r\r" ∷ codes "5 :" ∷ []) ≡ all (event 1 0 (int 5) ∷ event 2 3 (scalar.Bool true) ∷ event 3 2 scalar.Unit ∷ event 4 1 (int 7) ∷ bare 5 ∷ [])
unfolding reading literal is_name chars encode_utf8 is_utf8 unicode_ident
blanks = refl

-- CR is a blank at a line's end alone
return_inside : read (codes "1:\r i = 5" ∷ []) ≡ refused [] (fault.BadLine 1)
unfolding reading literal is_name chars encode_utf8 is_utf8 unicode_ident
return_inside = refl

-- lines that say nothing; they count
skipped : read ([] ∷ codes "  " ∷ codes " \r" ∷ codes "# 9:" ∷ codes "  -- 9: i" ∷ codes "1: i = 5" ∷ codes "- 1:" ∷ []) ≡ refused (event 1 0 (int 5) ∷ []) (fault.BadLine 7)
unfolding reading literal is_name chars encode_utf8 is_utf8 unicode_ident
skipped = refl

-- leading zeros, and a unit with its value
long_zeros : read (codes "0000000000000000000000001: u = ()" ∷ []) ≡ all (event 1 2 scalar.Unit ∷ [])
unfolding reading literal is_name chars encode_utf8 is_utf8 unicode_ident
long_zeros = refl

-- a name that is no input's only says its time, whatever its value
unknown : read (codes "2: other = ?" ∷ codes "1: u" ∷ []) ≡ refused (bare 2 ∷ []) (fault.TimeBack 2 2 1)
unfolding reading literal is_name chars encode_utf8 is_utf8 unicode_ident
unknown = refl

unknown_strict : reading system true 1000 (lines (codes "2: u" ∷ codes "1: other" ∷ [])) true ≡ refused (event 2 2 scalar.Unit ∷ []) (fault.TimeBack 2 2 1)
unfolding reading literal is_name chars encode_utf8 is_utf8 unicode_ident
unknown_strict = refl

refused_strict : reading system true 1000 (lines (codes "2: u" ∷ codes "3: other = ?" ∷ [])) true ≡ refused (event 2 2 scalar.Unit ∷ []) (fault.UnknownStream 2)
unfolding reading literal is_name chars encode_utf8 is_utf8 unicode_ident
refused_strict = refl

-- a text with escapes
text : read (codes "1: t = \"a \\n\\\"\"" ∷ []) ≡ all (event 1 4 (scalar.Text (codes "a \n\"")) ∷ [])
unfolding reading literal is_name chars encode_utf8 is_utf8 unicode_ident
text = refl

-- the words of the language are no names
word : read (codes "1: in = 5" ∷ []) ≡ refused [] (fault.BadLine 1)
unfolding reading literal is_name chars encode_utf8 is_utf8 unicode_ident
word = refl

word_after : read (codes "1: ink = 5" ∷ codes "2: then" ∷ []) ≡ refused (bare 1 ∷ []) (fault.BadLine 2)
unfolding reading literal is_name chars encode_utf8 is_utf8 unicode_ident
word_after = refl

-- what stands after = is not empty
no_value : read (codes "1: u =" ∷ []) ≡ refused [] (fault.BadLine 1)
unfolding reading literal is_name chars encode_utf8 is_utf8 unicode_ident
no_value = refl

no_value_unknown : read (codes "1: other = " ∷ []) ≡ refused [] (fault.BadLine 1)
unfolding reading literal is_name chars encode_utf8 is_utf8 unicode_ident
no_value_unknown = refl

no_time : read (codes ": u" ∷ []) ≡ refused [] (fault.BadLine 1)
unfolding reading literal is_name chars encode_utf8 is_utf8 unicode_ident
no_time = refl

no_colon : read (codes "1 i = 4" ∷ []) ≡ refused [] (fault.BadLine 1)
unfolding reading literal is_name chars encode_utf8 is_utf8 unicode_ident
no_colon = refl

no_name : read (codes "1: 2i = 4" ∷ []) ≡ refused [] (fault.BadLine 1)
unfolding reading literal is_name chars encode_utf8 is_utf8 unicode_ident
no_name = refl

two_names : read (codes "1: i j = 4" ∷ []) ≡ refused [] (fault.BadLine 1)
unfolding reading literal is_name chars encode_utf8 is_utf8 unicode_ident
two_names = refl

-- a name is UTF-8
no_text : read ((codes "1: " ++ 255 ∷ codes " = 4") ∷ []) ≡ refused [] (fault.BadLine 1)
unfolding reading literal is_name chars encode_utf8 is_utf8 unicode_ident
no_text = refl

-- values of another type
number_without_value : read (codes "1: i" ∷ []) ≡ refused [] (fault.WrongValue 1 (codes "i"))
unfolding reading literal is_name chars encode_utf8 is_utf8 unicode_ident
number_without_value = refl

too_wide : read (codes "1: i = 9223372036854775808" ∷ []) ≡ refused [] (fault.WrongValue 1 (codes "i"))
unfolding reading literal is_name chars encode_utf8 is_utf8 unicode_ident
too_wide = refl

unit_of_number : read (codes "1: u = 0" ∷ []) ≡ refused [] (fault.WrongValue 1 (codes "u"))
unfolding reading literal is_name chars encode_utf8 is_utf8 unicode_ident
unit_of_number = refl

-- the first cause decides
back_in_time : read (codes "5: i = 1" ∷ codes "4: i = x" ∷ []) ≡ refused (event 5 0 (int 1) ∷ []) (fault.TimeBack 2 5 4)
unfolding reading literal is_name chars encode_utf8 is_utf8 unicode_ident
back_in_time = refl

too_late : read (codes "9223372036854775808: i = x" ∷ []) ≡ refused [] (fault.TimeTooLarge 1)
unfolding reading literal is_name chars encode_utf8 is_utf8 unicode_ident
too_late = refl

late : read (codes "9223372036854775807: i = 4" ∷ codes "9223372036854775807:" ∷ []) ≡ all (event 9223372036854775807 0 (int 4) ∷ bare 9223372036854775807 ∷ [])
unfolding reading literal is_name chars encode_utf8 is_utf8 unicode_ident
late = refl

-- a second event of an input at one time
twice : read (codes "1: i = 5" ∷ codes "1: u" ∷ codes "1: i = 6" ∷ []) ≡ refused (event 1 0 (int 5) ∷ event 1 2 scalar.Unit ∷ []) (fault.Twice 3 (codes "i"))
unfolding reading literal is_name chars encode_utf8 is_utf8 unicode_ident
twice = refl

wrong_twice : read (codes "1: i = 5" ∷ codes "1: i = x" ∷ []) ≡ refused (event 1 0 (int 5) ∷ []) (fault.WrongValue 2 (codes "i"))
unfolding reading literal is_name chars encode_utf8 is_utf8 unicode_ident
wrong_twice = refl

once_each : read (codes "1: i = 5" ∷ codes "2: i = 5" ∷ codes "2: j = 5" ∷ []) ≡ all (event 1 0 (int 5) ∷ event 2 0 (int 5) ∷ event 2 1 (int 5) ∷ [])
unfolding reading literal is_name chars encode_utf8 is_utf8 unicode_ident
once_each = refl

-- the last line without its end, before the end of the trace and with it
unfinished_line : reading system false 1000 (lines (codes "1: i = 5" ∷ []) ++ codes "2: i = 7") false ≡ all (event 1 0 (int 5) ∷ [])
unfolding reading literal is_name chars encode_utf8 is_utf8 unicode_ident
unfinished_line = refl

finished_line : reading system false 1000 (lines (codes "1: i = 5" ∷ []) ++ codes "2: i = 7") true ≡ all (event 1 0 (int 5) ∷ event 2 0 (int 7) ∷ [])
unfolding reading literal is_name chars encode_utf8 is_utf8 unicode_ident
finished_line = refl

-- eighteen bytes, of which too few are within the limit; the first beyond it is the second line's end, and then the second line's first
within : reading system false 18 (lines (codes "1: i = 5" ∷ codes "2: i = 7" ∷ [])) true ≡ all (event 1 0 (int 5) ∷ event 2 0 (int 7) ∷ [])
unfolding reading literal is_name chars encode_utf8 is_utf8 unicode_ident
within = refl

end_beyond : reading system false 17 (lines (codes "1: i = 5" ∷ codes "2: i = 7" ∷ [])) true ≡ refused (event 1 0 (int 5) ∷ []) (fault.TraceTooLong 2)
unfolding reading literal is_name chars encode_utf8 is_utf8 unicode_ident
end_beyond = refl

line_beyond : reading system false 9 (lines (codes "1: i = 5" ∷ codes "2: i = 7" ∷ [])) true ≡ refused (event 1 0 (int 5) ∷ []) (fault.TraceTooLong 2)
unfolding reading literal is_name chars encode_utf8 is_utf8 unicode_ident
line_beyond = refl

-- a line has 65,536 bytes at most
not_long : is_long MOST_LINE_BYTES ≡ false
not_long = refl

long : is_long 65537 ≡ true
long = refl

-- as many bytes of a line that is not whole: a limit is passed with them only by the line's end
open_line : (bytes : List ℕ) → length bytes ≡ MOST_LINE_BYTES → unfinished None 3 bytes ≡ None
open_line bytes is = λ k. if is_long (is k + 0) then Some (fault.LineTooLong 3) else None

end_is_beyond : (bytes : List ℕ) → length bytes ≡ MOST_LINE_BYTES → unfinished (Some 10) 3 bytes ≡ Some (fault.TraceTooLong 3)
end_is_beyond bytes is = λ k. if is_long (is k + 0) then Some (fault.LineTooLong 3) else Some (fault.TraceTooLong 3)

other_is_beyond : (bytes : List ℕ) → length bytes ≡ MOST_LINE_BYTES → unfinished (Some 35) 3 bytes ≡ Some (fault.LineTooLong 3)
other_is_beyond bytes is = λ k. if is_long (is k + 1) then Some (fault.LineTooLong 3) else Some (fault.TraceTooLong 3)

long_open_line : (bytes : List ℕ) → length bytes ≡ 65537 → unfinished None 3 bytes ≡ Some (fault.LineTooLong 3)
long_open_line bytes is = λ k. if is_long (is k + 0) then Some (fault.LineTooLong 3) else None

-- Which times are closed: those below the last line's, and with the end the last line's and those up to the bound that is asked for.
closed_open : closed_below (all (event 5 0 (int 1) ∷ [])) 9 false ≡ 5
closed_open = refl

closed_at_end : closed_below (all (event 5 0 (int 1) ∷ [])) 0 true ≡ 6
closed_at_end = refl

closed_until : closed_below (all (event 5 0 (int 1) ∷ [])) 9 true ≡ 10
closed_until = refl

closed_empty : closed_below (all []) 0 true ≡ 1
closed_empty = refl

closed_refused : closed_below (refused (event 5 0 (int 1) ∷ []) (fault.BadLine 2)) 9 true ≡ 5
closed_refused = refl
