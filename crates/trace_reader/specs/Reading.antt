-- The lines of a trace, and perhaps one that is refused. It speaks of the whole text, and knows no pieces.
use Rattle.std.specs.Prelude.{◌==◌, ℕ, ◌+◌, Bool, true, false, ◌&&◌, if◌then◌else◌, nat_lt, List, [], ◌∷◌, ◌++◌, length, take, Option, Some}
use Rattle.std.specs.Prelude.{None, is_none, option_to_list, slice_get, Result, Ok, Err}
use Rattle.std.specs.List.{list_any, position_from}
use Rattle.std.specs.Option.{option_and_then, option_or}
use Rattle.std.specs.Result.{result_ok}
use Rattle.std.specs.Str.{bytes_eq}
use Rattle.tsl_value.specs.declared.scalar.Scalar.{Scalar}
use Rattle.tsl_value.specs.declared.scalar.Scalar.TheVariants as scalar
use Rattle.tsl_value.specs.declared.scalar.ScalarType.TheVariants as scalar_type
use Rattle.tsl_value.specs.declared.scalar.ValueType.{ValueType}
use Rattle.tsl_value.specs.declared.scalar.ValueType.TheVariants as value_type
use Rattle.tsl_value.specs.Literal.{literal}
use Rattle.flat_core.specs.declared.equation.Op.{Op}
use Rattle.flat_core.specs.declared.equation.Op.TheVariants as op
use Rattle.flat_core.specs.declared.equation.Equation.{Equation}
use Rattle.flat_core.specs.System.{System, equation}
use Rattle.flat_core.specs.Line.{Line, last_time}
use Rattle.trace_reader.specs.declared.fault.TraceFault.{TraceFault}
use Rattle.trace_reader.specs.declared.fault.TraceFault.TheVariants as fault
use Rattle.trace_reader.specs.Form.{LineParts, content, is_long, parts_of, says_nothing, split_once, time_of}

-- the lines that were read, and why the next one is refused, where it is
pub record Reading : Type 0 where
  pub lines : List Line
  pub refused : Option TraceFault

-- The whole lines of some bytes, without their ends, and what stands after the last line's end.
abbrev pub put_before : ℕ → List (List ℕ) → List ℕ → List (List ℕ) × List ℕ
put_before b [] rest = ([], b ∷ rest)
put_before b (line ∷ lines) rest = ((b ∷ line) ∷ lines, rest)

abbrev pub cut : List ℕ → List (List ℕ) × List ℕ
cut [] = ([], [])
cut (b ∷ bytes) = if b == 10 then ([] ∷ (cut bytes).0, (cut bytes).1) else put_before b (cut bytes).0 (cut bytes).1

-- a last line without its end counts where it is not empty
abbrev pub last_line : List ℕ → List (List ℕ)
last_line [] = []
last_line (b ∷ bytes) = (b ∷ bytes) ∷ []

abbrev pub lines_of : List ℕ → Bool → List (List ℕ)
lines_of bytes ended = (cut bytes).0 ++ (if ended then last_line (cut bytes).1 else [])

-- the first of these lines, and what stands after it
abbrev pub alone : List ℕ → Option (List ℕ × List ℕ)
alone [] = None
alone (b ∷ bytes) = Some (b ∷ bytes, [])

abbrev pub first_line : List ℕ → Bool → Option (List ℕ × List ℕ)
first_line bytes ended = option_or (split_once 10 bytes) (if ended then alone bytes else None)

-- the first input of a name
abbrev pub is_input : Op → Bool
is_input op.Input = true
is_input _ = false

abbrev pub is_called : List ℕ → Option (List ℕ) → Bool
is_called name None = false
is_called name (Some other) = bytes_eq name other

abbrev pub is_input_called : List ℕ → Equation → Bool
is_input_called name e = is_input e.op && is_called name e.name

abbrev pub input_called : System → List ℕ → Option ℕ
input_called s name = position_from (is_input_called name) 0 s.equations

-- the value of a type that a line has; a unit may have none
abbrev pub value_of : ValueType → Option (List ℕ) → Option Scalar
value_of (value_type.Scalar of) (Some bytes) = result_ok (literal of bytes)
value_of (value_type.Scalar scalar_type.Unit) None = Some scalar.Unit
value_of _ _ = None

-- the value that a line gives an input
abbrev pub value_at : System → ℕ → Option (List ℕ) → Option Scalar
value_at s i value = option_and_then (λ e. value_of e.of value) (equation s i)

-- the inputs that had an event at a time
abbrev pub input_in : Option (ℕ × Scalar) → List ℕ
input_in None = []
input_in (Some e) = e.0 ∷ []

abbrev pub inputs_at : ℕ → List Line → List ℕ
inputs_at t [] = []
inputs_at t (l ∷ ls) = (if l.time == t then input_in l.event else []) ++ inputs_at t ls

abbrev pub is_among : List ℕ → ℕ → Bool
is_among inputs i = list_any (λ j. j == i) inputs

abbrev pub had_event : List Line → ℕ → ℕ → Bool
had_event before t i = is_among (inputs_at t before) i

-- Line number `n`, where `had` says which inputs had an event at a time before it, and `last` is the last line's time: it is skipped,
-- it says a time and perhaps an event, or it is refused.
abbrev pub as_read : Result Line TraceFault → Result (Option Line) TraceFault
as_read (Ok l) = Ok (Some l)
as_read (Err f) = Err f

module _ (s : System) (strict : Bool) (had : ℕ → ℕ → Bool) (last n : ℕ) where
  abbrev pub placed : ℕ → List ℕ → ℕ → Option Scalar → Result Line TraceFault
  placed t name i None = Err (fault.WrongValue n name)
  placed t name i (Some v) = if had t i then Err (fault.Twice n name) else Ok (record { time = t; event = Some (i, v) })

  abbrev pub addressed : ℕ → List ℕ → Option (List ℕ) → Option ℕ → Result Line TraceFault
  addressed t name value None = if strict then Err (fault.UnknownStream n) else Ok (record { time = t; event = None })
  addressed t name value (Some i) = placed t name i (value_at s i value)

  abbrev pub said : ℕ → Option (List ℕ) → Option (List ℕ) → Result Line TraceFault
  said t None value = Ok (record { time = t; event = None })
  said t (Some name) value = addressed t name value (input_called s name)

  abbrev pub said_at : LineParts → Option ℕ → Result Line TraceFault
  said_at parts None = Err (fault.TimeTooLarge n)
  said_at parts (Some t) = if nat_lt t last then Err (fault.TimeBack n last t) else said t parts.name parts.value

  abbrev pub formed : Option LineParts → Result Line TraceFault
  formed None = Err (fault.BadLine n)
  formed (Some parts) = said_at parts (time_of parts.time)

  abbrev pub judged_content : List ℕ → Result (Option Line) TraceFault
  judged_content bytes = if says_nothing bytes then Ok None else as_read (formed (parts_of bytes))

  abbrev pub judged : List ℕ → Result (Option Line) TraceFault
  judged line = if is_long (length line) then Err (fault.LineTooLong n) else judged_content (content line)

-- The first line that is refused ends the reading.
abbrev pub go_on : Result (Option Line) TraceFault → (Option Line → Reading) → Reading
go_on (Err f) rest = record { lines = []; refused = Some f }
go_on (Ok l) rest = record { lines = option_to_list l ++ (rest l).lines; refused = (rest l).refused }

-- these lines, from number `n` on, after earlier ones
abbrev pub read : System → Bool → List Line → ℕ → List (List ℕ) → Reading
read s strict before n [] = record { lines = []; refused = None }
read s strict before n (bytes ∷ more) =
    go_on (judged s strict (had_event before) (last_time before) n bytes) (λ l. read s strict (before ++ option_to_list l) (n + 1) more)

-- The bytes that stand on the last line, with the one beyond the limit where it goes on with the line.
abbrev pub on_line : Option ℕ → List ℕ
on_line None = []
on_line (Some b) = if b == 10 then [] else b ∷ []

-- What is refused after the whole lines: a line that is too long already, or bytes beyond the limit, in the line in which they begin.
abbrev pub overflow : Option ℕ → ℕ → Option TraceFault
overflow None n = None
overflow (Some b) n = Some (fault.TraceTooLong n)

abbrev pub unfinished : Option ℕ → ℕ → List ℕ → Option TraceFault
unfinished beyond n rest = if is_long (length rest + length (on_line beyond)) then Some (fault.LineTooLong n) else overflow beyond n

abbrev pub limited : Reading → Option TraceFault → Reading
limited r after = record { lines = r.lines; refused = option_or r.refused after }

-- These bytes, from line number `n` on, after earlier lines, with the first byte beyond the limit.
abbrev pub read_on : System → Bool → List Line → ℕ → List ℕ → Option ℕ → Bool → Reading
read_on s strict before n bytes beyond ended =
    limited (read s strict before n (lines_of bytes (ended && is_none beyond))) (unfinished beyond (n + length (cut bytes).0) (cut bytes).1)

-- The lines of a trace and what is refused. Bytes after the last line's end are a line only where the trace has ended.
unfoldable pub reading : System → Bool → ℕ → List ℕ → Bool → Reading
reading s strict limit bytes ended = read_on s strict [] 1 (take limit bytes) (slice_get bytes limit) ended
