-- The one spelling of a state, field by field.
use Rattle.std.specs.Prelude.{◌≡◌, ◌≢◌, ◌<◌, ◌^◌, ℕ, Bool, true, false, List, [], ◌∷◌, ◌++◌, length, codes, Option, Some, None}
use Rattle.std.specs.Int.{w64, cast_unsigned, to_be_bytes}
use Rattle.std.specs.List.{flat_map}
use Rattle.aggregate_store.specs.declared.content.Content.{Content}
use Rattle.aggregate_store.specs.declared.content.Content.TheVariants as content
use Rattle.tsl_value.specs.declared.scalar.Scalar.{Scalar}
use Rattle.tsl_value.specs.declared.scalar.Scalar.TheVariants as scalar
use Rattle.register_code.specs.Code.{Code}
use Rattle.register_code.specs.Text.{code_text}
use Rattle.trace_reader.specs.declared.state.ReaderState.{ReaderState}
use Rattle.monitor_state.specs.declared.state.MonitorState.{MonitorState}
use Rattle.monitor_state.specs.declared.state.OpenEvent.{OpenEvent}
use Rattle.monitor_state.specs.declared.state.SavedRegister.{SavedRegister}
use Rattle.monitor_state.specs.declared.state.SavedRegister.TheVariants as saved
use Rattle.run_state.specs.declared.state.RunState.{RunState}

-- eight bytes, the highest first
abbrev pub number : ℕ → List ℕ
number n = to_be_bytes w64 n

-- a length, and that many bytes
abbrev pub text : List ℕ → List ℕ
text bytes = number (length bytes) ++ bytes

abbrev pub flag : Bool → List ℕ
flag false = 0 ∷ []
flag true = 1 ∷ []

-- a byte 0, or 1 and the number
abbrev pub optional : Option ℕ → List ℕ
optional None = 0 ∷ []
optional (Some n) = 1 ∷ number n

-- nothing for a unit, two's complement for an Int
abbrev pub scalar_bytes : Scalar → List ℕ
scalar_bytes scalar.Unit = []
scalar_bytes (scalar.Int z) = number (cast_unsigned w64 z)
scalar_bytes (scalar.Bool b) = flag b
scalar_bytes (scalar.Text bytes) = text bytes

abbrev pub entry_bytes : Scalar × Scalar → List ℕ
entry_bytes e = scalar_bytes e.0 ++ scalar_bytes e.1

abbrev pub event_bytes : OpenEvent → List ℕ
event_bytes e = number e.equation ++ scalar_bytes e.value

-- a byte 0, 1 and a scalar, or 2 and the number of a cell
abbrev pub register_bytes : SavedRegister → List ℕ
register_bytes saved.Empty = 0 ∷ []
register_bytes (saved.Scalar s) = 1 ∷ scalar_bytes s
register_bytes (saved.Cell k) = 2 ∷ number k

-- the size, and the keys in their order, each of a map's before its value, or the elements from the front
abbrev pub content_bytes : Content → List ℕ
content_bytes (content.Scalar s) = scalar_bytes s
content_bytes (content.Set keys) = number (length keys) ++ flat_map scalar_bytes keys
content_bytes (content.Map entries) = number (length entries) ++ flat_map entry_bytes entries
content_bytes (content.Queue elements) = number (length elements) ++ flat_map scalar_bytes elements

-- ---- the fields

abbrev pub mark : List ℕ
mark = codes "TSLSTA1\n"

abbrev pub options_bytes : RunState → List ℕ
options_bytes st = flag st.strict ++ (number st.instants_limit ++ number st.bytes_limit)

abbrev pub reader_bytes : ReaderState → List ℕ
reader_bytes st = number st.taken ++ (number st.lines ++ (optional st.last ++ text st.rest))

abbrev pub events_bytes : MonitorState → List ℕ
events_bytes st = number st.instants ++ (number (length st.open_events) ++ flat_map event_bytes st.open_events)

-- what is kept between two instants; how many of each there are the code and the registers say
abbrev pub kept_bytes : MonitorState → List ℕ
kept_bytes st =
    flat_map number st.ledger ++ (flat_map register_bytes st.registers ++ (flat_map content_bytes st.cells ++ flat_map optional st.pending))

-- the bound and the inputs that were seen are not spelled, since the last time and the open events say them
abbrev pub spelling : Code → RunState → List ℕ
spelling c st =
    mark ++ (text (code_text c) ++ (options_bytes st ++ (reader_bytes st.reader ++ (events_bytes st.monitor ++ kept_bytes st.monitor))))

-- the bytes begin with the mark, a length, and that many bytes which are not this code's text
pub record IsOfOther (c : Code) (bytes : List ℕ) : Type 0 where
  pub program : List ℕ
  pub rest : List ℕ
  pub is : bytes ≡ mark ++ (text program ++ rest)
  pub short : length program < 2 ^ 64
  pub other : program ≢ code_text c
