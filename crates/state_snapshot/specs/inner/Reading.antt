-- Reading a state from left to right: a value and the bytes after it, or nothing where the bytes spell none that fits.
use Rattle.std.specs.Prelude.{◌≡◌, ◌==◌, ◌+◌, ℕ, zero, suc, Bool, true, false, ◌&&◌, ◌||◌, if◌then◌else◌, nat_le, nat_lt}
use Rattle.std.specs.Prelude.{List, [], ◌∷◌, ◌++◌, length, map, take, drop, Option, Some, None, is_none, is_some, Result, Ok, Err, slice_get}
use Rattle.std.specs.Int.{w64, cast_signed, from_be_bytes}
use Rattle.std.specs.List.{list_all}
use Rattle.std.specs.Ordering.{is_lt}
use Rattle.std.specs.Str.{bytes_eq, is_utf8}
use Rattle.tsl_value.specs.declared.limits.TheConstants.{MOST_INSTANTS, MOST_TEXT_BYTES, MOST_TRACE_BYTES}
use Rattle.tsl_value.specs.declared.scalar.KeyType.{KeyType}
use Rattle.tsl_value.specs.declared.scalar.KeyType.TheVariants as key_type
use Rattle.tsl_value.specs.declared.scalar.Scalar.{Scalar}
use Rattle.tsl_value.specs.declared.scalar.Scalar.TheVariants as scalar
use Rattle.tsl_value.specs.declared.scalar.ScalarType.{ScalarType}
use Rattle.tsl_value.specs.declared.scalar.ScalarType.TheVariants as scalar_type
use Rattle.tsl_value.specs.declared.scalar.ValueType.{ValueType}
use Rattle.tsl_value.specs.declared.scalar.ValueType.TheVariants as value_type
use Rattle.tsl_value.specs.Aggregate.{is_aggregate}
use Rattle.tsl_value.specs.View.{scalar_cmp}
use Rattle.aggregate_store.specs.declared.content.Content.{Content}
use Rattle.aggregate_store.specs.declared.content.Content.TheVariants as content
use Rattle.flat_core.specs.declared.equation.Equation.{Equation}
use Rattle.flat_core.specs.Kept.{keeps_of, timers_of}
use Rattle.flat_core.specs.System.{System, equation}
use Rattle.flat_core.specs.Updates.{running_updates}
use Rattle.register_code.specs.Code.{Code}
use Rattle.register_code.specs.Text.{code_text}
use Rattle.trace_reader.specs.declared.limits.TheConstants.{MOST_LINE_BYTES}
use Rattle.trace_reader.specs.declared.state.ReaderState.{ReaderState}
use Rattle.trace_reader.specs.Form.{split_once}
use Rattle.trace_reader.specs.Reading.{is_input}
use Rattle.trace_reader.specs.inner.LastTime.{or_zero}
use Rattle.monitor_state.specs.declared.state.MonitorState.{MonitorState}
use Rattle.monitor_state.specs.declared.state.OpenEvent.{OpenEvent}
use Rattle.monitor_state.specs.declared.state.SavedRegister.{SavedRegister}
use Rattle.monitor_state.specs.declared.state.SavedRegister.TheVariants as saved
use Rattle.state_snapshot.specs.declared.fault.StateFault.{StateFault}
use Rattle.state_snapshot.specs.declared.fault.StateFault.TheVariants as fault
use Rattle.run_state.specs.declared.state.RunState.{RunState}
use Rattle.run_state.specs.Spelling.{IsOfOther, mark}

infixl 10 ◌>>=◌
abbrev pub ◌>>=◌ : {A B : Type 0} → Option A → (A → Option B) → Option B
(Some x) >>= f = f x
None >>= f = None

-- a fault is right where reading gives nothing, and says nothing where it is that of memory
abbrev pub Fails : {Y : Type 0} → StateFault → Option Y → Type 0
Fails fault.WrongForm read = read ≡ None
Fails fault.OtherProgram read = ⊥
Fails fault.Memory read = Unit {0}

-- what a function answers, seen by a view, is what reading gives, unless out of memory
abbrev pub Gives : {X Y : Type 0} → (X → Y) → Result X StateFault → Option Y → Type 0
Gives view (Ok x) read = read ≡ Some (view x)
Gives view (Err e) read = Fails e read

-- a value, and the bytes after it
abbrev pub Read : Type 0 → Type 0
Read A = Option (A × List ℕ)

-- ---- fields

abbrev pub number_at : List ℕ → Read ℕ
number_at bytes = if nat_lt (length bytes) 8 then None else Some (from_be_bytes w64 (take 8 bytes), drop 8 bytes)

unfoldable pub text_at : List ℕ → Read (List ℕ)
text_at bytes = do
  n ← number_at bytes
  if nat_lt (length n.1) n.0 then None else Some (take n.0 n.1, drop n.0 n.1)

abbrev pub flag_at : List ℕ → Read Bool
flag_at (zero ∷ rest) = Some (false, rest)
flag_at (suc zero ∷ rest) = Some (true, rest)
flag_at _ = None

abbrev pub if_time : ℕ × List ℕ → Read (Option ℕ)
if_time n = if nat_lt n.0 0x8000_0000_0000_0000 then Some (Some n.0, n.1) else None

unfoldable pub optional_at : List ℕ → Read (Option ℕ)
optional_at bytes = do
  there ← flag_at bytes
  if there.0 then (number_at there.1 >>= if_time) else Some (None, there.1)

-- ---- scalars

abbrev pub if_text : List ℕ × List ℕ → Read Scalar
if_text t = if is_utf8 t.0 && nat_le (length t.0) MOST_TEXT_BYTES then Some (scalar.Text t.0, t.1) else None

unfoldable pub scalar_at : ScalarType → List ℕ → Read Scalar
scalar_at scalar_type.Unit bytes = Some (scalar.Unit, bytes)
scalar_at scalar_type.Int bytes = number_at bytes >>= λ n. Some (scalar.Int (cast_signed w64 n.0), n.1)
scalar_at scalar_type.Bool bytes = flag_at bytes >>= λ b. Some (scalar.Bool b.0, b.1)
scalar_at scalar_type.Text bytes = text_at bytes >>= if_text

abbrev pub as_scalar : KeyType → ScalarType
as_scalar key_type.Int = scalar_type.Int
as_scalar key_type.Bool = scalar_type.Bool
as_scalar key_type.Text = scalar_type.Text

-- so many items, one after the other
abbrev pub items_at : {A : Type 0} → (List ℕ → Read A) → ℕ → List ℕ → Read (List A)
items_at item_at zero bytes = Some ([], bytes)
items_at item_at (suc n) bytes = item_at bytes >>= λ first. items_at item_at n first.1 >>= λ others. Some (first.0 ∷ others.0, others.1)

-- each item is below the next
abbrev pub rise_by : {A : Type 0} → (A → A → Bool) → List A → Bool
rise_by less [] = true
rise_by less (x ∷ []) = true
rise_by less (x ∷ y ∷ xs) = less x y && rise_by less (y ∷ xs)

abbrev pub is_key_below : Scalar → Scalar → Bool
is_key_below a b = is_lt (scalar_cmp a b)

abbrev pub is_entry_below : Scalar × Scalar → Scalar × Scalar → Bool
is_entry_below a b = is_lt (scalar_cmp a.0 b.0)

unfoldable pub entry_at : KeyType → ScalarType → List ℕ → Read (Scalar × Scalar)
entry_at k t bytes = do
  key ← scalar_at (as_scalar k) bytes
  value ← scalar_at t key.1
  Some ((key.0, value.0), value.1)

abbrev pub if_keys : List Scalar × List ℕ → Read Content
if_keys p = if rise_by is_key_below p.0 then Some (content.Set p.0, p.1) else None

abbrev pub if_entries : List (Scalar × Scalar) × List ℕ → Read Content
if_entries p = if rise_by is_entry_below p.0 then Some (content.Map p.0, p.1) else None

unfoldable pub set_at : KeyType → List ℕ → Read Content
set_at k bytes = number_at bytes >>= λ n. items_at (scalar_at (as_scalar k)) n.0 n.1 >>= if_keys

unfoldable pub map_at : KeyType → ScalarType → List ℕ → Read Content
map_at k t bytes = number_at bytes >>= λ n. items_at (entry_at k t) n.0 n.1 >>= if_entries

unfoldable pub queue_at : ScalarType → List ℕ → Read Content
queue_at t bytes = number_at bytes >>= λ n. items_at (scalar_at t) n.0 n.1 >>= λ xs. Some (content.Queue xs.0, xs.1)

-- the aggregate of a type
abbrev pub content_at : ValueType → List ℕ → Read Content
content_at (value_type.Scalar t) bytes = None
content_at (value_type.Set k) bytes = set_at k bytes
content_at (value_type.Map k t) bytes = map_at k t bytes
content_at (value_type.Queue t) bytes = queue_at t bytes

-- ---- open events

abbrev pub scalar_in : ValueType → Option ScalarType
scalar_in (value_type.Scalar t) = Some t
scalar_in _ = None

-- the type of an input
abbrev pub input_type : Option Equation → Option ScalarType
input_type (Some e) = if is_input e.op then scalar_in e.of else None
input_type None = None

unfoldable pub event_at : System → List ℕ → Read OpenEvent
event_at s bytes = do
  i ← number_at bytes
  of ← input_type (equation s i.0)
  value ← scalar_at of i.1
  Some (record { equation = i.0; value = value.0 }, value.1)

abbrev pub is_event_below : OpenEvent → OpenEvent → Bool
is_event_below a b = nat_lt a.equation b.equation

abbrev pub if_events : List OpenEvent × List ℕ → Read (List OpenEvent)
if_events p = if rise_by is_event_below p.0 then Some p else None

-- their number, and so many of them in rising order
unfoldable pub events_at : System → List ℕ → Read (List OpenEvent)
events_at s bytes = number_at bytes >>= λ n. items_at (event_at s) n.0 n.1 >>= if_events

-- ---- registers, with the types of the cells that they name

abbrev pub is_scalar_type : ScalarType → ScalarType → Bool
is_scalar_type scalar_type.Unit scalar_type.Unit = true
is_scalar_type scalar_type.Int scalar_type.Int = true
is_scalar_type scalar_type.Bool scalar_type.Bool = true
is_scalar_type scalar_type.Text scalar_type.Text = true
is_scalar_type _ _ = false

abbrev pub is_key_type : KeyType → KeyType → Bool
is_key_type key_type.Int key_type.Int = true
is_key_type key_type.Bool key_type.Bool = true
is_key_type key_type.Text key_type.Text = true
is_key_type _ _ = false

abbrev pub is_type : ValueType → ValueType → Bool
is_type (value_type.Scalar a) (value_type.Scalar b) = is_scalar_type a b
is_type (value_type.Set a) (value_type.Set b) = is_key_type a b
is_type (value_type.Map a x) (value_type.Map b y) = is_key_type a b && is_scalar_type x y
is_type (value_type.Queue a) (value_type.Queue b) = is_scalar_type a b
is_type _ _ = false

-- a cell that was named before, which has this type
abbrev pub named_before : List ValueType → ValueType → ℕ → Option ValueType → Option (SavedRegister × List ValueType)
named_before types of k None = None
named_before types of k (Some other) = if is_type of other then Some (saved.Cell k, types) else None

-- a cell of this type by its number: one that was named before, or the next
abbrev pub named : List ValueType → ValueType → ℕ → Option (SavedRegister × List ValueType)
named types of k =
    if k == length types then Some (saved.Cell k, types ++ of ∷ [])
    else named_before types of k (slice_get types k)

unfoldable pub bare_at : ValueType → List ℕ → Read SavedRegister
bare_at (value_type.Scalar t) bytes = scalar_at t bytes >>= λ v. Some (saved.Scalar v.0, v.1)
bare_at _ bytes = None

unfoldable pub cell_at : List ValueType → ValueType → List ℕ → Read (SavedRegister × List ValueType)
cell_at types of bytes =
    if is_aggregate of then (number_at bytes >>= λ k. named types of k.0 >>= λ r. Some (r, k.1))
    else None

unfoldable pub register_at : List ValueType → ValueType → List ℕ → Read (SavedRegister × List ValueType)
register_at types of (zero ∷ bytes) = Some ((saved.Empty, types), bytes)
register_at types of (suc zero ∷ bytes) = bare_at of bytes >>= λ r. Some ((r.0, types), r.1)
register_at types of (suc (suc zero) ∷ bytes) = cell_at types of bytes
register_at types of _ = None

-- those of equations of these types, in order
abbrev pub registers_at : List ValueType → List ValueType → List ℕ → Read (List SavedRegister × List ValueType)
registers_at types [] bytes = Some (([], types), bytes)
registers_at types (of ∷ more) bytes =
    register_at types of bytes >>= λ first.
    registers_at first.0.1 more first.1 >>= λ others.
    Some ((first.0.0 ∷ others.0.0, others.0.1), others.1)

-- an aggregate of each of these types
abbrev pub cells_at : List ValueType → List ℕ → Read (List Content)
cells_at [] bytes = Some ([], bytes)
cells_at (of ∷ types) bytes = content_at of bytes >>= λ first. cells_at types first.1 >>= λ others. Some (first.0 ∷ others.0, others.1)

-- ---- the whole

abbrev pub type_of_kept : Option Equation → ValueType
type_of_kept None = value_type.Scalar scalar_type.Unit
type_of_kept (Some e) = e.of

abbrev pub kept_types : System → List ℕ → List ValueType
kept_types s keeps = map (λ v. type_of_kept (equation s v)) keeps

unfoldable pub reader_at : List ℕ → Read ReaderState
reader_at bytes = do
  taken ← number_at bytes
  lines ← number_at taken.1
  last ← optional_at lines.1
  rest ← text_at last.1
  Some (record { taken = taken.0; lines = lines.0; last = last.0; seen = []; rest = rest.0 }, rest.1)

-- what a monitor keeps, whose bound this is
unfoldable pub monitor_at : System → ℕ → List ℕ → Read MonitorState
monitor_at s bound bytes = do
  instants ← number_at bytes
  events ← events_at s instants.1
  ledger ← items_at number_at (length (running_updates s)) events.1
  registers ← registers_at [] (kept_types s (keeps_of s)) ledger.1
  cells ← cells_at registers.0.1 registers.1
  pending ← items_at optional_at (length (timers_of s)) cells.1
  Some (
    record {
      bound = bound;
      instants = instants.0;
      open_events = events.0;
      ledger = ledger.0;
      registers = registers.0.0;
      cells = cells.0;
      pending = pending.0;
    },
    pending.1,
  )

-- the fields after the program's text; which inputs were seen is not among them
unfoldable pub fields_at : System → List ℕ → Read RunState
fields_at s bytes = do
  strict ← flag_at bytes
  instants ← number_at strict.1
  limit ← number_at instants.1
  reader ← reader_at limit.1
  monitor ← monitor_at s (or_zero reader.0.last) reader.1
  Some (
    record { strict = strict.0; instants_limit = instants.0; bytes_limit = limit.0; reader = reader.0; monitor = monitor.0 },
    monitor.1,
  )

-- ---- what is left to decide of the values that were read

abbrev pub are_limits : RunState → Bool
are_limits st =
    (nat_le 1 st.instants_limit && nat_le st.instants_limit MOST_INSTANTS)
    && (nat_le 1 st.bytes_limit && nat_le st.bytes_limit MOST_TRACE_BYTES)

abbrev pub is_rest : ReaderState → Bool
is_rest st = nat_le (length st.rest) MOST_LINE_BYTES && (is_none (split_once 10 st.rest) && nat_le (length st.rest) st.taken)

abbrev pub fits_reader : ℕ → ReaderState → Bool
fits_reader limit st = (nat_le st.taken limit && nat_le st.lines st.taken) && is_rest st

-- an instant has run exactly where a time is closed, and no more than may
abbrev pub are_instants : ℕ → MonitorState → Bool
are_instants limit st = nat_le st.instants limit && (if st.bound == 0 then st.instants == 0 else nat_lt 0 st.instants)

abbrev pub is_from : ℕ → Option ℕ → Bool
is_from bound None = true
is_from bound (Some u) = nat_le bound u

-- where there is no last time no event is open
abbrev pub is_open_at : Option ℕ → List OpenEvent → Bool
is_open_at last events = is_some last || (length events == 0)

abbrev pub fits_rest : RunState → Bool
fits_rest st =
    (are_limits st && fits_reader st.bytes_limit st.reader)
    && (are_instants st.instants_limit st.monitor
    && (list_all (is_from st.monitor.bound) st.monitor.pending && is_open_at st.reader.last st.monitor.open_events))

-- the inputs that were seen are those of the open events
abbrev pub with_seen : RunState → RunState
with_seen st = record st { reader = record st.reader { seen = map (λ e. e.equation) st.monitor.open_events } }

-- it fits, and nothing follows it
abbrev pub if_fits : RunState × List ℕ → Option RunState
if_fits p = if (length p.1 == 0) && fits_rest p.0 then Some (with_seen p.0) else None

-- all of the bytes after the program's text
unfoldable pub state_at : System → List ℕ → Option RunState
state_at s bytes = fields_at s bytes >>= if_fits

-- the mark, and the text of a program
abbrev pub marked_at : List ℕ → Read (List ℕ)
marked_at bytes = if bytes_eq (take 8 bytes) mark then text_at (drop 8 bytes) else None

-- what a fault of the mark and the program says
abbrev pub BeginsWrong : Code → List ℕ → StateFault → Type 0
BeginsWrong c bytes fault.OtherProgram = IsOfOther c bytes
BeginsWrong c bytes fault.WrongForm = marked_at bytes ≡ None
BeginsWrong c bytes fault.Memory = Unit {0}

-- what is answered of them: the bytes after this program's text, seen by a view
abbrev pub AnswersProgram : {X : Type 0} → (X → List ℕ) → Code → List ℕ → Result X StateFault → Type 0
AnswersProgram view c bytes (Ok rest) = marked_at bytes ≡ Some (code_text c, view rest)
AnswersProgram view c bytes (Err e) = BeginsWrong c bytes e
