-- The fields of a state, as formats: what is read is spelled so, and what was spelled is read again.
use Rattle.std.proofs.Common.{◌≡◌, ℕ, ◌+◌, ◌<◌, ◌^◌, Bool, true, cond, List, [], ◌++◌, length, Option, Some, None, refl, sym, ap, subst, ◌∙◌, append_assoc, arith}
use Rattle.std.specs.Prelude.{IfSome, IsTrue}
use Rattle.std.specs.List.{AllByRecursion, AllZip, flat_map}
use Rattle.std.proofs.lemmas.Option.{slice_get_within}
use Rattle.tsl_value.specs.declared.scalar.Scalar.{Scalar}
use Rattle.tsl_value.specs.declared.scalar.ScalarType.{ScalarType}
use Rattle.tsl_value.specs.declared.scalar.ValueType.{ValueType}
use Rattle.tsl_value.specs.declared.scalar.ValueType.TheVariants as value_type
use Rattle.tsl_value.specs.View.{Plain, is_of, is_of_scalar}
use Rattle.tsl_value.specs.inner.Laws.{IsInBounds}
use Rattle.aggregate_store.specs.declared.content.Content.{Content}
use Rattle.flat_core.specs.declared.equation.Equation.{Equation}
use Rattle.flat_core.specs.declared.equation.Op.TheVariants as op
use Rattle.flat_core.specs.Complete.{IsFlat}
use Rattle.flat_core.specs.Kept.{keeps_of, timers_of}
use Rattle.flat_core.specs.System.{System, equation}
use Rattle.flat_core.specs.Updates.{running_updates}
use Rattle.trace_reader.specs.declared.state.ReaderState.{ReaderState}
use Rattle.trace_reader.specs.Reading.{is_input}
use Rattle.trace_reader.specs.inner.LastTime.{or_zero}
use Rattle.trace_reader.proofs.JudgedLemmas.{only_input}
use Rattle.monitor_state.specs.declared.state.MonitorState.{MonitorState}
use Rattle.monitor_state.specs.declared.state.OpenEvent.{OpenEvent}
use Rattle.monitor_state.specs.declared.state.SavedRegister.{SavedRegister}
use Rattle.monitor_state.specs.Inputs.{IsInputOf}
use Rattle.run_state.specs.declared.state.RunState.{RunState}
use Rattle.run_state.specs.Spelling.{content_bytes, event_bytes, events_bytes, flag, kept_bytes, number, optional, options_bytes, reader_bytes, register_bytes, scalar_bytes, text}
use Rattle.state_snapshot.specs.inner.Reading.{◌>>=◌, cells_at, event_at, events_at, fields_at, flag_at, if_events, input_type, is_event_below, items_at, kept_types, monitor_at, number_at, optional_at, reader_at, registers_at, rise_by, scalar_at, scalar_in, text_at}
use Rattle.state_snapshot.proofs.Formats.{IsBytes, IsFormat, Takes, Takes-then, bind_some, flag_format, items_again, items_take, number_format, optional_format, passed_first, passed_test, some_is, text_format}
use Rattle.state_snapshot.proofs.Scalars.{scalar_format}
use Rattle.state_snapshot.proofs.Contents.{FitsContent}
use Rattle.state_snapshot.proofs.RegisterTypes.{AreSaved, registers_again, registers_take}
use Rattle.state_snapshot.proofs.Named.{cells_again, cells_take}

-- ---- open events

-- an event of an input whose number is spelled as it is
abbrev pub FitsEvent : System → OpenEvent → Type 0
FitsEvent s e = (IsInputOf s e.equation e.value × IsInBounds e.value) × (e.equation < 2 ^ 64)

scalar_of : (of : ValueType) (t : ScalarType) → scalar_in of ≡ Some t → of ≡ value_type.Scalar t
scalar_of (value_type.Scalar u) t e = ap value_type.Scalar (some_is u t e)
scalar_of (value_type.Set k) t e = absurd cc
scalar_of (value_type.Map k u) t e = absurd cc
scalar_of (value_type.Queue u) t e = absurd cc

input_is : (o : Option Equation) (t : ScalarType) → input_type o ≡ Some t → (e : Equation) × (o ≡ Some e) × (e.op ≡ op.Input) × (e.of ≡ value_type.Scalar t)
input_is None t is = absurd cc
input_is (Some e) t is =
    let g = passed_first (is_input e.op) (scalar_in e.of) t is in
    (e, refl, only_input e.op g.0, scalar_of e.of t g.1)

abbrev made_event : ℕ → Scalar × List ℕ → Option (OpenEvent × List ℕ)
made_event i value = Some (record { equation = i; value = value.0 }, value.1)

event_takes : (s : System) (bytes : List ℕ) (e : OpenEvent) (rest : List ℕ) → IsBytes bytes → event_at s bytes ≡ Some (e, rest) → Takes bytes (event_bytes e) rest × FitsEvent s e
unfolding event_at
event_takes s bytes e rest fits is =
    let a = bind_some (number_at bytes) (λ i. input_type (equation s i.0) >>= λ of. scalar_at of i.1 >>= made_event i.0) (e, rest) is in
    let b = bind_some (input_type (equation s a.0.0)) (λ of. scalar_at of a.0.1 >>= made_event a.0.0) (e, rest) a.2 in
    let c = bind_some (scalar_at b.0 a.0.1) (made_event a.0.0) (e, rest) b.2 in
    let first = number_format.takes bytes a.0.0 a.0.1 fits a.1 in
    let value = (scalar_format b.0).takes a.0.1 c.0.0 c.0.1 first.0.rest_fits c.1 in
    let input = input_is (equation s a.0.0) b.0 b.1 in
    let both = Takes-then bytes (number a.0.0) a.0.1 (scalar_bytes c.0.0) c.0.1 first.0 value.0 in
    let typed : IsTrue (is_of input.0.of (Plain c.0.0)) = ap (λ of. is_of of (Plain c.0.0)) input.3 ∙ value.1.0 in
    let made : OpenEvent = record { equation = a.0.0; value = c.0.0 } in
    subst (λ (p : OpenEvent × List ℕ). Takes bytes (event_bytes p.0) p.1 × FitsEvent s p.0) (some_is (made, c.0.1) (e, rest) c.2)
    (both, ((record { at = input.0; is = input.1; op_is = input.2; typed = typed }, value.1.1), first.1))

typed_scalar : (of : ValueType) (v : Scalar) → IsTrue (is_of of (Plain v)) → (t : ScalarType) × (of ≡ value_type.Scalar t) × IsTrue (is_of_scalar t v)
typed_scalar (value_type.Scalar t) v is = (t, refl, is)
typed_scalar (value_type.Set k) v is = absurd cc
typed_scalar (value_type.Map k t) v is = absurd cc
typed_scalar (value_type.Queue t) v is = absurd cc

event_again : (s : System) (e : OpenEvent) (rest : List ℕ) → FitsEvent s e → event_at s (event_bytes e ++ rest) ≡ Some (e, rest)
unfolding event_at
event_again s e rest fits =
    let input = fits.0.0 in
    let of = typed_scalar input.at.of e.value input.typed in
    let type : input_type (equation s e.equation) ≡ Some of.0 = ap input_type input.is ∙ (λ i. cond (is_input (input.op_is i)) (scalar_in (of.1 i)) None) in
    ap (event_at s) (append_assoc (number e.equation) (scalar_bytes e.value) rest)
    ∙ rw (number_format.again e.equation (scalar_bytes e.value ++ rest) fits.1, type, (scalar_format of.0).again e.value rest (of.2, fits.0.1)) refl

pub event_format : (s : System) → IsFormat event_bytes (event_at s) (FitsEvent s)
event_format s = record { takes = event_takes s; again = event_again s }

abbrev pub list_bytes : List OpenEvent → List ℕ
list_bytes es = number (length es) ++ flat_map event_bytes es

-- events that are spelled and read
pub record AreRead (s : System) (es : List OpenEvent) : Type 0 where
  pub each : AllByRecursion (FitsEvent s) es
  pub few : length es < 2 ^ 64
  pub rising : rise_by is_event_below es ≡ true

events_take : (s : System) (bytes : List ℕ) (es : List OpenEvent) (rest : List ℕ) → IsBytes bytes → events_at s bytes ≡ Some (es, rest) → Takes bytes (list_bytes es) rest × AreRead s es
unfolding events_at
events_take s bytes es rest fits e =
    let a = bind_some (number_at bytes) (λ n. items_at (event_at s) n.0 n.1 >>= if_events) (es, rest) e in
    let b = bind_some (items_at (event_at s) a.0.0 a.0.1) if_events (es, rest) a.2 in
    let g = passed_test (rise_by is_event_below b.0.0) b.0 (es, rest) b.2 in
    let n = number_format.takes bytes a.0.0 a.0.1 fits a.1 in
    let all = items_take (event_format s) a.0.0 a.0.1 b.0.0 b.0.1 n.0.rest_fits b.1 in
    let both = Takes-then bytes (number a.0.0) a.0.1 (flat_map event_bytes b.0.0) b.0.1 n.0 all.0 in
    subst (λ (p : List OpenEvent × List ℕ). Takes bytes (list_bytes p.0) p.1 × AreRead s p.0) g.1 (
      subst (λ (m : ℕ). Takes bytes (number m ++ flat_map event_bytes b.0.0) b.0.1) (sym all.1) both,
      record { each = all.2; few = subst (λ (m : ℕ). m < 2 ^ 64) (sym all.1) n.1; rising = g.0 },
    )

events_again : (s : System) (es : List OpenEvent) (rest : List ℕ) → AreRead s es → events_at s (list_bytes es ++ rest) ≡ Some (es, rest)
unfolding events_at
events_again s es rest fits =
    let all = flat_map event_bytes es in
    ap (events_at s) (append_assoc (number (length es)) all rest)
    ∙ rw (number_format.again (length es) (all ++ rest) fits.few, items_again (event_format s) es rest fits.each, fits.rising) refl

-- the number of an input is one of an equation
pub number_fits : (s : System) (n : ℕ) (of : ScalarType) → IsFlat s → input_type (equation s n) ≡ Some of → n < 2 ^ 32
number_fits s n of whole is =
    let input = input_is (equation s n) of is in
    let low = slice_get_within s.equations n input.0 input.1 in
    omega (arith, low, whole.few_equations)

-- ---- a reader

-- what is read of a reader's state; the inputs that were seen are not spelled
pub record IsReaderRead (st : ReaderState) : Type 0 where
  pub taken : st.taken < 2 ^ 64
  pub lines : st.lines < 2 ^ 64
  pub last : IfSome st.last (λ t. t < 2 ^ 63)
  pub rest : length st.rest < 2 ^ 64
  pub none_seen : st.seen ≡ []

abbrev made_reader : ℕ → ℕ → Option ℕ → List ℕ × List ℕ → Option (ReaderState × List ℕ)
made_reader taken lines last rest = Some (record { taken = taken; lines = lines; last = last; seen = []; rest = rest.0 }, rest.1)

reader_takes : (bytes : List ℕ) (st : ReaderState) (rest : List ℕ) → IsBytes bytes → reader_at bytes ≡ Some (st, rest) → Takes bytes (reader_bytes st) rest × IsReaderRead st
unfolding reader_at
reader_takes bytes st rest fits e =
    let a = bind_some (number_at bytes) (λ t. number_at t.1 >>= λ l. optional_at l.1 >>= λ o. text_at o.1 >>= made_reader t.0 l.0 o.0) (st, rest) e in
    let b = bind_some (number_at a.0.1) (λ l. optional_at l.1 >>= λ o. text_at o.1 >>= made_reader a.0.0 l.0 o.0) (st, rest) a.2 in
    let c = bind_some (optional_at b.0.1) (λ o. text_at o.1 >>= made_reader a.0.0 b.0.0 o.0) (st, rest) b.2 in
    let d = bind_some (text_at c.0.1) (made_reader a.0.0 b.0.0 c.0.0) (st, rest) c.2 in
    let t0 = number_format.takes bytes a.0.0 a.0.1 fits a.1 in
    let t1 = number_format.takes a.0.1 b.0.0 b.0.1 t0.0.rest_fits b.1 in
    let t2 = optional_format.takes b.0.1 c.0.0 c.0.1 t1.0.rest_fits c.1 in
    let t3 = text_format.takes c.0.1 d.0.0 d.0.1 t2.0.rest_fits d.1 in
    let e23 = Takes-then b.0.1 (optional c.0.0) c.0.1 (text d.0.0) d.0.1 t2.0 t3.0 in
    let e13 = Takes-then a.0.1 (number b.0.0) b.0.1 (optional c.0.0 ++ text d.0.0) d.0.1 t1.0 e23 in
    let e03 = Takes-then bytes (number a.0.0) a.0.1 (number b.0.0 ++ (optional c.0.0 ++ text d.0.0)) d.0.1 t0.0 e13 in
    let state : ReaderState = record { taken = a.0.0; lines = b.0.0; last = c.0.0; seen = []; rest = d.0.0 } in
    subst (λ (p : ReaderState × List ℕ). Takes bytes (reader_bytes p.0) p.1 × IsReaderRead p.0) (some_is (state, d.0.1) (st, rest) d.2)
    (e03, record { taken = t0.1; lines = t1.1; last = t2.1; rest = t3.1; none_seen = refl })

reader_again : (st : ReaderState) (rest : List ℕ) → IsReaderRead st → reader_at (reader_bytes st ++ rest) ≡ Some (st, rest)
unfolding reader_at
reader_again st rest fits =
    let last = optional st.last in let unread = text st.rest in
    let regrouped : reader_bytes st ++ rest ≡ number st.taken ++ (number st.lines ++ (last ++ (unread ++ rest))) = simp append_assoc in
    ap reader_at regrouped
    ∙ rw (number_format.again st.taken (number st.lines ++ (last ++ (unread ++ rest))) fits.taken, number_format.again st.lines (last ++ (unread ++ rest)) fits.lines, optional_format.again st.last (unread ++ rest) fits.last, text_format.again st.rest rest fits.rest)
    (ap (λ (l : List ℕ). Some (record { taken = st.taken; lines = st.lines; last = st.last; seen = l; rest = st.rest }, rest)) (sym fits.none_seen))

-- ---- a monitor

-- what is read of a monitor's state, where the bound is known
pub record IsMonitorRead (s : System) (bound : ℕ) (st : MonitorState) : Type 0 where
  pub bound_is : st.bound ≡ bound
  pub instants : st.instants < 2 ^ 64
  pub events : AreRead s st.open_events
  pub ledger_is : length st.ledger ≡ length (running_updates s)
  pub ledger : AllByRecursion (λ n. n < 2 ^ 64) st.ledger
  pub types : List ValueType
  pub registers : AreSaved [] (kept_types s (keeps_of s)) st.registers types
  pub cells : AllZip FitsContent types st.cells
  pub pending_is : length st.pending ≡ length (timers_of s)
  pub pending : AllByRecursion (λ (o : Option ℕ). IfSome o (λ t. t < 2 ^ 63)) st.pending

abbrev pub monitor_bytes : MonitorState → List ℕ
monitor_bytes st = events_bytes st ++ kept_bytes st

module _ (s : System) (bound : ℕ) where
  abbrev made_monitor : ℕ → List OpenEvent → List ℕ → List SavedRegister → List Content → List (Option ℕ) × List ℕ → Option (MonitorState × List ℕ)
  made_monitor instants events ledger registers cells pending =
      Some (record { bound = bound; instants = instants; open_events = events; ledger = ledger; registers = registers; cells = cells; pending = pending.0 }, pending.1)

  monitor_takes : (bytes : List ℕ) (st : MonitorState) (rest : List ℕ) → IsBytes bytes → monitor_at s bound bytes ≡ Some (st, rest) → Takes bytes (monitor_bytes st) rest × IsMonitorRead s bound st
  unfolding monitor_at
  monitor_takes bytes st rest fits e =
      let updates = length (running_updates s) in
      let timers = length (timers_of s) in
      let kept = kept_types s (keeps_of s) in
      let a = bind_some (number_at bytes) (λ i. events_at s i.1 >>= λ v. items_at number_at updates v.1 >>= λ l. registers_at [] kept l.1 >>= λ r. cells_at r.0.1 r.1 >>= λ c. items_at optional_at timers c.1 >>= made_monitor i.0 v.0 l.0 r.0.0 c.0) (st, rest) e in
      let b = bind_some (events_at s a.0.1) (λ v. items_at number_at updates v.1 >>= λ l. registers_at [] kept l.1 >>= λ r. cells_at r.0.1 r.1 >>= λ c. items_at optional_at timers c.1 >>= made_monitor a.0.0 v.0 l.0 r.0.0 c.0) (st, rest) a.2 in
      let c = bind_some (items_at number_at updates b.0.1) (λ l. registers_at [] kept l.1 >>= λ r. cells_at r.0.1 r.1 >>= λ c. items_at optional_at timers c.1 >>= made_monitor a.0.0 b.0.0 l.0 r.0.0 c.0) (st, rest) b.2 in
      let d = bind_some (registers_at [] kept c.0.1) (λ r. cells_at r.0.1 r.1 >>= λ c'. items_at optional_at timers c'.1 >>= made_monitor a.0.0 b.0.0 c.0.0 r.0.0 c'.0) (st, rest) c.2 in
      let f = bind_some (cells_at d.0.0.1 d.0.1) (λ c'. items_at optional_at timers c'.1 >>= made_monitor a.0.0 b.0.0 c.0.0 d.0.0.0 c'.0) (st, rest) d.2 in
      let g = bind_some (items_at optional_at timers f.0.1) (made_monitor a.0.0 b.0.0 c.0.0 d.0.0.0 f.0.0) (st, rest) f.2 in
      let t0 = number_format.takes bytes a.0.0 a.0.1 fits a.1 in
      let t1 = events_take s a.0.1 b.0.0 b.0.1 t0.0.rest_fits b.1 in
      let t2 = items_take number_format updates b.0.1 c.0.0 c.0.1 t1.0.rest_fits c.1 in
      let t3 = registers_take [] kept c.0.1 d.0.0.0 d.0.0.1 d.0.1 t2.0.rest_fits d.1 in
      let t4 = cells_take d.0.0.1 d.0.1 f.0.0 f.0.1 t3.0.rest_fits f.1 in
      let t5 = items_take optional_format timers f.0.1 g.0.0 g.0.1 t4.0.rest_fits g.1 in
      let ledger = flat_map number c.0.0 in
      let registers = flat_map register_bytes d.0.0.0 in
      let cells = flat_map content_bytes f.0.0 in
      let pending = flat_map optional g.0.0 in
      let e45 = Takes-then d.0.1 cells f.0.1 pending g.0.1 t4.0 t5.0 in
      let e35 = Takes-then c.0.1 registers d.0.1 (cells ++ pending) g.0.1 t3.0 e45 in
      let e25 = Takes-then b.0.1 ledger c.0.1 (registers ++ (cells ++ pending)) g.0.1 t2.0 e35 in
      let e01 = Takes-then bytes (number a.0.0) a.0.1 (list_bytes b.0.0) b.0.1 t0.0 t1.0 in
      let e05 = Takes-then bytes (number a.0.0 ++ list_bytes b.0.0) b.0.1 (ledger ++ (registers ++ (cells ++ pending))) g.0.1 e01 e25 in
      let state : MonitorState = record { bound = bound; instants = a.0.0; open_events = b.0.0; ledger = c.0.0; registers = d.0.0.0; cells = f.0.0; pending = g.0.0 } in
      subst (λ (p : MonitorState × List ℕ). Takes bytes (monitor_bytes p.0) p.1 × IsMonitorRead s bound p.0) (some_is (state, g.0.1) (st, rest) g.2) (
        e05,
        record {
          bound_is = refl;
          instants = t0.1;
          events = t1.1;
          ledger_is = t2.1;
          ledger = t2.2;
          types = d.0.0.1;
          registers = t3.1;
          cells = t4.1;
          pending_is = t5.1;
          pending = t5.2;
        },
      )

  monitor_again : (st : MonitorState) (rest : List ℕ) → IsMonitorRead s bound st → monitor_at s bound (monitor_bytes st ++ rest) ≡ Some (st, rest)
  unfolding monitor_at
  monitor_again st rest fits =
      let events = list_bytes st.open_events in
      let ledger = flat_map number st.ledger in
      let registers = flat_map register_bytes st.registers in
      let cells = flat_map content_bytes st.cells in
      let pending = flat_map optional st.pending in
      let after_cells = pending ++ rest in
      let after_registers = cells ++ after_cells in
      let after_ledger = registers ++ after_registers in
      let after_events = ledger ++ after_ledger in
      let regrouped : monitor_bytes st ++ rest ≡ number st.instants ++ (events ++ after_events) = simp append_assoc in
      let numbers : items_at number_at (length (running_updates s)) after_events ≡ Some (st.ledger, after_ledger) = ap (λ n. items_at number_at n after_events) (sym fits.ledger_is) ∙ items_again number_format st.ledger after_ledger fits.ledger in
      let times : items_at optional_at (length (timers_of s)) after_cells ≡ Some (st.pending, rest) = ap (λ n. items_at optional_at n after_cells) (sym fits.pending_is) ∙ items_again optional_format st.pending rest fits.pending in
      ap (monitor_at s bound) regrouped
      ∙ rw (number_format.again st.instants (events ++ after_events) fits.instants, events_again s st.open_events after_events fits.events, numbers, registers_again [] (kept_types s (keeps_of s)) st.registers fits.types after_registers fits.registers, cells_again fits.types st.cells after_cells fits.cells, times)
      (ap (λ (b : ℕ). Some (record { bound = b; instants = st.instants; open_events = st.open_events; ledger = st.ledger; registers = st.registers; cells = st.cells; pending = st.pending }, rest)) (sym fits.bound_is))

-- ---- all fields after the program's text

abbrev pub fields_bytes : RunState → List ℕ
fields_bytes st = options_bytes st ++ (reader_bytes st.reader ++ (events_bytes st.monitor ++ kept_bytes st.monitor))

pub record IsRead (s : System) (st : RunState) : Type 0 where
  pub instants_limit : st.instants_limit < 2 ^ 64
  pub bytes_limit : st.bytes_limit < 2 ^ 64
  pub reader : IsReaderRead st.reader
  pub monitor : IsMonitorRead s (or_zero st.reader.last) st.monitor

abbrev made_run : Bool → ℕ → ℕ → ReaderState → MonitorState × List ℕ → Option (RunState × List ℕ)
made_run strict instants limit reader monitor = Some (record { strict = strict; instants_limit = instants; bytes_limit = limit; reader = reader; monitor = monitor.0 }, monitor.1)

pub fields_take : (s : System) (bytes : List ℕ) (st : RunState) (rest : List ℕ) → IsBytes bytes → fields_at s bytes ≡ Some (st, rest) → Takes bytes (fields_bytes st) rest × IsRead s st
unfolding fields_at
fields_take s bytes st rest fits e =
    let a = bind_some (flag_at bytes) (λ f. number_at f.1 >>= λ n. number_at n.1 >>= λ l. reader_at l.1 >>= λ r. monitor_at s (or_zero r.0.last) r.1 >>= made_run f.0 n.0 l.0 r.0) (st, rest) e in
    let b = bind_some (number_at a.0.1) (λ n. number_at n.1 >>= λ l. reader_at l.1 >>= λ r. monitor_at s (or_zero r.0.last) r.1 >>= made_run a.0.0 n.0 l.0 r.0) (st, rest) a.2 in
    let c = bind_some (number_at b.0.1) (λ l. reader_at l.1 >>= λ r. monitor_at s (or_zero r.0.last) r.1 >>= made_run a.0.0 b.0.0 l.0 r.0) (st, rest) b.2 in
    let d = bind_some (reader_at c.0.1) (λ r. monitor_at s (or_zero r.0.last) r.1 >>= made_run a.0.0 b.0.0 c.0.0 r.0) (st, rest) c.2 in
    let f = bind_some (monitor_at s (or_zero d.0.0.last) d.0.1) (made_run a.0.0 b.0.0 c.0.0 d.0.0) (st, rest) d.2 in
    let t0 = flag_format.takes bytes a.0.0 a.0.1 fits a.1 in
    let t1 = number_format.takes a.0.1 b.0.0 b.0.1 t0.0.rest_fits b.1 in
    let t2 = number_format.takes b.0.1 c.0.0 c.0.1 t1.0.rest_fits c.1 in
    let t3 = reader_takes c.0.1 d.0.0 d.0.1 t2.0.rest_fits d.1 in
    let t4 = monitor_takes s (or_zero d.0.0.last) d.0.1 f.0.0 f.0.1 t3.0.rest_fits f.1 in
    let e12 = Takes-then a.0.1 (number b.0.0) b.0.1 (number c.0.0) c.0.1 t1.0 t2.0 in
    let e02 = Takes-then bytes (flag a.0.0) a.0.1 (number b.0.0 ++ number c.0.0) c.0.1 t0.0 e12 in
    let e34 = Takes-then c.0.1 (reader_bytes d.0.0) d.0.1 (monitor_bytes f.0.0) f.0.1 t3.0 t4.0 in
    let state : RunState = record { strict = a.0.0; instants_limit = b.0.0; bytes_limit = c.0.0; reader = d.0.0; monitor = f.0.0 } in
    subst (λ (p : RunState × List ℕ). Takes bytes (fields_bytes p.0) p.1 × IsRead s p.0) (some_is (state, f.0.1) (st, rest) f.2)
    (Takes-then bytes (options_bytes state) c.0.1 (reader_bytes d.0.0 ++ monitor_bytes f.0.0) f.0.1 e02 e34, record { instants_limit = t1.1; bytes_limit = t2.1; reader = t3.1; monitor = t4.1 })

pub fields_again : (s : System) (st : RunState) (rest : List ℕ) → IsRead s st → fields_at s (fields_bytes st ++ rest) ≡ Some (st, rest)
unfolding fields_at
fields_again s st rest fits =
    let monitor = monitor_bytes st.monitor in
    let reader = reader_bytes st.reader in
    let regrouped : fields_bytes st ++ rest ≡ flag st.strict ++ (number st.instants_limit ++ (number st.bytes_limit ++ (reader ++ (monitor ++ rest)))) = simp append_assoc in
    ap (fields_at s) regrouped
    ∙ rw (flag_format.again st.strict (number st.instants_limit ++ (number st.bytes_limit ++ (reader ++ (monitor ++ rest)))) tt, number_format.again st.instants_limit (number st.bytes_limit ++ (reader ++ (monitor ++ rest))) fits.instants_limit, number_format.again st.bytes_limit (reader ++ (monitor ++ rest)) fits.bytes_limit, reader_again st.reader (monitor ++ rest) fits.reader, monitor_again s (or_zero st.reader.last) st.monitor rest fits.monitor) refl
