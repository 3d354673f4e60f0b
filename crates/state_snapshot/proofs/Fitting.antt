-- What is read and passes the last checks is a state that fits, and each such state is one that is read.
use Rattle.std.proofs.Common.{◌≡◌, ◌==◌, ℕ, zero, suc, ◌+◌, ◌<◌, ◌≤◌, ◌^◌, Bool, true, false, cond, List, [], ◌∷◌, map, length, Option, Some, None, is_none, option_map, refl, sym, ap, subst, ◌∙◌, inl, inr, arith}
use Rattle.std.specs.Prelude.{IfSome, IsSome, IsTrue, All, ◌&&◌, nat_le, nat_lt, slice_get, slice_index}
use Rattle.std.specs.List.{AllByRecursion, AllZip, filter, flat_map, list_all, range_with_len}
use Rattle.std.specs.List.Sorted.{IsStrictlyIncreasing}
use Rattle.std.proofs.lemmas.Bool.{and_from, and_parts, cases_Bool, eq-eqb, eqb-true, false≢true, le-leb, leb-true, lt-ltb, ltb-true}
use Rattle.std.proofs.lemmas.List.Elements.{All-from_recursion}
use Rattle.std.proofs.lemmas.List.Sums.{count_by-le-length, length-filter}
use Rattle.std.proofs.lemmas.List.FromFn.{length-range_with_len}
use Rattle.std.proofs.lemmas.Map.Keys.{sorted_from_strictly_increasing}
use Rattle.std.proofs.lemmas.Map.Views.{length-le_from_below}
use Rattle.std.proofs.lemmas.Option.{slice_get_within}
use Rattle.std.proofs.lemmas.Slice.Zip.{AllZip-long}
use Rattle.tsl_value.specs.declared.limits.TheConstants.{MOST_INSTANTS, MOST_TRACE_BYTES}
use Rattle.tsl_value.specs.declared.scalar.Scalar.{Scalar}
use Rattle.tsl_value.specs.declared.scalar.ValueType.{ValueType}
use Rattle.tsl_value.specs.declared.scalar.ValueType.TheVariants as value_type
use Rattle.tsl_value.specs.View.{Plain, is_of}
use Rattle.tsl_value.specs.inner.Laws.{IsInBounds}
use Rattle.tsl_value.proofs.Lists.{with_first, without_first}
use Rattle.aggregate_store.specs.declared.content.Content.{Content}
use Rattle.flat_core.specs.declared.equation.Equation.{Equation}
use Rattle.flat_core.specs.Kept.{is_kept, keeps_of}
use Rattle.flat_core.specs.System.{System, equation, numbers}
use Rattle.trace_reader.specs.declared.limits.TheConstants.{MOST_LINE_BYTES}
use Rattle.trace_reader.specs.declared.state.ReaderState.{ReaderState}
use Rattle.trace_reader.specs.Form.{split_once}
use Rattle.trace_reader.specs.inner.LastTime.{or_zero}
use Rattle.trace_reader.specs.inner.Saved.{FitsReader, IsRest}
use Rattle.monitor_state.specs.declared.state.MonitorState.{MonitorState}
use Rattle.monitor_state.specs.declared.state.OpenEvent.{OpenEvent}
use Rattle.monitor_state.specs.declared.state.SavedRegister.{SavedRegister}
use Rattle.monitor_state.specs.declared.state.SavedRegister.TheVariants as saved
use Rattle.monitor_state.specs.Fits.{AreInstants, AreOpen, FitsMonitor, FitsRegister, FitsType, named_by}
use Rattle.monitor_state.specs.Inputs.{IsInputOf}
use Rattle.run_state.specs.declared.state.RunState.{RunState}
use Rattle.run_state.specs.Fits.{AreLimits, FitsRun}
use Rattle.state_snapshot.specs.inner.Reading.{are_instants, are_limits, fields_at, fits_reader, fits_rest, is_from, is_open_at, is_rest, kept_types, type_of_kept, with_seen}
use Rattle.state_snapshot.proofs.Contents.{FitsContent, events_each, events_rise}
use Rattle.state_snapshot.proofs.RegisterTypes.{AreSaved, FitsBare, all_numbered, all_typed}
use Rattle.state_snapshot.proofs.Named.{IsOf, all_sound, cell_shown, cell_type, cells_zip, each_named, place, placed, registers_fit, saved_back, types_to}
use Rattle.state_snapshot.proofs.Numbered.{new_all}
use Rattle.state_snapshot.proofs.Formats.{IsBytes}
use Rattle.state_snapshot.proofs.RunFields.{AreRead, FitsEvent, IsMonitorRead, IsRead, fields_take}

-- ---- from what was read

none_is : {A : Type 0} (o : Option A) → is_none o ≡ true → o ≡ None
none_is None h = refl
none_is (Some x) h = absurd cc

limits_are : (st : RunState) → are_limits st ≡ true → AreLimits st
limits_are st h =
    let both = and_parts (nat_le 1 st.instants_limit && nat_le st.instants_limit MOST_INSTANTS) (nat_le 1 st.bytes_limit && nat_le st.bytes_limit MOST_TRACE_BYTES) h in
    let instants = and_parts (nat_le 1 st.instants_limit) (nat_le st.instants_limit MOST_INSTANTS) both.0 in
    let bytes = and_parts (nat_le 1 st.bytes_limit) (nat_le st.bytes_limit MOST_TRACE_BYTES) both.1 in
    record { some_instants = leb-true _ _ instants.0; few_instants = leb-true _ _ instants.1; some_bytes = leb-true _ _ bytes.0; few_bytes = leb-true _ _ bytes.1 }

rest_is : (st : ReaderState) → is_rest st ≡ true → IsRest st
rest_is st h =
    let first = and_parts (nat_le (length st.rest) MOST_LINE_BYTES) (is_none (split_once 10 st.rest) && nat_le (length st.rest) st.taken) h in
    let second = and_parts (is_none (split_once 10 st.rest)) (nat_le (length st.rest) st.taken) first.1 in
    record { short = leb-true _ _ first.0; one_line = none_is (split_once 10 st.rest) second.0; was_taken = leb-true _ _ second.1 }

reader_fits : (limit : ℕ) (st : ReaderState) → IfSome st.last (λ t. t < 2 ^ 63) → fits_reader limit st ≡ true → FitsReader limit st
reader_fits limit st time h =
    let both = and_parts (nat_le st.taken limit && nat_le st.lines st.taken) (is_rest st) h in
    let counts = and_parts (nat_le st.taken limit) (nat_le st.lines st.taken) both.0 in
    record { time = time; within = leb-true _ _ counts.0; lines = leb-true _ _ counts.1; rest = rest_is st both.1 }

bound_low : (last : Option ℕ) → IfSome last (λ t. t < 2 ^ 63) → or_zero last < 2 ^ 63
bound_low None low = omega arith
bound_low (Some t) low = low

instants_are : (s : System) (limit : ℕ) (st : MonitorState) → are_instants limit st ≡ true → AreInstants s st limit
instants_are s limit st h =
    let both = and_parts (nat_le st.instants limit) (cond (st.bound == 0) (st.instants == 0) (nat_lt 0 st.instants)) h in
    record {
      within = leb-true _ _ both.0;
      none = λ is. eqb-true st.instants 0 (sym (ap (λ b. cond b (st.instants == 0) (nat_lt 0 st.instants)) (eq-eqb st.bound 0 is)) ∙ both.1);
      some = λ above. elim (cases_Bool (st.bound == 0)) [
        | inl is ↦ let zero_bound = eqb-true st.bound 0 is in absurd (omega (arith, zero_bound, above))
        | inr other ↦ ltb-true 0 st.instants (sym (ap (λ b. cond b (st.instants == 0) (nat_lt 0 st.instants)) other) ∙ both.1)
      ];
    }

one_pending : (bound : ℕ) (o : Option ℕ) → is_from bound o ≡ true → IfSome o (λ t. t < 2 ^ 63) → IfSome o (λ u. (bound ≤ u) × (u < 2 ^ 63))
one_pending bound None from low = tt
one_pending bound (Some u) from low = (leb-true bound u from, low)

all_pending : (bound : ℕ) (os : List (Option ℕ)) → list_all (is_from bound) os ≡ true → AllByRecursion (λ (o : Option ℕ). IfSome o (λ t. t < 2 ^ 63)) os → AllByRecursion (λ (o : Option ℕ). IfSome o (λ u. (bound ≤ u) × (u < 2 ^ 63))) os
all_pending bound [] from low = tt
all_pending bound (o ∷ os) from low =
    let both = and_parts (is_from bound o) (list_all (is_from bound) os) from in
    (one_pending bound o both.0 low.0, all_pending bound os both.1 low.1)

all_inputs : (s : System) (es : List OpenEvent) → AllByRecursion (FitsEvent s) es → AllByRecursion (λ (e : OpenEvent). IsInputOf s e.equation e.value × IsInBounds e.value) es
all_inputs s [] fits = tt
all_inputs s (e ∷ es) fits = (fits.0.0, all_inputs s es fits.1)

open_is : (last : Option ℕ) (es : List OpenEvent) → is_open_at last es ≡ true → 0 < length es → IsSome last
open_is (Some t) es h some = refl
open_is None es h some = let none = eqb-true (length es) 0 h in absurd (omega (arith, none, some))

-- a monitor's state that was read and passes the last checks
monitor_fits : (s : System) (limit : ℕ) (last : Option ℕ) (st : MonitorState) → IfSome last (λ t. t < 2 ^ 63) → IsMonitorRead s (or_zero last) st → are_instants limit st ≡ true → list_all (is_from st.bound) st.pending ≡ true → FitsMonitor s limit st
monitor_fits s limit last st time read instants pending =
    let low : st.bound < 2 ^ 63 = subst (λ b. b < 2 ^ 63) (sym read.bound_is) (bound_low last time) in
    let typed = all_typed [] (kept_types s (keeps_of s)) st.registers read.types read.registers in
    let long : length st.cells ≡ length read.types = AllZip-long FitsContent read.types st.cells read.cells in
    record {
      one_each = record {
        updates = read.ledger_is;
        kept = AllZip-long (FitsRegister s st.cells) (keeps_of s) st.registers (registers_fit s read.types st.cells read.cells (keeps_of s) st.registers typed);
        delays = read.pending_is;
      };
      counts = (read.instants, read.ledger);
      bound = record { in_time = omega (arith, low); open_in_time = λ some. low };
      instants = instants_are s limit st instants;
      open_events = record { inputs = all_inputs s st.open_events read.events.each; by_equation = events_rise st.open_events read.events.rising };
      typed = registers_fit s read.types st.cells read.cells (keeps_of s) st.registers typed;
      shared = λ i j k first second. cell_shown s read.types (keeps_of s) st.registers i k typed first ∙ sym (cell_shown s read.types (keeps_of s) st.registers j k typed second);
      numbered = sym (new_all (flat_map named_by st.registers)) ∙ all_numbered (kept_types s (keeps_of s)) st.registers read.types read.registers ∙ ap (range_with_len 0) (sym long);
      cells = all_sound read.types st.cells read.cells;
      pending = all_pending st.bound st.pending pending read.pending;
    }

pub run_fits : (s : System) (st : RunState) → IsRead s st → fits_rest st ≡ true → FitsRun s (with_seen st)
run_fits s st read h =
    let m = st.monitor in
    let both = and_parts (are_limits st && fits_reader st.bytes_limit st.reader) (are_instants st.instants_limit m && (list_all (is_from m.bound) m.pending && is_open_at st.reader.last m.open_events)) h in
    let first = and_parts (are_limits st) (fits_reader st.bytes_limit st.reader) both.0 in
    let second = and_parts (are_instants st.instants_limit m) (list_all (is_from m.bound) m.pending && is_open_at st.reader.last m.open_events) both.1 in
    let third = and_parts (list_all (is_from m.bound) m.pending) (is_open_at st.reader.last m.open_events) second.1 in
    let limits = limits_are st first.0 in
    let reader = reader_fits st.bytes_limit st.reader read.reader.last first.1 in
    record {
      limits = record { some_instants = limits.some_instants; few_instants = limits.few_instants; some_bytes = limits.some_bytes; few_bytes = limits.few_bytes };
      reader = record { time = reader.time; within = reader.within; lines = reader.lines; rest = record { short = reader.rest.short; one_line = reader.rest.one_line; was_taken = reader.rest.was_taken } };
      monitor = monitor_fits s st.instants_limit st.reader.last m read.reader.last read.monitor second.0 third.0;
      together = record { bound = read.monitor.bound_is; open_later = open_is st.reader.last m.open_events third.1; seen = refl };
    }

-- open events that were read stand by equation
pub events_read : (s : System) (bytes : List ℕ) (st : RunState) (rest : List ℕ) → IsBytes bytes → fields_at s bytes ≡ Some (st, rest) → IsStrictlyIncreasing (map (λ e. e.equation) st.monitor.open_events)
events_read s bytes st rest fits read = events_rise st.monitor.open_events (fields_take s bytes st rest fits read).1.monitor.events.rising

-- ---- to what is read

-- the state without the inputs that were seen
abbrev pub without_seen : RunState → RunState
without_seen st = record st { reader = record st.reader { seen = [] } }

filtered_below : (p : ℕ → Bool) (a m n : ℕ) → a + m ≤ n → AllByRecursion (λ v. v < n) (filter p (range_with_len a m))
filtered_below p a zero n few = tt
filtered_below p a (suc m) n few =
    let others = filtered_below p (a + 1) m n (omega (arith, few)) in
    elim (cases_Bool (p a)) [
      | inl taken ↦ subst (AllByRecursion (λ v. v < n)) (sym (with_first p a (range_with_len (a + 1) m) taken)) (omega (arith, few), others)
      | inr left ↦ subst (AllByRecursion (λ v. v < n)) (sym (without_first p a (range_with_len (a + 1) m) left)) others
    ]

-- what is kept are equations
all_there : (s : System) → AllByRecursion (λ v. v < length s.equations) (keeps_of s)
all_there s = filtered_below (is_kept s) 0 (length s.equations) (length s.equations) (omega arith)

pub kept_there : (s t : System) (keeps : List ℕ) → t ≡ s → keeps ≡ keeps_of s → All (λ i. i < length t.equations) keeps
kept_there s t keeps system is =
    subst (λ u. All (λ i. i < length u.equations) keeps) (sym system) (subst (All (λ i. i < length s.equations)) (sym is) (All-from_recursion (λ i. i < length s.equations) (keeps_of s) (all_there s)))

few_kept : (s : System) → length (keeps_of s) ≤ length s.equations
few_kept s = omega (arith, length-filter (is_kept s) (numbers s), count_by-le-length (is_kept s) (numbers s), length-range_with_len 0 (length s.equations))

equation_there : (es : List Equation) (v : ℕ) → v < length es → (e : Equation) × (slice_get es v ≡ Some e)
equation_there [] v lt = absurd (omega (arith, lt))
equation_there (e ∷ es) zero lt = (e, refl)
equation_there (e ∷ es) (suc v) lt = equation_there es v (omega (arith, lt))

bare_fits : (of : ValueType) (v : Scalar) → IsTrue (is_of of (Plain v)) × IsInBounds v → FitsBare of v
bare_fits (value_type.Scalar t) v fits = fits
bare_fits (value_type.Set k) v fits = absurd (false≢true fits.0)
bare_fits (value_type.Map k t) v fits = absurd (false≢true fits.0)
bare_fits (value_type.Queue t) v fits = absurd (false≢true fits.0)

module _ (s : System) (cells : List Content) (type_of : ℕ → ValueType) where
  register_is : (e : Equation) (r : SavedRegister) → FitsType cells e.of r → ((k : ℕ) → r ≡ saved.Cell k → e.of ≡ type_of k) → IsOf cells type_of e.of r
  register_is e saved.Empty fits same = tt
  register_is e (saved.Scalar v) fits same = bare_fits e.of v fits
  register_is e (saved.Cell k) fits same = (fits, same k refl)

  equation_is : (o : Option Equation) (e : Equation) (r : SavedRegister) → o ≡ Some e → IfSome (option_map (λ x. x.of) o) (λ of. FitsType cells of r) → ((k : ℕ) → r ≡ saved.Cell k → type_of_kept o ≡ type_of k) → IsOf cells type_of (type_of_kept o) r
  equation_is None e r is fits same = absurd cc
  equation_is (Some d) e r is fits same = register_is d r fits same

  pub registers_are : (keeps : List ℕ) (rs : List SavedRegister) → AllByRecursion (λ v. v < length s.equations) keeps → AllZip (FitsRegister s cells) keeps rs
      → ((i k : ℕ) → slice_get rs i ≡ Some (saved.Cell k) → type_of_kept (equation s (slice_index keeps i)) ≡ type_of k) → AllZip (IsOf cells type_of) (kept_types s keeps) rs
  registers_are [] [] there typed same = tt
  registers_are [] (r ∷ rs) there typed same = absurd typed
  registers_are (v ∷ keeps) [] there typed same = absurd typed
  registers_are (v ∷ keeps) (r ∷ rs) there typed same =
      let found = equation_there s.equations v there.0 in
      (equation_is (equation s v) found.0 r found.1 typed.0 (λ k is. same 0 k (ap Some is)), registers_are keeps rs there.1 typed.1 (λ i k is. same (suc i) k is))

-- equations of one type are of one kept type
type_kept : (a b : Option Equation) → option_map (λ e. e.of) a ≡ option_map (λ e. e.of) b → type_of_kept a ≡ type_of_kept b
type_kept None None is = refl
type_kept None (Some e) is = absurd cc
type_kept (Some e) None is = absurd cc
type_kept (Some d) (Some e) is = cc

all_events : (s : System) (es : List OpenEvent) → length s.equations < 2 ^ 64 → AllByRecursion (λ (e : OpenEvent). IsInputOf s e.equation e.value × IsInBounds e.value) es → AllByRecursion (FitsEvent s) es
all_events s [] few fits = tt
all_events s (e ∷ es) few fits =
    let low = slice_get_within s.equations e.equation fits.0.0.at fits.0.0.is in
    ((fits.0, omega (arith, low, few)), all_events s es few fits.1)

all_below : (s : System) (es : List OpenEvent) → AllByRecursion (λ (e : OpenEvent). IsInputOf s e.equation e.value × IsInBounds e.value) es → AllByRecursion (λ i. i < length s.equations) (map (λ e. e.equation) es)
all_below s [] fits = tt
all_below s (e ∷ es) fits = (slice_get_within s.equations e.equation fits.0.0.at fits.0.0.is, all_below s es fits.1)

length_mapped : (es : List OpenEvent) → length (map (λ e. e.equation) es) ≡ length es
length_mapped [] = refl
length_mapped (e ∷ es) = ap suc (length_mapped es)

events_are : (s : System) (st : MonitorState) → length s.equations < 2 ^ 64 → AreOpen s st → AreRead s st.open_events
events_are s st few fits =
    let es = st.open_events in
    let ids = map (λ e. e.equation) es in
    let short = length-le_from_below (length s.equations) ids (sorted_from_strictly_increasing ids fits.by_equation) (All-from_recursion (λ i. i < length s.equations) ids (all_below s es fits.inputs)) in
    record {
      each = all_events s es few fits.inputs;
      few = omega (arith, short, few, length_mapped es);
      rising = events_each es fits.by_equation;
    }

all_times : (bound : ℕ) (os : List (Option ℕ)) → AllByRecursion (λ (o : Option ℕ). IfSome o (λ u. (bound ≤ u) × (u < 2 ^ 63))) os → AllByRecursion (λ (o : Option ℕ). IfSome o (λ t. t < 2 ^ 63)) os
all_times bound [] fits = tt
all_times bound (None ∷ os) fits = (tt, all_times bound os fits.1)
all_times bound (Some u ∷ os) fits = (fits.0.1, all_times bound os fits.1)

-- a monitor's state that fits
monitor_is : (s : System) (limit bound : ℕ) (st : MonitorState) → length s.equations < 2 ^ 64 → st.bound ≡ bound → FitsMonitor s limit st → IsMonitorRead s bound st
monitor_is s limit bound st few at fits =
    let of = cell_type s (keeps_of s) st.registers in
    let kept = kept_types s (keeps_of s) in
    let n = length st.cells in
    let same : (i k : ℕ) → slice_get st.registers i ≡ Some (saved.Cell k) → type_of_kept (equation s (slice_index (keeps_of s) i)) ≡ of k = λ i k is. type_kept (equation s (slice_index (keeps_of s) i)) (equation s (slice_index (keeps_of s) (place st.registers k))) (fits.shared i (place st.registers k) k is (placed st.registers i k is)) in
    let are = registers_are s st.cells of (keeps_of s) st.registers (all_there s) fits.typed same in
    let sum : 0 + n ≡ n = omega arith in
    record {
      bound_is = at;
      instants = fits.counts.0;
      events = events_are s st few fits.open_events;
      ledger_is = fits.one_each.updates;
      ledger = fits.counts.1;
      types = types_to st.cells of n;
      registers = subst (λ m. AreSaved [] kept st.registers (types_to st.cells of m)) sum (saved_back st.cells of kept st.registers 0 n are (new_all (flat_map named_by st.registers) ∙ fits.numbered) (omega (arith, fits.one_each.kept, few_kept s, few)));
      cells = cells_zip st.cells of kept st.registers are (λ k low. each_named st.registers n k fits.numbered low) fits.cells;
      pending_is = fits.one_each.delays;
      pending = all_times st.bound st.pending fits.pending;
    }

pub run_is : (s : System) (st : RunState) → length s.equations < 2 ^ 64 → FitsRun s st → IsRead s (without_seen st)
run_is s st few fits =
    let reader = fits.reader in
    record {
      instants_limit = omega (arith, fits.limits.few_instants);
      bytes_limit = omega (arith, fits.limits.few_bytes);
      reader = record {
        taken = omega (arith, reader.within, fits.limits.few_bytes);
        lines = omega (arith, reader.lines, reader.within, fits.limits.few_bytes);
        last = reader.time;
        rest = omega (arith, reader.rest.short);
        none_seen = refl;
      };
      monitor = monitor_is s st.instants_limit (or_zero st.reader.last) st.monitor few fits.together.bound fits.monitor;
    }

-- and passes the last checks
one_from : (bound : ℕ) (o : Option ℕ) → IfSome o (λ u. (bound ≤ u) × (u < 2 ^ 63)) → is_from bound o ≡ true
one_from bound None fits = refl
one_from bound (Some u) fits = le-leb bound u fits.0

all_from : (bound : ℕ) (os : List (Option ℕ)) → AllByRecursion (λ (o : Option ℕ). IfSome o (λ u. (bound ≤ u) × (u < 2 ^ 63))) os → list_all (is_from bound) os ≡ true
all_from bound [] fits = refl
all_from bound (o ∷ os) fits = and_from (is_from bound o) (list_all (is_from bound) os) (one_from bound o fits.0) (all_from bound os fits.1)

instants_pass : (s : System) (limit : ℕ) (st : MonitorState) → AreInstants s st limit → are_instants limit st ≡ true
instants_pass s limit st fits = and_from (nat_le st.instants limit) (cond (st.bound == 0) (st.instants == 0) (nat_lt 0 st.instants)) (le-leb _ _ fits.within) (elim (cases_Bool (st.bound == 0)) [
  | inl is ↦ ap (λ b. cond b (st.instants == 0) (nat_lt 0 st.instants)) is ∙ eq-eqb st.instants 0 (fits.none (eqb-true st.bound 0 is))
  | inr other ↦ ap (λ b. cond b (st.instants == 0) (nat_lt 0 st.instants)) other ∙ lt-ltb 0 st.instants (fits.some (above st.bound other))
]) where
  above : (n : ℕ) → (n == 0) ≡ false → 0 < n
  above zero h = absurd cc
  above (suc n) h = omega arith

open_passes : (last : Option ℕ) (es : List OpenEvent) → (0 < length es → IsSome last) → is_open_at last es ≡ true
open_passes (Some t) es some = refl
open_passes None [] some = refl
open_passes None (e ∷ es) some = absurd (false≢true (some (omega arith)))

pub run_passes : (s : System) (st : RunState) → FitsRun s st → fits_rest (without_seen st) ≡ true
run_passes s st fits =
    let r = st.reader in
    let m = st.monitor in
    let limits = fits.limits in
    let reader = fits.reader in
    and_from (are_limits st && fits_reader st.bytes_limit r) (are_instants st.instants_limit m && (list_all (is_from m.bound) m.pending && is_open_at r.last m.open_events))
    (and_from (are_limits st) (fits_reader st.bytes_limit r)
    (and_from (nat_le 1 st.instants_limit && nat_le st.instants_limit MOST_INSTANTS) (nat_le 1 st.bytes_limit && nat_le st.bytes_limit MOST_TRACE_BYTES)
    (and_from (nat_le 1 st.instants_limit) (nat_le st.instants_limit MOST_INSTANTS) (le-leb _ _ limits.some_instants) (le-leb _ _ limits.few_instants))
    (and_from (nat_le 1 st.bytes_limit) (nat_le st.bytes_limit MOST_TRACE_BYTES) (le-leb _ _ limits.some_bytes) (le-leb _ _ limits.few_bytes)))
    (and_from (nat_le r.taken st.bytes_limit && nat_le r.lines r.taken) (is_rest r)
    (and_from (nat_le r.taken st.bytes_limit) (nat_le r.lines r.taken) (le-leb _ _ reader.within) (le-leb _ _ reader.lines))
    (and_from (nat_le (length r.rest) MOST_LINE_BYTES) (is_none (split_once 10 r.rest) && nat_le (length r.rest) r.taken) (le-leb _ _ reader.rest.short)
    (and_from (is_none (split_once 10 r.rest)) (nat_le (length r.rest) r.taken) (ap is_none reader.rest.one_line) (le-leb _ _ reader.rest.was_taken)))))
    (and_from (are_instants st.instants_limit m) (list_all (is_from m.bound) m.pending && is_open_at r.last m.open_events) (instants_pass s st.instants_limit m fits.monitor.instants)
    (and_from (list_all (is_from m.bound) m.pending) (is_open_at r.last m.open_events) (all_from m.bound m.pending fits.monitor.pending) (open_passes r.last m.open_events fits.together.open_later)))

pub seen_again : (s : System) (st : RunState) → FitsRun s st → with_seen (without_seen st) ≡ st
seen_again s st fits = ap (λ (l : List ℕ). record st { reader = record st.reader { seen = l } }) (sym fits.together.seen)
