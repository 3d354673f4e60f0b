-- A monitor that goes on from a state, and the state of one that waits.
use Rattle.std.proofs.Common.{◌≡◌, ◌==◌, ◌≤◌, ◌<◌, ℕ, ◌||◌, Bool, true, false, if◌then◌else◌, List, [], ◌∷◌, ◌++◌, append-nil, length, map, Contains, Option, Some, None, refl, sym, ap, subst, ◌∙◌, arith}
use Rattle.std.specs.Prelude.{IsSome, is_some}
use Rattle.std.specs.List.{flat_map}
use Rattle.std.specs.List.Sorted.{IsStrictlyIncreasing}
use Rattle.std.proofs.lemmas.Bool.{eq-eqb}
use Rattle.std.proofs.lemmas.List.Kept.{AllPairs-from_increasing}
use Rattle.flat_core.proofs.Members.{contains_head}
use Rattle.tsl_value.specs.View.{View, Plain}
use Rattle.tsl_value.specs.declared.scalar.Scalar.{Scalar}
use Rattle.tsl_value.specs.declared.limits.TheConstants.{MOST_INSTANTS, MOST_TRACE_BYTES}
use Rattle.flat_core.specs.Case.{Streams}
use Rattle.flat_core.specs.Complete.{IsFlat}
use Rattle.flat_core.specs.Ending.{EndsAtBound}
use Rattle.flat_core.specs.Instant.{instants}
use Rattle.flat_core.specs.Line.{Line, inputs_of, last_time}
use Rattle.flat_core.specs.Members.{is_in}
use Rattle.flat_core.specs.Solution.{Solves}
use Rattle.flat_core.specs.System.{System}
use Rattle.flat_core.specs.Text.{due_text, text_at}
use Rattle.flat_core.proofs.Rising.{same_rising}
use Rattle.flat_core.proofs.SameMeaning.{happens_alike, outputs_agree}
use Rattle.flat_core.proofs.Uniqueness.{agree_before}
use Rattle.register_code.specs.Code.{Code}
use Rattle.register_code.specs.inner.Plan.{IsPlanOrder}
use Rattle.register_machine.specs.Run.{Plan}
use Rattle.monitor_run.proofs.GapLemmas.{plan_ranked}
use Rattle.monitor_run.proofs.LawLemmas.{idle_ends}
use Rattle.monitor_run.proofs.MonitorLemmas.{none_left}
use Rattle.monitor_run.proofs.OpenLemmas.{input_there}
use Rattle.monitor_run.proofs.StepLemmas.{ready_order}
use Rattle.monitor_state.specs.declared.state.OpenEvent.{OpenEvent}
use Rattle.monitor_state.specs.Fits.{FitsMonitor}
use Rattle.monitor_run.specs.inner.Given.{AreAt, AreEventLines}
use Rattle.monitor_run.specs.inner.Next.{IsIdle}
use Rattle.monitor_run.specs.inner.Resumed.{IsStateAfter}
use Rattle.monitor_run.specs.inner.Saved as saved
use Rattle.monitor_run.specs.inner.Saved.{AreOpenAt, CanSave, value_of}
use Rattle.monitor_run.specs.inner.Stands.{Stands}
use Rattle.monitor_run.specs.inner.State as engine
use Rattle.monitor_run.specs.inner.State.{plan_of}
use Rattle.monitor_run.specs.inner.Written.{HasWritten}
use Rattle.trace_reader.proofs.SeenLemmas.{last_zero}
use Rattle.trace_reader.specs.Reading.{Reading, reading}
use Rattle.trace_reader.specs.inner.LastTime.{or_zero}
use Rattle.trace_reader.specs.inner.Reader.{AwaitsMore}
use Rattle.trace_reader.specs.inner.Reads.{Reads}
use Rattle.trace_reader.specs.inner.Saved as reader_saved
use Rattle.trace_reader.specs.inner.Saved.{FitsReader, IsReaderAfter}
use Rattle.run_state.specs.Fits.{AreTogether, FitsRun}
use Rattle.run_state.specs.declared.state.RunState.{RunState}
use Rattle.trace_monitor.specs.declared.halt.Halt.TheVariants as halt
use Rattle.trace_monitor.specs.declared.ending.RunEnding.TheVariants as ending
use Rattle.trace_monitor.specs.Counted.{HasCounted}
use Rattle.trace_monitor.specs.Due.{IsDue, lines_in}
use Rattle.trace_monitor.specs.Ending.{IsQuiet}
use Rattle.trace_monitor.specs.Saved.{AreOptionsOf, IsRunAfter, plan_in}
use Rattle.trace_monitor.specs.inner.Kept.{Kept, events_of}
use Rattle.trace_monitor.specs.inner.Run.{HasCountedTo}
use Rattle.trace_monitor.specs.inner.Snapshot.{code_of}
use Rattle.trace_monitor.specs.inner.State.{State}
use Rattle.trace_monitor.specs.inner.Waits.{Waits}
use Rattle.trace_monitor.proofs.Concluding.{due_at_halt, quiet_at_halt}
use Rattle.trace_monitor.proofs.Counts.{copies_stay, counts_idle, ran_stays}
use Rattle.trace_monitor.proofs.DueTexts.{written_alike}
use Rattle.trace_monitor.proofs.Readiness.{plan_solution}

-- ---- events that are open, as lines and in a state
events_in : (events : List OpenEvent) (i : ℕ) → is_in (map (λ (e : OpenEvent). e.equation) events) i ≡ is_some (value_of events i)
events_in [] i = refl
events_in (e ∷ events) i = one (e.equation == i) (events_in events i)
  where
    one : (here : Bool) → is_in (map (λ (e : OpenEvent). e.equation) events) i ≡ is_some (value_of events i) → (here || is_in (map (λ (e : OpenEvent). e.equation) events) i) ≡ is_some (if here then Some (Plain e.value) else value_of events i)
    one true rest = refl
    one false rest = rest

line_is : (g : Line) (time : ℕ) (event : Option (ℕ × Scalar)) → g.time ≡ time → g.event ≡ event → g ≡ record { time = time; event = event }
line_is g time event at is = λ k. record { time = at k; event = is k }

some_saved : (s : System) (time : ℕ) (given : List Line) (events : List OpenEvent) → AreAt time given → AreEventLines s given → AreOpenAt given time events → 0 < length given → 0 < length events
some_saved s time [] events at lines shown some = absurd (omega arith)
some_saved s time (g ∷ given) [] at lines shown some =
    let first = lines.0 in
    let is = line_is g time (Some (first.input, first.value)) at.0 first.is in
    absurd (input_there first.input time first.value (g ∷ given) (subst (λ (l : Line). Contains (g ∷ given) l) is (contains_head g given)) (sym (shown.values first.input)))
some_saved s time (g ∷ given) (e ∷ events) at lines shown some = let n = length events in omega arith

some_given : (time : ℕ) (given : List Line) (events : List OpenEvent) → AreOpenAt given time events → 0 < length events → 0 < length given
some_given time given [] shown some = absurd (omega arith)
some_given time [] (e ∷ events) shown some =
    absurd (let none = sym (ap (λ (b : Bool). if b then Some (Plain e.value) else value_of events e.equation) (eq-eqb e.equation e.equation refl)) ∙ shown.values e.equation in cc)
some_given time (g ∷ given) (e ∷ events) shown some = let n = length given in omega arith

-- ---- the text of what has run
module _ (e : engine.State) (ready : engine.IsReady e) where
  flat : IsFlat e.system
  flat = ready.whole

  plan : IsPlanOrder e.system e.order
  plan = ready_order e ready

  -- a monitor that stands for some events has written one text, whichever it is
  pub some_written : (lines : List Line) → Stands e lines → (text : List ℕ) × HasWritten e lines text
  some_written lines stands =
      let (z, zs) = plan_solution e.system e.order flat plan (inputs_of lines) e.next in (
        flat_map (text_at e.system z) (instants e.system lines z e.next),
        record {
          stands = stands;
          text_is = λ w ws.
              let agree = agree_before e.system (inputs_of lines) _ flat.proper (plan_ranked e.system e.order plan) e.next z w zs ws e.next (omega arith) in
              written_alike e.system e.next lines z w (happens_alike e.system e.next z w flat.proper agree lines) (outputs_agree e.system e.next z w flat.proper agree flat.outputs_run);
        },
      )

-- ---- what is due where reader and engine have taken all that stands
module _ (m : State) (fed : List ℕ) (lines : List Line) (text : List ℕ) (ready : engine.IsReady m.engine) (idle : IsIdle m.engine) (written : HasWritten m.engine (events_of lines) text) (system_is : m.engine.system ≡ m.system)
    (limit_is : m.engine.limit ≡ m.options.instants) (bound_is : m.engine.bound ≡ last_time lines) (all : reading m.system m.options.strict m.options.bytes fed false ≡ record { lines = lines; refused = None }) where
  abbrev Ends : System → ℕ → ℕ → Type 0
  Ends s b n = (w : Streams) → Solves s (inputs_of (events_of lines)) b w → (text ≡ due_text s (events_of lines) w b n) × EndsAtBound s (events_of lines) w b n

  ends_here : Ends m.engine.system m.engine.bound m.engine.limit
  ends_here = idle_ends m.engine (events_of lines) text ready written (none_left m.engine ready (events_of lines) written.stands idle)

  ends : Ends m.system (last_time lines) m.options.instants
  ends = subst (Ends m.system (last_time lines)) limit_is (subst (λ (b : ℕ). Ends m.system b m.engine.limit) bound_is (subst (λ (s : System). Ends s m.engine.bound m.engine.limit) system_is ends_here))

  whole : IsFlat m.system
  whole = subst IsFlat system_is ready.whole

  order : IsPlanOrder m.system m.engine.order
  order = subst (λ (s : System). IsPlanOrder s m.engine.order) system_is (ready_order m.engine ready)

  pub rest_due : IsDue m.system m.options fed false text
  rest_due = due_at_halt m.system m.options m.engine.order whole order fed false lines halt.More (all, refl) text ends

  pub rest_quiet : IsQuiet m.system m.options fed false
  rest_quiet = quiet_at_halt m.system m.options m.engine.order whole order fed false lines halt.More (all, refl) text ends

  -- what the engine has counted of all lines so far
  here : HasCountedTo m.engine m.system (events_of lines) (last_time lines) (last_time lines)
  here = subst (λ (s : System). HasCountedTo m.engine s (events_of lines) (last_time lines) (last_time lines)) system_is
      (subst (λ (b : ℕ). HasCountedTo m.engine m.engine.system (events_of lines) b b) bound_is
      (counts_idle m.engine ready (events_of lines) written.stands (none_left m.engine ready (events_of lines) written.stands idle)))

  abbrev Counted : List Line → Type 0
  Counted ls = HasCountedTo m.engine m.system ls (last_time ls) (last_time ls)

  pub rest_counted : HasCounted m.system m.options fed false m.engine ending.Done
  rest_counted =
      let b = last_time lines in
      let all_lines : HasCountedTo m.engine m.system (lines ++ []) b b = (ran_stays m.engine m.system lines [] b b (omega arith) tt b here.0, copies_stay m.engine m.system lines [] b b (omega arith) tt b here.1) in
      let counts = subst Counted (sym (ap (λ (r : Reading). r.lines) all)) (subst (λ (ls : List Line). HasCountedTo m.engine m.system ls b b) (append-nil lines) all_lines) in
      record { ran = counts.0.ran; ledger = counts.1.ledger }

-- ---- a monitor that goes on from a state
pub resumed_waits : (m : State) (s : System) (st : RunState) → engine.IsReady m.engine → FitsRun s st → AwaitsMore m.reader → reader_saved.HasState m.reader st.reader → CanSave m.engine → saved.HasState m.engine st.monitor
    → m.reader.system ≡ m.system → m.engine.system ≡ m.system → m.reader.strict ≡ m.options.strict → m.reader.limit ≡ m.options.bytes → st.bytes_limit ≡ m.options.bytes → m.engine.limit ≡ m.options.instants → m.last ≡ or_zero st.reader.last
    → Waits m
resumed_waits m s st ready fits awaits read can kept reader_of engine_of strict_is bytes_is limit_is instants_is last_is =
    let last : m.last ≡ or_zero m.reader.last = last_is ∙ ap or_zero read.last in
    let bound : m.engine.bound ≡ m.last = sym kept.bound ∙ fits.together.bound ∙ sym last_is in
    let shown : AreOpenAt m.engine.given m.last st.monitor.open_events = subst (λ (b : ℕ). AreOpenAt m.engine.given b st.monitor.open_events) bound kept.open_events in
    let at : AreAt m.last m.engine.given = subst (λ (b : ℕ). AreAt b m.engine.given) bound can.at_bound in
    let within = fits.reader.within in
    let taken = read.taken in
    record {
      system_is = reader_of;
      strict_is = strict_is;
      bytes_limit = bytes_is;
      instants_limit = instants_is;
      awaits = awaits;
      within = omega arith;
      in_step = record {
        system_is = engine_of ∙ sym reader_of;
        last_is = last;
        bound_is = bound;
        can_save = can;
        open_later = λ some. subst IsSome read.last (fits.together.open_later (some_saved m.engine.system m.last m.engine.given st.monitor.open_events at ready.events shown some));
        seen = λ i. sym (read.seen i) ∙ ap (λ (xs : List ℕ). is_in xs i) fits.together.seen ∙ events_in st.monitor.open_events i ∙ ap (λ (v : Option View). is_some v) (shown.values i);
      };
    }

plan_same : (c : Code) (e : engine.State) → e.in_place ≡ c.in_place → e.order ≡ c.order → plan_in c ≡ plan_of e
plan_same c e in_place order = λ k. record { in_place = sym in_place k; order = sym order k }

pub resumed_kept : (m : State) (c : Code) (st : RunState) (fed : List ℕ) → engine.IsReady m.engine → Waits m → m.engine.system ≡ c.system → m.engine.in_place ≡ c.in_place → m.engine.order ≡ c.order → m.system ≡ c.system
    → ((ls : List Line) → IsReaderAfter m.system m.options.strict m.options.bytes fed ls st.reader → Reads m.reader m.system m.options.strict m.options.bytes fed ls false)
    → ((ls : List Line) → IsStateAfter m.engine.system (plan_of m.engine) ls st.monitor → Stands m.engine ls)
    → IsRunAfter c m.options fed st → Kept m fed
resumed_kept m c st fed ready waits engine_of in_place order system_is reads stands after =
    let step = waits.in_step in
    let same : c.system ≡ m.system = sym system_is in
    let lines = lines_in m.system m.options fed false in
    let read : IsReaderAfter m.system m.options.strict m.options.bytes fed lines st.reader = subst (λ (s : System). IsReaderAfter s m.options.strict m.options.bytes fed (lines_in s m.options fed false) st.reader) same after.reader in
    let has = reads lines read in
    let events : IsStateAfter c.system (plan_in c) (events_of lines) st.monitor = subst (λ (s : System). IsStateAfter c.system (plan_in c) (events_of (lines_in s m.options fed false)) st.monitor) same after.monitor in
    let planned : IsStateAfter c.system (plan_of m.engine) (events_of lines) st.monitor = subst (λ (p : Plan). IsStateAfter c.system p (events_of lines) st.monitor) (plan_same c m.engine in_place order) events in
    let here = stands (events_of lines) (subst (λ (s : System). IsStateAfter s (plan_of m.engine) (events_of lines) st.monitor) (sym engine_of) planned) in
    let last : m.last ≡ last_time lines = step.last_is ∙ ap or_zero has.last ∙ sym (last_zero lines) in
    let (text, written) = some_written m.engine ready (events_of lines) here in
    record {
      lines = lines;
      text = text;
      reads = has;
      waits = waits;
      all = read.accepted;
      last_is = last;
      written = written;
      due = rest_due m fed lines text ready step.can_save.idle written (engine_of ∙ same) waits.instants_limit (step.bound_is ∙ last) read.accepted;
    }

-- ---- the state of a monitor that waits
pub state_together : (m : State) (st : RunState) → engine.IsReady m.engine → Waits m → reader_saved.HasState m.reader st.reader → saved.HasState m.engine st.monitor → IsStrictlyIncreasing st.reader.seen → AreTogether st
state_together m st ready waits read kept rises =
    let step = waits.in_step in
    let shown = kept.open_events in
    let same : (i : ℕ) → is_in st.reader.seen i ≡ is_in (map (λ (e : OpenEvent). e.equation) st.monitor.open_events) i =
    λ i. read.seen i ∙ step.seen i ∙ ap (λ (t : ℕ). is_some (inputs_of m.engine.given i t)) (sym step.bound_is) ∙ ap (λ (v : Option View). is_some v) (sym (shown.values i)) ∙ sym (events_in st.monitor.open_events i) in
    record {
      bound = kept.bound ∙ step.bound_is ∙ step.last_is ∙ sym (ap or_zero read.last);
      open_later = λ some. subst IsSome (sym read.last) (step.open_later (some_given m.engine.bound m.engine.given st.monitor.open_events shown some));
      seen = same_rising st.reader.seen (map (λ (e : OpenEvent). e.equation) st.monitor.open_events) (AllPairs-from_increasing st.reader.seen rises)
          (AllPairs-from_increasing (map (λ (e : OpenEvent). e.equation) st.monitor.open_events) shown.by_equation) (λ i there. sym (same i) ∙ there) (λ i there. same i ∙ there);
    }

pub state_after : (m : State) (st : RunState) (fed : List ℕ) → engine.IsReady m.engine → AreOptionsOf m.options st → saved.HasState m.engine st.monitor
    → ((ls : List Line) → Reads m.reader m.system m.options.strict m.options.bytes fed ls false → IsReaderAfter m.system m.options.strict m.options.bytes fed ls st.reader)
    → ((ls : List Line) → Stands m.engine ls → IsStateAfter m.engine.system (plan_of m.engine) ls st.monitor)
    → Kept m fed → IsRunAfter (code_of m) m.options fed st
state_after m st fed ready options has reader_after engine_after kept =
    let step = kept.waits.in_step in
    let engine_of : m.engine.system ≡ m.system = step.system_is ∙ kept.waits.system_is in
    let lines_are : lines_in m.system m.options fed false ≡ kept.lines = ap (λ (r : Reading). r.lines) kept.all in
    let bound : m.engine.bound ≡ last_time kept.lines = step.bound_is ∙ kept.last_is in
    record {
      goes_on = record {
        accepted = ap (λ (r : Reading). r.refused) kept.all;
        quiet = rest_quiet m fed kept.lines kept.text ready step.can_save.idle kept.written engine_of kept.waits.instants_limit bound kept.all;
      };
      options = options;
      reader = subst (λ (ls : List Line). IsReaderAfter m.system m.options.strict m.options.bytes fed ls st.reader) (sym lines_are) (reader_after kept.lines kept.reads);
      bound = has.bound ∙ bound ∙ sym (ap last_time lines_are);
      monitor = subst (λ (ls : List Line). IsStateAfter m.system (plan_of m.engine) (events_of ls) st.monitor) (sym lines_are)
          (subst (λ (s : System). IsStateAfter s (plan_of m.engine) (events_of kept.lines) st.monitor) engine_of (engine_after (events_of kept.lines) kept.written.stands));
    }

pub state_fits : (m : State) (st : RunState) → engine.IsReady m.engine → Waits m → AreOptionsOf m.options st → reader_saved.HasState m.reader st.reader → saved.HasState m.engine st.monitor → IsStrictlyIncreasing st.reader.seen
    → FitsReader m.reader.limit st.reader → FitsMonitor m.engine.system m.engine.limit st.monitor → 1 ≤ m.options.instants → m.options.instants ≤ MOST_INSTANTS → 1 ≤ m.options.bytes → m.options.bytes ≤ MOST_TRACE_BYTES → FitsRun m.system st
state_fits m st ready waits options read kept rises fits_reader fits_monitor some few some_bytes few_bytes =
    let instants_are = options.instants in
    let bytes_are = options.bytes in
    let engine_of : m.engine.system ≡ m.system = waits.in_step.system_is ∙ waits.system_is in
    record {
      limits = record { some_instants = omega arith; few_instants = omega arith; some_bytes = omega arith; few_bytes = omega arith };
      reader = subst (λ (n : ℕ). FitsReader n st.reader) (waits.bytes_limit ∙ sym options.bytes) fits_reader;
      monitor = subst (λ (n : ℕ). FitsMonitor m.system n st.monitor) (waits.instants_limit ∙ sym options.instants)
          (subst (λ (s : System). FitsMonitor s m.engine.limit st.monitor) engine_of fits_monitor);
      together = state_together m st ready waits read kept rises;
    }

-- what a monitor that stands for some bytes has counted of them
pub kept_counted : (m : State) (fed : List ℕ) → engine.IsReady m.engine → Kept m fed → HasCounted m.system m.options fed false m.engine ending.Done
kept_counted m fed ready kept =
    let step = kept.waits.in_step in
    rest_counted m fed kept.lines kept.text ready step.can_save.idle kept.written (step.system_is ∙ kept.waits.system_is) kept.waits.instants_limit (step.bound_is ∙ kept.last_is) kept.all
