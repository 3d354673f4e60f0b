-- A monitor of a trace takes a piece.
use Rattle.std.proofs.Common.{◌≡◌, ◌≢◌, ℕ, suc, ◌≤◌, Bool, false, List, [], ◌++◌, Option, None, Some, Result, Ok, Err, IfOk, IfErr, refl, sym, ap, subst, ◌∙◌, arith, append-nil}
use Rattle.flat_core.specs.Case.{Streams}
use Rattle.flat_core.specs.Complete.{IsFlat}
use Rattle.flat_core.specs.Ending.{EndsAtBound}
use Rattle.flat_core.specs.Line.{Line, inputs_of, last_time}
use Rattle.flat_core.specs.Solution.{Solves}
use Rattle.flat_core.specs.System.{System}
use Rattle.flat_core.specs.Text.{due_text}
use Rattle.monitor_run.proofs.StepLemmas.{ready_order}
use Rattle.monitor_run.specs.declared.monitor.Stop.{Stop}
use Rattle.monitor_run.specs.declared.monitor.Stop.TheVariants as stop
use Rattle.monitor_run.specs.inner.State as engine
use Rattle.monitor_run.specs.inner.Written.{HasWritten}
use Rattle.register_code.specs.inner.Plan.{IsPlanOrder}
use Rattle.trace_reader.specs.inner.Reader.{Reader}
use Rattle.trace_reader.specs.Reading.{Reading, reading}
use Rattle.trace_reader.specs.inner.Reads.{Reads}
use Rattle.trace_monitor.specs.declared.ending.RunEnding.{RunEnding}
use Rattle.trace_monitor.specs.declared.ending.RunEnding.TheVariants as ending
use Rattle.trace_monitor.specs.declared.halt.Halt.{Halt}
use Rattle.trace_monitor.specs.declared.halt.Halt.TheVariants as halt
use Rattle.trace_monitor.specs.Counted.{HasCounted}
use Rattle.trace_monitor.specs.Due.{IsDue, lines_in, bound_in}
use Rattle.trace_monitor.specs.Ending.{IsQuiet}
use Rattle.trace_monitor.specs.inner.Kept.{Kept, events_of}
use Rattle.trace_monitor.specs.Next.{EndsBy, EndsSo, IsNext, is_nothing}
use Rattle.trace_monitor.specs.inner.Reading.{Fed, HasRead, HasRunAll, HasStoppedIn, Halts, bound_at}
use Rattle.trace_monitor.specs.inner.Run.{HasCopiedTo, HasCountedTo, HasRanTo, StopsSo}
use Rattle.trace_monitor.specs.inner.State.{State}
use Rattle.trace_monitor.specs.inner.Waits.{Waits}
use Rattle.trace_monitor.proofs.Readiness.{one_due}
use Rattle.trace_monitor.proofs.Counts.{copies_stay, ran_stays}
use Rattle.trace_monitor.proofs.RunOut.{halted_bound, halted_lines}
use Rattle.trace_monitor.proofs.Concluding.{due_at_halt, quiet_at_halt, due_at_fault, faulted, due_at_limit, limited}

-- these bytes of a trace, as a monitor reads them
abbrev pub fed_to : State → List ℕ → Bool → Fed
fed_to m bytes ended = record { strict = m.options.strict; limit = m.options.bytes; bytes = bytes; ended = ended }

-- a monitor whose reader was fed these bytes, and which has taken these lines of them
pub record HasBegun (m : State) (bytes : List ℕ) (ended : Bool) (lines : List Line) (text : List ℕ) : Type 0 where
  pub read : HasRead m.reader m.engine m.last (fed_to m bytes ended) lines text
  pub system_is : m.engine.system ≡ m.system
  pub limit_is : m.engine.limit ≡ m.options.instants

pub has_begun : (m at : State) (fed bytes : List ℕ) (ended : Bool) (kept : Kept m fed) → at ≡ record m { reader = at.reader }
    → Reads at.reader m.system m.options.strict m.options.bytes bytes kept.lines ended → HasBegun at bytes ended kept.lines kept.text
has_begun m at fed bytes ended kept same reads = subst (λ (a : State). HasBegun a bytes ended kept.lines kept.text) (sym same) (record {
  read = record {
    reads = subst (λ (s : System). Reads at.reader s m.options.strict m.options.bytes bytes kept.lines ended) (sym (kept.waits.in_step.system_is ∙ kept.waits.system_is)) reads;
    last_is = kept.last_is;
    has = record { bound_is = kept.waits.in_step.bound_is ∙ kept.last_is; written = kept.written };
  };
  system_is = kept.waits.in_step.system_is ∙ kept.waits.system_is;
  limit_is = kept.waits.instants_limit;
})

-- the same, where the reader was fed and the monitor is looked into
pub begun_at : (m new at : State) (fed piece : List ℕ) (kept : Kept m fed) → at ≡ new → new ≡ record m { reader = new.reader }
    → Reads new.reader m.system m.options.strict m.options.bytes (fed ++ piece) kept.lines (is_nothing piece) → HasBegun at (fed ++ piece) (is_nothing piece) kept.lines kept.text
begun_at m new at fed piece kept is rest reads =
    let reader : new.reader ≡ at.reader = sym (ap (λ (a : State). a.reader) is) in
    has_begun m at fed (fed ++ piece) (is_nothing piece) kept (is ∙ rest ∙ ap (λ (r : Reader). record m { reader = r }) reader)
    (subst (λ (r : Reader). Reads r m.system m.options.strict m.options.bytes (fed ++ piece) kept.lines (is_nothing piece)) reader reads)

-- a text that is due for all that was fed before
pub text_due : (m new at : State) (fed bytes : List ℕ) (ended : Bool) (kept : Kept m fed) (text after : List ℕ) → at ≡ new → new ≡ record m { reader = new.reader } → IsDue m.system m.options fed false text
    → IsDue at.system at.options bytes ended (kept.text ++ after) → IsDue m.system m.options bytes ended (text ++ after)
text_due m new at fed bytes ended kept text after is rest before due =
    let one : kept.text ≡ text = one_due m.system m.options fed false kept.text text kept.due before in
    subst (λ (t : List ℕ). IsDue m.system m.options bytes ended (t ++ after)) one (subst (λ (a : State). IsDue a.system a.options bytes ended (kept.text ++ after)) (is ∙ rest) due)

pub counted_from : (m new at : State) (bytes : List ℕ) (ended : Bool) (e : engine.State) (how : RunEnding) → at ≡ new → new ≡ record m { reader = new.reader } → HasCounted at.system at.options bytes ended e how → HasCounted m.system m.options bytes ended e how
counted_from m new at bytes ended e how is rest counted = subst (λ (a : State). HasCounted a.system a.options bytes ended e how) (is ∙ rest) counted

same_ending : (a b : RunEnding) → Some a ≡ Some b → b ≡ a
same_ending a b p = cc

pub next_due : (m new at : State) (bytes : List ℕ) (ended : Bool) (answer : Option RunEnding) → at ≡ new → new ≡ record m { reader = new.reader } → IsNext at.system at.options bytes ended answer → IsNext m.system m.options bytes ended answer
next_due m new at bytes ended answer is rest next = subst (λ (a : State). IsNext a.system a.options bytes ended answer) (is ∙ rest) next

module _ (m : State) (bytes : List ℕ) (ended : Bool) (lines : List Line) (text : List ℕ) (begun : HasBegun m bytes ended lines text) (ready : engine.IsReady m.engine) (r : Reader) (e : engine.State) (last : ℕ) (after : List ℕ) where
  abbrev Ran : Halt → Type 0
  Ran by = HasRunAll r m.engine e last m.options.until (fed_to m bytes ended) lines text [] after by

  abbrev Stopped : Stop → Type 0
  Stopped why = HasStoppedIn m.engine e (fed_to m bytes ended) m.options.until text [] after why

  -- what all lines and texts have at hand
  pub ran_on : (halted : Result Halt Stop) (until : ℕ) (before : List ℕ)
      → IfOk halted (λ by. (x : Fed) (ls : List Line) (t : List ℕ) → HasRead m.reader m.engine m.last x ls t → HasRunAll r m.engine e last until x ls t before after by)
      → until ≡ m.options.until → before ≡ [] → IfOk halted Ran
  ran_on (Ok by) until before ran same none =
      subst (λ (u : ℕ). HasRunAll r m.engine e last u (fed_to m bytes ended) lines text [] after by) same
      (subst (λ (b : List ℕ). HasRunAll r m.engine e last until (fed_to m bytes ended) lines text b after by) none (ran (fed_to m bytes ended) lines text begun.read))
  ran_on (Err why) until before ran same none = tt

  pub stopped_on : (halted : Result Halt Stop) (until : ℕ) (before : List ℕ)
      → IfErr halted (λ why. why ≢ stop.Memory → (x : Fed) (ls : List Line) (t : List ℕ) → HasRead m.reader m.engine m.last x ls t → HasStoppedIn m.engine e x until t before after why)
      → until ≡ m.options.until → before ≡ [] → IfErr halted (λ why. why ≢ stop.Memory → Stopped why)
  stopped_on (Ok by) until before stops same none = tt
  stopped_on (Err why) until before stops same none = λ some.
      subst (λ (u : ℕ). HasStoppedIn m.engine e (fed_to m bytes ended) u text [] after why) same
      (subst (λ (b : List ℕ). HasStoppedIn m.engine e (fed_to m bytes ended) until text b after why) none (stops some (fed_to m bytes ended) lines text begun.read))

  flat : IsFlat m.system
  flat = subst IsFlat begun.system_is ready.whole

  plan : IsPlanOrder m.system m.engine.order
  plan = subst (λ (s : System). IsPlanOrder s m.engine.order) begun.system_is (ready_order m.engine ready)

  module _ (by : Halt) (h : Ran by) where
    abbrev taken : List Line
    taken = lines ++ h.more

    abbrev Ends : System → ℕ → ℕ → Type 0
    Ends s b n = (w : Streams) → Solves s (inputs_of (events_of taken)) b w → (text ++ after ≡ due_text s (events_of taken) w b n) × EndsAtBound s (events_of taken) w b n

    ends : Ends m.system (bound_at by (last_time taken) m.options.until) m.options.instants
    ends = subst (λ (n : ℕ). Ends m.system (bound_at by (last_time taken) m.options.until) n) begun.limit_is
        (subst (λ (b : ℕ). Ends m.system b m.engine.limit) h.bound_is
        (subst (λ (s : System). Ends s e.bound m.engine.limit) begun.system_is
        (subst (λ (t : List ℕ). (w : Streams) → Solves m.engine.system (inputs_of (events_of taken)) e.bound w
        → (text ++ t ≡ due_text m.engine.system (events_of taken) w e.bound m.engine.limit) × EndsAtBound m.engine.system (events_of taken) w e.bound m.engine.limit) (sym h.after_is) h.ends)))

    halts : Halts (reading m.system m.options.strict m.options.bytes bytes ended) taken ended by
    halts = subst (λ (s : System). Halts (reading s m.options.strict m.options.bytes bytes ended) taken ended by) begun.system_is h.halts

    due_ran : IsDue m.system m.options bytes ended (text ++ after)
    due_ran = due_at_halt m.system m.options m.engine.order flat plan bytes ended taken by halts (text ++ after) ends

    quiet : IsQuiet m.system m.options bytes ended
    quiet = quiet_at_halt m.system m.options m.engine.order flat plan bytes ended taken by halts (text ++ after) ends

  module _ (why : Stop) (h : Stopped why) where
    lines_are : lines_in m.system m.options bytes ended ≡ h.taken ++ h.more
    lines_are = subst (λ (s : System). lines_in s m.options bytes ended ≡ h.taken ++ h.more) begun.system_is h.lines_are

    closed : h.time ≤ bound_in m.system m.options bytes ended
    closed = subst (λ (s : System). h.time ≤ bound_in s m.options bytes ended) begun.system_is h.closed

    stops : StopsSo m.system (events_of h.taken) h.time m.options.instants (text ++ after) why
    stops = subst (λ (n : ℕ). StopsSo m.system (events_of h.taken) h.time n (text ++ after) why) begun.limit_is
        (subst (λ (s : System). StopsSo s (events_of h.taken) h.time m.engine.limit (text ++ after) why) begun.system_is
        (subst (λ (t : List ℕ). StopsSo m.engine.system (events_of h.taken) h.time m.engine.limit (text ++ t) why) (sym h.after_is) h.stops))

  due_stopped : (why : Stop) → why ≢ stop.Memory → Stopped why → IsDue m.system m.options bytes ended (text ++ after)
  due_stopped (stop.Fault t i kind) some h =
      due_at_fault m.system m.options m.engine.order flat plan bytes ended h.taken h.more (lines_are _ h) h.time h.later (closed _ h) (text ++ after) t i kind (stops _ h)
  due_stopped (stop.Limit count t) some h =
      due_at_limit m.system m.options m.engine.order flat plan bytes ended h.taken h.more (lines_are _ h) h.time h.later (closed _ h) (text ++ after) count t (stops _ h)
  due_stopped stop.Memory some h = absurd (some refl)

  -- what is due
  pub due_after : (halted : Result Halt Stop) (answer : Option RunEnding) → IfOk halted Ran → IfErr halted (λ why. why ≢ stop.Memory → Stopped why) → EndsSo m.system halted answer → IsDue m.system m.options bytes ended (text ++ after)
  due_after (Ok by) answer ran stopped ends = due_ran by ran
  due_after (Err (stop.Fault t i kind)) answer ran stopped ends = due_stopped (stop.Fault t i kind) (λ is. cc) (stopped (λ is. cc))
  due_after (Err (stop.Limit count t)) answer ran stopped ends = due_stopped (stop.Limit count t) (λ is. cc) (stopped (λ is. cc))
  due_after (Err stop.Memory) answer ran stopped (by, is, none) = absurd none

  -- how the run stands
  pub next_after : (halted : Result Halt Stop) (answer : Option RunEnding) → IfOk halted Ran → IfErr halted (λ why. why ≢ stop.Memory → Stopped why) → EndsSo m.system halted answer → IsNext m.system m.options bytes ended answer
  next_after (Ok halt.More) answer ran stopped is =
      let h = halts halt.More ran in
      subst (IsNext m.system m.options bytes ended) (sym is) (
        h.1,
        record {
          accepted = subst (λ (b : Bool). (reading m.system m.options.strict m.options.bytes bytes b).refused ≡ None) h.1 (ap (λ (r : Reading). r.refused) h.0);
          quiet = subst (IsQuiet m.system m.options bytes) h.1 (quiet halt.More ran);
        },
      )
  next_after (Ok halt.End) answer ran stopped is =
      let h = halts halt.End ran in
      subst (IsNext m.system m.options bytes ended) (sym is) (h.1, ap (λ (r : Reading). r.refused) h.0, quiet halt.End ran)
  next_after (Ok (halt.Refused f)) answer ran stopped is =
      let h = halts (halt.Refused f) ran in
      subst (IsNext m.system m.options bytes ended) (sym is) (ap (λ (r : Reading). r.refused) h, quiet (halt.Refused f) ran)
  next_after (Err (stop.Fault t i kind)) answer ran stopped (by, is, (place, at, so)) =
      let h = stopped (λ is. cc) in
      let fault = faulted m.system m.options m.engine.order flat plan bytes ended h.taken h.more (lines_are _ h) h.time h.later (closed _ h) (text ++ after) t i kind (stops _ h) in
      subst (IsNext m.system m.options bytes ended) (sym is) (subst (EndsBy m.system m.options bytes ended) (sym so) (i, at, fault))
  next_after (Err (stop.Limit count t)) answer ran stopped (by, is, so) =
      let h = stopped (λ is. cc) in
      let full = limited m.system m.options m.engine.order flat plan bytes ended h.taken h.more (lines_are _ h) h.time h.later (closed _ h) (text ++ after) count t (stops _ h) in
      subst (IsNext m.system m.options bytes ended) (sym is) (subst (EndsBy m.system m.options bytes ended) (sym so) full)
  next_after (Err stop.Memory) answer ran stopped (by, is, none) = absurd none

  -- what goes on stands for all that was fed
  pub kept_after : (halted : Result Halt Stop) → IfOk halted Ran → Waits (record m { reader = r; last = last; engine = e }) → EndsSo m.system halted None → Kept (record m { reader = r; last = last; engine = e }) bytes
  kept_after (Ok halt.More) ran waits is =
      let h = halts halt.More ran in
      record {
        lines = taken halt.More ran;
        text = text ++ after;
        reads = subst (λ (b : Bool). Reads r m.system m.options.strict m.options.bytes bytes (taken halt.More ran) b) h.1
            (subst (λ (s : System). Reads r s m.options.strict m.options.bytes bytes (taken halt.More ran) ended) begun.system_is ran.reads);
        waits = waits;
        all = subst (λ (b : Bool). reading m.system m.options.strict m.options.bytes bytes b ≡ record { lines = taken halt.More ran; refused = None }) h.1 h.0;
        last_is = ran.last_is;
        written = subst (λ (t : List ℕ). HasWritten e (events_of (taken halt.More ran)) (text ++ t)) (sym ran.after_is) ran.written;
        due = subst (λ (b : Bool). IsDue m.system m.options bytes b (text ++ after)) h.1 (due_ran halt.More ran);
      }
  kept_after (Ok halt.End) ran waits is = absurd (cc)
  kept_after (Ok (halt.Refused f)) ran waits is = absurd (cc)
  kept_after (Err why) ran waits (by, is, so) = absurd (cc)

  -- what the engine has counted
  module _ (by : Halt) (h : Ran by) where
    abbrev Counted : List Line → ℕ → Type 0
    Counted ls b = HasCountedTo e m.system ls b b

    counted_events : Counted (events_of (taken by h)) (bound_at by (last_time (taken by h)) m.options.until)
    counted_events = subst (Counted (events_of (taken by h))) h.bound_is (subst (λ (s : System). HasCountedTo e s (events_of (taken by h)) e.bound e.bound) begun.system_is h.counts)

    counted_ran : Counted (lines_in m.system m.options bytes ended) (bound_in m.system m.options bytes ended)
    counted_ran =
        let r = reading m.system m.options.strict m.options.bytes bytes ended in
        let b = bound_at by (last_time (taken by h)) m.options.until in
        let counts = counted_events in
        subst (Counted (lines_in m.system m.options bytes ended)) (halted_bound r (taken by h) ended m.options.until by (halts by h))
        (subst (λ (ls : List Line). Counted ls b) (append-nil (taken by h) ∙ sym (halted_lines r (taken by h) ended by (halts by h))) (
          ran_stays e m.system (taken by h) [] b b (omega arith) tt b counts.0,
          copies_stay e m.system (taken by h) [] b b (omega arith) tt b counts.1,
        ))

  module _ (why : Stop) (h : Stopped why) (t : ℕ) where
    ran_stopped : HasRanTo e m.engine.system (events_of h.taken) h.time t → HasRanTo e m.system (lines_in m.system m.options bytes ended) (bound_in m.system m.options bytes ended) t
    ran_stopped counts = subst (λ (ls : List Line). HasRanTo e m.system ls (bound_in m.system m.options bytes ended) t) (sym (lines_are why h))
        (ran_stays e m.system h.taken h.more h.time (bound_in m.system m.options bytes ended) (closed why h) h.later t
        (subst (λ (s : System). HasRanTo e s (events_of h.taken) h.time t) begun.system_is counts))

    copies_stopped : HasCopiedTo e m.engine.system (events_of h.taken) h.time t → HasCopiedTo e m.system (lines_in m.system m.options bytes ended) (bound_in m.system m.options bytes ended) t
    copies_stopped counts = subst (λ (ls : List Line). HasCopiedTo e m.system ls (bound_in m.system m.options bytes ended) t) (sym (lines_are why h))
        (copies_stay e m.system h.taken h.more h.time (bound_in m.system m.options bytes ended) (closed why h) h.later t
        (subst (λ (s : System). HasCopiedTo e s (events_of h.taken) h.time t) begun.system_is counts))

  pub counted_after : (halted : Result Halt Stop) (how : RunEnding) → IfOk halted Ran → IfErr halted (λ why. why ≢ stop.Memory → Stopped why) → EndsSo m.system halted (Some how) → HasCounted m.system m.options bytes ended e how
  counted_after (Ok halt.More) how ran stopped is = absurd (cc)
  counted_after (Ok halt.End) how ran stopped is =
      let counts = counted_ran halt.End ran in
      subst (HasCounted m.system m.options bytes ended e) (same_ending how ending.Done is) (record { ran = counts.0.ran; ledger = counts.1.ledger })
  counted_after (Ok (halt.Refused f)) how ran stopped is =
      let counts = counted_ran (halt.Refused f) ran in
      subst (HasCounted m.system m.options bytes ended e) (same_ending how (ending.Trace f) is) (record { ran = counts.0.ran; ledger = counts.1.ledger })
  counted_after (Err (stop.Fault t i kind)) how ran stopped (by, is, (place, at, so)) =
      let h = stopped (λ is. cc) in
      let copies = copies_stopped (stop.Fault t i kind) h (suc t) h.counts in
      subst (HasCounted m.system m.options bytes ended e) (same_ending how (ending.Fault t kind place) (is ∙ ap Some so)) (record { ran = λ z zs. tt; ledger = copies.ledger })
  counted_after (Err (stop.Limit count t)) how ran stopped (by, is, so) =
      let h = stopped (λ is. cc) in
      let counts = ran_stopped (stop.Limit count t) h t h.counts.0 in
      let copies = copies_stopped (stop.Limit count t) h t h.counts.1 in
      subst (HasCounted m.system m.options bytes ended e) (same_ending how (ending.Limit count t) (is ∙ ap Some so)) (record { ran = counts.ran; ledger = copies.ledger })
  counted_after (Err stop.Memory) how ran stopped (by, is, none) = absurd none
