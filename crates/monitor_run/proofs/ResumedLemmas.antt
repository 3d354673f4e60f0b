-- A monitor that was made of a state that fits is ready, and it has the state.
use Rattle.std.proofs.Common.{◌≡◌, ◌==◌, ℕ, ◌≤◌, Bool, true, false, ◌&&◌, List, [], ◌∷◌, length, map, Option, Some, None, refl, sym, ap, subst, ◌∙◌, arith}
use Rattle.std.proofs.lemmas.Bool.{eq-eqb}
use Rattle.std.specs.Prelude.{if◌then◌else◌, unwrap_or}
use Rattle.std.specs.List.{AllByRecursion}
use Rattle.std.specs.List.Sorted.{IsStrictlyIncreasing}
use Rattle.std.specs.Option.{option_or}
use Rattle.tsl_value.specs.declared.scalar.Scalar.{Scalar}
use Rattle.tsl_value.specs.View.{Plain}
use Rattle.tsl_value.specs.inner.Laws.{IsInBounds}
use Rattle.flat_core.specs.Complete.{IsFlat, IsShort}
use Rattle.flat_core.specs.Line.{Line, inputs_of}
use Rattle.flat_core.specs.System.{System}
use Rattle.alias_rules.specs.Fine.{IsFinePlan}
use Rattle.monitor_state.specs.declared.state.MonitorState.{MonitorState}
use Rattle.monitor_state.specs.declared.state.OpenEvent.{OpenEvent}
use Rattle.monitor_state.specs.Fits.{FitsMonitor}
use Rattle.monitor_run.specs.inner.Instant.{AreTimers}
use Rattle.monitor_run.specs.inner.Given.{AreAt, AreEventLines, AreOnce, IsShortLine, line_of}
use Rattle.monitor_state.specs.Inputs.{IsInputOf}
use Rattle.monitor_run.specs.inner.Resumed.{IsSavedAs}
use Rattle.monitor_run.specs.inner.Resuming.{IsRestored}
use Rattle.monitor_run.specs.inner.Saved.{AreOpenAt, value_of}
use Rattle.monitor_run.specs.inner.State.{State}
use Rattle.monitor_run.proofs.ContentLemmas.{bounds_short}
use Rattle.monitor_run.proofs.OneState.{none_after, rest_rises}
use Rattle.monitor_run.proofs.RestoredLemmas.{due, few, held, short, shows, tidy, types, unkept}

abbrev pub lines_at : ℕ → List OpenEvent → List Line
lines_at time events = map (λ (e : OpenEvent). line_of time e.equation e.value) events

number_same : {i j : ℕ} {v w : Scalar} → ◌≡◌ {A = Option (ℕ × Scalar)} (Some (i, v)) (Some (j, w)) → i ≡ j
number_same {i} {j} {v} {w} e = ap (λ (o : Option (ℕ × Scalar)). (unwrap_or {T = ℕ × Scalar} o (i, v)).0) e

value_same : {i j : ℕ} {v w : Scalar} → ◌≡◌ {A = Option (ℕ × Scalar)} (Some (i, v)) (Some (j, w)) → v ≡ w
value_same {i} {j} {v} {w} e = ap (λ (o : Option (ℕ × Scalar)). (unwrap_or {T = ℕ × Scalar} o (i, v)).1) e

all_there : (time : ℕ) (events : List OpenEvent) → AreAt time (lines_at time events)
all_there time [] = tt
all_there time (e ∷ events) = (refl, all_there time events)

all_later : (time : ℕ) (events : List OpenEvent) → AllByRecursion (λ l. time ≤ l.time) (lines_at time events)
all_later time [] = tt
all_later time (e ∷ events) = (omega arith, all_later time events)

all_events : (s : System) (time : ℕ) (events : List OpenEvent) → AllByRecursion (λ (e : OpenEvent). IsInputOf s e.equation e.value × IsInBounds e.value) events → AreEventLines s (lines_at time events)
all_events s time [] all = tt
all_events s time (e ∷ events) all = (record { input = e.equation; value = e.value; is = refl; fits = all.0.0 }, all_events s time events all.1)

all_short : (s : System) (time : ℕ) (events : List OpenEvent) → AllByRecursion (λ (e : OpenEvent). IsInputOf s e.equation e.value × IsInBounds e.value) events → AllByRecursion IsShortLine (lines_at time events)
all_short s time [] all = tt
all_short s time (e ∷ events) all = ((λ i value is. subst IsShort (value_same is) (bounds_short e.value all.0.1)), all_short s time events all.1)

values_are : (time i : ℕ) (events : List OpenEvent) → value_of events i ≡ inputs_of (lines_at time events) i time
values_are time i [] = refl
values_are time i (e ∷ events) =
    from (e.equation == i) (values_are time i events)
    ∙ ap (λ b. option_or (if b && (e.equation == i) then Some (Plain e.value) else None) (inputs_of (lines_at time events) i time)) (sym (eq-eqb time time refl))
  where
    from : (b : Bool) → value_of events i ≡ inputs_of (lines_at time events) i time
        → (if b then Some (Plain e.value) else value_of events i) ≡ option_or (if b then Some (Plain e.value) else None) (inputs_of (lines_at time events) i time)
    from true rest = refl
    from false rest = rest

all_once : (time : ℕ) (events : List OpenEvent) → IsStrictlyIncreasing (map (λ (e : OpenEvent). e.equation) events) → AreOnce (lines_at time events)
all_once time [] rises = tt
all_once time (e ∷ events) rises = (
  (λ i value is. sym (values_are time i events) ∙ ap (value_of events) (sym (number_same is)) ∙ none_after e events rises),
  all_once time events (rest_rises e.equation (map (λ (f : OpenEvent). f.equation) events) rises),
)

pub resumed_as : (m : State) (limit : ℕ) (st : MonitorState) → IsFlat m.system → IsFinePlan m.system m.in_place m.order → FitsMonitor m.system limit st
    → 1 ≤ limit → m.limit ≡ limit → m.ran ≡ st.instants → m.next ≡ st.bound → m.bound ≡ st.bound → m.given ≡ lines_at st.bound st.open_events → m.stop ≡ None
    → length m.last ≡ length m.system.equations → IsRestored m.system st m.cells m.ledger m.last m.timers → IsSavedAs m st
resumed_as m limit st whole fine fits some limit_is ran next bound given going one_each is = record {
  ready = record {
    whole = whole;
    fine = fine;
    room = let l = limit_is in let r = ran in let few = fits.instants.within in omega arith;
    some_room = let l = limit_is in omega arith;
    within = let n = next in let b = bound in omega arith;
    in_time = let b = bound in let small = fits.bound.in_time in omega arith;
    time = st.bound;
    given_at = subst (AreAt st.bound) (sym given) (all_there st.bound st.open_events);
    given_later = let n = next in omega arith;
    events = subst (AreEventLines m.system) (sym given) (all_events m.system st.bound st.open_events fits.open_events.inputs);
    once = subst AreOnce (sym given) (all_once st.bound st.open_events fits.open_events.by_equation);
    types = types m.system whole limit st fits m.cells m.ledger m.last m.timers is;
    last = held m.system whole limit st fits m.cells m.ledger m.last m.timers is one_each;
    unkept = unkept m.system whole limit st fits m.cells m.ledger m.last m.timers is;
    timers = subst (λ b. AreTimers m.system b m.timers) (sym next) (due m.system whole limit st fits m.cells m.ledger m.last m.timers is);
    few_cells = few m.system whole limit st fits m.cells m.ledger m.last m.timers is;
    tidy = tidy m.system whole limit st fits m.cells m.ledger m.last m.timers is;
    unbegun = λ none. ran ∙ fits.instants.none (sym next ∙ none);
    begun = λ more. let r = ran in let n = next in let some_ran = fits.instants.some (omega arith) in omega arith;
    short = record {
      given = subst (AllByRecursion IsShortLine) (sym given) (all_short m.system st.bound st.open_events fits.open_events.inputs);
      kept = short m.system whole limit st fits m.cells m.ledger m.last m.timers is;
    };
  };
  can = record {
    going = going;
    idle = record {
      start = λ none. let n = next in let b = bound in omega arith;
      events = subst (AllByRecursion (λ (l : Line). m.bound ≤ l.time)) (sym given) (subst (λ b. AllByRecursion (λ (l : Line). b ≤ l.time) (lines_at st.bound st.open_events)) (sym bound) (all_later st.bound st.open_events));
      delays = λ i u at. let late = ((due m.system whole limit st fits m.cells m.ledger m.last m.timers is).each i u at).1 in let b = bound in omega arith;
    };
    at_bound = subst (AreAt m.bound) (sym given) (subst (λ b. AreAt b (lines_at st.bound st.open_events)) (sym bound) (all_there st.bound st.open_events));
  };
  state = record {
    bound = sym bound;
    instants = sym ran;
    open_events = subst (λ ls. AreOpenAt ls m.bound st.open_events) (sym given) (subst (λ b. AreOpenAt (lines_at st.bound st.open_events) b st.open_events) (sym bound) (record {
      values = λ i. values_are st.bound i st.open_events;
      by_equation = fits.open_events.by_equation;
    }));
    machine = shows m.system whole limit st fits m.cells m.ledger m.last m.timers is;
  };
}
