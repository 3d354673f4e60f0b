-- Closing times, running their instants, and giving events.
use Rattle.std.proofs.Common.{◌≡◌, ◌≢◌, ℕ, ◌+◌, ◌≤◌, max, List, [], ◌∷◌, ◌++◌, Some, None, is_some, is_ok, if◌then◌else◌, Result, Ok, Err, OnOk, IfErr, IfOk, refl, sym, subst, ap, arith, ◌∙◌, append-nil}
use Rattle.std.proofs.Math.Nat.{max-eq_right}
use Rattle.std.proofs.lemmas.List.Elements.{filter-append}
use Rattle.std.specs.List.{flat_map}
use Rattle.tsl_value.specs.declared.scalar.Scalar.{Scalar}
use Rattle.flat_core.specs.Line.{Line}
use Rattle.flat_core.specs.Text.{text_at}
use Rattle.monitor_run.specs.declared.monitor.Stop.{Stop}
use Rattle.monitor_run.specs.inner.Given.{line_of}
use Rattle.monitor_run.specs.inner.State as engine
use Rattle.monitor_run.specs.inner.Steps.{AreAsSet, CanTake}
use Rattle.monitor_run.specs.inner.Written.{HasWritten}
use Rattle.monitor_run.proofs.MonitorLemmas.{stands_closed, stands_given, given_leaves}
use Rattle.trace_monitor.specs.inner.Kept.{events_of}
use Rattle.trace_monitor.specs.declared.halt.Halt.{Halt}
use Rattle.trace_monitor.specs.declared.halt.Halt.TheVariants as halt
use Rattle.trace_monitor.specs.inner.Reading.{bound_at}
use Rattle.trace_monitor.specs.inner.Run.{HasRunOut, HasStopped, HasRunBelow, HasStoppedAt, HasTaken, CountsSo, StopsSo, closed_to}
use Rattle.trace_reader.proofs.LineLemmas.{last_time-push}

pub written_closed : (m : engine.State) (bound : ℕ) (lines : List Line) (text : List ℕ) → HasWritten m lines text → HasWritten (record m { bound = bound }) lines text
written_closed m bound lines text w = record { stands = stands_closed m bound lines w.stands; text_is = w.text_is }

pub written_given : (m : engine.State) → engine.IsReady m → (time i : ℕ) (value : Scalar) → CanTake m time i value → (lines : List Line) (text : List ℕ) → HasWritten m lines text
    → HasWritten (record m { given = m.given ++ line_of time i value ∷ [] }) (lines ++ line_of time i value ∷ []) text
written_given m ready time i value can lines text w = record {
  stands = stands_given m ready time i value can lines w.stands;
  text_is = λ z zs. w.text_is z (((given_leaves m ready time i value can lines).solves_same z).1 zs) ∙ ap (flat_map (text_at m.system z)) (((given_leaves m ready time i value can lines).happens z).instants_same m.next (omega arith));
}

-- the engine whose times below a time are closed
abbrev closed_at : engine.State → ℕ → engine.State
closed_at m time = record m { bound = max m.bound time }

module _ (m new : engine.State) (time : ℕ) (later : m.bound ≤ time) (lines : List Line) (text before after : List ℕ) where
  pub ran_below : HasRunOut (closed_at m time) new lines text before after → HasRunBelow m new lines time text before after
  ran_below h = record {
    added = h.added;
    after_is = h.after_is;
    system_is = h.as_set.system;
    limit_is = h.as_set.limit;
    bound_is = h.as_set.bound ∙ max-eq_right later;
    written = h.written;
    idle = h.idle;
  }

  pub stopped_at : (why : Stop) → HasStopped (closed_at m time) new lines text before after why → HasStoppedAt m new lines time text before after why
  stopped_at why h = record {
    added = h.added;
    after_is = h.after_is;
    stops = subst (λ (b : ℕ). StopsSo m.system lines b m.limit (text ++ h.added) why) (max-eq_right later) h.stops;
    counts = subst (λ (b : ℕ). CountsSo new m.system lines b why) (max-eq_right later) h.counts;
  }

pub one_event : (l : Line) (i : ℕ) (value : Scalar) → l.event ≡ Some (i, value) → events_of (l ∷ []) ≡ line_of l.time i value ∷ []
one_event l i value is = λ k. if is_some (is k) then record { time = l.time; event = is k } ∷ [] else []

pub given_on : (m new : engine.State) (l : Line) (i : ℕ) (value : Scalar) → l.event ≡ Some (i, value) → (m.stop ≡ None → engine.IsReady m) → CanTake m l.time i value → new ≡ record m { given = m.given ++ line_of l.time i value ∷ [] }
    → (lines : List Line) (text : List ℕ) → HasWritten m lines text → HasWritten new (lines ++ events_of (l ∷ [])) text
given_on m new l i value is ready can same lines text w =
    subst (λ (e : engine.State). HasWritten e (lines ++ events_of (l ∷ [])) text) (sym same)
    (subst (λ (ls : List Line). HasWritten (record m { given = m.given ++ line_of l.time i value ∷ [] }) (lines ++ ls) text) (sym (one_event l i value is))
    (written_given m (ready w.stands.going) l.time i value can lines text w))

no_event : (l : Line) → l.event ≡ None → events_of (l ∷ []) ≡ []
no_event l is = λ k. if is_some (is k) then l ∷ [] else []

-- a line without an event gives none
pub none_given_on : (m : engine.State) (l : Line) → l.event ≡ None → m ≡ record m { given = m.given ++ events_of (l ∷ []) }
none_given_on m l is = sym (ap (λ (ls : List Line). record m { given = m.given ++ ls }) (no_event l is) ∙ ap (λ (g : List Line). record m { given = g }) (append-nil m.given))

-- what holds at an answer, and another thing with it
pub on_ok : {A E : Type 0} (r : Result A E) (P Q : Type 0) → (P → Q) → OnOk r P → OnOk r Q
on_ok (Ok a) P Q f p = f p
on_ok (Err e) P Q f p = tt

pub on_both : {A E : Type 0} (r : Result A E) (P Q R : Type 0) → (P → Q → R) → OnOk r P → OnOk r Q → OnOk r R
on_both (Ok a) P Q R f p q = f p q
on_both (Err e) P Q R f p q = tt

pub if_err : {A E : Type 0} (r : Result A E) (P Q : E → Type 0) → ((e : E) → P e → Q e) → IfErr r P → IfErr r Q
if_err (Ok a) P Q f p = tt
if_err (Err e) P Q f p = f e p

module _ (m mid new : engine.State) (time : ℕ) (later : m.bound ≤ time) (same : mid ≡ closed_at m time) where
  pub runs_below : (before after : List ℕ) → ((lines : List Line) (text : List ℕ) → HasWritten mid lines text → HasRunOut mid new lines text before after) → (lines : List Line) (text : List ℕ) → HasWritten m lines text → HasRunBelow m new lines time text before after
  runs_below before after runs lines text w =
      ran_below m new time later lines text before after
      (subst (λ (e : engine.State). HasRunOut e new lines text before after) same
      (runs lines text (subst (λ (e : engine.State). HasWritten e lines text) (sym same) (written_closed m (max m.bound time) lines text w))))

  pub stops_below : (before after : List ℕ) (why : Stop) → ((lines : List Line) (text : List ℕ) → HasWritten mid lines text → HasStopped mid new lines text before after why) → (lines : List Line) (text : List ℕ) → HasWritten m lines text → HasStoppedAt m new lines time text before after why
  stops_below before after why stops lines text w =
      stopped_at m new time later lines text before after why
      (subst (λ (e : engine.State). HasStopped e new lines text before after why) same
      (stops lines text (subst (λ (e : engine.State). HasWritten e lines text) (sym same) (written_closed m (max m.bound time) lines text w))))

-- ---- a line
pub taken_line : (m mid new : engine.State) (lines : List Line) (l : Line) (text before after : List ℕ) → HasRunBelow m mid (events_of lines) l.time text before after
    → ((ls : List Line) (written : List ℕ) → HasWritten mid ls written → HasWritten new (ls ++ events_of (l ∷ [])) written) → AreAsSet mid new → HasTaken m new lines l text before after
taken_line m mid new lines l text before after h given set = record {
  added = h.added;
  after_is = h.after_is;
  system_is = set.system ∙ h.system_is;
  limit_is = set.limit ∙ h.limit_is;
  has = record {
    bound_is = set.bound ∙ h.bound_is ∙ sym (last_time-push lines l);
    written = subst (λ (ls : List Line). HasWritten new ls (text ++ h.added)) (sym (filter-append (λ x. is_some x.event) lines (l ∷ []))) (given (events_of lines) (text ++ h.added) h.written);
  };
}

-- ---- times that are closed up to a bound
module _ (m mid new : engine.State) (bound : ℕ) (same : mid ≡ closed_to m bound) where
  written_at : (lines : List Line) (text : List ℕ) → HasWritten m lines text → HasWritten mid lines text
  written_at lines text w = subst (λ (e : engine.State). HasWritten e lines text) (sym same) (written_closed m bound lines text w)

  pub runs_closed : (before after : List ℕ) → ((lines : List Line) (text : List ℕ) → HasWritten mid lines text → HasRunOut mid new lines text before after) → (lines : List Line) (text : List ℕ) → HasWritten m lines text → HasRunOut (closed_to m bound) new lines text before after
  runs_closed before after runs lines text w = subst (λ (e : engine.State). HasRunOut e new lines text before after) same (runs lines text (written_at lines text w))

  pub stops_closed : (before after : List ℕ) (why : Stop) → ((lines : List Line) (text : List ℕ) → HasWritten mid lines text → HasStopped mid new lines text before after why) → (lines : List Line) (text : List ℕ) → HasWritten m lines text → HasStopped (closed_to m bound) new lines text before after why
  stops_closed before after why stops lines text w = subst (λ (e : engine.State). HasStopped e new lines text before after why) same (stops lines text (written_at lines text w))

  pub begins_closed : ((lines : List Line) × (text : List ℕ) × HasWritten m lines text) → (lines : List Line) × (text : List ℕ) × HasWritten mid lines text
  begins_closed (lines, text, w) = (lines, text, written_at lines text w)

-- both times are closed at the end of a trace
pub closed_both : (m : engine.State) (last until : ℕ) → m.bound ≡ last → (by : Halt) → by ≡ halt.End → (mid end : engine.State) → mid ≡ record m { bound = max m.bound (last + 1) }
    → end ≡ record mid { bound = max mid.bound (until + 1) } → end ≡ closed_to m (bound_at by last until)
closed_both m last until at by is mid end first second =
    let bound : max (max m.bound (last + 1)) (until + 1) ≡ max last until + 1 = omega arith in
    second ∙ ap (λ (e : engine.State). record e { bound = max e.bound (until + 1) }) first ∙ ap (closed_to m) bound ∙ sym (ap (λ (h : Halt). closed_to m (bound_at h last until)) is)

pub closed_none : (m : engine.State) (last until : ℕ) → m.bound ≡ last → (by : Halt) → by ≢ halt.End → m ≡ closed_to m (bound_at by last until)
closed_none m last until at halt.End none = absurd (none refl)
closed_none m last until at halt.More none = ap (closed_to m) at
closed_none m last until at (halt.Refused f) none = ap (closed_to m) at

pub if_is_err : {A E : Type 0} (r : Result A E) (e : E) (P : E → Type 0) → r ≡ Err e → P e → IfErr r P
if_is_err {A} {E} r e P is p = subst (λ (r : Result A E). IfErr r P) (sym is) p

pub if_both : {A E : Type 0} (r : Result A E) (P Q R : A → Type 0) → ((a : A) → P a → Q a → R a) → IfOk r P → IfOk r Q → IfOk r R
if_both (Ok a) P Q R f p q = f a p q
if_both (Err e) P Q R f p q = tt

pub if_ok : {A E : Type 0} (r : Result A E) (P Q : A → Type 0) → ((a : A) → P a → Q a) → IfOk r P → IfOk r Q
if_ok (Ok a) P Q f p = f a p
if_ok (Err e) P Q f p = tt

pub on_if_ok : {A E : Type 0} (r : Result A E) (P : A → Type 0) (Q : Type 0) → ((a : A) → P a → Q) → IfOk r P → OnOk r Q
on_if_ok (Ok a) P Q f p = f a p
on_if_ok (Err e) P Q f p = tt

-- what is kept where there was no error
pub on_kept : {A E : Type 0} (r : Result A E) (P : List ℕ → Type 0) (before after : List ℕ) → after ≡ (if is_ok r then before else []) → OnOk r (P before) → OnOk r (P after)
on_kept (Ok a) P before after is p = subst P (sym is) p
on_kept (Err e) P before after is p = tt
