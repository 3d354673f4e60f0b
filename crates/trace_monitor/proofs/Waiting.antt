-- What is made of an engine and a reader, whatever they stand for.
use Rattle.std.proofs.Common.{◌≡◌, ◌≢◌, ◌==◌, ◌≤◌, ◌<◌, ℕ, ◌+◌, ◌-◌, Bool, true, false, not, ◌&&◌, ◌||◌, nat_le, if◌then◌else◌, List, [], ◌∷◌, ◌++◌, length, Option, Some, None, Result, Ok, Err, IfErr, IfOk, IfSome, OnOk, refl, sym, ap, subst, ◌∙◌, arith, inl, inr}
use Rattle.std.proofs.lemmas.Bool.{cases_lt, eq-eqb, eqb-false, eqb-true, le-leb, leb-true, lt-leb}
use Rattle.std.proofs.lemmas.List.Folds.{list_any-append}
use Rattle.std.specs.Prelude.{IsSome, is_some}
use Rattle.std.specs.List.{AllByRecursion, filter}
use Rattle.std.specs.Option.{option_or}
use Rattle.tsl_value.specs.declared.scalar.Scalar.{Scalar}
use Rattle.tsl_value.specs.declared.scalar.Scalar.TheVariants as scalar
use Rattle.tsl_value.specs.View.{View, Plain}
use Rattle.tsl_value.proofs.Lists.{filter_all}
use Rattle.flat_core.specs.Complete.{IsShort}
use Rattle.flat_core.specs.Line.{Line, event_in, inputs_of}
use Rattle.flat_core.specs.Pending.{option_is}
use Rattle.flat_core.specs.System.{IsProper, System}
use Rattle.flat_core.proofs.Depth.{runs_below}
use Rattle.lift_func.specs.declared.fault.FaultKind.{FaultKind}
use Rattle.monitor_run.proofs.MonitorLemmas.{late}
use Rattle.monitor_run.specs.declared.monitor.Stop.{Stop}
use Rattle.monitor_run.specs.declared.monitor.Stop.TheVariants as stop
use Rattle.monitor_run.specs.inner.AnyMonitor.{HasRunAny, NamesRunning}
use Rattle.monitor_run.specs.inner.Given.{AreAt}
use Rattle.monitor_state.specs.Inputs.{IsInputOf}
use Rattle.monitor_run.specs.inner.Next.{IsIdle}
use Rattle.monitor_run.specs.inner.Saved.{CanSave}
use Rattle.monitor_run.specs.inner.State as engine
use Rattle.monitor_run.specs.inner.Steps.{AreAsSet, CanTake}
use Rattle.trace_reader.proofs.AnyLemmas.{set_on}
use Rattle.trace_reader.specs.declared.fault.TraceFault.{TraceFault}
use Rattle.trace_reader.specs.declared.fault.TraceFault.TheVariants as fault
use Rattle.trace_reader.specs.declared.next.Next.TheVariants as next
use Rattle.trace_reader.specs.Reading.{input_in, is_among}
use Rattle.trace_reader.specs.inner.AnyReader as any_reader
use Rattle.trace_reader.specs.inner.AnyReader.{HasAnswered, HasEnded, HasFed, HasGiven}
use Rattle.trace_reader.specs.inner.LastTime.{or_zero}
use Rattle.trace_reader.specs.inner.Laws.{IsProperLine}
use Rattle.trace_reader.specs.inner.Reader.{AwaitsMore, Reader, at_fault, had_now, seen_with}
use Rattle.trace_reader.specs.inner.Reads.{Keeps}
use Rattle.trace_monitor.specs.declared.halt.Halt.{Halt}
use Rattle.trace_monitor.specs.declared.halt.Halt.TheVariants as halt
use Rattle.trace_monitor.proofs.Going.{not_zero}
use Rattle.trace_monitor.specs.declared.ending.RunEnding.{RunEnding}
use Rattle.trace_monitor.specs.declared.ending.RunEnding.TheVariants as ending
use Rattle.trace_monitor.specs.Next.{EndsSo, is_nothing}
use Rattle.trace_monitor.specs.inner.Kept.{events_of}
use Rattle.trace_monitor.specs.inner.State.{State}
use Rattle.trace_monitor.specs.inner.Reading.{bound_at}
use Rattle.trace_monitor.specs.inner.Run.{closed_to}
use Rattle.trace_monitor.specs.inner.Waits.{AreInStep, HaltsAny, HasRunOutAny, HasTakenIn, MayCome, Waits, WaitsAgain, open_from}

-- ---- events that stay open
low_is : (b t n : ℕ) → (n == t) ≡ true → t < b → nat_le b n ≡ false
low_is b t n is low = let same = eqb-true n t is in lt-leb b n (omega arith)

kept_open : (b t : ℕ) → t < b → (ls : List Line) → open_from b (filter (λ l. not (l.time == t)) ls) ≡ open_from b ls
kept_open b t low [] = refl
kept_open b t low (l ∷ ls) = one (l.time == t) refl (kept_open b t low ls)
  where
    one : (here : Bool) → (l.time == t) ≡ here → open_from b (filter (λ l. not (l.time == t)) ls) ≡ open_from b ls → open_from b (if not here then l ∷ filter (λ l. not (l.time == t)) ls else filter (λ l. not (l.time == t)) ls) ≡ (if nat_le b l.time then l ∷ open_from b ls else open_from b ls)
    one true is rest = rest ∙ sym (ap (λ (x : Bool). if x then l ∷ open_from b ls else open_from b ls) (low_is b t l.time is low))
    one false is rest = ap (λ (more : List Line). if nat_le b l.time then l ∷ more else more) rest

le_is : (b n : ℕ) → b ≤ n → nat_le b n ≡ true
le_is b n le = le-leb b n le

all_open : (b : ℕ) (ls : List Line) → AllByRecursion (λ l. b ≤ l.time) ls → AllByRecursion (λ l. nat_le b l.time ≡ true) ls
all_open b [] all = tt
all_open b (l ∷ ls) all = (le_is b l.time all.0, all_open b ls all.1)

-- what is all from a time on stays
pub all_stay : (b : ℕ) (ls : List Line) → AllByRecursion (λ l. b ≤ l.time) ls → open_from b ls ≡ ls
all_stay b ls all = filter_all (λ l. nat_le b l.time) ls (all_open b ls all)

at_from : (b t : ℕ) → t ≡ b → (ls : List Line) → AreAt b ls → AllByRecursion (λ l. t ≤ l.time) ls
at_from b t is [] all = tt
at_from b t is (l ∷ ls) all = ((let here = all.0 in omega arith), at_from b t is ls all.1)

-- of events at one time those from another on are at that one
open_at : (b t : ℕ) → b ≤ t → (ls : List Line) → AreAt b ls → AreAt t (open_from t ls)
open_at b t later [] all = tt
open_at b t later (l ∷ ls) all = one (nat_le t l.time) refl (open_at b t later ls all.1)
  where
    one : (here : Bool) → nat_le t l.time ≡ here → AreAt t (open_from t ls) → AreAt t (if here then l ∷ open_from t ls else open_from t ls)
    one true is rest = (
      (let here : l.time ≡ b = all.0 in let from = leb-true t l.time is in omega arith),
      rest,
    )
    one false is rest = rest

none_from : (b t : ℕ) → b < t → (ls : List Line) → AreAt b ls → open_from t ls ≡ []
none_from b t later [] all = refl
none_from b t later (l ∷ ls) all = one (nat_le t l.time) refl (none_from b t later ls all.1)
  where
    one : (here : Bool) → nat_le t l.time ≡ here → open_from t ls ≡ [] → (if here then l ∷ open_from t ls else open_from t ls) ≡ []
    one true is rest = let here : l.time ≡ b = all.0 in let from = leb-true t l.time is in absurd (omega arith)
    one false is rest = rest

-- at the same time all stay, and at a later one none
open_same : (b t : ℕ) → t ≡ b → (ls : List Line) → AreAt b ls → open_from t ls ≡ ls
open_same b t is ls all = all_stay t ls (at_from b t is ls all)

-- ---- instants run
pub record HasGoneAny (first now : engine.State) : Type 0 where
  pub as_set : AreAsSet first now
  pub going : now.stop ≡ None
  pub still_open : open_from first.bound now.given ≡ open_from first.bound first.given

pub begun_any : (m : engine.State) → m.stop ≡ None → HasGoneAny m m
begun_any m going = record {
  as_set = record { system = refl; in_place = refl; order = refl; limit = refl; bound = refl };
  going = going;
  still_open = refl;
}

pub set_after : (first old new : engine.State) → AreAsSet first old → AreAsSet old new → AreAsSet first new
set_after first old new before after = record {
  system = after.system ∙ before.system;
  in_place = after.in_place ∙ before.in_place;
  order = after.order ∙ before.order;
  limit = after.limit ∙ before.limit;
  bound = after.bound ∙ before.bound;
}

module _ (first old new : engine.State) (on : HasGoneAny first old) where
  pub ran_any : HasRunAny old new → new.stop ≡ None → HasGoneAny first new
  ran_any run going =
      let early = run.early in
      let bound = on.as_set.bound in
      record {
        as_set = set_after first old new on.as_set run.as_set;
        going = going;
        still_open = ap (open_from first.bound) run.given_is ∙ kept_open first.bound run.time (omega arith) old.given ∙ on.still_open;
      }

  pub out_any : new ≡ old → IsIdle new → HasRunOutAny first new
  out_any same idle =
      let here : IsIdle old = subst (λ (m : engine.State). IsIdle m) same idle in
      let all = subst (λ (b : ℕ). AllByRecursion (λ l. b ≤ l.time) old.given) on.as_set.bound here.events in
      subst (HasRunOutAny first) (sym same) (record {
        as_set = on.as_set;
        going = on.going;
        idle = here;
        still_open = sym (all_stay first.bound old.given all) ∙ on.still_open;
      })

pub less_left_any : (old new : engine.State) → engine.IsReady old → HasRunAny old new → new.bound - new.next < old.bound - old.next
less_left_any old new ready run =
    let from = late old ready run.time run.comes run.first run.early in
    let early = run.early in
    let next_is = run.next_is in
    let bound_is = run.as_set.bound in
    omega arith

-- ---- a line
module _ (m mid : engine.State) (l : Line) (can : CanSave m) (may : MayCome m l) (ran : HasRunOutAny (closed_to m l.time) mid) where
  at_line : AreAt l.time mid.given
  at_line = subst (AreAt l.time) (sym ran.still_open) (open_at m.bound l.time may.late m.given can.at_bound)

  -- no event of the line's input is open at its time
  none_open : (i : ℕ) (value : Scalar) → l.event ≡ Some (i, value) → inputs_of mid.given i l.time ≡ None
  none_open i value is = elim (cases_lt m.bound l.time) [
    | inl before ↦ ap (λ (ls : List Line). inputs_of ls i l.time) (ran.still_open ∙ none_from m.bound l.time before m.given can.at_bound)
    | inr after ↦
        let late_is = may.late in
        let same : l.time ≡ m.bound = omega arith in
        ap (λ (ls : List Line). inputs_of ls i l.time) (ran.still_open ∙ open_same m.bound l.time same m.given can.at_bound) ∙ may.fresh i value is same
  ]

  pub can_come : (i : ℕ) (value : Scalar) → l.event ≡ Some (i, value) → CanTake mid l.time i value
  can_come i value is = record {
    unclosed = let bound = ran.as_set.bound in omega arith;
    alone = at_line;
    fresh = none_open i value is;
    fits = subst (λ (s : System). IsInputOf s i value) (sym ran.as_set.system) (may.fits i value is);
    short = may.short i value is;
  }

  events_at : AreAt l.time (events_of (l ∷ []))
  events_at = elim (is_some l.event) as (λ b. AreAt l.time (if b then l ∷ [] else [])) [
    | true ↦ (refl, tt)
    | false ↦ tt
  ]

  both_at : (xs ys : List Line) → AreAt l.time xs → AreAt l.time ys → AreAt l.time (xs ++ ys)
  both_at [] ys first second = second
  both_at (x ∷ xs) ys first second = (first.0, both_at xs ys first.1 second)

  all_given : AreAt l.time (mid.given ++ events_of (l ∷ []))
  all_given = both_at mid.given (events_of (l ∷ [])) at_line events_at

  pub saves_line : (new : engine.State) → new ≡ record mid { given = mid.given ++ events_of (l ∷ []) } → CanSave new
  saves_line new is = subst CanSave (sym is) (record {
    going = ran.going;
    idle = record {
      start = ran.idle.start;
      events = at_from l.time mid.bound ran.as_set.bound (mid.given ++ events_of (l ∷ [])) all_given;
      delays = ran.idle.delays;
    };
    at_bound = subst (λ (b : ℕ). AreAt b (mid.given ++ events_of (l ∷ []))) (sym ran.as_set.bound) all_given;
  })

  pub still_line : (new : engine.State) → new ≡ record mid { given = mid.given ++ events_of (l ∷ []) } → new.given ≡ open_from l.time m.given ++ events_of (l ∷ [])
  still_line new is = ap (λ (e : engine.State). e.given) is ∙ ap (λ (ls : List Line). ls ++ events_of (l ∷ [])) ran.still_open

-- ---- reader and engine in step
-- where no line has a time no event is open
none_is_open : (last : Option ℕ) (given : List Line) → last ≡ None → (0 < length given → IsSome last) → given ≡ []
none_is_open last [] is later = refl
none_is_open last (g ∷ given) is later = absurd (let none : false ≡ true = subst IsSome is (later (let n = length given in omega arith)) in cc)

short_value : (s : System) (l : Line) → IsProperLine s l → (i : ℕ) (value : Scalar) → l.event ≡ Some (i, value) → IsShort value
short_value s l proper i scalar.Unit is = tt
short_value s l proper i (scalar.Int z) is = tt
short_value s l proper i (scalar.Bool b) is = tt
short_value s l proper i (scalar.Text text) is = proper.short i text is

-- an input that was not seen at a time had no event there
not_seen : (last : Option ℕ) (seen : List ℕ) (given : List Line) (at t i : ℕ) → at ≡ or_zero last → t ≡ at → (0 < length given → IsSome last)
    → ((j : ℕ) → is_among seen j ≡ is_some (inputs_of given j at)) → had_now last seen t i ≡ false → inputs_of given i t ≡ None
not_seen None seen given at t i at_is same later among none = ap (λ (ls : List Line). inputs_of ls i t) (none_is_open None given refl later)
not_seen (Some u) seen given at t i at_is same later among none =
    let here : (u == t) ≡ true = eq-eqb u t (sym at_is ∙ sym same) in
    let unseen : is_among seen i ≡ false = sym (ap (λ (b : Bool). b && is_among seen i) here) ∙ none in
    nothing (inputs_of given i t) (ap (λ (n : ℕ). is_some (inputs_of given i n)) same ∙ sym (among i) ∙ unseen)
  where
    nothing : (o : Option View) → is_some o ≡ false → o ≡ None
    nothing None is = refl
    nothing (Some v) is = absurd (cc)

module _ (r new : Reader) (e : engine.State) (last : ℕ) (l : Line) (step : AreInStep r e last) (given : HasGiven r new l) where
  not_before : (last_time : Option ℕ) → last ≡ or_zero last_time → IfSome last_time (λ t. t ≤ l.time) → last ≤ l.time
  not_before None is le = omega arith
  not_before (Some u) is le = omega arith

  -- the line that the reader gives may come
  pub may_come : MayCome e l
  may_come = record {
    late = let at = step.bound_is in let le = not_before r.last step.last_is given.not_back in omega arith;
    fits = λ i value is. let p = given.proper.event i value is in subst (λ (s : System). IsInputOf s i value) (sym step.system_is) (record { at = p.at; is = p.is; op_is = p.input; typed = p.fits });
    short = short_value r.system l given.proper;
    fresh = λ i value is same. not_seen r.last r.seen e.given last l.time i step.last_is (same ∙ step.bound_is) step.open_later step.seen (given.fresh i value is);
  }

  some_both : (xs ys : List Line) (i t : ℕ) → is_some (inputs_of (xs ++ ys) i t) ≡ (is_some (inputs_of xs i t) || is_some (inputs_of ys i t))
  some_both [] ys i t = refl
  some_both (x ∷ xs) ys i t = one (event_in i t x.time x.event) (some_both xs ys i t)
    where
      one : (o : Option View) → is_some (inputs_of (xs ++ ys) i t) ≡ (is_some (inputs_of xs i t) || is_some (inputs_of ys i t)) → is_some (option_or o (inputs_of (xs ++ ys) i t)) ≡ (is_some (option_or o (inputs_of xs i t)) || is_some (inputs_of ys i t))
      one None rest = rest
      one (Some v) rest = refl

  later_than : (u t b : ℕ) → u ≤ t → (u ≡ t → ⊥) → b ≡ u → b < t
  later_than u t b le other same = elim (cases_lt u t) [
    | inl less ↦ omega arith
    | inr more ↦ absurd (other (omega arith))
  ]

  -- the inputs seen at an earlier time are forgotten, as its events are no longer open
  first_seen : (before : Option ℕ) (seen : List ℕ) (open_lines : List Line) (at bound t i : ℕ) → at ≡ or_zero before → bound ≡ at → IfSome before (λ u. u ≤ t) → AreAt bound open_lines → (0 < length open_lines → IsSome before)
      → ((j : ℕ) → is_among seen j ≡ is_some (inputs_of open_lines j at)) → is_among (if option_is t before then seen else []) i ≡ is_some (inputs_of (open_from t open_lines) i t)
  first_seen None seen open_lines at bound t i at_is bound_is le all later among = sym (ap (λ (ls : List Line). is_some (inputs_of (open_from t ls) i t)) (none_is_open None open_lines refl later))
  first_seen (Some u) seen open_lines at bound t i at_is bound_is le all later among = one (u == t) refl
    where
      one : (here : Bool) → (u == t) ≡ here → is_among (if here then seen else []) i ≡ is_some (inputs_of (open_from t open_lines) i t)
      one true is =
          let same : t ≡ u = sym (eqb-true u t is) in
          among i ∙ ap (λ (n : ℕ). is_some (inputs_of open_lines i n)) (at_is ∙ sym same)
          ∙ sym (ap (λ (ls : List Line). is_some (inputs_of ls i t)) (open_same bound t (same ∙ sym at_is ∙ sym bound_is) open_lines all))
      one false is =
          let other = eqb-false u t is in
          let at_before : bound < t = later_than u t bound le other (bound_is ∙ at_is) in
          sym (ap (λ (ls : List Line). is_some (inputs_of ls i t)) (none_from bound t at_before open_lines all))

  event_seen : (t : ℕ) (event : Option (ℕ × Scalar)) (i : ℕ) → is_among (input_in event) i ≡ is_some (inputs_of (events_of (record { time = t; event = event } ∷ [])) i t)
  event_seen t None i = refl
  event_seen t (Some ev) i = one (t == t) (ev.0 == i) (eq-eqb t t refl)
    where
      one : (same here : Bool) → same ≡ true → (here || false) ≡ is_some (option_or (if same && here then Some (Plain ev.1) else None) None)
      one true true is = refl
      one true false is = refl
      one false here is = absurd (cc)

  seen_line : (i : ℕ) → is_among (seen_with r.last r.seen l) i ≡ is_some (inputs_of (open_from l.time e.given ++ events_of (l ∷ [])) i l.time)
  seen_line i =
      list_any-append (λ j. j == i) (if option_is l.time r.last then r.seen else []) (input_in l.event)
      ∙ (λ k. first_seen r.last r.seen e.given last e.bound l.time i step.last_is step.bound_is given.not_back step.can_save.at_bound step.open_later step.seen k || event_seen l.time l.event i k)
      ∙ sym (some_both (open_from l.time e.given) (events_of (l ∷ [])) i l.time)

  -- both have taken the line
  pub steps_on : (mid : engine.State) → mid.system ≡ e.system → CanSave mid → mid.bound ≡ l.time → mid.given ≡ open_from l.time e.given ++ events_of (l ∷ []) → AreInStep new mid l.time
  steps_on mid system can bound still = record {
    system_is = system ∙ step.system_is ∙ sym given.as_set.system;
    last_is = sym (ap or_zero given.last_is);
    bound_is = bound;
    can_save = can;
    open_later = λ some. subst IsSome (sym given.last_is) refl;
    seen = λ i. ap (λ (seen : List ℕ). is_among seen i) given.seen_is ∙ seen_line i ∙ sym (ap (λ (ls : List Line). is_some (inputs_of ls i l.time)) still);
  }

-- nothing was closed, and all has run
pub still_in_step : (r : Reader) (mid new : engine.State) (last : ℕ) → AreInStep r mid last → HasRunOutAny (closed_to mid last) new → AreInStep r new last
still_in_step r mid new last step ran =
    let same : new.given ≡ mid.given = ran.still_open ∙ open_same mid.bound last (sym step.bound_is) mid.given step.can_save.at_bound in
    record {
      system_is = ran.as_set.system ∙ step.system_is;
      last_is = step.last_is;
      bound_is = ran.as_set.bound;
      can_save = record {
        going = ran.going;
        idle = ran.idle;
        at_bound = subst (λ (ls : List Line). AreAt new.bound ls) (sym same) (subst (λ (b : ℕ). AreAt b mid.given) (step.bound_is ∙ sym ran.as_set.bound) step.can_save.at_bound);
      };
      open_later = λ some. step.open_later (subst (λ (ls : List Line). 0 < length ls) same some);
      seen = λ i. step.seen i ∙ sym (ap (λ (ls : List Line). is_some (inputs_of ls i last)) same);
    }

-- where more is awaited the last time's bound stays
pub more_in_step : (r : Reader) (mid new : engine.State) (last until : ℕ) (by : Halt) → (let answer : Result Halt Stop = Ok by in answer ≡ Ok halt.More) → AreInStep r mid last → HasRunOutAny (closed_to mid (bound_at by last until)) new → AreInStep r new last
more_in_step r mid new last until halt.More is step ran = still_in_step r mid new last step ran
more_in_step r mid new last until halt.End is step ran = absurd (cc)
more_in_step r mid new last until (halt.Refused f) is step ran = absurd (cc)

-- the reader was fed
pub fed_in_step : (r new : Reader) (e : engine.State) (last : ℕ) (piece : List ℕ) → AreInStep r e last → HasTakenIn r new piece → AreInStep new e last
fed_in_step r new e last piece step taken = record {
  system_is = step.system_is ∙ sym taken.system;
  last_is = step.last_is ∙ sym (ap or_zero taken.last);
  bound_is = step.bound_is;
  can_save = step.can_save;
  open_later = λ some. subst IsSome (sym taken.last) (step.open_later some);
  seen = λ i. ap (λ (seen : List ℕ). is_among seen i) taken.seen ∙ step.seen i;
}

-- ---- lines, one after the other
pub record AreOn (first : Reader) (begun : engine.State) (r : Reader) (e : engine.State) (last : ℕ) : Type 0 where
  pub step : AreInStep r e last
  pub limit : e.limit ≡ begun.limit
  pub set : any_reader.AreAsSet first r
  pub ended : r.ended ≡ first.ended

pub none_on : (r : Reader) (e : engine.State) (last : ℕ) → AreInStep r e last → AreOn r e r e last
none_on r e last step = record { step = step; limit = refl; set = record { system = refl; strict = refl; limit = refl; taken = refl }; ended = refl }

module _ (first : Reader) (begun : engine.State) (r : Reader) (e : engine.State) (last : ℕ) (on : AreOn first begun r e last) (new : Reader) where
  pub on_line : (l : Line) (mid : engine.State) → HasAnswered r new (Ok (next.Line l)) → mid.system ≡ e.system → mid.limit ≡ e.limit → CanSave mid → mid.bound ≡ l.time
      → mid.given ≡ open_from l.time e.given ++ events_of (l ∷ []) → AreOn first begun new mid l.time
  on_line l mid given system limit can bound still = record {
    step = steps_on r new e last l on.step given mid system can bound still;
    limit = limit ∙ on.limit;
    set = set_on first r new (Ok (next.Line l)) on.set given;
    ended = ap (λ (x : Reader). x.ended) given.past.is ∙ on.ended;
  }

  -- what is so where no line is given
  pub at_more : HasAnswered r new (Ok next.More) → AreInStep new e last × HaltsAny first new halt.More
  at_more (is, awaits, within) = (
    subst (λ (x : Reader). AreInStep x e last) (sym is) on.step,
    (sym on.ended ∙ ap (λ (x : Reader). x.ended) (sym is) ∙ awaits.unended, awaits, within),
  )

  pub at_end : HasAnswered r new (Ok next.End) → AreInStep new e last × HaltsAny first new halt.End
  at_end (is, ended, rest) = (subst (λ (x : Reader). AreInStep x e last) (sym is) on.step, sym on.ended ∙ ended)

  fault_kept : (f : TraceFault) → f ≢ fault.Memory → Keeps r new (Err f) → new ≡ at_fault r f
  fault_kept (fault.BadLine n) some keeps = keeps
  fault_kept (fault.TimeTooLarge n) some keeps = keeps
  fault_kept (fault.TimeBack n b t) some keeps = keeps
  fault_kept (fault.UnknownStream n) some keeps = keeps
  fault_kept (fault.WrongValue n name) some keeps = keeps
  fault_kept (fault.Twice n name) some keeps = keeps
  fault_kept (fault.LineTooLong n) some keeps = keeps
  fault_kept (fault.TraceTooLong n) some keeps = keeps
  fault_kept fault.Memory some keeps = absurd (some refl)

  pub at_refusal : (f : TraceFault) → f ≢ fault.Memory → HasAnswered r new (Err f) → AreInStep new e last × HaltsAny first new (halt.Refused f)
  at_refusal f some answered =
      let is = fault_kept f some answered.0 in
      let step = on.step in (
        subst (λ (x : Reader). AreInStep x e last) (sym is) (record {
          system_is = step.system_is;
          last_is = step.last_is;
          bound_is = step.bound_is;
          can_save = step.can_save;
          open_later = step.open_later;
          seen = step.seen;
        }),
        ap (λ (x : Reader). x.refused) is,
      )

-- ---- the monitor
pub fault_named : (s : System) → IsProper s → (halted : Result Halt Stop) → IfErr halted (NamesRunning s) → (t i : ℕ) (kind : FaultKind) → halted ≡ Err (stop.Fault t i kind) → i < length s.equations
fault_named s proper halted named t i kind is =
    runs_below s proper i (subst (λ (h : Result Halt Stop). IfErr h (NamesRunning s)) is named)

pub memory_names : (s : System) (why : Stop) → why ≡ stop.Memory → NamesRunning s why
memory_names s why is = subst (NamesRunning s) (sym is) tt

-- ---- a piece
no_bytes : (piece : List ℕ) → is_nothing piece ≡ true → length piece ≡ 0
no_bytes [] is = refl
no_bytes (b ∷ piece) is = absurd (let e : false ≡ true = not_zero (length piece) ∙ is in cc)

pub finished_in : (old new : Reader) (piece : List ℕ) → AwaitsMore old → is_nothing piece ≡ true → (old.ended ≡ false → HasEnded old new) → HasTakenIn old new piece
finished_in old new piece awaits end ended =
    let is = (ended awaits.unended).is in
    let size = no_bytes piece end in
    record {
      system = ap (λ (r : Reader). r.system) is;
      strict = ap (λ (r : Reader). r.strict) is;
      limit = ap (λ (r : Reader). r.limit) is;
      taken = let taken = ap (λ (r : Reader). r.taken) is in omega arith;
      ended = ap (λ (r : Reader). r.ended) is ∙ sym end;
      last = ap (λ (r : Reader). r.last) is;
      seen = ap (λ (r : Reader). r.seen) is;
    }

pub fed_in : (old new : Reader) (piece : List ℕ) → AwaitsMore old → is_nothing piece ≡ false → HasFed old new piece → HasTakenIn old new piece
fed_in old new piece awaits some fed = record {
  system = ap (λ (r : Reader). r.system) fed.is;
  strict = ap (λ (r : Reader). r.strict) fed.is;
  limit = ap (λ (r : Reader). r.limit) fed.is;
  taken = ap (λ (r : Reader). r.taken) fed.is;
  ended = ap (λ (r : Reader). r.ended) fed.is ∙ awaits.unended ∙ sym some;
  last = ap (λ (r : Reader). r.last) fed.is;
  seen = ap (λ (r : Reader). r.seen) fed.is;
}

module _ (old now at : State) (piece : List ℕ) (waits : Waits old) (is : at ≡ now) (rest : now ≡ record old { reader = now.reader }) (taken : HasTakenIn old.reader now.reader piece) where
  taken_here : HasTakenIn old.reader at.reader piece
  taken_here = subst (λ (a : State). HasTakenIn old.reader a.reader piece) (sym is) taken

  same : at ≡ record old { reader = at.reader }
  same = is ∙ rest ∙ ap (λ (a : State). record old { reader = a.reader }) (sym is)

  -- reader and engine begin in step
  pub begins_in_step : AreInStep at.reader at.engine at.last
  begins_in_step = subst (λ (a : State). AreInStep a.reader a.engine a.last) (sym same) (fed_in_step old.reader at.reader old.engine old.last piece waits.in_step taken_here)

  pub one_system : at.engine.system ≡ at.system
  one_system = subst (λ (a : State). a.engine.system ≡ a.system) (sym same) (waits.in_step.system_is ∙ waits.system_is)

  module _ (r : Reader) (e : engine.State) (last : ℕ) (halted : Result Halt Stop) (halts : IfOk halted (HaltsAny at.reader r)) where
    -- the equation of a fault is there
    pub fault_there : IsProper at.system → IfErr halted (NamesRunning at.engine.system) → (t i : ℕ) (kind : FaultKind) → halted ≡ Err (stop.Fault t i kind) → i < length at.system.equations
    fault_there proper named = fault_named at.system proper halted (subst (λ (s : System). IfErr halted (NamesRunning s)) one_system named)

    again_by : (by : Halt) → HaltsAny at.reader r by → (let answer : Result Halt Stop = Ok by in answer ≡ Ok halt.More → AreInStep r e last) → e.limit ≡ at.engine.limit → any_reader.AreAsSet at.reader r
        → EndsSo at.system (Ok by) None → WaitsAgain old (record old { reader = r; last = last; engine = e }) piece
    again_by halt.More (unended, awaits, within) in_step limit set ends =
        let fed = taken_here in
        record {
          some = sym fed.ended ∙ unended;
          taken = set.taken ∙ fed.taken;
          waits = record {
            system_is = set.system ∙ fed.system ∙ waits.system_is;
            strict_is = set.strict ∙ fed.strict ∙ waits.strict_is;
            bytes_limit = set.limit ∙ fed.limit ∙ waits.bytes_limit;
            instants_limit = limit ∙ ap (λ (a : State). a.engine.limit) same ∙ waits.instants_limit;
            awaits = awaits;
            within = within;
            in_step = in_step refl;
          };
        }
    again_by halt.End halted in_step limit set ends = absurd (cc)
    again_by (halt.Refused f) halted in_step limit set ends = absurd (cc)

    -- where the run goes on the monitor waits again
    pub waits_again : (halted ≡ Ok halt.More → AreInStep r e last) → OnOk halted (e.limit ≡ at.engine.limit) → any_reader.AreAsSet at.reader r → EndsSo at.system halted None
        → WaitsAgain old (record at { reader = r; last = last; engine = e }) piece
    waits_again in_step limit set ends =
        subst (λ (a : State). WaitsAgain old (record a { reader = r; last = last; engine = e }) piece) (sym same) (from halted halts in_step limit ends)
      where
        from : (h : Result Halt Stop) → IfOk h (HaltsAny at.reader r) → (h ≡ Ok halt.More → AreInStep r e last) → OnOk h (e.limit ≡ at.engine.limit) → EndsSo at.system h None
            → WaitsAgain old (record old { reader = r; last = last; engine = e }) piece
        from (Ok by) halts in_step limit ends = again_by by halts in_step limit set ends
        from (Err why) halts in_step limit (by, none, so) = absurd (cc)

    -- the run is done only at the end
    pub done_at_end : EndsSo at.system halted (Some ending.Done) → is_nothing piece ≡ true
    done_at_end ends = sym taken_here.ended ∙ from halted halts ends
      where
        some_same : (a b : RunEnding) → Some a ≡ Some b → a ≡ b
        some_same a b p = cc

        from : (h : Result Halt Stop) → IfOk h (HaltsAny at.reader r) → EndsSo at.system h (Some ending.Done) → at.reader.ended ≡ true
        from (Ok halt.More) halts ends = absurd (cc)
        from (Ok halt.End) halts ends = halts
        from (Ok (halt.Refused f)) halts ends = absurd (let e = some_same ending.Done (ending.Trace f) ends in cc)
        from (Err (stop.Fault t i kind)) halts (by, is, (place, there, so)) = absurd (let e = some_same ending.Done by is ∙ so in cc)
        from (Err (stop.Limit count t)) halts (by, is, so) = absurd (let e = some_same ending.Done by is ∙ so in cc)
        from (Err stop.Memory) halts (by, is, none) = absurd none
