-- What happens at one instant, from what a draft tells of earlier times.
use Rattle.std.proofs.Common.{◌≡◌, ◌==◌, ℕ, zero, suc, ◌+◌, ◌<◌, ◌≤◌, ◌^◌, Bool, true, false, ◌||◌, List, [], ◌∷◌, length, Option, Some, None, Ok, Err, refl, sym, ap, subst, ◌∙◌, inl, inr, arith, get_or-set_same, get_or-set_other}
use Rattle.std.proofs.lemmas.Bool.{cases_Bool, cases_lt, eq-eqb, eqb-true, false≢true, lt-ltb, or_cases, true≢false}
use Rattle.std.proofs.lemmas.List.{length-replicate}
use Rattle.std.proofs.lemmas.Option.{same_Some, slice_get_within}
use Rattle.std.proofs.Math.Bool.{or-true}
use Rattle.std.proofs.Math.ListN.{length-set}
use Rattle.std.specs.Prelude.{◌⊎◌, IsTrue, if◌then◌else◌, is_some, nat_lt, replicate, slice_index, slice_index_or, slice_set}
use Rattle.std.specs.List.{AllByRecursion, list_any}
use Rattle.std.specs.Option.{option_and_then, option_map, option_or}
use Rattle.tsl_value.specs.View.{View}
use Rattle.tsl_value.specs.declared.scalar.ValueType.{ValueType}
use Rattle.lift_func.specs.Apply.{Answer}
use Rattle.lift_func.specs.declared.fault.FaultKind.{FaultKind}
use Rattle.flat_core.specs.declared.equation.Op.{Op}
use Rattle.flat_core.specs.declared.equation.Op.TheVariants as op
use Rattle.flat_core.specs.declared.equation.Equation.{Equation}
use Rattle.flat_core.specs.Case.{Streams, amount_fault, case_of, delayed, is_blocked, lasting, own, own_of, root_fault, root_of, used_of}
use Rattle.flat_core.specs.Events.{Inputs, at_once, fault_of, outcome_of, refused, unit}
use Rattle.flat_core.specs.Fault.{root_at}
use Rattle.flat_core.specs.Line.{Line, inputs_of}
use Rattle.flat_core.specs.Members.{is_in}
use Rattle.flat_core.specs.Pending.{option_is, pending}
use Rattle.flat_core.specs.Stream.{Fault, event, has_event, is_fault, latest}
use Rattle.flat_core.specs.System.{System, equation, runs}
use Rattle.flat_core.specs.inner.Arity.{HasArity}
use Rattle.flat_core.specs.inner.Dependency.{IsOrdered, IsRunOrder, with_one}
use Rattle.flat_core.specs.inner.Kept.{IsKept}
use Rattle.flat_core.specs.inner.TypedEvents.{IsOf}
use Rattle.flat_core.proofs.DueLemmas.{delay_kept, delayed_is-due}
use Rattle.flat_core.proofs.Shapes.{running_args, shape_of}
use Rattle.flat_core.proofs.TypedCase.{IsTypedAt, is_of_from, values_typed}
use Rattle.flat_core.proofs.Uniqueness.{used_all}
use Rattle.plain_solver.specs.declared.events.Outcome as code
use Rattle.plain_solver.specs.inner.Moments.{seen}
use Rattle.plain_solver.specs.inner.Instant.{AreSound, IsFirstRoot}
use Rattle.plain_solver.specs.inner.Typed.{TakesValues}
use Rattle.why_rules.proofs.AtOnce.{values}
use Rattle.why_rules.proofs.Instants.{delay_args}
use Rattle.event_why.specs.declared.draft.Draft.{Draft}
use Rattle.event_why.specs.declared.fact.WhyStep.{WhyStep}
use Rattle.event_why.specs.inner.Drafted.{due_of, fact_at, fact_of}
use Rattle.event_why.specs.inner.Here.{CanHappen, HasHappened, IsOutcomeAt, IsPartOfRow, events_in, latest_told, value_of}
use Rattle.event_why.specs.inner.Row.{CanRun, IsRow, row_at}
use Rattle.event_why.specs.inner.Tale.{HasLatest, HasPast, Tale, due_at, due_fact, due_time}
use Rattle.event_why.specs.inner.Tale as tale
use Rattle.event_why.proofs.ListedFacts.{last_two, two_exist}
use Rattle.event_why.proofs.LookLemmas.{latest_from, quiet_within}
use Rattle.event_why.proofs.TaleLemmas.{same_or_not}

-- ---- a row that has what streams have
module _ (z : Streams) (t : ℕ) (row : List (Option code.Outcome)) where
  pub events_same : (args : List ℕ) → AllByRecursion (λ a. row_at row a ≡ z a t) args → events_in row args ≡ values z args t
  events_same [] same = refl
  events_same (a ∷ args) same = let rest = events_same args same.1 in λ k. event (same.0 k) ∷ rest k

  pub faults_same : (args : List ℕ) → AllByRecursion (λ a. row_at row a ≡ z a t) args → list_any (λ a. is_fault (row_at row a)) args ≡ list_any (λ a. is_fault (z a t)) args
  faults_same [] same = refl
  faults_same (a ∷ args) same = let rest = faults_same args same.1 in λ k. is_fault (same.0 k) || rest k

  -- the operations that see their arguments at one time
  pub own_made : (p : Inputs) (i : ℕ) (of : ValueType) (o : Op) (args : List ℕ) → ¬ (o ≡ op.Input) → ¬ (o ≡ op.Last) → ¬ (o ≡ op.Delay) → AllByRecursion (λ a. row_at row a ≡ z a t) (used_of o args) → own_of p z i o args of t ≡ at_once o of (events_in row args) t
  own_made p i of op.Input args no_input no_last no_delay used = absurd (no_input refl)
  own_made p i of op.Last args no_input no_last no_delay used = absurd (no_last refl)
  own_made p i of op.Delay args no_input no_last no_delay used = absurd (no_delay refl)
  own_made p i of o args no_input no_last no_delay used = ap (λ vs. at_once o of vs t) (sym (events_same args used))

-- ---- when a delay is due, of times below 2^63
pub due_time_small : (x : Option ℕ) (u : ℕ) → u < 2 ^ 63 → option_is u (due_time x) ≡ option_is u x
due_time_small None u low = refl
due_time_small (Some n) u low = chosen (nat_lt n (2 ^ 63)) refl
  where
    chosen : (b : Bool) → nat_lt n (2 ^ 63) ≡ b → option_is u (if b then Some n else None) ≡ (n == u)
    chosen true is = refl
    chosen false is = sym (eqb-false-from n u (λ same. false≢true (sym is ∙ lt-ltb n (2 ^ 63) (subst (λ m. m < 2 ^ 63) (sym same) low))))
      where
        eqb-false-from : (a b : ℕ) → (a ≡ b → ⊥) → (a == b) ≡ false
        eqb-false-from a b other = elim (cases_Bool (a == b)) [
          | inl same ↦ absurd (other (eqb-true a b same))
          | inr not ↦ not
        ]

-- ---- one equation
module _ (T : Tale) (lines : List Line) (t i : ℕ) (e : Equation) (draft : Draft) (row : List (Option code.Outcome)) (c : CanHappen T lines t i e draft row) where
  abbrev p : Inputs
  p = T.inputs

  abbrev z : Streams
  z = T.streams

  abbrev steps : List WhyStep
  steps = draft.steps.items

  shape : HasArity e.op e.args
  shape = shape_of T.system c.can.story.whole i e c.is

  solved : z i t ≡ case_of p z i e t
  solved = c.can.solves.each i e c.run c.is t (omega arith)

  -- ---- Last
  module _ (op_is : e.op ≡ op.Last) (a r : ℕ) (args_are : e.args ≡ a ∷ r ∷ []) where
    past : HasPast steps draft.latest.numbers.items draft.quiet.numbers.items z a t
    past = c.can.up_to.kept a (c.can.story.kept.first i e c.run c.is op_is a r args_are)

    latest_is : latest_told draft a ≡ latest (z a) t
    latest_is = found past.low past.event_at ∙ sym (latest_from (z a) past.low t (quiet_within steps draft.quiet.numbers.items a past.low t past.since) past.silent)
      where
        found : (low : ℕ) → HasLatest steps draft.latest.numbers.items z a low → latest_told draft a ≡ latest (z a) low
        found low (tale.HasLatest.none is) = ap (λ n. value_of (fact_at steps n)) is
        found low (tale.HasLatest.some {u = u} {x = x} at fact) = ap value_of fact ∙ sym (λ k. option_or (at k) (latest (z a) u))

    asked_is : row_at row r ≡ z r t
    asked_is = (subst (λ xs. AllByRecursion (λ b. row_at row b ≡ z b t) xs) (λ k. used_of (op_is k) (args_are k)) c.used).0

    lasting_is : lasting z e.args t ≡ (if has_event (row_at row r) then latest_told draft a else None)
    lasting_is = ap (λ xs. lasting z xs t) args_are ∙ sym (λ k. if has_event (asked_is k) then latest_is k else None)

  lasting_by : (v : Option View) → e.op ≡ op.Last → v ≡ (if has_event (row_at row (slice_index e.args 1)) then latest_told draft (slice_index e.args 0) else None) → v ≡ lasting z e.args t
  lasting_by v op_is is =
      let args = two_exist e.args (last_two e.op e.args op_is shape) in
      is ∙ ap (λ xs. if has_event (row_at row (slice_index xs 1)) then latest_told draft (slice_index xs 0) else None) args.2 ∙ sym (lasting_is op_is args.0 args.1 args.2)

  pub lasting_some : (v : Option View) (a r : ℕ) (x : Option View) (w : View) → e.op ≡ op.Last → a ≡ slice_index e.args 0 → r ≡ slice_index e.args 1 → x ≡ event (row_at row r) → x ≡ Some w → v ≡ latest_told draft a → v ≡ lasting z e.args t
  lasting_some v a r x w op_is first second asked there is =
      let has : has_event (row_at row (slice_index e.args 1)) ≡ true = ap (λ n. has_event (row_at row n)) (sym second) ∙ ap is_some (sym asked ∙ there) in
      lasting_by v op_is (is ∙ ap (latest_told draft) first ∙ sym (λ k. if has k then latest_told draft (slice_index e.args 0) else None))

  -- ---- Delay
  module _ (op_is : e.op ≡ op.Delay) (d r : ℕ) (args_are : e.args ≡ d ∷ r ∷ []) where
    abbrev waiting : ℕ → Option ℕ
    waiting n = pending (z d) (z r) (z i) n

    due_is : fact_of steps draft.pending.numbers.items i ≡ due_fact z i op.Delay (d ∷ r ∷ []) t
    due_is = c.can.up_to.pends i ∙ (λ k. if c.run k then due_at (c.is k) z i t else None) ∙ (λ k. due_fact z i (op_is k) (args_are k) t)

    kept : IsKept z i op.Delay (d ∷ r ∷ []) t
    kept = λ w low. delay_kept T.system p z (suc t) c.can.solves i e c.run c.is op_is d r args_are w (omega arith)

    due_from : (n : ℕ) → n < 2 ^ 63 → option_is n (due_of (due_fact z i op.Delay (d ∷ r ∷ []) n)) ≡ option_is n (waiting n)
    due_from zero low = refl
    due_from (suc m) low = due_time_small (waiting (suc m)) (suc m) low

    delayed_is : t < 2 ^ 63 → delayed z i e.args t ≡ (if option_is t (due_of (fact_of steps draft.pending.numbers.items i)) then Some unit else None)
    delayed_is low =
        ap (λ xs. delayed z i xs t) args_are ∙ delayed_is-due z i t d r kept
        ∙ (λ k. if (sym (due_from t low) ∙ ap (λ f. option_is t (due_of f)) (sym due_is)) k then Some unit else None)

  pub delayed_by : (v : Option View) → e.op ≡ op.Delay → t < 2 ^ 63 → (b : Bool) → b ≡ option_is t (due_of (fact_of steps draft.pending.numbers.items i)) → v ≡ (if b then Some unit else None) → v ≡ delayed z i e.args t
  delayed_by v op_is low b b_is is =
      let args = delay_args e.args (subst (λ o. HasArity o e.args) op_is shape) in
      is ∙ (λ k. if b_is k then Some unit else None) ∙ sym (delayed_is op_is args.0 args.1 args.2 low)

  -- ---- by its own case
  pub own_given : (v : Option View) → e.op ≡ op.Input → v ≡ inputs_of lines i t → own p z i e t ≡ Ok v
  own_given v op_is is = ap (λ o. own_of p z i o e.args e.of t) op_is ∙ ap Ok (sym (is ∙ c.can.given i c.run))

  pub own_lasting : (v : Option View) → e.op ≡ op.Last → v ≡ lasting z e.args t → own p z i e t ≡ Ok v
  own_lasting v op_is is = ap (λ o. own_of p z i o e.args e.of t) op_is ∙ ap Ok (sym is)

  pub own_delayed : (v : Option View) → e.op ≡ op.Delay → v ≡ delayed z i e.args t → own p z i e t ≡ Ok v
  own_delayed v op_is is = ap (λ o. own_of p z i o e.args e.of t) op_is ∙ ap Ok (sym is)

  pub own_at_once : ¬ (e.op ≡ op.Input) → ¬ (e.op ≡ op.Last) → ¬ (e.op ≡ op.Delay) → own p z i e t ≡ at_once e.op e.of (events_in row e.args) t
  own_at_once no_input no_last no_delay = own_made z t row p i e.of e.op e.args no_input no_last no_delay c.used

  blocked_is : list_any (λ a. is_fault (row_at row a)) (used_of e.op e.args) ≡ is_blocked z e t
  blocked_is = faults_same z t row (used_of e.op e.args) c.used

  pub happens_blocked : list_any (λ a. is_fault (row_at row a)) (used_of e.op e.args) ≡ true → Some Fault ≡ z i t
  happens_blocked blocked = sym (solved ∙ (λ k. if (sym blocked_is ∙ blocked) k then Some Fault else outcome_of (own p z i e t)))

  pub happens_own : list_any (λ a. is_fault (row_at row a)) (used_of e.op e.args) ≡ false → (a : Answer) → own p z i e t ≡ a → outcome_of a ≡ z i t
  happens_own free a is = sym (solved ∙ (λ k. if (sym blocked_is ∙ free) k then Some Fault else outcome_of (is k)))

-- ---- values that an operation takes

-- each running equation has nothing in a row, or what it has in the streams
pub record IsFromStreams (T : Tale) (t : ℕ) (row : List (Option code.Outcome)) : Type 0 where
  pub each : (a : ℕ) → IsTrue (runs T.system a) → (slice_index_or row a None ≡ None) ⊎ (row_at row a ≡ T.streams a t)

pub from_part : (T : Tale) (t : ℕ) (done : ℕ → Bool) (row : List (Option code.Outcome)) → IsPartOfRow T t done row → IsFromStreams T t row
from_part T t done row part = record {
  each = λ a run. elim (cases_Bool (done a)) [
    | inl is ↦ inr (part.here a is run)
    | inr not ↦ inl (part.none a (λ is also. false≢true (sym not ∙ is)))
  ];
}

pub from_row : (T : Tale) (t : ℕ) (row : List (Option code.Outcome)) → IsRow T t row → IsFromStreams T t row
from_row T t row all = record { each = λ a run. inr (all.here a run) }

module _ (T : Tale) (s : System) (lines : List Line) (t : ℕ) (draft : Draft) (row : List (Option code.Outcome)) (can : CanRun T s lines t draft) where
  abbrev row_streams : Streams
  row_streams a u = row_at row a

  taken : IsFromStreams T t row → (i : ℕ) (e : Equation) → IsTrue (runs T.system i) → equation T.system i ≡ Some e → TakesValues e (events_in row e.args)
  taken from i e run is =
      let g = can.story.whole.complete.typed.each i e is in
      record { types = g.types; typed = g.typed; fit = values_typed T.system row_streams t e.args g.types g.arguments (all_typed e.args (running_args T.system can.story.whole.proper i e run is)) }
    where
      typed_one : (a : ℕ) → IsTrue (runs T.system a) → IsTypedAt T.system row_streams t a
      typed_one a running f at = elim (from.each a running) [
        | inl nothing ↦ subst (IsOf f.of) (sym (ap (λ o. event (option_map seen o)) nothing)) refl
        | inr same ↦ subst (IsOf f.of) (sym (ap event same)) (is_of_from f.of (event (T.streams a t)) (λ v has. can.typed.each a f running at t (omega arith) v has))
      ]

      all_typed : (args : List ℕ) → AllByRecursion (λ a. IsTrue (runs T.system a)) args → AllByRecursion (IsTypedAt T.system row_streams t) args
      all_typed [] all = tt
      all_typed (a ∷ args) all = (typed_one a all.0, all_typed args all.1)

  pub takes_values : IsFromStreams T t row → (i : ℕ) (e : Equation) → IsTrue (runs s i) → equation s i ≡ Some e → TakesValues e (events_in row e.args)
  takes_values from i e run is = taken from i e (subst (λ (f : System). IsTrue (runs f i)) (sym can.system_is) run) (subst (λ (f : System). equation f i ≡ Some e) (sym can.system_is) is)

  -- the system's own record
  own_system : CanRun T T.system lines t draft
  own_system = record {
    story = can.story;
    bound_is = can.bound_is;
    system_is = refl;
    solves = can.solves;
    typed = can.typed;
    given = can.given;
    up_to = can.up_to;
  }

  -- ---- one of the order
  can_happen : (done : ℕ → Bool) → IsPartOfRow T t done row → (i : ℕ) (e f : Equation) → equation T.system i ≡ Some e → AllByRecursion (λ a. IsTrue (done a)) (used_of e.op e.args) → IsTrue (runs T.system i) → equation s i ≡ Some f → CanHappen T lines t i f draft row
  can_happen done part i e f at used run is =
      let is_here : equation T.system i ≡ Some f = subst (λ (g : System). equation g i ≡ Some f) (sym can.system_is) is in
      let same : e ≡ f = same_Some e f (sym at ∙ is_here) in
      record {
        can = own_system;
        run = run;
        is = is_here;
        used = subst (λ (g : Equation). AllByRecursion (λ a. row_at row a ≡ T.streams a t) (used_of g.op g.args)) same
            (joined (used_of e.op e.args) used (used_all (λ a. IsTrue (runs T.system a)) e.op e.args (running_args T.system can.story.whole.proper i e run at)));
      }
    where
      joined : (args : List ℕ) → AllByRecursion (λ a. IsTrue (done a)) args → AllByRecursion (λ a. IsTrue (runs T.system a)) args → AllByRecursion (λ a. row_at row a ≡ T.streams a t) args
      joined [] is_done runs_all = tt
      joined (a ∷ args) is_done runs_all = (part.here a is_done.0 runs_all.0, joined args is_done.1 runs_all.1)

  pub outcome_running : (done : ℕ → Bool) → IsPartOfRow T t done row → (i : ℕ) (e f : Equation) → equation T.system i ≡ Some e → AllByRecursion (λ a. IsTrue (done a)) (used_of e.op e.args) → IsTrue (runs s i) → equation s i ≡ Some f → (o : Option code.Outcome) → (CanHappen T lines t i f draft row → option_map seen o ≡ T.streams i t) → IsOutcomeAt T t i o
  outcome_running done part i e f at used run is o happens = record {
    here = λ running. happens (can_happen done part i e f at used running is);
    idle = λ not. absurd (not (subst (λ (g : System). IsTrue (runs g i)) (sym can.system_is) run));
  }

  -- ---- one of a whole row
  pub has_happened : IsRow T t row → (i : ℕ) (e : Equation) → IsTrue (runs s i) → equation s i ≡ Some e → HasHappened T t i e row
  has_happened all i e run is =
      let running : IsTrue (runs T.system i) = subst (λ (g : System). IsTrue (runs g i)) (sym can.system_is) run in
      let at : equation T.system i ≡ Some e = subst (λ (g : System). equation g i ≡ Some e) (sym can.system_is) is in
      record {
        solved = can.solves.each i e running at t (omega arith);
        here = all.here i running;
        each = joined e.args (running_args T.system can.story.whole.proper i e running at);
      }
    where
      joined : (args : List ℕ) → AllByRecursion (λ a. IsTrue (runs T.system a)) args → AllByRecursion (λ a. row_at row a ≡ T.streams a t) args
      joined [] runs_all = tt
      joined (a ∷ args) runs_all = (all.here a runs_all.0, joined args runs_all.1)

-- an equation that is not there or does not run
pub no_outcome : (T : Tale) (t i : ℕ) → (IsTrue (runs T.system i) → ⊥) → IsOutcomeAt T t i None
no_outcome T t i idle = record { here = λ run. absurd (idle run); idle = λ not. refl }

-- ---- a loop over the order
pub record IsPartly (T : Tale) (t : ℕ) (rest : List ℕ) (row : List (Option code.Outcome)) : Type 0 where
  pub done : ℕ → Bool
  pub ordered : IsOrdered T.system done rest
  pub part : IsPartOfRow T t done row
  pub all : (i : ℕ) → i < length T.system.equations → IsTrue (done i) ⊎ IsTrue (is_in rest i)

abbrev nothing : ℕ → List (Option code.Outcome)
nothing n = replicate n None

none_at : (n i : ℕ) → slice_index_or (nothing n) i None ≡ None
none_at zero i = refl
none_at (suc n) zero = refl
none_at (suc n) (suc i) = none_at n i

pub partly_start : (T : Tale) (t : ℕ) (order : List ℕ) → IsRunOrder T.system order → (n : ℕ) → n ≡ length T.system.equations → (row : List (Option code.Outcome)) → row ≡ replicate n None → IsPartly T t order row
partly_start T t order ordered n long row is =
    subst (IsPartly T t order) (sym is)
    (record {
      done = λ i. false;
      ordered = ordered.ordered;
      part = record {
        one_each = length-replicate n None ∙ long;
        here = λ i is_done run. absurd (false≢true is_done);
        none = λ i not. none_at n i;
      };
      all = λ i low. inr (ordered.all i low);
    })

part_set : (T : Tale) (t : ℕ) (done : ℕ → Bool) (row : List (Option code.Outcome)) (x : ℕ) (o : Option code.Outcome) → x < length row → IsOutcomeAt T t x o → IsPartOfRow T t done row → IsPartOfRow T t (with_one x done) (slice_set row x o)
part_set T t done row x o low out part = record {
  one_each = length-set row x o ∙ part.one_each;
  here = λ j is run. elim (same_or_not j x) [
    | inl same ↦
        ap (row_at (slice_set row x o)) same ∙ ap (option_map seen) (get_or-set_same row x o None low)
        ∙ out.here (subst (λ k. IsTrue (runs T.system k)) same run) ∙ ap (λ k. T.streams k t) (sym same)
    | inr other ↦ elim (or_cases (j == x) (done j) is) [
      | inl one ↦ absurd (other (eqb-true j x one))
      | inr before ↦ ap (option_map seen) (get_or-set_other row x j o None other) ∙ part.here j before run
    ]
  ];
  none = λ j not. elim (same_or_not j x) [
    | inl same ↦
        ap (λ k. slice_index_or (slice_set row x o) k None) same ∙ get_or-set_same row x o None low
        ∙ out.idle (λ run. not (λ k. eq-eqb j x same k || done j) (subst (λ k. IsTrue (runs T.system k)) (sym same) run))
    | inr other ↦ get_or-set_other row x j o None other ∙ part.none j (λ is run. not ((λ k. (j == x) || is k) ∙ or-true (j == x)) run)
  ];
}

-- one more of the order
pub record IsNextOf (T : Tale) (t x : ℕ) (rest : List ℕ) (row : List (Option code.Outcome)) : Type 0 where
  pub done : ℕ → Bool
  pub at : Equation
  pub is : equation T.system x ≡ Some at
  pub used : AllByRecursion (λ a. IsTrue (done a)) (used_of at.op at.args)
  pub part : IsPartOfRow T t done row
  pub ordered : IsOrdered T.system (with_one x done) rest
  pub all : (i : ℕ) → i < length T.system.equations → IsTrue (with_one x done i) ⊎ IsTrue (is_in rest i)

pub next_of : (T : Tale) (t x : ℕ) (xs rest : List ℕ) (row : List (Option code.Outcome)) → xs ≡ x ∷ rest → IsPartly T t xs row → IsNextOf T t x rest row
next_of T t x xs rest row is partly =
    let ordered = subst (IsOrdered T.system partly.done) is partly.ordered in
    record {
      done = partly.done;
      at = ordered.0;
      is = ordered.1;
      used = ordered.3;
      part = partly.part;
      ordered = ordered.4;
      all = λ i low. elim (partly.all i low) [
        | inl done ↦ inl ((λ k. (i == x) || done k) ∙ or-true (i == x))
        | inr left ↦ elim (or_cases (x == i) (is_in rest i) (ap (λ ys. is_in ys i) (sym is) ∙ left)) [
          | inl same ↦ inl (λ k. eq-eqb i x (sym (eqb-true x i same)) k || partly.done i)
          | inr further ↦ inr further
        ]
      ];
    }

next_low : (T : Tale) (t x : ℕ) (rest : List ℕ) (row : List (Option code.Outcome)) → IsNextOf T t x rest row → x < length row
next_low T t x rest row n = let low = slice_get_within T.system.equations x n.at n.is in let long = n.part.one_each in omega (arith, low, long)

pub partly_next : (T : Tale) (t x : ℕ) (rest : List ℕ) (row : List (Option code.Outcome)) (n : IsNextOf T t x rest row) (o : Option code.Outcome) → IsOutcomeAt T t x o → IsPartly T t rest (slice_set row x o)
partly_next T t x rest row n o out = record {
  done = with_one x n.done;
  ordered = n.ordered;
  part = part_set T t n.done row x o (next_low T t x rest row n) out n.part;
  all = n.all;
}

-- an equation of the order is there
pub next_there : (T : Tale) (t x : ℕ) (rest : List ℕ) (row : List (Option code.Outcome)) → IsNextOf T t x rest row → length row ≤ x → ⊥
next_there T t x rest row n past = let low = next_low T t x rest row n in omega (arith, low, past)

pub partly_end : (T : Tale) (t : ℕ) (rest : List ℕ) (row : List (Option code.Outcome)) → rest ≡ [] → ((i : ℕ) → IsTrue (runs T.system i) → i < length T.system.equations) → IsPartly T t rest row → IsRow T t row
partly_end T t rest row end there partly = record {
  one_each = partly.part.one_each;
  here = λ i run. elim (partly.all i (there i run)) [
    | inl done ↦ partly.part.here i done run
    | inr left ↦ absurd (false≢true (ap (λ xs. is_in xs i) (sym end) ∙ left))
  ];
}

-- ---- root faults
-- what has no fault has no root fault
fault_free : (b : Bool) (a : Answer) → is_fault (if b then Some Fault else outcome_of a) ≡ false → (if b then None else fault_of a) ≡ None
fault_free true a free = refl
fault_free false (Ok None) free = refl
fault_free false (Ok (Some v)) free = refl
fault_free false (Err kind) free = absurd (true≢false free)

-- only what is seen at one time can fault
own_fault_is : (p : Inputs) (z : Streams) (i t : ℕ) (of : ValueType) (o : Op) (args : List ℕ) → fault_of (own_of p z i o args of t) ≡ fault_of (at_once o of (values z args t) t)
own_fault_is p z i t of op.Input args = refl
own_fault_is p z i t of op.Last args = refl
own_fault_is p z i t of op.Delay args = refl
own_fault_is p z i t of o args = refl

module _ (T : Tale) (t i : ℕ) (e : Equation) (row : List (Option code.Outcome)) (h : HasHappened T t i e row) where
  abbrev root : Option FaultKind
  root = if is_blocked T.streams e t then None else fault_of (own T.inputs T.streams i e t)

  pub root_free : is_fault (row_at row i) ≡ false → root ≡ None
  root_free free = fault_free (is_blocked T.streams e t) (own T.inputs T.streams i e t) (sym (ap is_fault (h.here ∙ h.solved)) ∙ free)

  used_blocked : list_any (λ a. is_fault (row_at row a)) (used_of e.op e.args) ≡ is_blocked T.streams e t
  used_blocked = faults_same T.streams t row (used_of e.op e.args) (used_all (λ a. row_at row a ≡ T.streams a t) e.op e.args h.each)

  pub root_blocked : list_any (λ a. is_fault (row_at row a)) (used_of e.op e.args) ≡ true → root ≡ None
  root_blocked blocked = λ k. if (sym used_blocked ∙ blocked) k then None else fault_of (own T.inputs T.streams i e t)

  pub root_made : list_any (λ a. is_fault (row_at row a)) (used_of e.op e.args) ≡ false → (a : Answer) → at_once e.op e.of (events_in row e.args) t ≡ a → root ≡ fault_of a
  root_made free a is =
      (λ k. if (sym used_blocked ∙ free) k then None else fault_of (own T.inputs T.streams i e t))
      ∙ own_fault_is T.inputs T.streams i t e.of e.op e.args
      ∙ ap (λ vs. fault_of (at_once e.op e.of vs t)) (sym (events_same T.streams t row e.args h.each)) ∙ ap fault_of is

  root_other : (o : Op) → ¬ (o ≡ op.Delay) → root_of T.inputs T.streams i e o t ≡ root
  root_other op.Delay no_delay = absurd (no_delay refl)
  root_other o no_delay = refl

  pub root_own : (k : Option FaultKind) → ¬ (e.op ≡ op.Delay) → root ≡ k → root_fault T.inputs T.streams i e t ≡ k
  root_own k no_delay is = root_other e.op no_delay ∙ is

  pub root_delay : (k : Option FaultKind) → e.op ≡ op.Delay → HasArity e.op e.args → k ≡ refused (event (row_at row (slice_index e.args 0))) → root_fault T.inputs T.streams i e t ≡ k
  root_delay k op_is has is =
      let args = delay_args e.args (subst (λ o. HasArity o e.args) op_is has) in
      let first = subst (λ xs. AllByRecursion (λ a. row_at row a ≡ T.streams a t) xs) args.2 h.each in
      ap (λ o. root_of T.inputs T.streams i e o t) op_is ∙ ap (λ xs. amount_fault T.streams xs t) args.2
      ∙ ap (λ o. refused (event o)) (sym first.0) ∙ sym (is ∙ ap (λ xs. refused (event (row_at row (slice_index xs 0)))) args.2)

pub none_there : (o : Option FaultKind) → ((kind : FaultKind) → ¬ (o ≡ Some kind)) → o ≡ None
none_there None other = refl
none_there (Some kind) other = absurd (other kind refl)

-- ---- a loop over all equations
module _ (T : Tale) (s : System) (lines : List Line) (t : ℕ) (draft : Draft) (can : CanRun T s lines t draft) where
  pub sound_start : AreSound T.system T.inputs T.streams t 0
  sound_start j low run = absurd (omega arith)

  sound_more : (n : ℕ) → (IsTrue (runs T.system n) → root_at T.system T.inputs T.streams t n ≡ None) → AreSound T.system T.inputs T.streams t n → AreSound T.system T.inputs T.streams t (n + 1)
  sound_more n here before j low run = elim (cases_lt j n) [
    | inl early ↦ before j early run
    | inr late ↦
        let same : j ≡ n = omega (arith, low, late) in
        ap (root_at T.system T.inputs T.streams t) same ∙ here (subst (λ k. IsTrue (runs T.system k)) same run)
  ]

  root_at_is : (i : ℕ) (e : Equation) (k : Option FaultKind) → equation s i ≡ Some e → root_fault T.inputs T.streams i e t ≡ k → root_at T.system T.inputs T.streams t i ≡ k
  root_at_is i e k is root = ap (λ (f : System). root_at f T.inputs T.streams t i) can.system_is ∙ ap (option_and_then (λ g. root_fault T.inputs T.streams i g t)) is ∙ root

  pub sound_skip : (n i : ℕ) → i ≡ n → runs s i ≡ false → AreSound T.system T.inputs T.streams t n → AreSound T.system T.inputs T.streams t (n + 1)
  sound_skip n i same idle = sound_more n (λ run. absurd (false≢true (sym idle ∙ ap (runs s) same ∙ subst (λ (f : System). IsTrue (runs f n)) can.system_is run)))

  sound_next : (n i : ℕ) → i ≡ n → root_at T.system T.inputs T.streams t i ≡ None → AreSound T.system T.inputs T.streams t n → AreSound T.system T.inputs T.streams t (n + 1)
  sound_next n i same none = sound_more n (λ run. ap (root_at T.system T.inputs T.streams t) (sym same) ∙ none)

  pub sound_after : (n i : ℕ) → i ≡ n → (e : Equation) → equation s i ≡ Some e → root_fault T.inputs T.streams i e t ≡ None → AreSound T.system T.inputs T.streams t n → AreSound T.system T.inputs T.streams t (n + 1)
  sound_after n i same e is root = sound_next n i same (root_at_is i e None is root)

  pub root_found : (n i : ℕ) → i ≡ n → (e : Equation) (kind : FaultKind) → IsTrue (runs s i) → equation s i ≡ Some e → root_fault T.inputs T.streams i e t ≡ Some kind → AreSound T.system T.inputs T.streams t n → IsFirstRoot T.system T.inputs T.streams t (Some (i, kind))
  root_found n i same e kind run is root before = (
    subst (λ (f : System). IsTrue (runs f i)) (sym can.system_is) run,
    root_at_is i e (Some kind) is root,
    subst (AreSound T.system T.inputs T.streams t) (sym same) before,
  )

  pub no_root : (n : ℕ) → length s.equations ≤ n → AreSound T.system T.inputs T.streams t n → IsFirstRoot T.system T.inputs T.streams t None
  no_root n end before j low run =
      let long = ap (λ (f : System). length f.equations) can.system_is in
      before j (omega (arith, low, end, long)) run
