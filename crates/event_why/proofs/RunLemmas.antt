-- From instant to instant, in drafts that tell of streams.
use Rattle.std.proofs.Common.{◌≡◌, ◌==◌, ℕ, zero, suc, ◌<◌, ◌≤◌, Bool, true, false, ◌||◌, List, [], ◌∷◌, length, Option, Some, None, refl, sym, ap, subst, ◌∙◌, inl, inr, arith}
use Rattle.std.proofs.lemmas.Bool.{eq-eqb, eqb-true, false≢true, or_cases}
use Rattle.std.proofs.lemmas.List.{length-replicate}
use Rattle.std.proofs.lemmas.Option.{none-some, same_Some}
use Rattle.std.proofs.Math.Bool.{or-true}
use Rattle.std.specs.Prelude.{◌⊎◌, IsTrue, if◌then◌else◌, replicate, slice_set}
use Rattle.std.specs.List.{AllByRecursion}
use Rattle.flat_core.specs.declared.equation.Op.{Op}
use Rattle.flat_core.specs.declared.equation.Op.TheVariants as op
use Rattle.flat_core.specs.declared.equation.Equation.{Equation}
use Rattle.flat_core.specs.Case.{Streams, used_of}
use Rattle.flat_core.specs.Members.{is_in}
use Rattle.flat_core.specs.System.{equation, runs}
use Rattle.flat_core.specs.inner.Dependency.{IsOrdered, with_one}
use Rattle.tsl_value.specs.View.{View}
use Rattle.flat_core.specs.Stream.{event}
use Rattle.why_rules.specs.Facts.{Fact, Happens, Silent}
use Rattle.event_why.specs.declared.draft.Draft.{Draft}
use Rattle.event_why.specs.declared.fact.WhyStep.{WhyStep}
use Rattle.event_why.specs.Said.{said}
use Rattle.event_why.specs.inner.Drafted.{AreWithin, IsBlank, IsDraft, IsGrounded, IsPut, KeepsFacts, SaysTheSame, fact_at, fact_of, number_at}
use Rattle.flat_core.proofs.Shapes.{shape_of}
use Rattle.event_why.specs.inner.Tale.{CanTell, CanWait, GroundsEvent, GroundsSilence, HasPast, HasQuiet, HasLatest, IsAt, IsRun, IsOver, IsStory, IsUpTo, StandsAt, Tale, Tells, always, delay_args_of, due_after, due_at, due_fact, due_told, here_of, is_kept, passed}
use Rattle.event_why.specs.inner.Tale as tale
use Rattle.event_why.proofs.CalmLemmas.{delay_from_args}
use Rattle.event_why.proofs.DraftLemmas.{fact_within, grown_by}
use Rattle.event_why.proofs.LookLemmas.{number_none}
use Rattle.event_why.proofs.TaleLemmas.{at_grown, at_times, passed_before, passed_not, passed_other, running_there, same_or_not, set_due, set_here, stands_as}

-- what happens now is forgotten
pub forget : (T : Tale) (past due : ℕ → ℕ) (t u : ℕ) (done : ℕ → Bool) (draft : Draft) → IsAt T past due t done draft → IsAt T past due u (λ i. false) draft
forget T past due t u done draft at = record {
  right = at.right;
  latest = at.latest;
  quiet = at.quiet;
  pending = at.pending;
  now_count = at.now_count;
  latest_count = at.latest_count;
  quiet_count = at.quiet_count;
  due_count = at.due_count;
  kept = at.kept;
  pends = at.pends;
  here = λ i is run. absurd (false≢true is);
}

-- ---- a loop over all equations
module _ (T : Tale) (story : IsStory T) (past due : ℕ → ℕ) (t : ℕ) (done : ℕ → Bool) (after before : ℕ) (draft : Draft) where
  pub past_start : IsAt T (always before) due t done draft → IsAt T (passed 0 after before) due t done draft
  past_start at =
      at_times T story (always before) (passed 0 after before) due due t done draft.steps.items draft.here.numbers.items draft.latest.numbers.items draft.quiet.numbers.items draft.pending.numbers.items
      (λ v low. sym (passed_not 0 after before v (omega arith))) (λ i low. refl) at

  pub past_end : (k : ℕ) → length T.system.equations ≤ k → IsAt T (passed k after before) due t done draft → IsAt T (always after) due t done draft
  past_end k end at =
      at_times T story (passed k after before) (always after) due due t done draft.steps.items draft.here.numbers.items draft.latest.numbers.items draft.quiet.numbers.items draft.pending.numbers.items
      (λ v low. passed_before k after before v (omega arith)) (λ i low. refl) at

  pub due_start : IsAt T past (always before) t done draft → IsAt T past (passed 0 after before) t done draft
  due_start at =
      at_times T story past past (always before) (passed 0 after before) t done draft.steps.items draft.here.numbers.items draft.latest.numbers.items draft.quiet.numbers.items draft.pending.numbers.items
      (λ v low. refl) (λ i low. ap (λ n. due_told T.system T.streams n i) (sym (passed_not 0 after before i (omega arith)))) at

  pub due_end : (k : ℕ) → length T.system.equations ≤ k → IsAt T past (passed k after before) t done draft → IsAt T past (always after) t done draft
  due_end k end at =
      at_times T story past past (passed k after before) (always after) t done draft.steps.items draft.here.numbers.items draft.latest.numbers.items draft.quiet.numbers.items draft.pending.numbers.items
      (λ v low. refl) (λ i low. ap (λ n. due_told T.system T.streams n i) (passed_before k after before i (omega arith))) at

  -- an equation that isn't kept has no past
  pub past_skip : (k : ℕ) → is_kept T.kept k ≡ false → IsAt T (passed k after before) due t done draft → IsAt T (passed (suc k) after before) due t done draft
  past_skip k not_kept at = record {
    right = at.right;
    latest = at.latest;
    quiet = at.quiet;
    pending = at.pending;
    now_count = at.now_count;
    latest_count = at.latest_count;
    quiet_count = at.quiet_count;
    due_count = at.due_count;
    kept = λ v is. elim (same_or_not v k) [
      | inl same ↦ absurd (false≢true (sym not_kept ∙ ap (is_kept T.kept) (sym same) ∙ is))
      | inr other ↦ subst (HasPast draft.steps.items draft.latest.numbers.items draft.quiet.numbers.items T.streams v) (passed_other k after before v other) (at.kept v is)
    ];
    pends = at.pends;
    here = at.here;
  }

  -- of an equation that is no delay nothing is told
  pub due_skip : (k : ℕ) → ((n m : ℕ) → due_told T.system T.streams n k ≡ due_told T.system T.streams m k) → IsAt T past (passed k after before) t done draft → IsAt T past (passed (suc k) after before) t done draft
  due_skip k alike at =
      at_times T story past past (passed k after before) (passed (suc k) after before) t done draft.steps.items draft.here.numbers.items draft.latest.numbers.items draft.quiet.numbers.items draft.pending.numbers.items
      (λ v low. refl)
      (λ i low. elim (same_or_not i k) [
        | inl same ↦
            ap (due_told T.system T.streams (passed k after before i)) same ∙ alike (passed k after before i) (passed (suc k) after before i)
            ∙ ap (due_told T.system T.streams (passed (suc k) after before i)) (sym same)
        | inr other ↦ ap (λ n. due_told T.system T.streams n i) (passed_other k after before i other)
      ])
      at

-- ---- a loop over the order
pub record IsPartly (T : Tale) (t : ℕ) (rest : List ℕ) (draft : Draft) : Type 0 where
  pub done : ℕ → Bool
  pub ordered : IsOrdered T.system done rest
  pub is_at : IsAt T (always t) (always t) t done draft
  pub all : (i : ℕ) → i < length T.system.equations → IsTrue (done i) ⊎ IsTrue (is_in rest i)

module _ (T : Tale) (story : IsStory T) (t : ℕ) (draft : Draft) where
  pub partly_start : IsUpTo T t draft → IsPartly T t T.order draft
  partly_start at = record {
    done = λ i. false;
    ordered = story.ordered.ordered;
    is_at = forget T (always t) (always t) 0 t (λ i. false) draft at;
    all = λ i low. inr (story.ordered.all i low);
  }

  pub partly_end : (rest : List ℕ) → rest ≡ [] → IsPartly T t rest draft → IsRun T t draft
  partly_end rest end part = record {
    right = part.is_at.right;
    latest = part.is_at.latest;
    quiet = part.is_at.quiet;
    pending = part.is_at.pending;
    now_count = part.is_at.now_count;
    latest_count = part.is_at.latest_count;
    quiet_count = part.is_at.quiet_count;
    due_count = part.is_at.due_count;
    kept = part.is_at.kept;
    pends = part.is_at.pends;
    here = λ i is run. elim (part.all i (running_there T story i run)) [
      | inl done ↦ part.is_at.here i done run
      | inr left ↦ absurd (false≢true (ap (λ xs. is_in xs i) (sym end) ∙ left))
    ];
  }

-- one more of the order
pub record IsNextOf (T : Tale) (t x : ℕ) (draft : Draft) : Type 0 where
  pub done : ℕ → Bool
  pub at : Equation
  pub is : equation T.system x ≡ Some at
  pub used : AllByRecursion (λ a. IsTrue (done a)) (used_of at.op at.args)
  pub is_at : IsAt T (always t) (always t) t done draft
  pub rest : List ℕ
  pub ordered : IsOrdered T.system (with_one x done) rest
  pub all : (i : ℕ) → i < length T.system.equations → IsTrue (with_one x done i) ⊎ IsTrue (is_in rest i)

pub next_of : (T : Tale) (t x : ℕ) (xs rest : List ℕ) (draft : Draft) → xs ≡ x ∷ rest → IsPartly T t xs draft → (n : IsNextOf T t x draft) × (n.rest ≡ rest)
next_of T t x xs rest draft is part =
    let ordered = subst (IsOrdered T.system part.done) is part.ordered in (
      record {
        done = part.done;
        at = ordered.0;
        is = ordered.1;
        used = ordered.3;
        is_at = part.is_at;
        rest = rest;
        ordered = ordered.4;
        all = λ i low. elim (part.all i low) [
          | inl done ↦ inl ((λ k. (i == x) || done k) ∙ or-true (i == x))
          | inr left ↦ elim (or_cases (x == i) (is_in rest i) (ap (λ ys. is_in ys i) (sym is) ∙ left)) [
            | inl same ↦ inl (λ k. eq-eqb i x (sym (eqb-true x i same)) k || part.done i)
            | inr further ↦ inr further
          ]
        ];
      },
      refl,
    )

pub partly_next : (T : Tale) (t x : ℕ) (old new : Draft) (n : IsNextOf T t x old) → IsAt T (always t) (always t) t (with_one x n.done) new → (rest : List ℕ) → n.rest ≡ rest → IsPartly T t rest new
partly_next T t x old new n at rest is = subst (λ xs. IsPartly T t xs new) is (record { done = with_one x n.done; ordered = n.ordered; is_at = at; all = n.all })

-- ---- after a prune
module _ (old : List WhyStep) (before : List (Option ℕ)) (new : List WhyStep) (after : List (Option ℕ)) (same : SaysTheSame old before new after) where
  quiet_pruned : (v low n : ℕ) → HasQuiet old before v low n → HasQuiet new after v low n
  quiet_pruned v low n (tale.HasQuiet.none is) = tale.HasQuiet.none (same.none v is)
  quiet_pruned v low n (tale.HasQuiet.some le at) = tale.HasQuiet.some le (same.same v _ at)

  latest_pruned : (T : Tale) (v low : ℕ) → HasLatest old before T.streams v low → HasLatest new after T.streams v low
  latest_pruned T v low (tale.HasLatest.none is) = tale.HasLatest.none (same.none v is)
  latest_pruned T v low (tale.HasLatest.some is at) = tale.HasLatest.some is (same.same v _ at)

  fact_pruned : (i : ℕ) → AreWithin old before → (x : Option Fact) → fact_of old before i ≡ x → fact_of new after i ≡ x
  fact_pruned i within None is = ap (fact_at new) (same.none i (number_none old before i within is))
  fact_pruned i within (Some f) is = same.same i f is

pub at_pruned : (T : Tale) (past due : ℕ → ℕ) (old new : Draft) → IsDraft T.system T.system.running T.inputs new × KeepsFacts old new → IsAt T past due 0 (λ i. false) old → IsAt T past due 0 (λ i. false) new
at_pruned T past due old new p at = record {
  right = p.0.right;
  latest = p.0.latest;
  quiet = p.0.quiet;
  pending = p.0.pending;
  now_count = p.1.here_count ∙ at.now_count;
  latest_count = p.1.latest.count ∙ at.latest_count;
  quiet_count = p.1.quiet.count ∙ at.quiet_count;
  due_count = p.1.pending.count ∙ at.due_count;
  kept = λ v is.
      let past_v = at.kept v is in
      record {
        low = past_v.low;
        since = quiet_pruned old.steps.items old.quiet.numbers.items new.steps.items new.quiet.numbers.items p.1.quiet v past_v.low (past v) past_v.since;
        event_at = latest_pruned old.steps.items old.latest.numbers.items new.steps.items new.latest.numbers.items p.1.latest T v past_v.low past_v.event_at;
        silent = past_v.silent;
      };
  pends = λ i. fact_pruned old.steps.items old.pending.numbers.items new.steps.items new.pending.numbers.items p.1.pending i at.pending (due_told T.system T.streams (due i) i) (at.pends i);
  here = λ i is run. absurd (false≢true is);
}

pub draft_of : (T : Tale) (past due : ℕ → ℕ) (t : ℕ) (done : ℕ → Bool) (draft : Draft) → IsAt T past due t done draft → IsDraft T.system T.system.running T.inputs draft
draft_of T past due t done draft at = record { right = at.right; latest = at.latest; quiet = at.quiet; pending = at.pending }

-- ---- nothing is told yet
fact_zero : (z : Streams) (i : ℕ) (o : Op) (args : List ℕ) → due_fact z i o args 0 ≡ None
fact_zero z i op.Delay (d ∷ r ∷ []) = refl
fact_zero z i op.Delay [] = refl
fact_zero z i op.Delay (d ∷ []) = refl
fact_zero z i op.Delay (d ∷ r ∷ x ∷ args) = refl
fact_zero z i o args = refl

told_zero : (T : Tale) (i : ℕ) → due_told T.system T.streams 0 i ≡ None
told_zero T i = found (runs T.system i) (equation T.system i)
  where
    found : (b : Bool) (at : Option Equation) → (if b then due_at at T.streams i 0 else None) ≡ None
    found false at = refl
    found true None = refl
    found true (Some e) = fact_zero T.streams i e.op e.args

none_at : (n i : ℕ) → number_at (replicate n None) i ≡ None
none_at zero i = refl
none_at (suc n) zero = refl
none_at (suc n) (suc i) = none_at n i

pub blank_at : (T : Tale) (draft : Draft) → IsBlank (length T.system.equations) draft → IsUpTo T 0 draft
blank_at T draft b =
    stands_as T (always 0) (always 0) 0 (λ i. false) [] draft.steps.items b.steps (replicate n None) (replicate n None) (replicate n None) (replicate n None)
    draft.here.numbers.items draft.latest.numbers.items draft.quiet.numbers.items draft.pending.numbers.items b.here b.latest b.quiet b.pending
    (record {
      right = λ k lt. absurd (omega arith);
      latest = λ i k is. absurd (none-some k (sym (none_at n i) ∙ is));
      quiet = λ i k is. absurd (none-some k (sym (none_at n i) ∙ is));
      pending = λ i k is. absurd (none-some k (sym (none_at n i) ∙ is));
      now_count = length-replicate n None;
      latest_count = length-replicate n None;
      quiet_count = length-replicate n None;
      due_count = length-replicate n None;
      kept = λ v is. record { low = 0; since = tale.HasQuiet.none (none_at n v); event_at = tale.HasLatest.none (none_at n v); silent = λ w above below. absurd (omega arith) };
      pends = λ i. ap (fact_at []) (none_at n i) ∙ sym (nothing_told i);
      here = λ i is run. absurd (false≢true is);
    })
  where
    n : ℕ
    n = length T.system.equations

    nothing_told : (i : ℕ) → due_told T.system T.streams 0 i ≡ None
    nothing_told i = told_zero T i

-- ---- what happens at one equation
module _ (T : Tale) (t i : ℕ) (e : Equation) (old : Draft) (c : CanTell T t i e old) (new : Draft) (step : WhyStep) (n : ℕ) (put : IsPut old new step n) where
  pub put_event : (v : View) → event (T.streams i t) ≡ Some v → GroundsEvent old e i step.by.items → said step.fact ≡ Happens i t v → Tells T old new n (here_of T.streams t i)
  put_event v at grounds says =
      let so : said step.fact ≡ here_of T.streams t i = says ∙ sym (ap (tale.fact_here i t) at) in
      subst (λ f. Tells T old new n f) so
      (grown_by T.system T.system.running T.inputs old new step n put (subst (λ f. IsGrounded T.system T.system.running T.inputs old.steps.items f step.by.items) (sym says) (grounds T t v c at)))

  pub put_silence : event (T.streams i t) ≡ None → GroundsSilence old e i t step.by.items → said step.fact ≡ Silent i t t → Tells T old new n (here_of T.streams t i)
  put_silence at grounds says =
      let so : said step.fact ≡ here_of T.streams t i = says ∙ sym (ap (tale.fact_here i t) at) in
      subst (λ f. Tells T old new n f) so
      (grown_by T.system T.system.running T.inputs old new step n put (subst (λ f. IsGrounded T.system T.system.running T.inputs old.steps.items f step.by.items) (sym says) (grounds T c at)))

-- of an equation that does not run nothing has to be told
pub skip_here : (T : Tale) (past due : ℕ → ℕ) (t : ℕ) (done : ℕ → Bool) (i : ℕ) (draft : Draft) → (IsTrue (runs T.system i) → ⊥) → IsAt T past due t done draft → IsAt T past due t (with_one i done) draft
skip_here T past due t done i draft idle at = record {
  right = at.right;
  latest = at.latest;
  quiet = at.quiet;
  pending = at.pending;
  now_count = at.now_count;
  latest_count = at.latest_count;
  quiet_count = at.quiet_count;
  due_count = at.due_count;
  kept = at.kept;
  pends = at.pends;
  here = λ j is run. elim (or_cases (j == i) (done j) is) [
    | inl same ↦ absurd (idle (subst (λ k. IsTrue (runs T.system k)) (eqb-true j i same) run))
    | inr before ↦ at.here j before run
  ];
}

-- the number of what happens is kept
pub run_put : (T : Tale) (story : IsStory T) (t i : ℕ) (done : ℕ → Bool) (old mid new : Draft) (n : ℕ) → IsTrue (runs T.system i) → Tells T old mid n (here_of T.streams t i) → IsAt T (always t) (always t) t done old → new.steps.items ≡ mid.steps.items → new.here.numbers.items ≡ slice_set mid.here.numbers.items i (Some n) → new.latest.numbers.items ≡ mid.latest.numbers.items → new.quiet.numbers.items ≡ mid.quiet.numbers.items → new.pending.numbers.items ≡ mid.pending.numbers.items → IsAt T (always t) (always t) t (with_one i done) new
run_put T story t i done old mid new n run g at steps_is here_is latest_is quiet_is pending_is =
    let stands = at_grown T (always t) (always t) t done old mid n (here_of T.streams t i) g at in
    stands_as T (always t) (always t) t (with_one i done) mid.steps.items new.steps.items steps_is
    (slice_set mid.here.numbers.items i (Some n)) mid.latest.numbers.items mid.quiet.numbers.items mid.pending.numbers.items
    new.here.numbers.items new.latest.numbers.items new.quiet.numbers.items new.pending.numbers.items here_is latest_is quiet_is pending_is
    (set_here T t (always t) (always t) done mid.steps.items mid.here.numbers.items mid.latest.numbers.items mid.quiet.numbers.items mid.pending.numbers.items i n (running_there T story i run) g.here stands)

-- ---- when one delay is due after an instant
pub due_put : (T : Tale) (story : IsStory T) (past : ℕ → ℕ) (t i d r : ℕ) (e : Equation) (run : IsTrue (runs T.system i)) → equation T.system i ≡ Some e → e.op ≡ op.Delay → e.args ≡ d ∷ r ∷ [] → (old mid new : Draft) (n : ℕ) → Tells T old mid n (due_after T t i d r) → IsAt T past (passed i (suc t) t) t (runs T.system) old → new.steps.items ≡ mid.steps.items → new.here.numbers.items ≡ mid.here.numbers.items → new.latest.numbers.items ≡ mid.latest.numbers.items → new.quiet.numbers.items ≡ mid.quiet.numbers.items → new.pending.numbers.items ≡ slice_set mid.pending.numbers.items i (Some n) → IsAt T past (passed (suc i) (suc t) t) t (runs T.system) new
due_put T story past t i d r e run is op_is args_are old mid new n g at steps_is here_is latest_is quiet_is pending_is =
    let stands = at_grown T past (passed i (suc t) t) t (runs T.system) old mid n (due_after T t i d r) g at in
    let told_so : due_told T.system T.streams (passed (suc i) (suc t) t i) i ≡ Some (due_after T t i d r) =
    ap (λ m. due_told T.system T.streams m i) (passed_before (suc i) (suc t) t i (omega arith))
    ∙ (λ k. if run k then due_at (is k) T.streams i (suc t) else None) ∙ (λ k. due_fact T.streams i (op_is k) (args_are k) (suc t)) in
    stands_as T past (passed (suc i) (suc t) t) t (runs T.system) mid.steps.items new.steps.items steps_is
    mid.here.numbers.items mid.latest.numbers.items mid.quiet.numbers.items (slice_set mid.pending.numbers.items i (Some n))
    new.here.numbers.items new.latest.numbers.items new.quiet.numbers.items new.pending.numbers.items here_is latest_is quiet_is pending_is
    (set_due T t past (passed i (suc t) t) (passed (suc i) (suc t) t) (runs T.system) mid.steps.items mid.here.numbers.items mid.latest.numbers.items mid.quiet.numbers.items mid.pending.numbers.items i n (due_after T t i d r)
    (running_there T story i run) g.here (fact_within mid.steps.items n (due_after T t i d r) g.here).1 told_so (λ j other. passed_other i (suc t) t j other) stands)

pub can_tell : (T : Tale) (story : IsStory T) (t i : ℕ) → t < T.bound → IsTrue (runs T.system i) → (e f : Equation) → equation T.system i ≡ Some e → equation T.system i ≡ Some f → (done : ℕ → Bool) → AllByRecursion (λ a. IsTrue (done a)) (used_of e.op e.args) → (draft : Draft) → IsAt T (always t) (always t) t done draft → CanTell T t i f draft
can_tell T story t i early run e f at_e at_f done used draft at = record {
  story = story;
  early = early;
  run = run;
  is = at_f;
  done = done;
  is_at = at;
  used = subst (λ (g : Equation). AllByRecursion (λ a. IsTrue (done a)) (used_of g.op g.args)) (same_Some e f (sym at_e ∙ at_f)) used;
}

pub wait_put : (T : Tale) (story : IsStory T) (past : ℕ → ℕ) (t i : ℕ) → t < T.bound → (e : Equation) (run : IsTrue (runs T.system i)) → equation T.system i ≡ Some e → (x : ℕ × ℕ) → delay_args_of e.op e.args ≡ Some x → (old mid new : Draft) (n : ℕ) → (CanWait T t i x.0 x.1 old → Tells T old mid n (due_after T t i x.0 x.1)) → IsAt T past (passed i (suc t) t) t (runs T.system) old → new.steps.items ≡ mid.steps.items → new.here.numbers.items ≡ mid.here.numbers.items → new.latest.numbers.items ≡ mid.latest.numbers.items → new.quiet.numbers.items ≡ mid.quiet.numbers.items → new.pending.numbers.items ≡ slice_set mid.pending.numbers.items i (Some n) → IsAt T past (passed (suc i) (suc t) t) t (runs T.system) new
wait_put T story past t i early e run is x args old mid new n put at steps_is here_is latest_is quiet_is pending_is =
    let known = delay_from_args e.op e.args (shape_of T.system story.whole i e is) x args in
    let wait : CanWait T t i x.0 x.1 old = record {
      story = story;
      early = early;
      at = e;
      run = run;
      is = is;
      op_is = known.0;
      args_are = known.1;
      past = past;
      due = passed i (suc t) t;
      is_at = at;
      due_is = passed_not i (suc t) t i (omega arith);
    } in
    due_put T story past t i x.0 x.1 e run is known.0 known.1 old mid new n (put wait) at steps_is here_is latest_is quiet_is pending_is
