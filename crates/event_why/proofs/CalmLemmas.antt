-- Times at which nothing happens, in drafts that tell of streams.
use Rattle.std.proofs.Common.{◌≡◌, ◌==◌, ℕ, zero, suc, ◌<◌, ◌≤◌, Bool, true, false, ◌&&◌, ◌||◌, List, [], ◌∷◌, length, Contains, Option, Some, None, refl, sym, ap, subst, ◌∙◌, inl, inr, arith}
use Rattle.std.proofs.lemmas.Bool.{eqb-true, false≢true, or_cases}
use Rattle.std.proofs.lemmas.Option.{none-some, same_Some}
use Rattle.std.proofs.Math.Bool.{or-true}
use Rattle.std.specs.Prelude.{IsTrue, if◌then◌else◌, is_none, slice_set}
use Rattle.std.specs.List.{filter}
use Rattle.std.specs.Option.{option_map}
use Rattle.tsl_value.proofs.Lists.{cons_cases, here, later, none_in_nil}
use Rattle.flat_core.specs.declared.equation.Op.{Op}
use Rattle.flat_core.specs.declared.equation.Op.TheVariants as op
use Rattle.flat_core.specs.declared.equation.Equation.{Equation}
use Rattle.flat_core.specs.Case.{Streams}
use Rattle.flat_core.specs.Instant.{is_delay, is_delay_op}
use Rattle.flat_core.specs.Members.{is_in}
use Rattle.flat_core.specs.Pending.{pending}
use Rattle.flat_core.specs.System.{System, equation, runs}
use Rattle.flat_core.specs.inner.Arity.{HasArity}
use Rattle.flat_core.proofs.Members.{all_at}
use Rattle.flat_core.proofs.Rising.{head_in, in_filter}
use Rattle.flat_core.proofs.Shapes.{running_args, shape_of}
use Rattle.flat_core.proofs.StillLemmas.{pending_still}
use Rattle.why_rules.specs.Facts.{Fact, Gap, Pending}
use Rattle.why_rules.specs.Rules.{AllWait, IsAfter, IsMember, NothingGiven}
use Rattle.why_rules.specs.Rules as rule
use Rattle.why_rules.proofs.Instants.{at_next, delay_args}
use Rattle.event_why.specs.declared.draft.Draft.{Draft}
use Rattle.event_why.specs.declared.fact.WhyStep.{WhyStep}
use Rattle.event_why.specs.Check.{AreNamed}
use Rattle.event_why.specs.Said.{said}
use Rattle.event_why.specs.inner.Drafted.{AreWithin, IsGrounded, IsPut, due_of, fact_at, fact_of, number_at, there}
use Rattle.event_why.specs.inner.Tale.{IsAt, IsCalm, IsStory, IsUpTo, Tale, Tells, always, delay_args_of, due_at, due_fact, due_time, due_told, passed}
use Rattle.event_why.proofs.CheckLemmas.{output_at}
use Rattle.event_why.proofs.DraftLemmas.{fact_within, ground, grown_by, told, there_end, there_next}
use Rattle.event_why.proofs.TaleLemmas.{at_grown, at_times, passed_before, passed_not, passed_other, running_there, same_or_not, set_due, stands_as}
use Rattle.event_why.proofs.WaitLemmas.{not_due_in}

-- ---- what is told of a delay
delay_is : (o : Op) → is_delay_op o ≡ true → o ≡ op.Delay
delay_is op.Delay is = refl
delay_is o is = absurd (false≢true is)

-- a delay that runs, with its arguments
pub record IsDelay (T : Tale) (i : ℕ) : Type 0 where
  pub run : IsTrue (runs T.system i)
  pub at : Equation
  pub is : equation T.system i ≡ Some at
  pub op_is : at.op ≡ op.Delay
  pub d : ℕ
  pub r : ℕ
  pub args_are : at.args ≡ d ∷ r ∷ []

module _ (T : Tale) (i : ℕ) where
  abbrev s : System
  s = T.system

  abbrev z : Streams
  z = T.streams

  pub told_of : (a : IsDelay T i) (n : ℕ) → due_told s z n i ≡ due_fact z i op.Delay (a.d ∷ a.r ∷ []) n
  told_of a n = (λ k. if a.run k then due_at (a.is k) z i n else None) ∙ (λ k. due_fact z i (a.op_is k) (a.args_are k) n)

  pub delay_told : (n : ℕ) (f : Fact) → due_told s z n i ≡ Some f → IsDelay T i
  delay_told n f is = run_is (runs s i) refl
    where
      shape_is : (e : Equation) → IsTrue (runs s i) → equation s i ≡ Some e → (o : Op) (args : List ℕ) → e.op ≡ o → e.args ≡ args → due_fact z i o args n ≡ Some f → IsDelay T i
      shape_is e run at op.Delay (d ∷ r ∷ []) op_is args_are there = record { run = run; at = e; is = at; op_is = op_is; d = d; r = r; args_are = args_are }
      shape_is e run at op.Delay [] op_is args_are there = absurd (none-some f there)
      shape_is e run at op.Delay (d ∷ []) op_is args_are there = absurd (none-some f there)
      shape_is e run at op.Delay (d ∷ r ∷ x ∷ args) op_is args_are there = absurd (none-some f there)
      shape_is e run at o args op_is args_are there = absurd (none-some f there)

      found_is : IsTrue (runs s i) → (found : Option Equation) → equation s i ≡ found → due_at found z i n ≡ Some f → IsDelay T i
      found_is run None at there = absurd (none-some f there)
      found_is run (Some e) at there = shape_is e run at e.op e.args refl refl there

      run_is : (b : Bool) → runs s i ≡ b → IsDelay T i
      run_is false not_run = absurd (none-some f (sym (λ k. if not_run k then due_at (equation s i) z i n else None) ∙ is))
      run_is true run = found_is run (equation s i) refl (sym (λ k. if run k then due_at (equation s i) z i n else None) ∙ is)

  pub delay_from : IsStory T → (IsTrue (runs s i)) → is_delay (equation s i) ≡ true → IsDelay T i
  delay_from story run is =
      let found = story.whole.proper.runs_all i run in
      let e = found.0 in
      let op_is = delay_is e.op (sym (ap is_delay found.1) ∙ is) in
      let args = delay_args e.args (subst (λ o. HasArity o e.args) op_is (shape_of s story.whole i e found.1)) in
      record { run = run; at = e; is = found.1; op_is = op_is; d = args.0; r = args.1; args_are = args.2 }

  pub reset_runs : IsStory T → (a : IsDelay T i) → IsTrue (runs s a.r)
  reset_runs story a = all_at (λ b. IsTrue (runs s b)) a.at.args (running_args s story.whole.proper i a.at a.run a.is) a.r (at_next a.d a.r a.at.args [] a.args_are)

  -- where it is not told of a delay after one time it isn't after another
  pub none_told : (n m : ℕ) → due_told s z (suc n) i ≡ None → due_told s z m i ≡ None
  none_told n m none = at (due_told s z m i) refl
    where
      at : (x : Option Fact) → due_told s z m i ≡ x → due_told s z m i ≡ None
      at None is = is
      at (Some f) is = let a = delay_told m f is in absurd (none-some _ (sym none ∙ told_of a (suc n)))

-- an equation that is no delay, or does not run
pub idle_alike : (T : Tale) (i : ℕ) → runs T.system i ≡ false → (n m : ℕ) → due_told T.system T.streams n i ≡ due_told T.system T.streams m i
idle_alike T i idle n m =
    (λ k. if idle k then due_at (equation T.system i) T.streams i n else None) ∙ sym (λ k. if idle k then due_at (equation T.system i) T.streams i m else None)

pub other_alike : (T : Tale) (i : ℕ) (e : Equation) → equation T.system i ≡ Some e → delay_args_of e.op e.args ≡ None → (n m : ℕ) → due_told T.system T.streams n i ≡ due_told T.system T.streams m i
other_alike T i e is none n m = never n ∙ sym (never m)
  where
    never : (u : ℕ) → due_told T.system T.streams u i ≡ None
    never u = at (due_told T.system T.streams u i) refl
      where
        at : (x : Option Fact) → due_told T.system T.streams u i ≡ x → due_told T.system T.streams u i ≡ None
        at None same = same
        at (Some f) same =
            let a = delay_told T i u f same in
            let one : e ≡ a.at = same_Some e a.at (sym is ∙ a.is) in
            absurd (none-some (a.d, a.r) (sym none ∙ (λ k. delay_args_of (one k).op (one k).args) ∙ (λ k. delay_args_of (a.op_is k) (a.args_are k))))

pub delay_from_args : (o : Op) (args : List ℕ) → HasArity o args → (x : ℕ × ℕ) → delay_args_of o args ≡ Some x → (o ≡ op.Delay) × (args ≡ x.0 ∷ x.1 ∷ [])
delay_from_args op.Delay (d ∷ r ∷ []) shape x is = let same = same_Some (d, r) x is in (refl, λ k. (same k).0 ∷ (same k).1 ∷ [])
delay_from_args op.Delay _ shape x is = absurd shape
delay_from_args o args shape x is = absurd (none-some x is)

pub some_number : (x : Option ℕ) → is_none x ≡ false → (n : ℕ) × (x ≡ Some n)
some_number None is = absurd (false≢true (sym is))
some_number (Some n) is = (n, refl)

-- ---- the facts that a table names
record AllNamed (steps : List WhyStep) (numbers : List (Option ℕ)) : Type 0 where
  pub facts : List Fact
  pub named : AreNamed steps (length steps) (there numbers) facts
  pub each : (f : Fact) → Contains facts f → (i : ℕ) × (fact_of steps numbers i ≡ Some f)
  pub has : (f : Fact) (i : ℕ) → fact_of steps numbers i ≡ Some f → Contains facts f

all_named : (steps : List WhyStep) (numbers : List (Option ℕ)) → AreWithin steps numbers → AllNamed steps numbers
all_named steps [] within = record { facts = []; named = there_end steps; each = λ f c. absurd (none_in_nil f c); has = λ f i is. absurd (none-some f is) }
all_named steps (None ∷ numbers) within =
    let rest = all_named steps numbers (λ i n is. within (suc i) n is) in
    record {
      facts = rest.facts;
      named = rest.named;
      each = λ f c. let found = rest.each f c in (suc found.0, found.1);
      has = later_has rest;
    }
  where
    later_has : (rest : AllNamed steps numbers) (f : Fact) (i : ℕ) → fact_of steps (None ∷ numbers) i ≡ Some f → Contains rest.facts f
    later_has rest f zero is = absurd (none-some f is)
    later_has rest f (suc i) is = rest.has f i is
all_named steps (Some n ∷ numbers) within =
    let rest = all_named steps numbers (λ i m is. within (suc i) m is) in
    let step = output_at steps n (within 0 n refl) in
    let fact = said step.0.fact in
    let at : fact_at steps (Some n) ≡ Some (said step.0.fact) = ap (option_map told) step.1 in
    record {
      facts = fact ∷ rest.facts;
      named = there_next steps (Some n) fact numbers rest.facts at rest.named;
      each = λ f c. elim (cons_cases fact f rest.facts c) [
        | inl same ↦ (0, at ∙ ap Some same)
        | inr further ↦ let found = rest.each f further in (suc found.0, found.1)
      ];
      has = first_has rest fact at;
    }
  where
    first_has : (rest : AllNamed steps numbers) (fact : Fact) → fact_at steps (Some n) ≡ Some fact → (f : Fact) (i : ℕ) → fact_of steps (Some n ∷ numbers) i ≡ Some f → Contains (fact ∷ rest.facts) f
    first_has rest fact at f zero is = subst (Contains (fact ∷ rest.facts)) (same_Some fact f (sym at ∙ is)) (here fact rest.facts)
    first_has rest fact at f (suc i) is = later fact f rest.facts (rest.has f i is)

-- ---- a fact for each of these delays, by which it is due after a time
record AllWaiting (steps : List WhyStep) (table : List (Option ℕ)) (before to : ℕ) (delays : List ℕ) : Type 0 where
  pub uses : List Fact
  pub wait : AllWait before to delays uses
  pub each : (f : Fact) → Contains uses f → (i : ℕ) × (fact_of steps table i ≡ Some f)
  pub has : (f : Fact) (i : ℕ) → IsTrue (is_in delays i) → fact_of steps table i ≡ Some f → Contains uses f

all_waiting : (steps : List WhyStep) (table : List (Option ℕ)) (before to : ℕ) (delays : List ℕ) → ((i : ℕ) → IsTrue (is_in delays i) → (due : Option ℕ) × IsAfter to due × (fact_of steps table i ≡ Some (Pending i before due))) → AllWaiting steps table before to delays
all_waiting steps table before to [] given = record { uses = []; wait = rule.AllWait.done; each = λ f c. absurd (none_in_nil f c); has = λ f i among is. absurd (false≢true among) }
all_waiting steps table before to (i ∷ delays) given =
    let rest = all_waiting steps table before to delays (λ j among. given j ((λ k. (i == j) || among k) ∙ or-true (i == j))) in
    let first = given i (head_in i delays) in
    let fact = Pending i before first.0 in
    record {
      uses = fact ∷ rest.uses;
      wait = rule.AllWait.next first.1 rest.wait;
      each = λ f c. elim (cons_cases fact f rest.uses c) [
        | inl same ↦ (i, first.2 ∙ ap Some same)
        | inr further ↦ rest.each f further
      ];
      has = λ f j among is. elim (or_cases (i == j) (is_in delays j) among) [
        | inl same ↦
            let one : fact_of steps table i ≡ Some f = ap (fact_of steps table) (eqb-true i j same) ∙ is in
            subst (Contains (fact ∷ rest.uses)) (same_Some fact f (sym first.2 ∙ one)) (here fact rest.uses)
        | inr further ↦ later fact f rest.uses (rest.has f j further is)
      ];
    }

module _ (T : Tale) (story : IsStory T) (before to : ℕ) (lt : before < to) (low : to < T.bound) (calm : IsCalm T (suc before) (suc to)) where
  -- a gap
  pub gap_grounded : (past : ℕ → ℕ) (t : ℕ) (done : ℕ → Bool) (draft : Draft) → IsAt T past (λ i. suc before) t done draft → IsGrounded T.system T.system.running T.inputs draft.steps.items (Gap (suc before) to) (there draft.pending.numbers.items)
  gap_grounded past t done draft at =
      let steps = draft.steps.items in
      let table = draft.pending.numbers.items in
      let delays = filter (λ i. is_delay (equation T.system i)) T.system.running in
      let all = all_named steps table at.pending in
      let waits = all_waiting steps table before to delays (λ i among. waiting_fact i among steps table at.pends) in
      record {
        facts = all.facts;
        named = all.named;
        uses = waits.uses;
        same = λ f. (
          λ c. let found = waits.each f c in all.has f found.0 found.1,
          λ c. let found = all.each f c in waits.has f found.0 (delay_among found.0 (delay_told T found.0 (suc before) f (sym (at.pends found.0) ∙ found.1))) found.1,
        );
        follows = rule.Follows.gap lt (record { none = λ i e m input u above below. (calm i u m.among above (omega arith)).1 }) waits.wait;
      }
    where
      delay_among : (i : ℕ) → IsDelay T i → IsTrue (is_in (filter (λ j. is_delay (equation T.system j)) T.system.running) i)
      delay_among i a =
          in_filter (λ j. is_delay (equation T.system j)) T.system.running i
          ∙ (λ k. (ap is_delay a.is ∙ ap is_delay_op a.op_is) k && a.run k)

      parts : (a b : Bool) → (a && b) ≡ true → (a ≡ true) × (b ≡ true)
      parts true true is = (refl, refl)
      parts true false is = absurd (false≢true is)
      parts false b is = absurd (false≢true is)

      waiting_fact : (i : ℕ) → IsTrue (is_in (filter (λ j. is_delay (equation T.system j)) T.system.running) i) → (steps : List WhyStep) (table : List (Option ℕ)) → ((j : ℕ) → fact_of steps table j ≡ due_told T.system T.streams (suc before) j) → (due : Option ℕ) × IsAfter to due × (fact_of steps table i ≡ Some (Pending i before due))
      waiting_fact i among steps table pends =
          let both = parts (is_delay (equation T.system i)) (runs T.system i) (sym (in_filter (λ j. is_delay (equation T.system j)) T.system.running i) ∙ among) in
          let a = delay_from T i story both.1 both.0 in
          let due = due_time (pending (T.streams a.d) (T.streams a.r) (T.streams i) (suc before)) in
          (due, not_due_in T story i a.at a.run a.is a.op_is a.d a.r a.args_are (suc before) to lt low calm (reset_runs T i story a), pends i ∙ told_of T i a (suc before))

  -- ---- a delay after it
  module _ (i gap : ℕ) (past : ℕ → ℕ) (old : Draft) (at : IsAt T past (passed i (suc to) (suc before)) 0 (λ j. false) old) where
    pends_here : fact_of old.steps.items old.pending.numbers.items i ≡ due_told T.system T.streams (suc before) i
    pends_here = at.pends i ∙ ap (λ n. due_told T.system T.streams n i) (passed_not i (suc to) (suc before) i (omega arith))

    -- nothing is told
    pub over_none : number_at old.pending.numbers.items i ≡ None → IsAt T past (passed (suc i) (suc to) (suc before)) 0 (λ j. false) old
    over_none none =
        let told_none = sym pends_here ∙ ap (fact_at old.steps.items) none in
        at_times T story past past (passed i (suc to) (suc before)) (passed (suc i) (suc to) (suc before)) 0 (λ j. false) old.steps.items old.here.numbers.items old.latest.numbers.items old.quiet.numbers.items old.pending.numbers.items
        (λ v low_v. refl)
        (λ j low_j. elim (same_or_not j i) [
          | inl same ↦
              ap (λ n. due_told T.system T.streams n j) (ap (passed i (suc to) (suc before)) same ∙ passed_not i (suc to) (suc before) i (omega arith))
              ∙ ap (due_told T.system T.streams (suc before)) same ∙ told_none
              ∙ sym (ap (due_told T.system T.streams (passed (suc i) (suc to) (suc before) j)) same ∙ none_told T i before (passed (suc i) (suc to) (suc before) j) told_none)
          | inr other ↦ ap (λ n. due_told T.system T.streams n j) (passed_other i (suc to) (suc before) j other)
        ])
        at

    -- it is due as it was
    pub over_some : (x : ℕ) → number_at old.pending.numbers.items i ≡ Some x → fact_at old.steps.items (Some gap) ≡ Some (Gap (suc before) to) → (due : Option ℕ) → due ≡ due_of (fact_of old.steps.items old.pending.numbers.items i) → (mid new : Draft) (step : WhyStep) (n : ℕ) → said step.fact ≡ Pending i to due → step.by.items ≡ there (Some gap ∷ number_at old.pending.numbers.items i ∷ []) → IsPut old mid step n → new.steps.items ≡ mid.steps.items → new.here.numbers.items ≡ mid.here.numbers.items → new.latest.numbers.items ≡ mid.latest.numbers.items → new.quiet.numbers.items ≡ mid.quiet.numbers.items → new.pending.numbers.items ≡ slice_set mid.pending.numbers.items i (Some n) → IsAt T past (passed (suc i) (suc to) (suc before)) 0 (λ j. false) new
    over_some x number gap_is due due_is mid new step n says by_is put steps_is here_is latest_is quiet_is pending_is =
        let steps = old.steps.items in
        let found = output_at steps x (at.pending i x number) in
        let known : fact_of steps old.pending.numbers.items i ≡ Some (said found.0.fact) = ap (fact_at steps) number ∙ ap (option_map told) found.1 in
        let a = delay_told T i (suc before) (said found.0.fact) (sym pends_here ∙ known) in
        let waits = pending (T.streams a.d) (T.streams a.r) (T.streams i) in
        let fact_is : fact_of steps old.pending.numbers.items i ≡ Some (Pending i before (due_time (waits (suc before)))) = pends_here ∙ told_of T i a (suc before) in
        let due_so : due ≡ due_time (waits (suc before)) = due_is ∙ ap due_of fact_is in
        let r_runs = reset_runs T i story a in
        let still : waits (suc to) ≡ waits (suc before) = pending_still (T.streams a.d) (T.streams a.r) (T.streams i) (suc before) (suc to) (omega (arith, lt)) (λ w above below. ((calm a.r w r_runs above below).0, (calm i w a.run above below).0)) in
        let facts = Gap (suc before) to ∷ Pending i before due ∷ [] in
        let fact_due : fact_of steps old.pending.numbers.items i ≡ Some (Pending i before due) = fact_is ∙ ap (λ u. Some (Pending i before u)) (sym due_so) in
        let named : AreNamed steps (length steps) step.by.items (Gap (suc before) to ∷ Pending i before due ∷ []) =
        subst (λ ns. AreNamed steps (length steps) ns (Gap (suc before) to ∷ Pending i before due ∷ [])) (sym by_is)
        (there_next steps (Some gap) (Gap (suc before) to) (number_at old.pending.numbers.items i ∷ []) (Pending i before due ∷ []) gap_is
        (there_next steps (number_at old.pending.numbers.items i) (Pending i before due) [] [] fact_due (there_end steps))) in
        let member : IsMember T.system T.system.running T.inputs i a.at = record { among = a.run; is = a.is } in
        let g : IsGrounded T.system T.system.running T.inputs steps (Pending i to due) step.by.items =
        ground T.system T.system.running T.inputs steps (Pending i to due) step.by.items facts named (rule.Follows.pending a.at member a.op_is a.args_are (rule.Keeps.over_gap lt)) in
        let grown : Tells T old mid n (Pending i to due) =
        subst (λ f. Tells T old mid n f) says (grown_by T.system T.system.running T.inputs old mid step n put (subst (λ f. IsGrounded T.system T.system.running T.inputs steps f step.by.items) (sym says) g)) in
        let stands = at_grown T past (passed i (suc to) (suc before)) 0 (λ j. false) old mid n (Pending i to due) grown at in
        let low_i = running_there T story i a.run in
        let told_so : due_told T.system T.streams (passed (suc i) (suc to) (suc before) i) i ≡ Some (Pending i to due) =
        ap (λ m. due_told T.system T.streams m i) (passed_before (suc i) (suc to) (suc before) i (omega arith)) ∙ told_of T i a (suc to)
        ∙ ap (λ u. Some (Pending i to u)) (ap due_time still ∙ sym due_so) in
        stands_as T past (passed (suc i) (suc to) (suc before)) 0 (λ j. false) mid.steps.items new.steps.items steps_is
        mid.here.numbers.items mid.latest.numbers.items mid.quiet.numbers.items (slice_set mid.pending.numbers.items i (Some n))
        new.here.numbers.items new.latest.numbers.items new.quiet.numbers.items new.pending.numbers.items here_is latest_is quiet_is pending_is
        (set_due T 0 past (passed i (suc to) (suc before)) (passed (suc i) (suc to) (suc before)) (λ j. false) mid.steps.items mid.here.numbers.items mid.latest.numbers.items mid.quiet.numbers.items mid.pending.numbers.items i n (Pending i to due)
        low_i grown.here (fact_within mid.steps.items n (Pending i to due) grown.here).1 told_so (λ j other. passed_other i (suc to) (suc before) j other) stands)

-- ---- as the code puts them
pub gap_told : (T : Tale) (story : IsStory T) (from to : ℕ) → 0 < from → from ≤ to → to < T.bound → IsCalm T from (suc to) → (old new : Draft) (step : WhyStep) (n : ℕ) → IsUpTo T from old → said step.fact ≡ Gap from to → step.by.items ≡ there old.pending.numbers.items → IsPut old new step n → Tells T old new n (Gap from to)
gap_told T story zero to positive le low calm old new step n at says by_is put = absurd (omega arith)
gap_told T story (suc before) to positive le low calm old new step n at says by_is put =
    let g = gap_grounded T story before to le low calm (λ i. suc before) 0 (λ i. false) old at in
    let steps = old.steps.items in
    subst (λ f. Tells T old new n f) says
    (grown_by T.system T.system.running T.inputs old new step n put
    (subst (λ f. IsGrounded T.system T.system.running T.inputs steps f step.by.items) (sym says)
    (subst (λ ns. IsGrounded T.system T.system.running T.inputs steps (Gap (suc before) to) ns) (sym by_is) g)))

-- delays after a gap
abbrev pub AreOver : System → ℕ → ℕ → Draft → Draft → Type 0
AreOver flat gap to mid next =
    (T : Tale) (past : ℕ → ℕ) (before : ℕ) →
    flat ≡ T.system →
    IsStory T →
    before < to →
    to < T.bound →
    IsCalm T (suc before) (suc to) →
    fact_at mid.steps.items (Some gap) ≡ Some (Gap (suc before) to) →
    IsAt T past (always (suc before)) 0 (λ i. false) mid →
    IsAt T past (always (suc to)) 0 (λ i. false) next

pub gap_past : (T : Tale) (story : IsStory T) (from to : ℕ) → 0 < from → from ≤ to → to < T.bound → IsCalm T from (suc to) → (old mid next : Draft) (n : ℕ) → Tells T old mid n (Gap from to) → AreOver T.system n to mid next → IsUpTo T from old → IsAt T (always from) (always (suc to)) 0 (λ i. false) next
gap_past T story zero to positive le low calm old mid next n g over at = absurd (omega arith)
gap_past T story (suc before) to positive le low calm old mid next n g over at =
    over T (always (suc before)) before refl story le low calm g.here
    (at_grown T (always (suc before)) (always (suc before)) 0 (λ i. false) old mid n (Gap (suc before) to) g at)
