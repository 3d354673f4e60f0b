-- Silences that grow, in drafts that tell of streams.
use Rattle.std.proofs.Common.{◌≡◌, ℕ, suc, ◌<◌, ◌≤◌, Bool, true, false, [], ◌∷◌, length, Option, Some, None, refl, sym, ap, subst, ◌∙◌, inl, inr, arith}
use Rattle.std.proofs.lemmas.Bool.{cases_lt}
use Rattle.std.proofs.lemmas.Option.{none-some, same_Some}
use Rattle.std.proofs.Math.ListN.{length-set}
use Rattle.std.specs.Prelude.{IsTrue, is_some, slice_set}
use Rattle.tsl_value.specs.View.{View}
use Rattle.flat_core.specs.declared.equation.Equation.{Equation}
use Rattle.flat_core.specs.Stream.{event}
use Rattle.flat_core.specs.System.{runs}
use Rattle.why_rules.specs.Facts.{Fact, Happens, Silent, Gap}
use Rattle.why_rules.specs.Rules.{IsMember}
use Rattle.why_rules.specs.Rules as rule
use Rattle.event_why.specs.declared.draft.Draft.{Draft}
use Rattle.event_why.specs.declared.fact.WhyStep.{WhyStep}
use Rattle.event_why.specs.Check.{AreNamed}
use Rattle.event_why.specs.Said.{said}
use Rattle.event_why.specs.inner.Drafted.{IsGrounded, IsPut, fact_at, fact_of, happens_in, joined_of, number_at, silence_of, there}
use Rattle.event_why.specs.inner.Tale.{HasLatest, HasPast, HasQuiet, IsAt, IsCalm, IsStory, StandsAt, Tale, Tells, always, fact_here, here_of, is_kept, passed}
use Rattle.event_why.specs.inner.Tale as tale
use Rattle.event_why.proofs.DraftLemmas.{fact_within, ground, grown_by, grown_on, there_end, there_next}
use Rattle.event_why.proofs.GroundLemmas.{happens_here, none_of, some_of}
use Rattle.event_why.proofs.LookLemmas.{quiet_within}
use Rattle.event_why.proofs.TaleLemmas.{at_grown, fact_set, latest_still, number_other, number_set, passed_before, passed_not, passed_other, quiet_still, set_past, running_there, same_number, stands_as, within_set}

some_pair : (a b : ℕ × ℕ) → Some a ≡ Some b → (a.0 ≡ b.0) × (a.1 ≡ b.1)
some_pair a b is = let same = same_Some a b is in (λ k. (same k).0, λ k. (same k).1)

-- nothing was put, and a step says this already
pub grown_not : (T : Tale) (draft : Draft) (n : ℕ) (f : Fact) → fact_at draft.steps.items (Some n) ≡ Some f → Tells T draft draft n f
grown_not T draft n f at = record {
  longer = omega arith;
  same = λ k g is. is;
  right = λ right. right;
  tables = record { here = refl; latest = refl; quiet = refl; pending = refl };
  here = at;
}

module _ (T : Tale) (i : ℕ) (run : IsTrue (runs T.system i)) (story : IsStory T) where
  member : (e : Equation) × IsMember T.system T.system.running T.inputs i e
  member = let found = story.whole.proper.runs_all i run in (found.0, record { among = run; is = found.1 })

  module _ (draft : Draft) (later : ℕ) (to : ℕ) where
    -- two silences join
    pub joined_some : (low from : ℕ) → HasQuiet draft.steps.items draft.quiet.numbers.items i low from → fact_at draft.steps.items (Some later) ≡ Some (Silent i from to) → from ≤ to → (new : Draft) (step : WhyStep) (n : ℕ) → IsPut draft new step n → (a b : ℕ) → said step.fact ≡ Silent i a b → step.by.items ≡ there (number_at draft.quiet.numbers.items i ∷ Some later ∷ []) → (r : Option (ℕ × ℕ)) → r ≡ joined_of (silence_of (fact_of draft.steps.items draft.quiet.numbers.items i)) (silence_of (fact_at draft.steps.items (Some later))) → r ≡ Some (a, b) → Tells T draft new n (Silent i low to)
    joined_some low from (tale.HasQuiet.none is) fact le new step n put a b says by_is r r_is some =
        absurd (none-some (a, b) (sym (ap (λ x. joined_of (silence_of (fact_at draft.steps.items x)) (silence_of (fact_at draft.steps.items (Some later)))) is) ∙ sym r_is ∙ some))
    joined_some low from (tale.HasQuiet.some {n = m} early at) fact le new step n put a b says by_is r r_is some =
        let times : Some (low, to) ≡ Some (a, b) = sym (λ k. joined_of (silence_of (at k)) (silence_of (fact k))) ∙ sym r_is ∙ some in
        let same = some_pair (low, to) (a, b) times in
        let steps = draft.steps.items in
        let facts = Silent i low m ∷ Silent i (suc m) to ∷ [] in
        let named =
        there_next steps (number_at draft.quiet.numbers.items i) (Silent i low m) (Some later ∷ []) (Silent i (suc m) to ∷ []) at
        (there_next steps (Some later) (Silent i (suc m) to) [] [] fact (there_end steps)) in
        let g : IsGrounded T.system T.system.running T.inputs steps (Silent i low to) step.by.items =
        ground T.system T.system.running T.inputs steps (Silent i low to) step.by.items facts
        (subst (λ ns. AreNamed steps (length steps) ns facts) (sym by_is) named)
        (rule.Follows.silent_joined member.0 member.1 early le) in
        let says_so : said step.fact ≡ Silent i low to = says ∙ sym (λ k. Silent i (same.0 k) (same.1 k)) in
        subst (λ f. Tells T draft new n f) says_so
        (grown_by T.system T.system.running T.inputs draft new step n put (subst (λ f. IsGrounded T.system T.system.running T.inputs steps f step.by.items) (sym says_so) g))

    -- the later one is all
    pub joined_none : (low from : ℕ) → HasQuiet draft.steps.items draft.quiet.numbers.items i low from → fact_at draft.steps.items (Some later) ≡ Some (Silent i from to) → (r : Option (ℕ × ℕ)) → r ≡ joined_of (silence_of (fact_of draft.steps.items draft.quiet.numbers.items i)) (silence_of (fact_at draft.steps.items (Some later))) → r ≡ None → Tells T draft draft later (Silent i low to)
    joined_none low from (tale.HasQuiet.none is) fact r r_is none = grown_not T draft later (Silent i low to) fact
    joined_none low from (tale.HasQuiet.some {n = m} early at) fact r r_is none =
        absurd (none-some (low, to) (sym none ∙ r_is ∙ (λ k. joined_of (silence_of (at k)) (silence_of (fact k)))))

  -- a silence follows from a gap
  pub put_in_gap : (from to gap : ℕ) → from ≤ to → (draft new : Draft) (step : WhyStep) (n : ℕ) → fact_at draft.steps.items (Some gap) ≡ Some (Gap from to) → said step.fact ≡ Silent i from to → step.by.items ≡ there (Some gap ∷ []) → IsPut draft new step n → Tells T draft new n (Silent i from to)
  put_in_gap from to gap le draft new step n fact says by_is put =
      let steps = draft.steps.items in
      let named = there_next steps (Some gap) (Gap from to) [] [] fact (there_end steps) in
      let g : IsGrounded T.system T.system.running T.inputs steps (Silent i from to) step.by.items =
      ground T.system T.system.running T.inputs steps (Silent i from to) step.by.items (Gap from to ∷ [])
      (subst (λ ns. AreNamed steps (length steps) ns (Gap from to ∷ [])) (sym by_is) named)
      (rule.Follows.silent_in_gap member.0 member.1 (omega arith) le (omega arith)) in
      subst (λ f. Tells T draft new n f) says
      (grown_by T.system T.system.running T.inputs draft new step n put (subst (λ f. IsGrounded T.system T.system.running T.inputs steps f step.by.items) (sym says) g))

  -- ---- the past of one equation goes on
  module _ (kept : IsTrue (is_kept T.kept i)) (due : ℕ → ℕ) (t : ℕ) (done : ℕ → Bool) (after before : ℕ) (old : Draft) (at : IsAt T (passed i after before) due t done old) where
    pub past_here : HasPast old.steps.items old.latest.numbers.items old.quiet.numbers.items T.streams i before
    past_here = subst (HasPast old.steps.items old.latest.numbers.items old.quiet.numbers.items T.streams i) (passed_not i after before i (omega arith)) (at.kept i kept)

    -- by a silence from then on
    pub past_grown : (m : ℕ) → after ≡ suc m → before ≤ m → ((w : ℕ) → before ≤ w → w < after → event (T.streams i w) ≡ None) → (mid new : Draft) (n : ℕ) → Tells T old mid n (Silent i past_here.low m) → new.steps.items ≡ mid.steps.items → new.here.numbers.items ≡ mid.here.numbers.items → new.latest.numbers.items ≡ mid.latest.numbers.items → new.quiet.numbers.items ≡ slice_set mid.quiet.numbers.items i (Some n) → new.pending.numbers.items ≡ mid.pending.numbers.items → IsAt T (passed (suc i) after before) due t done new
    past_grown m after_is le calm mid new n g steps_is here_is latest_is quiet_is pending_is =
        let there = at_grown T (passed i after before) due t done old mid n (Silent i past_here.low m) g at in
        let steps = mid.steps.items in
        let count = there.quiet_count in
        let low_i = running_there T story i run in
        let inside : i < length mid.quiet.numbers.items = omega (arith, count, low_i) in
        let within = fact_within steps n (Silent i past_here.low m) g.here in
        let low_within = within.1 in
        let early = quiet_within old.steps.items old.quiet.numbers.items i past_here.low before past_here.since in
        let here : HasPast steps mid.latest.numbers.items (slice_set mid.quiet.numbers.items i (Some n)) T.streams i (suc m) = record {
          low = past_here.low;
          since = tale.HasQuiet.some (omega (arith, early, le)) (fact_set steps mid.quiet.numbers.items i (Some n) inside ∙ g.here);
          event_at = subst (λ l. HasLatest steps l T.streams i past_here.low) (sym g.tables.latest) (latest_still old.steps.items steps g.same old.latest.numbers.items T.streams i past_here.low past_here.event_at);
          silent = λ w above below. elim (cases_lt w before) [
            | inl earlier ↦ past_here.silent w above earlier
            | inr now ↦ calm w now (omega (arith, after_is, below))
          ];
        } in
        let next_is : passed (suc i) after before i ≡ suc m = passed_before (suc i) after before i (omega arith) ∙ after_is in
        let stands =
        set_past T t (passed i after before) (passed (suc i) after before) due done steps mid.here.numbers.items mid.latest.numbers.items mid.latest.numbers.items mid.quiet.numbers.items (slice_set mid.quiet.numbers.items i (Some n)) mid.pending.numbers.items i
        there.latest
        (within_set steps mid.quiet.numbers.items i (Some n) inside (λ k is. let same = same_number n k is in omega (arith, same, low_within)) there.quiet)
        refl (length-set mid.quiet.numbers.items i (Some n)) (λ j other. refl) (λ j other. number_other steps mid.quiet.numbers.items i (Some n) j other) (λ j other. passed_other i after before j other)
        (subst (HasPast steps mid.latest.numbers.items (slice_set mid.quiet.numbers.items i (Some n)) T.streams i) (sym next_is) here) there in
        stands_as T (passed (suc i) after before) due t done steps new.steps.items steps_is mid.here.numbers.items mid.latest.numbers.items (slice_set mid.quiet.numbers.items i (Some n)) mid.pending.numbers.items new.here.numbers.items new.latest.numbers.items new.quiet.numbers.items new.pending.numbers.items here_is latest_is quiet_is pending_is stands

    -- by an event at the time before
    pub past_event : after ≡ suc t → (x : Option ℕ) (v : View) → event (T.streams i t) ≡ Some v → fact_at old.steps.items x ≡ Some (Happens i t v) → (new : Draft) → new.steps.items ≡ old.steps.items → new.here.numbers.items ≡ old.here.numbers.items → new.latest.numbers.items ≡ slice_set old.latest.numbers.items i x → new.quiet.numbers.items ≡ slice_set old.quiet.numbers.items i None → new.pending.numbers.items ≡ old.pending.numbers.items → IsAt T (passed (suc i) after before) due t done new
    past_event after_is x v happens fact new steps_is here_is latest_is quiet_is pending_is =
        let steps = old.steps.items in
        let long_l = at.latest_count in
        let long_q = at.quiet_count in
        let low_i = running_there T story i run in
        let in_l : i < length old.latest.numbers.items = omega (arith, long_l, low_i) in
        let in_q : i < length old.quiet.numbers.items = omega (arith, long_q, low_i) in
        let here : HasPast steps (slice_set old.latest.numbers.items i x) (slice_set old.quiet.numbers.items i None) T.streams i (suc t) = record {
          low = suc t;
          since = tale.HasQuiet.none (number_set steps old.quiet.numbers.items i None in_q);
          event_at = tale.HasLatest.some happens (fact_set steps old.latest.numbers.items i x in_l ∙ fact);
          silent = λ w above below. absurd (omega arith);
        } in
        let next_is : passed (suc i) after before i ≡ suc t = passed_before (suc i) after before i (omega arith) ∙ after_is in
        let stands =
        set_past T t (passed i after before) (passed (suc i) after before) due done steps old.here.numbers.items old.latest.numbers.items (slice_set old.latest.numbers.items i x) old.quiet.numbers.items (slice_set old.quiet.numbers.items i None) old.pending.numbers.items i
        (within_set steps old.latest.numbers.items i x in_l (λ k is. (fact_within steps k (Happens i t v) (sym (ap (fact_at steps) is) ∙ fact)).1) at.latest)
        (within_set steps old.quiet.numbers.items i None in_q (λ k is. absurd (none-some k is)) at.quiet)
        (length-set old.latest.numbers.items i x) (length-set old.quiet.numbers.items i None)
        (λ j other. number_other steps old.latest.numbers.items i x j other) (λ j other. number_other steps old.quiet.numbers.items i None j other) (λ j other. passed_other i after before j other)
        (subst (HasPast steps (slice_set old.latest.numbers.items i x) (slice_set old.quiet.numbers.items i None) T.streams i) (sym next_is) here) at in
        stands_as T (passed (suc i) after before) due t done steps new.steps.items steps_is old.here.numbers.items (slice_set old.latest.numbers.items i x) (slice_set old.quiet.numbers.items i None) old.pending.numbers.items new.here.numbers.items new.latest.numbers.items new.quiet.numbers.items new.pending.numbers.items here_is latest_is quiet_is pending_is stands

-- ---- an instant is over
module _ (T : Tale) (story : IsStory T) (i : ℕ) (kept : IsTrue (is_kept T.kept i)) (t : ℕ) (old : Draft) (at : IsAt T (passed i (suc t) t) (always t) t (runs T.system) old) where
  run_kept : IsTrue (runs T.system i)
  run_kept = story.kept.runs_too i kept

  here_now : fact_of old.steps.items old.here.numbers.items i ≡ Some (here_of T.streams t i)
  here_now = at.here i run_kept run_kept

  happens_now_is : (b : Bool) → b ≡ happens_in (fact_of old.steps.items old.here.numbers.items i) → (c : Bool) → b ≡ c → is_some (event (T.streams i t)) ≡ c
  happens_now_is b is c so = sym (happens_here i t (event (T.streams i t))) ∙ sym (ap happens_in here_now) ∙ sym is ∙ so

  pub settle_event : (b : Bool) → b ≡ happens_in (fact_of old.steps.items old.here.numbers.items i) → b ≡ true → (x : Option ℕ) → x ≡ number_at old.here.numbers.items i → (new : Draft) → new.steps.items ≡ old.steps.items → new.here.numbers.items ≡ old.here.numbers.items → new.latest.numbers.items ≡ slice_set old.latest.numbers.items i x → new.quiet.numbers.items ≡ slice_set old.quiet.numbers.items i None → new.pending.numbers.items ≡ old.pending.numbers.items → IsAt T (passed (suc i) (suc t) t) (always t) t (runs T.system) new
  settle_event b is so x x_is new steps_is here_is latest_is quiet_is pending_is =
      let v = some_of (event (T.streams i t)) (happens_now_is b is true so) in
      past_event T i run_kept story kept (always t) t (runs T.system) (suc t) t old at refl x v.0 v.1
      (ap (fact_at old.steps.items) x_is ∙ here_now ∙ ap (λ y. Some (fact_here i t y)) v.1) new steps_is here_is latest_is quiet_is pending_is

  pub settle_silent : (b : Bool) → b ≡ happens_in (fact_of old.steps.items old.here.numbers.items i) → b ≡ false → (m : ℕ) → Some m ≡ number_at old.here.numbers.items i → (mid new : Draft) (n : ℕ) → ((low from to : ℕ) → IsStory T → IsTrue (runs T.system i) → HasQuiet old.steps.items old.quiet.numbers.items i low from → fact_at old.steps.items (Some m) ≡ Some (Silent i from to) → from ≤ to → Tells T old mid n (Silent i low to)) → new.steps.items ≡ mid.steps.items → new.here.numbers.items ≡ mid.here.numbers.items → new.latest.numbers.items ≡ mid.latest.numbers.items → new.quiet.numbers.items ≡ slice_set mid.quiet.numbers.items i (Some n) → new.pending.numbers.items ≡ mid.pending.numbers.items → IsAt T (passed (suc i) (suc t) t) (always t) t (runs T.system) new
  settle_silent b is so m m_is mid new n joins steps_is here_is latest_is quiet_is pending_is =
      let none = none_of (event (T.streams i t)) (happens_now_is b is false so) in
      let fact : fact_at old.steps.items (Some m) ≡ Some (Silent i t t) = ap (fact_at old.steps.items) m_is ∙ here_now ∙ ap (λ y. Some (fact_here i t y)) none in
      let past = past_here T i run_kept story kept (always t) t (runs T.system) (suc t) t old at in
      past_grown T i run_kept story kept (always t) t (runs T.system) (suc t) t old at t refl (omega arith)
      (λ w from below. let one : t ≡ w = omega (arith, from, below) in subst (λ u. event (T.streams i u) ≡ None) one none)
      mid new n (joins past.low t t story run_kept past.since fact (omega arith)) steps_is here_is latest_is quiet_is pending_is

-- ---- after a gap
module _ (T : Tale) (story : IsStory T) (i : ℕ) (kept : IsTrue (is_kept T.kept i)) (due : ℕ → ℕ) (from to : ℕ) (le : from ≤ to) (calm : IsCalm T from (suc to)) (old : Draft) (at : IsAt T (passed i (suc to) from) due 0 (λ j. false) old) where
  run_quiet : IsTrue (runs T.system i)
  run_quiet = story.kept.runs_too i kept

  -- the silence is put, and joined to what was before
  pub quiet_over : (gap : ℕ) → fact_at old.steps.items (Some gap) ≡ Some (Gap from to) → (put_draft : Draft) (step : WhyStep) (m : ℕ) → said step.fact ≡ Silent i from to → step.by.items ≡ there (Some gap ∷ []) → IsPut old put_draft step m → (mid new : Draft) (n : ℕ) → ((low a b : ℕ) → IsStory T → IsTrue (runs T.system i) → HasQuiet put_draft.steps.items put_draft.quiet.numbers.items i low a → fact_at put_draft.steps.items (Some m) ≡ Some (Silent i a b) → a ≤ b → Tells T put_draft mid n (Silent i low b)) → new.steps.items ≡ mid.steps.items → new.here.numbers.items ≡ mid.here.numbers.items → new.latest.numbers.items ≡ mid.latest.numbers.items → new.quiet.numbers.items ≡ slice_set mid.quiet.numbers.items i (Some n) → new.pending.numbers.items ≡ mid.pending.numbers.items → IsAt T (passed (suc i) (suc to) from) due 0 (λ j. false) new
  quiet_over gap gap_is put_draft step m says by_is put mid new n joins steps_is here_is latest_is quiet_is pending_is =
      let first = put_in_gap T i run_quiet story from to gap le old put_draft step m gap_is says by_is put in
      let past = past_here T i run_quiet story kept due 0 (λ j. false) (suc to) from old at in
      let since = quiet_still old.steps.items put_draft.steps.items first.same old.quiet.numbers.items i past.low from past.since in
      let then = joins past.low from to story run_quiet (subst (λ q. HasQuiet put_draft.steps.items q i past.low from) (sym first.tables.quiet) since) first.here le in
      past_grown T i run_quiet story kept due 0 (λ j. false) (suc to) from old at to refl le
      (λ w above below. ap event (calm i w run_quiet above below).0)
      mid new n (grown_on T.system T.system.running T.inputs old put_draft mid m n (Silent i from to) (Silent i past.low to) first then) steps_is here_is latest_is quiet_is pending_is
