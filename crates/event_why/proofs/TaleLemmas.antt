-- Drafts that tell of streams, as they grow and as their tables change.
use Rattle.std.proofs.Common.{◌≡◌, ◌==◌, ℕ, suc, ◌<◌, ◌≤◌, Bool, List, length, Option, Some, None, refl, sym, ap, subst, ◌∙◌, inl, inr, arith, get_or-set_same, get_or-set_other}
use Rattle.std.proofs.lemmas.Bool.{cases_lt, eqb-true, le-ltb, lt-ltb, or_cases}
use Rattle.std.proofs.lemmas.Option.{none-some, slice_get_past, slice_get_within}
use Rattle.std.proofs.Math.ListN.{length-set}
use Rattle.std.specs.Prelude.{◌⊎◌, ◌≢◌, IsTrue, if◌then◌else◌, slice_set}
use Rattle.std.specs.Option.{option_map}
use Rattle.flat_core.specs.Case.{Streams}
use Rattle.flat_core.specs.System.{runs}
use Rattle.flat_core.specs.inner.Dependency.{with_one}
use Rattle.why_rules.specs.Facts.{Fact}
use Rattle.event_why.specs.declared.draft.Draft.{Draft}
use Rattle.event_why.specs.declared.fact.WhyStep.{WhyStep}
use Rattle.event_why.specs.Said.{said}
use Rattle.event_why.specs.inner.Drafted.{AreWithin, fact_at, fact_of, number_at}
use Rattle.event_why.specs.inner.Tale.{HasLatest, HasPast, HasQuiet, IsAt, IsStory, StandsAt, Tale, Tells, always, due_at, due_told, here_of, is_kept, passed}
use Rattle.event_why.specs.inner.Tale as tale
use Rattle.event_why.proofs.CheckLemmas.{output_at}
use Rattle.event_why.proofs.DraftLemmas.{told}

pub same_or_not : (i j : ℕ) → (i ≡ j) ⊎ (i ≢ j)
same_or_not i j = elim (cases_lt i j) [
  | inl less ↦ inr (λ same. absurd (omega arith))
  | inr more ↦ elim (cases_lt j i) [
    | inl less ↦ inr (λ same. absurd (omega arith))
    | inr other ↦ inl (omega arith)
  ]
]

pub same_number : (n m : ℕ) → ◌≡◌ {A = Option ℕ} (Some n) (Some m) → n ≡ m
same_number n m is = ap value is
  where
    value : Option ℕ → ℕ
    value None = n
    value (Some k) = k

-- ---- one time for the numbers below one, and another for the others
pub passed_before : (k after before v : ℕ) → v < k → passed k after before v ≡ after
passed_before k after before v lt = λ j. if lt-ltb v k lt j then after else before

pub passed_not : (k after before v : ℕ) → k ≤ v → passed k after before v ≡ before
passed_not k after before v le = λ j. if le-ltb v k le j then after else before

pub passed_other : (k after before v : ℕ) → v ≢ k → passed k after before v ≡ passed (suc k) after before v
passed_other k after before v other = elim (cases_lt v k) [
  | inl low ↦ passed_before k after before v low ∙ sym (passed_before (suc k) after before v (omega arith))
  | inr high ↦ elim (same_or_not v k) [
    | inl same ↦ absurd (other same)
    | inr apart ↦ elim (cases_lt k v) [
      | inl above ↦ passed_not k after before v high ∙ sym (passed_not (suc k) after before v above)
      | inr below ↦ absurd (other (omega arith))
    ]
  ]
]

-- ---- more steps
module _ (steps more : List WhyStep) (still : (k : ℕ) (f : Fact) → fact_at steps (Some k) ≡ Some f → fact_at more (Some k) ≡ Some f) where
  pub some_still : (numbers : List (Option ℕ)) (i : ℕ) (f : Fact) → fact_of steps numbers i ≡ Some f → fact_of more numbers i ≡ Some f
  some_still numbers i f h = at (number_at numbers i) refl
    where
      at : (x : Option ℕ) → number_at numbers i ≡ x → fact_of more numbers i ≡ Some f
      at None is = absurd (none-some f (sym (ap (fact_at steps) is) ∙ h))
      at (Some n) is = ap (fact_at more) is ∙ still n f (sym (ap (fact_at steps) is) ∙ h)

  fact_still : (numbers : List (Option ℕ)) (i : ℕ) → AreWithin steps numbers → fact_of more numbers i ≡ fact_of steps numbers i
  fact_still numbers i within = at (number_at numbers i) refl
    where
      at : (x : Option ℕ) → number_at numbers i ≡ x → fact_of more numbers i ≡ fact_of steps numbers i
      at None is = ap (fact_at more) is ∙ sym (ap (fact_at steps) is)
      at (Some n) is =
          let found = output_at steps n (within i n is) in
          let there : fact_at steps (Some n) ≡ Some (said found.0.fact) = ap (option_map told) found.1 in
          ap (fact_at more) is ∙ still n (said found.0.fact) there ∙ sym there ∙ sym (ap (fact_at steps) is)

  pub quiet_still : (quiet : List (Option ℕ)) (v low n : ℕ) → HasQuiet steps quiet v low n → HasQuiet more quiet v low n
  quiet_still quiet v low n (tale.HasQuiet.none is) = tale.HasQuiet.none is
  quiet_still quiet v low n (tale.HasQuiet.some le at) = tale.HasQuiet.some le (some_still quiet v _ at)

  pub latest_still : (latest : List (Option ℕ)) (z : Streams) (v low : ℕ) → HasLatest steps latest z v low → HasLatest more latest z v low
  latest_still latest z v low (tale.HasLatest.none is) = tale.HasLatest.none is
  latest_still latest z v low (tale.HasLatest.some is at) = tale.HasLatest.some is (some_still latest v _ at)

  pub past_still : (latest quiet : List (Option ℕ)) (z : Streams) (v n : ℕ) → HasPast steps latest quiet z v n → HasPast more latest quiet z v n
  past_still latest quiet z v n past = record {
    low = past.low;
    since = quiet_still quiet v past.low n past.since;
    event_at = latest_still latest z v past.low past.event_at;
    silent = past.silent;
  }

module _ (T : Tale) (past due : ℕ → ℕ) (t : ℕ) (done : ℕ → Bool) where
  moved : (steps : List WhyStep) (h l q d h' l' q' d' : List (Option ℕ)) → h' ≡ h → l' ≡ l → q' ≡ q → d' ≡ d → StandsAt T past due t done steps h l q d → StandsAt T past due t done steps h' l' q' d'
  moved steps h l q d h' l' q' d' hs ls qs ds at =
      subst (λ x. StandsAt T past due t done steps x l' q' d') (sym hs)
      (subst (λ x. StandsAt T past due t done steps h x q' d') (sym ls)
      (subst (λ x. StandsAt T past due t done steps h l x d') (sym qs)
      (subst (λ x. StandsAt T past due t done steps h l q x) (sym ds) at)))

  -- the same steps and tables
  pub stands_as : (steps steps' : List WhyStep) → steps' ≡ steps → (h l q d h' l' q' d' : List (Option ℕ)) → h' ≡ h → l' ≡ l → q' ≡ q → d' ≡ d → StandsAt T past due t done steps h l q d → StandsAt T past due t done steps' h' l' q' d'
  stands_as steps steps' same h l q d h' l' q' d' hs ls qs ds at =
      subst (λ xs. StandsAt T past due t done xs h' l' q' d') (sym same) (moved steps h l q d h' l' q' d' hs ls qs ds at)

  pub at_grown : (old new : Draft) (n : ℕ) (f : Fact) → Tells T old new n f → IsAt T past due t done old → IsAt T past due t done new
  at_grown old new n f g at =
      let steps = old.steps.items in
      let more = new.steps.items in
      let longer = g.longer in
      moved more old.here.numbers.items old.latest.numbers.items old.quiet.numbers.items old.pending.numbers.items
      new.here.numbers.items new.latest.numbers.items new.quiet.numbers.items new.pending.numbers.items
      g.tables.here g.tables.latest g.tables.quiet g.tables.pending
      (record {
        right = g.right at.right;
        latest = λ i k is. let low = at.latest i k is in omega (arith, low, longer);
        quiet = λ i k is. let low = at.quiet i k is in omega (arith, low, longer);
        pending = λ i k is. let low = at.pending i k is in omega (arith, low, longer);
        now_count = at.now_count;
        latest_count = at.latest_count;
        quiet_count = at.quiet_count;
        due_count = at.due_count;
        kept = λ v is. past_still steps more g.same old.latest.numbers.items old.quiet.numbers.items T.streams v (past v) (at.kept v is);
        pends = λ i. fact_still steps more g.same old.pending.numbers.items i at.pending ∙ at.pends i;
        here = λ i is run. some_still steps more g.same old.here.numbers.items i (here_of T.streams t i) (at.here i is run);
      })

-- ---- one number of a table
module _ (steps : List WhyStep) (numbers : List (Option ℕ)) (i : ℕ) (x : Option ℕ) where
  pub number_set : i < length numbers → number_at (slice_set numbers i x) i ≡ x
  number_set lt = get_or-set_same numbers i x None lt

  pub number_other : (j : ℕ) → j ≢ i → number_at (slice_set numbers i x) j ≡ number_at numbers j
  number_other j other = get_or-set_other numbers i j x None other

  pub fact_set : i < length numbers → fact_of steps (slice_set numbers i x) i ≡ fact_at steps x
  fact_set lt = ap (fact_at steps) (number_set lt)

  pub fact_other : (j : ℕ) → j ≢ i → fact_of steps (slice_set numbers i x) j ≡ fact_of steps numbers j
  fact_other j other = ap (fact_at steps) (number_other j other)

  pub within_set : i < length numbers → ((n : ℕ) → x ≡ Some n → n < length steps) → AreWithin steps numbers → AreWithin steps (slice_set numbers i x)
  within_set lt here before j n is = elim (same_or_not j i) [
    | inl same ↦ here n (sym (number_set lt) ∙ ap (number_at (slice_set numbers i x)) (sym same) ∙ is)
    | inr other ↦ before j n (sym (number_other j other) ∙ is)
  ]

pub quiet_other : (steps : List WhyStep) (q r : List (Option ℕ)) (v low n : ℕ) → number_at r v ≡ number_at q v → HasQuiet steps q v low n → HasQuiet steps r v low n
quiet_other steps q r v low n same (tale.HasQuiet.none is) = tale.HasQuiet.none (same ∙ is)
quiet_other steps q r v low n same (tale.HasQuiet.some le at) = tale.HasQuiet.some le (ap (fact_at steps) same ∙ at)

pub latest_other : (steps : List WhyStep) (l m : List (Option ℕ)) (z : Streams) (v low : ℕ) → number_at m v ≡ number_at l v → HasLatest steps l z v low → HasLatest steps m z v low
latest_other steps l m z v low same (tale.HasLatest.none is) = tale.HasLatest.none (same ∙ is)
latest_other steps l m z v low same (tale.HasLatest.some is at) = tale.HasLatest.some is (ap (fact_at steps) same ∙ at)

pub past_other : (steps : List WhyStep) (l m q r : List (Option ℕ)) (z : Streams) (v n : ℕ) → number_at m v ≡ number_at l v → number_at r v ≡ number_at q v → HasPast steps l q z v n → HasPast steps m r z v n
past_other steps l m q r z v n ls qs past = record {
  low = past.low;
  since = quiet_other steps q r v past.low n qs past.since;
  event_at = latest_other steps l m z v past.low ls past.event_at;
  silent = past.silent;
}

module _ (T : Tale) (t : ℕ) where
  pub set_here : (past due : ℕ → ℕ) (done : ℕ → Bool) (steps : List WhyStep) (h l q d : List (Option ℕ)) (i n : ℕ) → i < length T.system.equations → fact_at steps (Some n) ≡ Some (here_of T.streams t i) → StandsAt T past due t done steps h l q d → StandsAt T past due t (with_one i done) steps (slice_set h i (Some n)) l q d
  set_here past due done steps h l q d i n lt fact at =
      let count = at.now_count in
      let low : i < length h = omega (arith, count) in
      record {
        right = at.right;
        latest = at.latest;
        quiet = at.quiet;
        pending = at.pending;
        now_count = length-set h i (Some n) ∙ at.now_count;
        latest_count = at.latest_count;
        quiet_count = at.quiet_count;
        due_count = at.due_count;
        kept = at.kept;
        pends = at.pends;
        here = λ j is run. elim (same_or_not j i) [
          | inl same ↦ ap (fact_of steps (slice_set h i (Some n))) same ∙ fact_set steps h i (Some n) low ∙ fact ∙ ap (λ k. Some (here_of T.streams t k)) (sym same)
          | inr other ↦ elim (or_cases (j == i) (done j) is) [
            | inl one ↦ absurd (other (eqb-true j i one))
            | inr before ↦ fact_other steps h i (Some n) j other ∙ at.here j before run
          ]
        ];
      }

  -- when one delay is due
  pub set_due : (past due next : ℕ → ℕ) (done : ℕ → Bool) (steps : List WhyStep) (h l q d : List (Option ℕ)) (i n : ℕ) (f : Fact) → i < length T.system.equations → fact_at steps (Some n) ≡ Some f → n < length steps → due_told T.system T.streams (next i) i ≡ Some f → ((j : ℕ) → j ≢ i → due j ≡ next j) → StandsAt T past due t done steps h l q d → StandsAt T past next t done steps h l q (slice_set d i (Some n))
  set_due past due next done steps h l q d i n f lt fact there told_so others at =
      let count = at.due_count in
      let low : i < length d = omega (arith, count) in
      record {
        right = at.right;
        latest = at.latest;
        quiet = at.quiet;
        pending = within_set steps d i (Some n) low (λ m is. let same = same_number n m is in omega (arith, there, same)) at.pending;
        now_count = at.now_count;
        latest_count = at.latest_count;
        quiet_count = at.quiet_count;
        due_count = length-set d i (Some n) ∙ at.due_count;
        kept = at.kept;
        pends = λ j. elim (same_or_not j i) [
          | inl same ↦ ap (fact_of steps (slice_set d i (Some n))) same ∙ fact_set steps d i (Some n) low ∙ fact ∙ sym told_so ∙ ap (λ k. due_told T.system T.streams (next k) k) (sym same)
          | inr other ↦ fact_other steps d i (Some n) j other ∙ at.pends j ∙ ap (λ u. due_told T.system T.streams u j) (others j other)
        ];
        here = at.here;
      }

  -- the past of one equation
  pub set_past : (past next due : ℕ → ℕ) (done : ℕ → Bool) (steps : List WhyStep) (h l m q r d : List (Option ℕ)) (i : ℕ) → AreWithin steps m → AreWithin steps r → length m ≡ length l → length r ≡ length q → ((j : ℕ) → j ≢ i → number_at m j ≡ number_at l j) → ((j : ℕ) → j ≢ i → number_at r j ≡ number_at q j) → ((j : ℕ) → j ≢ i → past j ≡ next j) → HasPast steps m r T.streams i (next i) → StandsAt T past due t done steps h l q d → StandsAt T next due t done steps h m r d
  set_past past next due done steps h l m q r d i in_m in_r long_m long_r latest_same quiet_same others here at = record {
    right = at.right;
    latest = in_m;
    quiet = in_r;
    pending = at.pending;
    now_count = at.now_count;
    latest_count = long_m ∙ at.latest_count;
    quiet_count = long_r ∙ at.quiet_count;
    due_count = at.due_count;
    kept = λ v is. elim (same_or_not v i) [
      | inl same ↦ subst (λ w. HasPast steps m r T.streams w (next w)) (sym same) here
      | inr other ↦ subst (HasPast steps m r T.streams v) (others v other) (past_other steps l m q r T.streams v (past v) (latest_same v other) (quiet_same v other) (at.kept v is))
    ];
    pends = at.pends;
    here = at.here;
  }

-- ---- times of equations that are there
module _ (T : Tale) (story : IsStory T) where
  pub running_there : (i : ℕ) → IsTrue (runs T.system i) → i < length T.system.equations
  running_there i run = let found = story.whole.proper.runs_all i run in slice_get_within T.system.equations i found.0 found.1

  told_same : (i u v : ℕ) → (i < length T.system.equations → due_told T.system T.streams u i ≡ due_told T.system T.streams v i) → due_told T.system T.streams u i ≡ due_told T.system T.streams v i
  told_same i u v same = elim (cases_lt i (length T.system.equations)) [
    | inl low ↦ same low
    | inr high ↦
        let none = slice_get_past T.system.equations i high in
        (λ k. if runs T.system i then due_at (none k) T.streams i u else None) ∙ sym (λ k. if runs T.system i then due_at (none k) T.streams i v else None)
  ]

  -- other times, that are the same at the equations that are there
  pub at_times : (past next due later : ℕ → ℕ) (t : ℕ) (done : ℕ → Bool) (steps : List WhyStep) (h l q d : List (Option ℕ)) → ((v : ℕ) → v < length T.system.equations → past v ≡ next v) → ((i : ℕ) → i < length T.system.equations → due_told T.system T.streams (due i) i ≡ due_told T.system T.streams (later i) i) → StandsAt T past due t done steps h l q d → StandsAt T next later t done steps h l q d
  at_times past next due later t done steps h l q d pasts dues at = record {
    right = at.right;
    latest = at.latest;
    quiet = at.quiet;
    pending = at.pending;
    now_count = at.now_count;
    latest_count = at.latest_count;
    quiet_count = at.quiet_count;
    due_count = at.due_count;
    kept = λ v is. subst (HasPast steps l q T.streams v) (pasts v (running_there v (story.kept.runs_too v is))) (at.kept v is);
    pends = λ i. at.pends i ∙ told_same i (due i) (later i) (λ low. dues i low);
    here = at.here;
  }
