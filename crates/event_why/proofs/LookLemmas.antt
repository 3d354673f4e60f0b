-- From which facts of a draft it follows what happens at an equation: operations that look back.
use Rattle.std.proofs.Common.{◌≡◌, ℕ, zero, suc, ◌<◌, ◌≤◌, ◌^◌, Bool, true, false, List, [], ◌∷◌, length, Option, Some, None, refl, sym, ap, subst, ◌∙◌, inl, inr, arith}
use Rattle.std.proofs.lemmas.Bool.{cases_lt, eq-eqb, false≢true, lt-ltb}
use Rattle.std.proofs.lemmas.Option.{none-some, same_Some}
use Rattle.std.specs.Prelude.{◌⊎◌, IsTrue, if◌then◌else◌, nat_lt, slice_get}
use Rattle.std.specs.Option.{option_map, option_or}
use Rattle.tsl_value.specs.View.{View}
use Rattle.tsl_value.proofs.Lists.{here}
use Rattle.flat_core.specs.declared.equation.Op.TheVariants as op
use Rattle.flat_core.specs.declared.equation.Equation.{Equation}
use Rattle.flat_core.specs.Case.{Streams}
use Rattle.flat_core.specs.Events.{Inputs, unit}
use Rattle.flat_core.specs.Pending.{option_is, pending}
use Rattle.flat_core.specs.Stream.{History, event, has_event, latest}
use Rattle.flat_core.specs.System.{System}
use Rattle.flat_core.specs.inner.Arity.{HasArity}
use Rattle.flat_core.specs.inner.Kept.{IsKept}
use Rattle.flat_core.proofs.DueLemmas.{delay_kept, delayed_is-due, option_is-some}
use Rattle.why_rules.specs.Facts.{Fact, Happens, Silent, Pending}
use Rattle.why_rules.specs.Rules.{Tells, SilentBetween, Makes, Lacks}
use Rattle.why_rules.specs.Rules as rule
use Rattle.why_rules.proofs.Instants.{delay_args}
use Rattle.event_why.specs.declared.draft.Draft.{Draft}
use Rattle.event_why.specs.declared.fact.WhyStep.{WhyStep}
use Rattle.event_why.specs.Check.{AreNamed}
use Rattle.event_why.specs.Said.{said}
use Rattle.event_why.specs.inner.Drafted.{AreWithin, IsGrounded, fact_at, fact_of, happens_at, happens_now, number_at, table_at, there}
use Rattle.event_why.specs.inner.Tale.{CanTell, GroundsEvent, GroundsSilence, HasLatest, HasPast, HasQuiet, Tale, due_at, due_fact, due_time, due_told, fact_here, here_of}
use Rattle.event_why.specs.inner.Tale as tale
use Rattle.event_why.proofs.CheckLemmas.{output_at}
use Rattle.event_why.proofs.DraftLemmas.{told, there_end, there_next, there_not}
use Rattle.event_why.proofs.GroundLemmas.{event_from, happens_is, here_used, named_one, none_of, own_as, shape, silence_from, some_of, value_in}
use Rattle.event_why.proofs.ListedFacts.{last_two, two_exist}

-- ---- the latest event
pub latest_from : (h : History) (low n : ℕ) → low ≤ n → ((w : ℕ) → low ≤ w → w < n → event (h w) ≡ None) → latest h n ≡ latest h low
latest_from h low zero le none = let same : zero ≡ low = omega arith in ap (latest h) same
latest_from h low (suc n) le none = elim (cases_lt n low) [
  | inl end ↦ let same : suc n ≡ low = omega arith in ap (latest h) same
  | inr more ↦ (λ k. option_or (none n more (omega arith) k) (latest h n)) ∙ latest_from h low n more (λ w from below. none w from (omega arith))
]

pub quiet_within : (steps : List WhyStep) (quiet : List (Option ℕ)) (v low n : ℕ) → HasQuiet steps quiet v low n → low ≤ n
quiet_within steps quiet v low n (tale.HasQuiet.none is) = omega arith
quiet_within steps quiet v low n (tale.HasQuiet.some le at) = omega arith

-- a value, or that nothing came yet
pub latest_known : (steps : List WhyStep) (table : List (Option ℕ)) (z : Streams) (v low : ℕ) → HasLatest steps table z v low → (x : Option View) → latest (z v) low ≡ x → ((low ≡ 0) × (x ≡ None)) ⊎ ((u : ℕ) × (y : View) × (low ≡ suc u) × (x ≡ Some y) × (fact_of steps table v ≡ Some (Happens v u y)))
latest_known steps table z v low (tale.HasLatest.none empty) x is = inl (refl, sym is)
latest_known steps table z v low (tale.HasLatest.some {u = u} {x = y} at fact) x is = inr (u, y, refl, sym is ∙ (λ k. option_or (at k) (latest (z v) u)), fact)

pub number_none : (steps : List WhyStep) (numbers : List (Option ℕ)) (i : ℕ) → AreWithin steps numbers → fact_of steps numbers i ≡ None → number_at numbers i ≡ None
number_none steps numbers i within none = at (number_at numbers i) refl
  where
    at : (x : Option ℕ) → number_at numbers i ≡ x → number_at numbers i ≡ None
    at None is = is
    at (Some n) is =
        let found = output_at steps n (within i n is) in
        absurd (none-some (said found.0.fact) (sym none ∙ ap (fact_at steps) is ∙ ap (option_map told) found.1))

pub due_time_is : (x : Option ℕ) (u : ℕ) → due_time x ≡ Some u → x ≡ Some u
due_time_is None u is = absurd (none-some u is)
due_time_is (Some n) u is = chosen (nat_lt n (2 ^ 63)) is
  where
    chosen : (b : Bool) → ◌≡◌ {A = Option ℕ} (if b then Some n else None) (Some u) → ◌≡◌ {A = Option ℕ} (Some n) (Some u)
    chosen true is = is
    chosen false is = absurd (none-some u is)

either : (b : Bool) (x : Option View) (v : View) → (if b then x else None) ≡ Some v → (b ≡ true) × (x ≡ Some v)
either true x v is = (refl, is)
either false x v is = absurd (none-some v is)

module _ (T : Tale) (t i : ℕ) (e : Equation) (draft : Draft) (c : CanTell T t i e draft) where
  abbrev s : System
  s = T.system

  abbrev p : Inputs
  p = T.inputs

  abbrev z : Streams
  z = T.streams

  abbrev steps : List WhyStep
  steps = draft.steps.items

  abbrev Event : ℕ → View → List ℕ → Type 0
  Event u v by = IsGrounded s s.running p steps (Happens i u v) by

  abbrev Silence : List ℕ → Type 0
  Silence by = IsGrounded s s.running p steps (Silent i t t) by

  -- ---- Last
  module _ (op_is : e.op ≡ op.Last) (a r : ℕ) (args_are : e.args ≡ a ∷ r ∷ []) where
    past : HasPast steps draft.latest.numbers.items draft.quiet.numbers.items z a t
    past = c.is_at.kept a (c.story.kept.first i e c.run c.is op_is a r args_are)

    asked_at : fact_of steps draft.here.numbers.items r ≡ Some (here_of z t r)
    asked_at = here_used T t i e draft c op.Last (a ∷ r ∷ []) op_is args_are r (here r [])

    own_last : (x : Option View) → event (z i t) ≡ x → (if has_event (z r t) then latest (z a) t else None) ≡ x
    own_last x at = ap value_in (own_as T t i e draft c op.Last (a ∷ r ∷ []) x op_is args_are at)

    latest_is : latest (z a) t ≡ latest (z a) past.low
    latest_is = latest_from (z a) past.low t (quiet_within steps draft.quiet.numbers.items a past.low t past.since) past.silent

    -- the silence since, where there is one
    since : (low n : ℕ) (ns : List (Option ℕ)) → HasQuiet steps draft.quiet.numbers.items a low n → (fs : List Fact) × AreNamed steps (length steps) (there (number_at draft.quiet.numbers.items a ∷ [])) fs × SilentBetween a low n fs
    since low n ns (tale.HasQuiet.none is) = ([], there_not steps (number_at draft.quiet.numbers.items a) [] [] is (there_end steps), rule.SilentBetween.no_time (omega arith))
    since low n ns (tale.HasQuiet.some {n = m} le at) =
        (Silent a low m ∷ [], there_next steps (number_at draft.quiet.numbers.items a) (Silent a low m) [] [] at (there_end steps), rule.SilentBetween.times le)

    event_last : (v : View) → event (z i t) ≡ Some v → (by : List ℕ) → by ≡ there (number_at draft.here.numbers.items r ∷ number_at draft.latest.numbers.items a ∷ number_at draft.quiet.numbers.items a ∷ []) → Event t v by
    event_last v at by by_is =
        let parts = either (has_event (z r t)) (latest (z a) t) v (own_last (Some v) at) in
        let asked = some_of (event (z r t)) parts.0 in
        elim (latest_known steps draft.latest.numbers.items z a past.low past.event_at (Some v) (sym latest_is ∙ parts.1)) [
          | inl never ↦ absurd (none-some v (sym never.1))
          | inr found ↦
              let u = found.0 in
              let same : found.1 ≡ v = sym (same_Some v found.1 found.3) in
              let rest = since past.low t [] past.since in
              let between : SilentBetween a (suc u) t rest.0 = subst (λ low. SilentBetween a low t rest.0) found.2 rest.2 in
              let late = quiet_within steps draft.quiet.numbers.items a past.low t past.since in
              let low_is = found.2 in
              let named =
              there_next steps (number_at draft.here.numbers.items r) (Happens r t asked.0) (number_at draft.latest.numbers.items a ∷ number_at draft.quiet.numbers.items a ∷ []) (Happens a u v ∷ rest.0)
              (asked_at ∙ ap (λ y. Some (fact_here r t y)) asked.1)
              (there_next steps (number_at draft.latest.numbers.items a) (Happens a u v) (number_at draft.quiet.numbers.items a ∷ []) rest.0 (found.4 ∙ ap (λ y. Some (Happens a u y)) same) rest.1) in
              event_from T t i e draft c v by (Happens r t asked.0 ∷ Happens a u v ∷ rest.0)
              (subst (λ ns. AreNamed steps (length steps) ns (Happens r t asked.0 ∷ Happens a u v ∷ rest.0)) (sym by_is) named)
              (rule.Makes.last op_is args_are (omega (arith, late, low_is)) between)
        ]

    silence_not_asked : event (z i t) ≡ None → happens_now draft r ≡ false → (by : List ℕ) → by ≡ there (number_at draft.here.numbers.items r ∷ []) → Silence by
    silence_not_asked at none by by_is =
        let silent = none_of (event (z r t)) (sym (happens_is T t i e draft c r asked_at) ∙ none) in
        silence_from T t i e draft c by (Silent r t t ∷ []) (named_one T t i e draft c r None by asked_at silent by_is)
        (rule.Lacks.not_asked op_is args_are (rule.Tells.none (omega arith) (omega arith)))

    silence_before : event (z i t) ≡ None → 0 < t → happens_now draft r ≡ true → (by : List ℕ) → by ≡ there (number_at draft.quiet.numbers.items a ∷ []) → Silence by
    silence_before at late has by by_is =
        let asked : has_event (z r t) ≡ true = sym (happens_is T t i e draft c r asked_at) ∙ has in
        let none : latest (z a) t ≡ None = (λ k. if sym asked k then latest (z a) t else None) ∙ own_last None at in
        elim (latest_known steps draft.latest.numbers.items z a past.low past.event_at None (sym latest_is ∙ none)) [
          | inl never ↦ before_all t late refl (subst (λ low. HasQuiet steps draft.quiet.numbers.items a low t) never.0 past.since)
          | inr found ↦ absurd (none-some found.1 found.3)
        ]
      where
        before_all : (n : ℕ) → 0 < n → n ≡ t → HasQuiet steps draft.quiet.numbers.items a 0 n → Silence by
        before_all n low same (tale.HasQuiet.none is) = absurd (omega arith)
        before_all n low same (tale.HasQuiet.some {n = m} le at) =
            silence_from T t i e draft c by (Silent a 0 m ∷ [])
            (subst (λ ns. AreNamed steps (length steps) ns (Silent a 0 m ∷ [])) (sym by_is) (there_next steps (number_at draft.quiet.numbers.items a) (Silent a 0 m) [] [] at (there_end steps)))
            (subst (λ u. Lacks p i e u (Silent a 0 m ∷ [])) same (rule.Lacks.nothing_before op_is args_are))

  pub silence_at_zero : IsTrue (rule.looks_back e.op) → t ≡ 0 → (by : List ℕ) → by ≡ [] → Silence by
  silence_at_zero is zero_is by by_is =
      silence_from T t i e draft c by [] (subst (λ ns. AreNamed steps (length steps) ns []) (sym by_is) (there_end steps))
      (subst (λ u. Lacks p i e u []) (sym zero_is) (rule.Lacks.at_zero is))

  -- ---- Delay
  module _ (op_is : e.op ≡ op.Delay) (d r : ℕ) (args_are : e.args ≡ d ∷ r ∷ []) where
    due_is : due_told s z t i ≡ due_fact z i op.Delay (d ∷ r ∷ []) t
    due_is = (λ k. if c.run k then due_at (c.is k) z i t else None) ∙ (λ k. due_fact z i (op_is k) (args_are k) t)

    pends : fact_of steps draft.pending.numbers.items i ≡ due_fact z i op.Delay (d ∷ r ∷ []) t
    pends = c.is_at.pends i ∙ due_is

    abbrev waiting : ℕ → Option ℕ
    waiting n = pending (z d) (z r) (z i) n

    kept : IsKept z i op.Delay (d ∷ r ∷ []) t
    kept = λ w low. let early = c.early in delay_kept s p z T.bound c.story.solves i e c.run c.is op_is d r args_are w (omega arith)

    own_due : (x : Option View) → event (z i t) ≡ x → (if option_is t (waiting t) then Some unit else None) ≡ x
    own_due x at = sym (delayed_is-due z i t d r kept) ∙ ap value_in (own_as T t i e draft c op.Delay (d ∷ r ∷ []) x op_is args_are at)

    -- the fact that names when it is due
    due_here : (m : ℕ) → t ≡ suc m → fact_of steps draft.pending.numbers.items i ≡ Some (Pending i m (due_time (waiting (suc m))))
    due_here m t_is = pends ∙ ap (due_fact z i op.Delay (d ∷ r ∷ [])) t_is

    event_due : (n : ℕ) → t ≡ n → (v : View) → event (z i t) ≡ Some v → (by : List ℕ) → by ≡ there (number_at draft.pending.numbers.items i ∷ []) → Event t v by
    event_due zero t_is v at by by_is =
        let parts = either (option_is t (waiting t)) (Some unit) v (own_due (Some v) at) in
        absurd (false≢true (sym (ap (λ u. option_is u (waiting u)) t_is) ∙ parts.0))
    event_due (suc m) t_is v at by by_is =
        let parts = either (option_is t (waiting t)) (Some unit) v (own_due (Some v) at) in
        let due : waiting (suc m) ≡ Some (suc m) = sym (ap waiting t_is) ∙ option_is-some t (waiting t) parts.0 ∙ ap Some t_is in
        let early = c.early in
        let small = c.story.small in
        let low : suc m < 2 ^ 63 = omega (arith, early, small, t_is) in
        let due_so : due_time (waiting (suc m)) ≡ Some (suc m) = ap due_time due ∙ (λ k. if lt-ltb (suc m) (2 ^ 63) low k then Some (suc m) else None) in
        let facts = Pending i m (Some (suc m)) ∷ [] in
        let made : Makes p i e (suc m) unit (Pending i m (Some (suc m)) ∷ []) = rule.Makes.expired op_is in
        event_from T t i e draft c v by facts
        (subst (λ ns. AreNamed steps (length steps) ns facts) (sym by_is)
        (there_next steps (number_at draft.pending.numbers.items i) (Pending i m (Some (suc m))) [] [] (due_here m t_is ∙ ap (λ x. Some (Pending i m x)) due_so) (there_end steps)))
        (subst (λ w. Makes p i e t w facts) (same_Some unit v parts.1) (subst (λ u. Makes p i e u unit facts) (sym t_is) made))

    silence_due : (n : ℕ) → t ≡ n → event (z i t) ≡ None → (by : List ℕ) → by ≡ there (number_at draft.pending.numbers.items i ∷ []) → Silence by
    silence_due zero t_is at by by_is =
        let nothing = number_none steps draft.pending.numbers.items i c.is_at.pending (pends ∙ ap (due_fact z i op.Delay (d ∷ r ∷ [])) t_is) in
        silence_at_zero (ap rule.looks_back op_is) t_is by (by_is ∙ (λ k. there (nothing k ∷ [])))
    silence_due (suc m) t_is at by by_is =
        let fact = Pending i m (due_time (waiting (suc m))) in
        let lacks : Lacks p i e (suc m) (Pending i m (due_time (waiting (suc m))) ∷ []) =
        rule.Lacks.not_due op_is (λ same.
        let due : waiting t ≡ Some t = ap waiting t_is ∙ due_time_is (waiting (suc m)) (suc m) same ∙ ap Some (sym t_is) in
        none-some unit (sym (own_due None at) ∙ (λ k. if (ap (option_is t) due ∙ eq-eqb t t refl) k then Some unit else None))) in
        silence_from T t i e draft c by (fact ∷ [])
        (subst (λ ns. AreNamed steps (length steps) ns (fact ∷ [])) (sym by_is) (there_next steps (number_at draft.pending.numbers.items i) fact [] [] (due_here m t_is) (there_end steps)))
        (subst (λ u. Lacks p i e u (fact ∷ [])) (sym t_is) lacks)

-- ---- as the code asks for them
module _ (draft : Draft) (e : Equation) (i : ℕ) (by : List ℕ) where
  pub event_last_by : by ≡ there (table_at draft.here.numbers.items (slice_get e.args 1) ∷ table_at draft.latest.numbers.items (slice_get e.args 0) ∷ table_at draft.quiet.numbers.items (slice_get e.args 0) ∷ []) → e.op ≡ op.Last → GroundsEvent draft e i by
  event_last_by by_is op_is T t v c at =
      let args = two_exist e.args (last_two e.op e.args op_is (shape T t i e draft c)) in
      event_last T t i e draft c op_is args.0 args.1 args.2 v at by
      (by_is ∙ ap (λ xs. there (table_at draft.here.numbers.items (slice_get xs 1) ∷ table_at draft.latest.numbers.items (slice_get xs 0) ∷ table_at draft.quiet.numbers.items (slice_get xs 0) ∷ [])) args.2)

  pub event_due_by : by ≡ there (number_at draft.pending.numbers.items i ∷ []) → e.op ≡ op.Delay → GroundsEvent draft e i by
  event_due_by by_is op_is T t v c at =
      let args = delay_args e.args (subst (λ o. HasArity o e.args) op_is (shape T t i e draft c)) in
      event_due T t i e draft c op_is args.0 args.1 args.2 t refl v at by by_is

  module _ (t : ℕ) where
    pub silence_due_by : by ≡ there (number_at draft.pending.numbers.items i ∷ []) → e.op ≡ op.Delay → GroundsSilence draft e i t by
    silence_due_by by_is op_is T c at =
        let args = delay_args e.args (subst (λ o. HasArity o e.args) op_is (shape T t i e draft c)) in
        silence_due T t i e draft c op_is args.0 args.1 args.2 t refl at by by_is

    pub silence_zero_by : t ≡ 0 → by ≡ [] → e.op ≡ op.Last → GroundsSilence draft e i t by
    silence_zero_by zero_is by_is op_is T c at = silence_at_zero T t i e draft c (ap rule.looks_back op_is) zero_is by by_is

    pub silence_asked_by : 0 < t → happens_at draft (slice_get e.args 1) ≡ true → by ≡ there (table_at draft.quiet.numbers.items (slice_get e.args 0) ∷ []) → e.op ≡ op.Last → GroundsSilence draft e i t by
    silence_asked_by late has by_is op_is T c at =
        let args = two_exist e.args (last_two e.op e.args op_is (shape T t i e draft c)) in
        silence_before T t i e draft c op_is args.0 args.1 args.2 at late
        (sym (ap (λ xs. happens_at draft (slice_get xs 1)) args.2) ∙ has) by
        (by_is ∙ ap (λ xs. there (table_at draft.quiet.numbers.items (slice_get xs 0) ∷ [])) args.2)

    pub silence_not_asked_by : happens_at draft (slice_get e.args 1) ≡ false → by ≡ there (table_at draft.here.numbers.items (slice_get e.args 1) ∷ []) → e.op ≡ op.Last → GroundsSilence draft e i t by
    silence_not_asked_by has by_is op_is T c at =
        let args = two_exist e.args (last_two e.op e.args op_is (shape T t i e draft c)) in
        silence_not_asked T t i e draft c op_is args.0 args.1 args.2 at
        (sym (ap (λ xs. happens_at draft (slice_get xs 1)) args.2) ∙ has) by
        (by_is ∙ ap (λ xs. there (table_at draft.here.numbers.items (slice_get xs 1) ∷ [])) args.2)
