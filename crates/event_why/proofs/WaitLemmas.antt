-- When delays are due, in drafts and in streams.
use Rattle.std.proofs.Common.{◌≡◌, ℕ, zero, suc, ◌+◌, ◌<◌, ◌≤◌, ◌^◌, Bool, true, false, ◌&&◌, ◌||◌, List, [], ◌∷◌, length, Contains, Option, Some, None, refl, sym, ap, subst, ◌∙◌, inl, inr, arith}
use Rattle.std.proofs.lemmas.Bool.{cases_Bool, cases_lt, eq-eqb, false≢true, lt-ltb, le-ltb, or_parts}
use Rattle.std.proofs.lemmas.Option.{none-some}
use Rattle.std.proofs.Math.Bool.{or-true}
use Rattle.std.specs.Prelude.{◌⊎◌, IsTrue, if◌then◌else◌, pos, SomeIff}
use Rattle.tsl_value.specs.View.{View, Plain}
use Rattle.tsl_value.specs.declared.scalar.Scalar.TheVariants as scalar
use Rattle.flat_core.specs.declared.equation.Op.TheVariants as op
use Rattle.flat_core.specs.declared.equation.Equation.{Equation}
use Rattle.flat_core.specs.Case.{Streams}
use Rattle.flat_core.specs.Events.{Inputs, expires}
use Rattle.flat_core.specs.Pending.{is_set, option_is, pending, reached}
use Rattle.flat_core.specs.Stream.{event, has_event}
use Rattle.flat_core.specs.System.{System, equation, runs}
use Rattle.flat_core.proofs.DueLemmas.{delay_kept, expires_is-due, some-option_is}
use Rattle.flat_core.proofs.Members.{all_at}
use Rattle.flat_core.proofs.Shapes.{running_args}
use Rattle.flat_core.proofs.StillLemmas.{pending_still}
use Rattle.why_rules.specs.Facts.{Fact, Happens, Silent, Pending}
use Rattle.why_rules.specs.Rules.{AllWait, IsAfter, IsMember, Keeps, NothingGiven, Sets}
use Rattle.why_rules.specs.Rules as rule
use Rattle.why_rules.proofs.Instants.{at_head, at_next}
use Rattle.event_why.specs.declared.draft.Draft.{Draft}
use Rattle.event_why.specs.declared.fact.WhyStep.{WhyStep}
use Rattle.event_why.specs.Check.{AreNamed}
use Rattle.event_why.specs.Said.{said}
use Rattle.event_why.specs.inner.Drafted.{IsGrounded, IsPut, due_of, fact_at, fact_of, happens_in, number_at, there}
use Rattle.event_why.specs.inner.Tale.{CanWait, IsCalm, IsStory, Tale, Tells, due_after, due_at, due_fact, due_time, fact_here, here_of, later_by}
use Rattle.event_why.specs.inner.Told.{amount_of, event_in}
use Rattle.event_why.proofs.DraftLemmas.{ground, grown_by, there_end, there_next, there_not}
use Rattle.event_why.proofs.GroundLemmas.{happens_here, none_of, some_of}
use Rattle.event_why.proofs.LookLemmas.{due_time_is, number_none}

-- ---- an amount later
pub plus_is : (t n : ℕ) (r : Option ℕ) → SomeIff r (t + n < 2 ^ 63) (t + n) → r ≡ later_by t (Some n)
plus_is t n None late = elim (cases_lt (t + n) (2 ^ 63)) [
  | inl low ↦ absurd (late low)
  | inr high ↦ λ k. if sym (le-ltb (t + n) (2 ^ 63) high) k then Some (t + n) else None
]
plus_is t n (Some u) at = ap Some at.1 ∙ (λ k. if sym (lt-ltb (t + n) (2 ^ 63) at.0) k then Some (t + n) else None)

pub event_here : (i t : ℕ) (x : Option View) → event_in i t (fact_here i t x) ≡ x
event_here i t None = refl
event_here i t (Some v) = λ k. if eq-eqb i i refl k && eq-eqb t t refl k then Some v else None

-- what a fact of an equation at a time says of its amount
pub amount_here : (i t : ℕ) (x : Option View) (f : Fact) (r : Option ℕ) → r ≡ amount_of (event_in i t f) → f ≡ fact_here i t x → r ≡ amount_of x
amount_here i t x f r r_is f_is = r_is ∙ ap (λ g. amount_of (event_in i t g)) f_is ∙ ap amount_of (event_here i t x)

-- ---- a delay of a story
module _ (T : Tale) (story : IsStory T) (i : ℕ) (e : Equation) (run : IsTrue (runs T.system i)) (is : equation T.system i ≡ Some e) (op_is : e.op ≡ op.Delay) (d r : ℕ) (args_are : e.args ≡ d ∷ r ∷ []) where
  abbrev due_before : ℕ → Option ℕ
  due_before n = pending (T.streams d) (T.streams r) (T.streams i) n

  keeps : (w : ℕ) → w < T.bound → has_event (T.streams i w) ≡ expires (T.streams d) (T.streams r) (T.streams i) w
  keeps w low = delay_kept T.system T.inputs T.streams T.bound story.solves i e run is op_is d r args_are w low

  -- it has its event where it is due
  pub event_when_due : (w : ℕ) → w < T.bound → has_event (T.streams i w) ≡ option_is w (due_before w)
  event_when_due w low = keeps w low ∙ expires_is-due (T.streams d) (T.streams r) (T.streams i) w (λ v before. keeps v (omega arith))

  -- the amount, where it has one
  pub amount_is : (t : ℕ) → t < T.bound → (v : View) → event (T.streams d t) ≡ Some v → (n : ℕ) × (0 < n) × (v ≡ Plain (scalar.Int (pos n)))
  amount_is t low v at = story.amounts i e run is op_is d r args_are t low v at

  reached_later : (t u : ℕ) → t < T.bound → (x : Option View) → event (T.streams d t) ≡ x → reached t x ≡ Some u → t < u
  reached_later t u low None at is_at = absurd (none-some u is_at)
  reached_later t u low (Some v) at is_at =
      let amount = amount_is t low v at in
      let positive = amount.1 in
      let same : t + amount.0 ≡ u = number_in (t + amount.0) u ((λ k. reached t (Some (sym amount.2 k))) ∙ is_at) in
      omega (arith, positive, same)
    where
      number_in : (n m : ℕ) → ◌≡◌ {A = Option ℕ} (Some n) (Some m) → n ≡ m
      number_in n m is = ap value is
        where
          value : Option ℕ → ℕ
          value None = n
          value (Some k) = k

  -- what is pending before a time is no earlier
  pub pending_later : (n u : ℕ) → n ≤ T.bound → due_before n ≡ Some u → n ≤ u
  pending_later zero u low at = omega arith
  pending_later (suc m) u low at = elim (cases_Bool (is_set (T.streams r) (T.streams i) m)) [
    | inl set ↦ reached_later m u low (event (T.streams d m)) refl ((λ k. if sym set k then reached m (event (T.streams d m)) else due_before m) ∙ at)
    | inr not_set ↦
        let before : due_before m ≡ Some u = (λ k. if sym not_set k then reached m (event (T.streams d m)) else due_before m) ∙ at in
        let early = pending_later m u (omega arith) before in
        elim (cases_lt m u) [
          | inl after ↦ after
          | inr end ↦
              let same : u ≡ m = omega (arith, early) in
              let due = event_when_due m low ∙ some-option_is m (due_before m) (before ∙ ap Some same) in
              absurd (false≢true (sym (or_parts (has_event (T.streams r m)) (has_event (T.streams i m)) not_set).1 ∙ due))
        ]
  ]

  -- in a calm it is not due
  pub not_due_in : (from to : ℕ) → from ≤ to → to < T.bound → IsCalm T from (suc to) → IsTrue (runs T.system r) → IsAfter to (due_time (due_before from))
  not_due_in from to le low calm r_runs = at (due_time (due_before from)) refl
    where
      at : (x : Option ℕ) → due_time (due_before from) ≡ x → IsAfter to x
      at None same = tt
      at (Some u) same =
          let due = due_time_is (due_before from) u same in
          let early = pending_later from u (omega arith) due in
          elim (cases_lt to u) [
            | inl after ↦ after
            | inr within ↦
                let still = pending_still (T.streams d) (T.streams r) (T.streams i) from u early (λ w above below. ((calm r w r_runs above (omega arith)).0, (calm i w run above (omega arith)).0)) in
                let happens = event_when_due u (omega arith) ∙ some-option_is u (due_before u) (still ∙ due) in
                absurd (false≢true (sym (ap has_event (calm i u run early (omega arith)).0) ∙ happens))
          ]

-- ---- a delay, after what happens at an instant
module _ (T : Tale) (t i d r : ℕ) (draft : Draft) (c : CanWait T t i d r draft) where
  abbrev s : System
  s = T.system

  abbrev z : Streams
  z = T.streams

  abbrev p : Inputs
  p = T.inputs

  abbrev steps : List WhyStep
  steps = draft.steps.items

  abbrev table : List (Option ℕ)
  table = draft.here.numbers.items

  abbrev waiting : ℕ → Option ℕ
  waiting n = pending (z d) (z r) (z i) n

  member : IsMember s s.running p i c.at
  member = record { among = c.run; is = c.is }

  runs_arg : (a : ℕ) → Contains c.at.args a → IsTrue (runs s a)
  runs_arg a m = all_at (λ b. IsTrue (runs s b)) c.at.args (running_args s c.story.whole.proper i c.at c.run c.is) a m

  pub here_amount : fact_of steps table d ≡ Some (here_of z t d)
  here_amount = let run = runs_arg d (at_head d c.at.args (r ∷ []) c.args_are) in c.is_at.here d run run

  pub here_reset : fact_of steps table r ≡ Some (here_of z t r)
  here_reset = let run = runs_arg r (at_next d r c.at.args [] c.args_are) in c.is_at.here r run run

  pub here_itself : fact_of steps table i ≡ Some (here_of z t i)
  here_itself = c.is_at.here i c.run c.run

  pub pends : fact_of steps draft.pending.numbers.items i ≡ due_fact z i op.Delay (d ∷ r ∷ []) t
  pends =
      c.is_at.pends i
      ∙ (λ k. if c.run k then due_at (c.is k) z i (c.due_is k) else None)
      ∙ (λ k. due_fact z i (c.op_is k) (c.args_are k) t)

  pub happens_is : (a : ℕ) → fact_of steps table a ≡ Some (here_of z t a) → (b : Bool) → b ≡ happens_in (fact_of steps table a) → b ≡ has_event (z a t)
  happens_is a at b is = is ∙ ap happens_in at ∙ happens_here a t (event (z a t))

  put_so : (due : Option ℕ) → due ≡ due_time (waiting (suc t)) → (facts : List Fact) → Keeps p i c.at d r t due facts → (new : Draft) (step : WhyStep) (n : ℕ) → said step.fact ≡ Pending i t due → AreNamed steps (length steps) step.by.items facts → IsPut draft new step n → Tells T draft new n (due_after T t i d r)
  put_so due due_is facts keeps new step n says named put =
      let follows = rule.Follows.pending c.at member c.op_is c.args_are keeps in
      let g : IsGrounded s s.running p steps (Pending i t due) step.by.items = ground s s.running p steps (Pending i t due) step.by.items facts named follows in
      subst (λ f. Tells T draft new n f) (says ∙ ap (Pending i t) due_is)
      (grown_by s s.running p draft new step n put (subst (λ f. IsGrounded s s.running p steps f step.by.items) (sym says) g))

  -- it is set, by the reset or by itself
  module _ (x : Option ℕ) (f : Fact) (sets : Sets p i c.at r t f) (by_fact : fact_at steps x ≡ Some f) (set : is_set (z r) (z i) t ≡ true) where
    due_now : waiting (suc t) ≡ reached t (event (z d t))
    due_now = λ k. if set k then reached t (event (z d t)) else waiting t

    pub put_set : (due : Option ℕ) → due ≡ later_by t (amount_of (event (z d t))) → (new : Draft) (step : WhyStep) (n : ℕ) → said step.fact ≡ Pending i t due → step.by.items ≡ there (number_at table d ∷ x ∷ []) → IsPut draft new step n → Tells T draft new n (due_after T t i d r)
    put_set due due_is new step n says by_is put = at (event (z d t)) refl
      where
        named : (y : Option View) → event (z d t) ≡ y → AreNamed steps (length steps) step.by.items (fact_here d t y ∷ f ∷ [])
        named y is =
            subst (λ ns. AreNamed steps (length steps) ns (fact_here d t y ∷ f ∷ [])) (sym by_is)
            (there_next steps (number_at table d) (fact_here d t y) (x ∷ []) (f ∷ []) (here_amount ∙ ap (λ v. Some (fact_here d t v)) is) (there_next steps x f [] [] by_fact (there_end steps)))

        at : (y : Option View) → event (z d t) ≡ y → Tells T draft new n (due_after T t i d r)
        at None is =
            let none : due ≡ None = due_is ∙ (λ k. later_by t (amount_of (is k))) in
            let same : due ≡ due_time (waiting (suc t)) = none ∙ sym (ap due_time (due_now ∙ ap (reached t) is)) in
            put_so due same (Silent d t t ∷ f ∷ []) (subst (λ u. Keeps p i c.at d r t u (Silent d t t ∷ f ∷ [])) (sym none) (rule.Keeps.cancelled (rule.Tells.none (omega arith) (omega arith)) sets)) new step n says (named None is) put
        at (Some v) is =
            let amount = amount_is T c.story i c.at c.run c.is c.op_is d r c.args_are t c.early v is in
            let k = amount.0 in
            let is_int : event (z d t) ≡ Some (Plain (scalar.Int (pos k))) = is ∙ ap Some amount.2 in
            let due_so : due ≡ due_time (Some (t + k)) = due_is ∙ (λ j. later_by t (amount_of (is_int j))) ∙ (λ j. later_by t (if lt-ltb 0 k amount.1 j then Some k else None)) in
            let same : due ≡ due_time (waiting (suc t)) = due_so ∙ sym (ap due_time (due_now ∙ ap (reached t) is_int)) in
            let facts = Happens d t (Plain (scalar.Int (pos k))) ∷ f ∷ [] in
            elim (cases_lt (t + k) (2 ^ 63)) [
              | inl low ↦
                  let due_then : due ≡ Some (t + k) = due_so ∙ (λ j. if lt-ltb (t + k) (2 ^ 63) low j then Some (t + k) else None) in
                  put_so due same facts (subst (λ u. Keeps p i c.at d r t u facts) (sym due_then) (rule.Keeps.set amount.1 low sets)) new step n says (named (Some (Plain (scalar.Int (pos k)))) is_int) put
              | inr high ↦
                  let due_never : due ≡ None = due_so ∙ (λ j. if le-ltb (t + k) (2 ^ 63) high j then Some (t + k) else None) in
                  put_so due same facts (subst (λ u. Keeps p i c.at d r t u facts) (sym due_never) (rule.Keeps.set_too_late high sets)) new step n says (named (Some (Plain (scalar.Int (pos k)))) is_int) put
            ]

  pub put_reset : has_event (z r t) ≡ true → (due : Option ℕ) → due ≡ later_by t (amount_of (event (z d t))) → (new : Draft) (step : WhyStep) (n : ℕ) → said step.fact ≡ Pending i t due → step.by.items ≡ there (number_at table d ∷ number_at table r ∷ []) → IsPut draft new step n → Tells T draft new n (due_after T t i d r)
  put_reset has =
      let v = some_of (event (z r t)) has in
      put_set (number_at table r) (Happens r t v.0) rule.Sets.reset (here_reset ∙ ap (λ y. Some (fact_here r t y)) v.1) (λ k. has k || has_event (z i t))

  pub put_itself : has_event (z i t) ≡ true → (due : Option ℕ) → due ≡ later_by t (amount_of (event (z d t))) → (new : Draft) (step : WhyStep) (n : ℕ) → said step.fact ≡ Pending i t due → step.by.items ≡ there (number_at table d ∷ number_at table i ∷ []) → IsPut draft new step n → Tells T draft new n (due_after T t i d r)
  put_itself has =
      let v = some_of (event (z i t)) has in
      put_set (number_at table i) (Happens i t v.0) rule.Sets.itself (here_itself ∙ ap (λ y. Some (fact_here i t y)) v.1) ((λ k. has_event (z r t) || has k) ∙ or-true (has_event (z r t)))

  -- it is not set, and due as it was
  pub put_kept : has_event (z r t) ≡ false → has_event (z i t) ≡ false → (due : Option ℕ) → due ≡ due_of (fact_of steps draft.pending.numbers.items i) → (new : Draft) (step : WhyStep) (n : ℕ) → said step.fact ≡ Pending i t due → step.by.items ≡ there (number_at table r ∷ number_at table i ∷ number_at draft.pending.numbers.items i ∷ []) → IsPut draft new step n → Tells T draft new n (due_after T t i d r)
  put_kept no_reset no_event due due_is new step n says by_is put = at t refl
    where
      still : waiting (suc t) ≡ waiting t
      still = λ k. if no_reset k || no_event k then reached t (event (z d t)) else waiting t

      named : (rest : List Fact) → AreNamed steps (length steps) (there (number_at draft.pending.numbers.items i ∷ [])) rest → AreNamed steps (length steps) step.by.items (Silent r t t ∷ Silent i t t ∷ rest)
      named rest last =
          let first = none_of (event (z r t)) no_reset in
          let second = none_of (event (z i t)) no_event in
          subst (λ ns. AreNamed steps (length steps) ns (Silent r t t ∷ Silent i t t ∷ rest)) (sym by_is)
          (there_next steps (number_at table r) (Silent r t t) (number_at table i ∷ number_at draft.pending.numbers.items i ∷ []) (Silent i t t ∷ rest) (here_reset ∙ ap (λ y. Some (fact_here r t y)) first)
          (there_next steps (number_at table i) (Silent i t t) (number_at draft.pending.numbers.items i ∷ []) rest (here_itself ∙ ap (λ y. Some (fact_here i t y)) second) last))

      at : (m : ℕ) → t ≡ m → Tells T draft new n (due_after T t i d r)
      at zero zero_is =
          let pend = pends ∙ ap (due_fact z i op.Delay (d ∷ r ∷ [])) zero_is in
          let none : due ≡ None = due_is ∙ ap due_of pend in
          let same : due ≡ due_time (waiting (suc t)) = none ∙ sym (ap due_time (still ∙ ap waiting zero_is)) in
          let nothing = number_none steps draft.pending.numbers.items i c.is_at.pending pend in
          let facts = Silent r t t ∷ Silent i t t ∷ [] in
          let keeps : Keeps p i c.at d r 0 None (Silent r t t ∷ Silent i t t ∷ []) = rule.Keeps.none_at_zero (rule.Tells.none (omega arith) (omega arith)) (rule.Tells.none (omega arith) (omega arith)) in
          put_so due same facts (subst (λ u. Keeps p i c.at d r u due facts) (sym zero_is) (subst (λ u. Keeps p i c.at d r 0 u facts) (sym none) keeps)) new step n says
          (named [] (there_not steps (number_at draft.pending.numbers.items i) [] [] nothing (there_end steps))) put
      at (suc m) next_is =
          let pend : fact_of steps draft.pending.numbers.items i ≡ Some (Pending i m (due_time (waiting (suc m)))) = pends ∙ ap (due_fact z i op.Delay (d ∷ r ∷ [])) next_is in
          let as_before : due ≡ due_time (waiting (suc m)) = due_is ∙ ap due_of pend in
          let same : due ≡ due_time (waiting (suc t)) = as_before ∙ sym (ap due_time (still ∙ ap waiting next_is)) in
          let facts = Silent r t t ∷ Silent i t t ∷ Pending i m due ∷ [] in
          let keeps : Keeps p i c.at d r (suc m) due (Silent r t t ∷ Silent i t t ∷ Pending i m due ∷ []) =
          rule.Keeps.kept (rule.Tells.none (omega (arith, next_is)) (omega (arith, next_is))) (rule.Tells.none (omega (arith, next_is)) (omega (arith, next_is))) in
          put_so due same facts (subst (λ u. Keeps p i c.at d r u due facts) (sym next_is) keeps) new step n says
          (named (Pending i m due ∷ []) (there_next steps (number_at draft.pending.numbers.items i) (Pending i m due) [] [] (pend ∙ ap (λ u. Some (Pending i m u)) (sym as_before)) (there_end steps))) put

-- ---- as the code asks for them
module _ (T : Tale) (t i d r : ℕ) (draft : Draft) (c : CanWait T t i d r draft) where
  -- whether it is seen that there is an event
  pub reset_known : (b : Bool) → b ≡ happens_in (fact_of draft.steps.items draft.here.numbers.items r) → b ≡ has_event (T.streams r t)
  reset_known b is = happens_is T t i d r draft c r (here_reset T t i d r draft c) b is

  pub itself_known : (b : Bool) → b ≡ happens_in (fact_of draft.steps.items draft.here.numbers.items i) → b ≡ has_event (T.streams i t)
  itself_known b is = happens_is T t i d r draft c i (here_itself T t i d r draft c) b is

  pub put_by : (setter : ℕ) → (setter ≡ r) ⊎ (setter ≡ i) → IsTrue (has_event (T.streams setter t)) → (due : Option ℕ) → ((x : Option View) → fact_of draft.steps.items draft.here.numbers.items d ≡ Some (fact_here d t x) → due ≡ later_by t (amount_of x)) → (new : Draft) (step : WhyStep) (n : ℕ) → said step.fact ≡ Pending i t due → step.by.items ≡ there (number_at draft.here.numbers.items d ∷ number_at draft.here.numbers.items setter ∷ []) → IsPut draft new step n → Tells T draft new n (due_after T t i d r)
  put_by setter (inl same) has due due_is new step n says by_is put =
      put_reset T t i d r draft c (sym (λ k. has_event (T.streams (same k) t)) ∙ has) due (due_is (event (T.streams d t)) (here_amount T t i d r draft c)) new step n says
      (by_is ∙ (λ k. there (number_at draft.here.numbers.items d ∷ number_at draft.here.numbers.items (same k) ∷ []))) put
  put_by setter (inr same) has due due_is new step n says by_is put =
      put_itself T t i d r draft c (sym (λ k. has_event (T.streams (same k) t)) ∙ has) due (due_is (event (T.streams d t)) (here_amount T t i d r draft c)) new step n says
      (by_is ∙ (λ k. there (number_at draft.here.numbers.items d ∷ number_at draft.here.numbers.items (same k) ∷ []))) put

  pub put_as_was : has_event (T.streams r t) ≡ false → has_event (T.streams i t) ≡ false → (due : Option ℕ) → due ≡ due_of (fact_of draft.steps.items draft.pending.numbers.items i) → (new : Draft) (step : WhyStep) (n : ℕ) → said step.fact ≡ Pending i t due → step.by.items ≡ there (number_at draft.here.numbers.items r ∷ number_at draft.here.numbers.items i ∷ number_at draft.pending.numbers.items i ∷ []) → IsPut draft new step n → Tells T draft new n (due_after T t i d r)
  put_as_was no_reset no_event due due_is new step n says by_is put = put_kept T t i d r draft c no_reset no_event due due_is new step n says by_is put
