-- What follows in the system of one output is accepted in the whole.
use Rattle.std.proofs.Common.{◌≡◌, ℕ, suc, ◌<◌, true, false, List, Option, Some, None, length, sym, ap, subst, ◌∙◌, slice_get, refl, arith}
use Rattle.std.proofs.lemmas.Bool.{false≢true, true≢false}
use Rattle.std.proofs.lemmas.Option.{none-some, same_Some, slice_get_within}
use Rattle.std.specs.Prelude.{IsTrue, is_some}
use Rattle.std.specs.Option.{option_map}
use Rattle.std.specs.List.{filter}
use Rattle.tsl_value.specs.View.{View}
use Rattle.flat_core.specs.declared.equation.Equation.{Equation}
use Rattle.flat_core.specs.Case.{Streams}
use Rattle.flat_core.specs.Events.{Inputs}
use Rattle.flat_core.specs.Instant.{is_delay}
use Rattle.flat_core.specs.Stream.{event}
use Rattle.flat_core.specs.System.{System, equation, runs}
use Rattle.why_rules.specs.Facts.{Fact, Happens}
use Rattle.why_rules.specs.Rules.{AllWait, Follows, IsMember}
use Rattle.why_rules.specs.Rules as rule
use Rattle.event_why.specs.declared.draft.Draft.{Draft}
use Rattle.event_why.specs.declared.explained.Explained.TheVariants as explained
use Rattle.event_why.specs.declared.fact.Why.{Why}
use Rattle.event_why.specs.declared.fact.WhyStep.{WhyStep}
use Rattle.event_why.specs.declared.instants.Story.{Story}
use Rattle.event_why.specs.Said.{said}
use Rattle.event_why.specs.Check.{AreRight}
use Rattle.event_why.specs.Explained.{IsAccepted}
use Rattle.event_why.specs.inner.Course.{IsTold}
use Rattle.event_why.specs.inner.Drafted.{fact_at, fact_of, happens_in, number_at}
use Rattle.event_why.specs.inner.Found.{IsEventNumber, IsReason, Knows}
use Rattle.event_why.specs.inner.Pruned.{EndsInFact, IsEndOf}
use Rattle.event_why.specs.inner.Sliced.{IsSliced}
use Rattle.event_why.specs.inner.Tale.{fact_here, here_of}

module _ (f s : System) (same : f.equations ≡ s.equations) (slice : List ℕ) (p : Inputs) where
  equation_same : (i : ℕ) → equation f i ≡ equation s i
  equation_same i = ap (λ es. slice_get es i) same

  member : (i : ℕ) (e : Equation) → IsMember f slice p i e → IsMember s slice p i e
  member i e m = record { among = m.among; is = sym (equation_same i) ∙ m.is }

  member_back : (i : ℕ) (e : Equation) → IsMember s slice p i e → IsMember f slice p i e
  member_back i e m = record { among = m.among; is = equation_same i ∙ m.is }

  follows_same : (x : Fact) (fs : List Fact) → Follows f slice p x fs → Follows s slice p x fs
  follows_same x fs (rule.Follows.happens {i = i} e m makes) = rule.Follows.happens e (member i e m) makes
  follows_same x fs (rule.Follows.silent {i = i} e m lacks) = rule.Follows.silent e (member i e m) lacks
  follows_same x fs (rule.Follows.silent_in_gap {i = i} e m early times late) = rule.Follows.silent_in_gap e (member i e m) early times late
  follows_same x fs (rule.Follows.silent_joined {i = i} e m low high) = rule.Follows.silent_joined e (member i e m) low high
  follows_same x fs (rule.Follows.gap {before = before} {to = to} low nothing wait) =
      rule.Follows.gap low (record { none = λ i e m input u early late. nothing.none i e (member_back i e m) input u early late })
      (subst (λ es. AllWait before to (filter (λ i. is_delay (slice_get es i)) slice) fs) same wait)
  follows_same x fs (rule.Follows.pending {i = i} e m delay args keeps) = rule.Follows.pending e (member i e m) delay args keeps

  pub right_same : (steps : List WhyStep) (n : ℕ) → AreRight f slice p steps n → AreRight s slice p steps n
  right_same steps n right k low =
      let r = right k low in
      record { step = r.step; is = r.is; facts = r.facts; named = r.named; uses = r.uses; same = r.same; follows = follows_same (said r.step.fact) r.uses r.follows }

-- a derivation in the system of one output is accepted
pub accepted : (s f : System) (number : ℕ) (is : IsSliced s number f) (p : Inputs) (t : ℕ) (why : Why) (v : View) → IsReason f f.running p is.output.equation t v why.steps.items → IsAccepted s p number is.output.equation t why v
accepted s f number is p t why v reason = record {
  judged = record {
    output = is.output;
    is_output = is.is_output;
    slice = f.running;
    ascending = is.whole.ascending;
    is_slice = is.slice;
    verdict = (right_same f s is.equations f.running p why.steps.items (length why.steps.items) reason.right, reason.used, (t, v, reason.ends));
  };
  ends = reason.ends;
}

-- ---- the last step
step_of : (x : Option WhyStep) (f : Fact) → option_map (λ (w : WhyStep). said w.fact) x ≡ Some f → (step : WhyStep) × (x ≡ Some step) × (said step.fact ≡ f)
step_of None f is = absurd (none-some f is)
step_of (Some step) f is = (step, refl, same_Some (said step.fact) f is)

pub fact_there : (steps : List WhyStep) (n : ℕ) (f : Fact) → fact_at steps (Some n) ≡ Some f → n < length steps
fact_there steps n f is =
    let found = step_of (slice_get steps n) f is in
    slice_get_within steps n found.0 found.1

-- what one step stands on is why its event comes
pub reason_of : (s : System) (slice : List ℕ) (p : Inputs) (old new : List WhyStep) (last o t : ℕ) (v : View) → fact_at old (Some last) ≡ Some (Happens o t v) → EndsInFact s slice p old last new → IsReason s slice p o t v new
reason_of s slice p old new last o t v is ends =
    let found = step_of (slice_get new ends.number) (Happens o t v) (ends.fact ∙ is) in
    record {
      right = ends.right;
      used = ends.used;
      ends = record { number = ends.number; last = ends.ends; step = found.0; is = found.1; event = found.2 };
    }

-- ---- a draft that tells all up to a time
module _ (story : Story) (p : Inputs) (z : Streams) (t o n : ℕ) (draft : Draft) (told : IsTold story p z (suc t) n draft) (run : IsTrue (runs story.flat.now o)) where
  abbrev steps : List WhyStep
  steps = draft.steps.items

  abbrev here : List (Option ℕ)
  here = draft.here.numbers.items

  -- at the last instant
  told_here : n ≡ suc t → fact_of steps here o ≡ Some (here_of z t o)
  told_here is = (told.over t is).here o run run

  happens : (x : Option View) → event (z o t) ≡ x → n ≡ suc t → happens_in (fact_of steps here o) ≡ is_some x
  happens None at is = ap happens_in (told_here is ∙ ap (λ e. Some (fact_here o t e)) at)
  happens (Some v) at is = ap happens_in (told_here is ∙ ap (λ e. Some (fact_here o t e)) at)

  pub number_of_event : n ≡ suc t → happens_in (fact_of steps here o) ≡ true → (number : Option ℕ) → number ≡ number_at here o → IsEventNumber steps o t (event (z o t)) number
  number_of_event is has number number_is = by_number number number_is (event (z o t)) refl
    where
      by_number : (number : Option ℕ) → number ≡ number_at here o → (x : Option View) → event (z o t) ≡ x → IsEventNumber steps o t x number
      by_number number number_is None at = absurd (false≢true (sym (happens None at is) ∙ has))
      by_number None number_is (Some v) at = absurd (none-some _ (ap (fact_at steps) number_is ∙ told_here is))
      by_number (Some k) number_is (Some v) at = (v, refl, ap (fact_at steps) number_is ∙ told_here is ∙ ap (λ e. Some (fact_here o t e)) at)

  pub no_event_here : n ≡ suc t → happens_in (fact_of steps here o) ≡ false → event (z o t) ≡ None
  no_event_here is none = by_event (event (z o t)) refl
    where
      by_event : (x : Option View) → event (z o t) ≡ x → x ≡ None
      by_event None at = refl
      by_event (Some v) at = absurd (true≢false (sym (happens (Some v) at is) ∙ none))

  -- after the last instant nothing happens
  pub no_event_after : ¬ (n ≡ suc t) → event (z o t) ≡ None
  no_event_after not_last =
      let early = told.early in
      ap event (told.calm o t run (omega (arith, early, not_last)) (omega arith)).0

  -- ---- what is known of it
  pub known_why : (k : ℕ) → IsEventNumber steps o t (event (z o t)) (Some k) → (why : Why) → IsEndOf steps k why.steps.items → Knows story.flat.now p z o t (explained.Why why)
  known_why k number why ends =
      let fact = number.2 in
      let right = told.up_to.right in (
        told.sound,
        (
          number.0,
          number.1,
          reason_of story.flat.now story.flat.now.running p steps why.steps.items k o t number.0 fact
              (ends story.flat.now story.flat.now.running p right (fact_there steps k (Happens o t number.0) fact)),
        ),
      )

  pub known_none : event (z o t) ≡ None → Knows story.flat.now p z o t explained.NoEvent
  known_none none = (told.sound, none)
