-- What is right is a derivation, whose facts are typed and happen.
use Rattle.std.proofs.Common.{◌≡◌, ℕ, zero, suc, ◌-◌, ◌<◌, ◌≤◌, ◌^◌, List, [], ◌∷◌, Option, Some, None, Err, length, refl, sym, ap, subst, ◌∙◌, slice_get, inl, inr, arith}
use Rattle.std.proofs.lemmas.Bool.{cases_lt}
use Rattle.std.proofs.lemmas.Option.{same_Some, slice_get_within}
use Rattle.std.specs.List.Sorted.{IsStrictlyIncreasing}
use Rattle.std.specs.Prelude.{IsTrue}
use Rattle.std.specs.List.{AllByRecursion, Contains}
use Rattle.tsl_value.specs.View.{View}
use Rattle.tsl_value.proofs.Lists.{contains_at}
use Rattle.flat_core.specs.declared.equation.Output.{Output}
use Rattle.flat_core.specs.Case.{Streams}
use Rattle.flat_core.specs.Complete.{IsFlat}
use Rattle.flat_core.specs.Events.{Inputs}
use Rattle.flat_core.specs.Line.{Line, IsSorted}
use Rattle.flat_core.specs.Solution.{Solves}
use Rattle.flat_core.specs.Stream.{event}
use Rattle.flat_core.specs.System.{System, runs}
use Rattle.flat_core.specs.WellFormed.{IsWellFormed}
use Rattle.flat_core.specs.inner.TypedEvents.{AreTypedInputs}
use Rattle.flat_core.proofs.Members.{all_at, all_from}
use Rattle.flat_core.proofs.SmallerBound.{solves_less}
use Rattle.flat_slice.specs.Slice.{IsSlice, IsSliceOf}
use Rattle.flat_slice.proofs.SliceLemmas.{member_runs}
use Rattle.why_rules.specs.Facts.{Fact, Happens, Silent, Gap, Pending, Says}
use Rattle.why_rules.specs.Rules.{Follows}
use Rattle.why_rules.specs.Derivation.{IsDerivation, IsSound}
use Rattle.why_rules.specs.Derivation as derivation
use Rattle.why_rules.proofs.Forced.{all_hold}
use Rattle.event_why.specs.declared.fact.WhyStep.{WhyStep}
use Rattle.event_why.specs.Said.{said}
use Rattle.event_why.specs.declared.fact.WhyFault.{WhyFault}
use Rattle.event_why.specs.declared.fact.WhyFault.TheVariants as fault
use Rattle.event_why.specs.Check.{AreNamed, AreRight, HaveSame, IsRight, EndsInEvent, AreUsed, IsForced, IsChecked, IsJudged, IsVerdict}
use Rattle.event_why.specs.inner.Judged.{IsEnded, IsRest}
use Rattle.event_why.specs.Check as check
use Rattle.event_why.specs.inner.Grounds.{AreGrounds, AreTypedFacts, IsTypedFact}
use Rattle.event_why.specs.inner.Search.{InSomeOrder}
use Rattle.event_why.specs.inner.Used.{NamesEarlier}
use Rattle.event_why.proofs.NamedLemmas.{named_once}
use Rattle.event_why.proofs.TypedFacts.{follows_typed}

module _ (steps : List WhyStep) where
  pub fact_before : Option WhyStep → List Fact → List Fact
  fact_before None fs = fs
  fact_before (Some step) fs = said step.fact ∷ fs

  -- the facts of the first steps, the last one first
  abbrev pub facts_below : ℕ → List Fact
  facts_below zero = []
  facts_below (suc n) = fact_before (slice_get steps n) (facts_below n)

  first_of : (x : Option WhyStep) (step : WhyStep) (fs : List Fact) → x ≡ Some step → fact_before x fs ≡ said step.fact ∷ fs
  unfolding fact_before
  first_of x step fs is = ap (λ o. fact_before o fs) is

  holds_more : (x : Option WhyStep) (fs : List Fact) (f : Fact) → Contains fs f → Contains (fact_before x fs) f
  unfolding fact_before
  holds_more None fs f (k, lt, is) = (k, lt, is)
  holds_more (Some step) fs f (k, lt, is) = (suc k, omega arith, is)

  among_below : (n m : ℕ) (step : WhyStep) → m < n → slice_get steps m ≡ Some step → Contains (facts_below n) (said step.fact)
  among_below zero m step early is = absurd (omega arith)
  among_below (suc n) m step early is = elim (cases_lt m n) [
    | inl earlier ↦ holds_more (slice_get steps n) (facts_below n) (said step.fact) (among_below n m step earlier is)
    | inr last ↦
        let same : m ≡ n = omega arith in
        subst (λ fs. Contains fs (said step.fact)) (sym (first_of (slice_get steps n) step (facts_below n) (ap (slice_get steps) (sym same) ∙ is))) (0, omega arith, refl)
  ]

  all_among : (k : ℕ) (ns : List ℕ) (fs : List Fact) → AreNamed steps k ns fs → AllByRecursion (Contains (facts_below k)) fs
  all_among k ns fs check.AreNamed.done = tt
  all_among k ns fs (check.AreNamed.next {n = n} {ns = rest} {fs = gs} step early is others) = (among_below k n step early is, all_among k rest gs others)

  -- the facts that a right step uses
  uses_among : (s : System) (slice : List ℕ) (p : Inputs) (k : ℕ) (r : IsRight s slice p steps k) → AllByRecursion (Contains (facts_below k)) r.uses
  uses_among s slice p k r =
      all_from (Contains (facts_below k)) r.uses (λ f used. all_at (Contains (facts_below k)) r.facts (all_among k r.step.by.items r.facts r.named) f ((r.same f).0 used))

  each_of_all : (P : Fact → Type 0) (all fs : List Fact) → AllByRecursion P all → AllByRecursion (Contains all) fs → AllByRecursion P fs
  each_of_all P all [] holds among = tt
  each_of_all P all (f ∷ fs) holds among = (all_at P all holds f among.0, each_of_all P all fs holds among.1)

  module _ (s : System) (slice : List ℕ) (p : Inputs) where
    below : (n k : ℕ) → k ≤ n → AreRight s slice p steps n → AreRight s slice p steps k
    below n k le right j lt = right j (omega arith)

    pub derived : (n : ℕ) → AreRight s slice p steps n → IsDerivation s slice p (facts_below n)
    derived zero right = derivation.IsDerivation.empty
    derived (suc n) right =
        let r = right n (omega arith) in
        subst (IsDerivation s slice p) (sym (first_of (slice_get steps n) r.step (facts_below n) r.is))
        (derivation.IsDerivation.more r.uses r.follows (uses_among s slice p n r) (derived n (below (suc n) n (omega arith) right)))

    module _ (whole : IsFlat s) (given : AreTypedInputs s p) where
      all_typed : (n : ℕ) → AreRight s slice p steps n → AreTypedFacts s (facts_below n)
      all_typed zero right = tt
      all_typed (suc n) right =
          let r = right n (omega arith) in
          let earlier = all_typed n (below (suc n) n (omega arith) right) in
          let uses = each_of_all (IsTypedFact s) (facts_below n) r.uses earlier (uses_among s slice p n r) in
          subst (AreTypedFacts s) (sym (first_of (slice_get steps n) r.step (facts_below n) r.is))
          (follows_typed s whole slice p given (said r.step.fact) r.uses r.follows uses, earlier)

      -- what a step names is typed, where all before it is right
      pub named_typed : (k : ℕ) (ns : List ℕ) (fs : List Fact) → AreRight s slice p steps k → AreNamed steps k ns fs → AreTypedFacts s fs
      named_typed k ns fs right named = each_of_all (IsTypedFact s) (facts_below k) fs (all_typed k right) (all_among k ns fs named)

    -- a step is right where its fact follows from those that it names in some order
    pub right_from : (k : ℕ) (step : WhyStep) (fs : List Fact) → slice_get steps k ≡ Some step → AreNamed steps k step.by.items fs → InSomeOrder (Follows s slice p (said step.fact)) fs → IsRight s slice p steps k
    right_from k step fs is named o = record { step = step; is = is; facts = fs; named = named; uses = o.uses; same = o.same; follows = o.has }

    pub order_from : (k : ℕ) (step : WhyStep) (fs : List Fact) → slice_get steps k ≡ Some step → AreNamed steps k step.by.items fs → IsRight s slice p steps k → InSomeOrder (Follows s slice p (said step.fact)) fs
    order_from k step fs is named r =
        let same = same_Some r.step step (sym r.is ∙ is) in
        let facts = named_once steps k step.by.items r.facts fs (subst (λ (x : WhyStep). AreNamed steps k x.by.items r.facts) same r.named) named in
        record {
          uses = r.uses;
          same = subst (λ gs. HaveSame r.uses gs) facts r.same;
          has = subst (λ (x : WhyStep). Follows s slice p (said x.fact) r.uses) same r.follows;
        }

  -- ---- what is accepted happens

  module _ (s : System) (whole : IsFlat s) (formed : IsWellFormed s) (o : ℕ) (o_runs : IsTrue (runs s o)) (slice : List ℕ) (is : IsSlice s o slice) (p : Inputs) (right : AreRight s slice p steps (length steps)) where
    pub happens : (t : ℕ) (v : View) (bound : ℕ) (z : Streams) → EndsInEvent steps o t v → t < bound → bound ≤ 2 ^ 63 → Solves s p bound z → IsSound slice z bound → event (z o t) ≡ Some v
    happens t v bound z ends early small solves sound =
        let all = all_hold s whole formed o o_runs slice is p bound small z solves sound (facts_below (length steps)) (derived s slice p (length steps) right) in
        let last = among_below (length steps) ends.number ends.step (let end = ends.last in omega (arith, end)) ends.is in
        let says = all_at (Says s slice z bound) (facts_below (length steps)) all (said ends.step.fact) last in
        subst (λ f. Says s slice z bound f) ends.event says early

-- ---- what the check stands on

-- each number that a right step names is earlier
named_early : (steps : List WhyStep) (k : ℕ) (ns : List ℕ) (fs : List Fact) → AreNamed steps k ns fs → (n : ℕ) → Contains ns n → n < k
named_early steps k ns fs check.AreNamed.done n (j, lt, is) = absurd (omega arith)
named_early steps k ns fs (check.AreNamed.next step early at others) n (zero, lt, is) = subst (λ m. m < k) is early
named_early steps k ns fs (check.AreNamed.next {ns = rest} {fs = gs} step early at others) n (suc j, lt, is) = named_early steps k rest gs others n (j, omega arith, is)

pub names_earlier : (s : System) (slice : List ℕ) (p : Inputs) (steps : List WhyStep) → AreRight s slice p steps (length steps) → NamesEarlier steps
names_earlier s slice p steps right = record {
  each = λ k step is n names.
      let r = right k (slice_get_within steps k step is) in
      let same = same_Some step r.step (sym is ∙ r.is) in
      let listed = subst (λ (w : WhyStep). Contains w.by.items n) same names in
      named_early steps k r.step.by.items r.facts r.named n listed;
}

pub output_runs : (s : System) (number : ℕ) (output : Output) → IsFlat s → slice_get s.outputs number ≡ Some output → IsTrue (runs s output.equation)
output_runs s number output whole at = all_at (λ (o : Output). IsTrue (runs s o.equation)) s.outputs whole.outputs_run output (contains_at s.outputs number output at)

pub grounds : (s : System) (o : ℕ) (slice : List ℕ) (lines : List Line) → IsFlat s → IsTrue (runs s o) → IsSlice s o slice → IsStrictlyIncreasing slice → IsSorted lines → AreGrounds s slice lines
grounds s o slice lines whole o_runs is ascending sorted = record {
  whole = whole;
  ascending = ascending;
  there = λ i member.
      let found = whole.proper.runs_all i (member_runs s whole.proper o o_runs slice is i member) in
      slice_get_within s.equations i found.0 found.1;
  sorted = sorted;
}

-- an output of a number is one
one_output : (s : System) (number : ℕ) (a b : Output) → slice_get s.outputs number ≡ Some a → slice_get s.outputs number ≡ Some b → a ≡ b
one_output s number a b first second = same_Some a b (sym first ∙ second)

pub forced : (s : System) (number : ℕ) (output : Output) (slice : List ℕ) (p : Inputs) (steps : List WhyStep) → IsFlat s → IsWellFormed s → slice_get s.outputs number ≡ Some output → IsSlice s output.equation slice → AreRight s slice p steps (length steps) → IsForced s p number steps
forced s number output slice p steps whole formed at is right = record {
  happens = λ other also other_slice other_is t v ends bound early small z solves sound.
      let same = one_output s number output other at also in
      let o = output.equation in
      let ends_here = subst (λ (w : Output). EndsInEvent steps w.equation t v) (sym same) ends in
      let other_here = subst (λ (w : Output). IsSlice s w.equation other_slice) (sym same) other_is in
      let own_sound : IsSound slice z (suc t) = record { none = λ i u member lt. sound.none i u ((other_here i).1 ((is i).0 member)) lt } in
      let event_here = happens steps s whole formed o (output_runs s number output whole at) slice is p right t v (suc t) z ends_here (omega arith) (omega arith) (solves_less s p (suc t) bound z (omega arith) solves) own_sound in
      subst (λ (w : Output). event (z w.equation t) ≡ Some v) same event_here;
}

equation_in : Fact → ℕ
equation_in (Happens i t v) = i
equation_in (Silent i from to) = 0
equation_in (Gap from to) = 0
equation_in (Pending i t due) = 0

same_equation : (i j t u : ℕ) (v w : View) → Happens i t v ≡ Happens j u w → i ≡ j
unfolding equation_in
same_equation i j t u v w same = ap equation_in same

-- ---- what is judged

pub output_at : {A : Type 0} (xs : List A) (n : ℕ) → n < length xs → (x : A) × (slice_get xs n ≡ Some x)
output_at [] n there = absurd (omega arith)
output_at (x ∷ xs) zero there = (x, refl)
output_at (x ∷ xs) (suc n) there = output_at xs n (omega arith)

module _ (s : System) (number : ℕ) (there : number < length s.outputs) (slice : List ℕ) (ascending : IsStrictlyIncreasing slice) (is : IsSliceOf s number slice) where
  pub grounds_of : (lines : List Line) → IsFlat s → IsSorted lines → AreGrounds s slice lines
  grounds_of lines whole sorted =
      let found = output_at s.outputs number there in
      grounds s found.0.equation slice lines whole (output_runs s number found.0 whole found.1) (is found.0 found.1) ascending sorted

  pub judged_so : (p : Inputs) (steps : List WhyStep) (fault : Option WhyFault) → ((output : Output) → slice_get s.outputs number ≡ Some output → IsVerdict s slice p steps output.equation fault) → IsJudged s p number steps fault
  judged_so p steps fault verdict =
      let found = output_at s.outputs number there in
      record {
        output = found.0;
        is_output = found.1;
        slice = slice;
        ascending = ascending;
        is_slice = is found.0 found.1;
        verdict = verdict found.0 found.1;
      }

pub checked_so : (s : System) (p : Inputs) (number : ℕ) (steps : List WhyStep) (f : WhyFault) → IsJudged s p number steps (Some f) → IsChecked s p number steps (Err f)
checked_so s p number steps (fault.Wrong k) j = j
checked_so s p number steps (fault.Unused k) j = j
checked_so s p number steps fault.NoEvent j = j
checked_so s p number steps fault.Memory j = tt

pub forced_so : (s : System) (p : Inputs) (number : ℕ) (steps : List WhyStep) → IsFlat s → IsWellFormed s → IsJudged s p number steps None → IsForced s p number steps
forced_so s p number steps whole formed j = forced s number j.output j.slice p steps whole formed j.is_output j.is_slice j.verdict.0

-- ---- one step after another

pub right_more : (s : System) (slice : List ℕ) (p : Inputs) (steps : List WhyStep) (k : ℕ) → AreRight s slice p steps k → IsRight s slice p steps k → AreRight s slice p steps (suc k)
right_more s slice p steps k before own j low = elim (cases_lt j k) [
  | inl earlier ↦ before j earlier
  | inr last ↦ let same : k ≡ j = omega arith in subst (IsRight s slice p steps) same own
]

-- a step that names no earlier ones alone
pub late_wrong : (s : System) (slice : List ℕ) (p : Inputs) (steps : List WhyStep) (k : ℕ) (step : WhyStep) (n : ℕ) → slice_get steps k ≡ Some step → Contains step.by.items n → k ≤ n → ¬ IsRight s slice p steps k
late_wrong s slice p steps k step n at names late r =
    let same = same_Some step r.step (sym at ∙ r.is) in
    let early = named_early steps k r.step.by.items r.facts r.named n (subst (λ (w : WhyStep). Contains w.by.items n) same names) in
    absurd (omega (arith, early, late))

-- what is left to judge, where each step is right
pub rest_judged : (s : System) (slice : List ℕ) (p : Inputs) (steps : List WhyStep) (o : ℕ) (f : Option WhyFault) → AreRight s slice p steps (length steps) → IsRest steps o f → IsVerdict s slice p steps o f
rest_judged s slice p steps o None right rest = (right, rest.0, rest.1)
rest_judged s slice p steps o (Some (fault.Wrong k)) right rest = absurd rest.1
rest_judged s slice p steps o (Some (fault.Unused k)) right rest = (right, rest)
rest_judged s slice p steps o (Some fault.NoEvent) right rest = (right, rest.0, rest.1)
rest_judged s slice p steps o (Some fault.Memory) right rest = absurd rest.1

pub ended_rest : (steps : List WhyStep) (o : ℕ) (f : Option WhyFault) → AreUsed steps → IsEnded steps o f → IsRest steps o f
ended_rest steps o None used ended = (used, ended)
ended_rest steps o (Some (fault.Wrong k)) used ended = absurd ended
ended_rest steps o (Some (fault.Unused k)) used ended = absurd ended
ended_rest steps o (Some fault.NoEvent) used ended = (used, ended)
ended_rest steps o (Some fault.Memory) used ended = absurd ended

-- the last step, by its number
pub ends_test : (steps : List WhyStep) (step : WhyStep) (i t o : ℕ) (v : View) → slice_get steps (length steps - 1) ≡ Some step → said step.fact ≡ Happens i t v → (i ≡ o → (u : ℕ) × (w : View) × EndsInEvent steps o u w) × (((u : ℕ) × (w : View) × EndsInEvent steps o u w) → i ≡ o)
ends_test steps step i t o v at fact = (
  λ same. (
    t,
    v,
    record {
      number = length steps - 1;
      last = let there = slice_get_within steps (length steps - 1) step at in omega (arith, there);
      step = step;
      is = at;
      event = fact ∙ ap (λ n. Happens n t v) same;
    },
  ),
  λ (u, w, e).
      let last = e.last in
      let number : e.number ≡ length steps - 1 = omega (arith, last) in
      let one = same_Some e.step step (sym e.is ∙ ap (slice_get steps) number ∙ at) in
      same_equation i o t u v w (sym fact ∙ sym (ap (λ (x : WhyStep). said x.fact) one) ∙ e.event),
)
