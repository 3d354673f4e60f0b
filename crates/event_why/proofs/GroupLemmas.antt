-- From which facts of a draft it follows what happens at an equation, by groups of operations.
use Rattle.std.proofs.Common.{◌≡◌, ℕ, ◌+◌, ◌<◌, ◌≤◌, Bool, true, false, not, List, [], ◌∷◌, ◌++◌, map, take, length, get_or, Option, Some, None, Ok, refl, sym, ap, subst, ◌∙◌, inl, inr, arith}
use Rattle.std.proofs.lemmas.Bool.{false≢true, true≢false}
use mathlib.Core.Bool.{beq}
use Rattle.std.proofs.lemmas.List.{take_all, take_more}
use Rattle.std.proofs.lemmas.List.Elements.{Contains-push_cases}
use Rattle.std.proofs.lemmas.Option.{none-some, same_Some}
use Rattle.std.specs.Prelude.{IsTrue, is_some, slice_get}
use Rattle.std.specs.List.{Contains}
use Rattle.tsl_value.specs.View.{View, Plain, is_of}
use Rattle.tsl_value.specs.declared.scalar.Scalar.TheVariants as scalar
use Rattle.tsl_value.specs.declared.scalar.ValueType.{ValueType}
use Rattle.lift_func.specs.BodyTree.{BodyTree}
use Rattle.flat_core.specs.declared.equation.Op.{Op}
use Rattle.flat_core.specs.declared.equation.Op.TheVariants as op
use Rattle.flat_core.specs.declared.equation.Equation.{Equation}
use Rattle.flat_core.specs.Case.{Streams}
use Rattle.flat_core.specs.Events.{Inputs, filtered, merged}
use Rattle.flat_core.specs.Stream.{event}
use Rattle.flat_core.specs.System.{System, equation, runs}
use Rattle.flat_core.specs.Typed.{IsTyped, bool_type, filter}
use Rattle.flat_core.specs.Typed as typed
use Rattle.flat_core.specs.Updates.{update_in}
use Rattle.flat_core.specs.inner.TypedEvents.{AreOf, IsOf}
use Rattle.flat_core.proofs.Shapes.{running_args}
use Rattle.flat_core.proofs.TypedCase.{IsTypedAt, is_of_from, values_typed}
use Rattle.flat_core.proofs.Uniqueness.{all_by}
use Rattle.plain_solver.specs.inner.Typed.{TakesTyped}
use Rattle.trigger_rules.proofs.Values.{gives}
use Rattle.why_rules.specs.Facts.{Happens, Silent}
use Rattle.why_rules.specs.Rules.{Tells, computes, joins, looks_back, misses}
use Rattle.why_rules.specs.Rules as rule
use Rattle.why_rules.proofs.AtOnce.{values, own-computed, own-joined, own-missed}
use Rattle.why_rules.proofs.Instants.{at_head, at_next}
use Rattle.event_why.specs.declared.draft.Draft.{Draft}
use Rattle.event_why.specs.declared.fact.WhyStep.{WhyStep}
use Rattle.event_why.specs.Check.{AreNamed}
use Rattle.event_why.specs.inner.Drafted.{IsByFirst, IsGrounded, happens_at, happens_now, number_at, table_at, there}
use Rattle.event_why.specs.inner.Silence.{misses_only}
use Rattle.event_why.specs.inner.Tale.{CanTell, GroundsEvent, GroundsSilence, IsStory, Tale, fact_here, here_of}
use Rattle.event_why.proofs.GroundLemmas.{all_there, event_alone, event_from, happens_is, here_arg, is_alone, is_seen, named_all, named_one, none_of, only_misses, own_as, own_here, plain_misses, seen_none, seen_value, shape, silence_alone, silence_from, some_of, tells_each, value_in}
use Rattle.event_why.proofs.ListedFacts.{filter_two, merge_two, two_exist}

-- ---- the events of an equation's arguments are of types that it takes
typed_at : (T : Tale) → IsStory T → (t : ℕ) → t < T.bound → (a : ℕ) → IsTrue (runs T.system a) → IsTypedAt T.system T.streams t a
typed_at T story t early a run e is = is_of_from e.of (event (T.streams a t)) (λ v some. story.typed.each a e run is t early v some)

takes_run : (T : Tale) → IsStory T → (i : ℕ) (e : Equation) → IsTrue (runs T.system i) → equation T.system i ≡ Some e → (t : ℕ) → t < T.bound → TakesTyped T.streams e t
takes_run T story i e run is t early =
    let s = T.system in
    let g = story.whole.complete.typed.each i e is in
    record {
      types = g.types;
      typed = g.typed;
      values =
          values_typed s T.streams t e.args g.types g.arguments
          (all_by (λ a. IsTrue (runs s a)) (IsTypedAt s T.streams t) (typed_at T story t early) e.args (running_args s story.whole.proper i e run is));
    }

-- ---- a loop over arguments
pub all_more : (P : ℕ → Type 0) (xs : List ℕ) (i x : ℕ) → i < length xs → x ≡ get_or xs i x → P x → ((a : ℕ) → Contains (take i xs) a → P a) → (a : ℕ) → Contains (take (i + 1) xs) a → P a
all_more P xs i x lt is here before a m =
    let more : take (i + 1) xs ≡ take i xs ++ x ∷ [] = take_more xs i x lt ∙ ap (λ y. take i xs ++ y ∷ []) (sym is) in
    elim (Contains-push_cases (take i xs) x a (subst (λ ys. Contains ys a) more m)) [
      | inl earlier ↦ before a earlier
      | inr same ↦ subst P same here
    ]

pub all_end : (P : ℕ → Type 0) (xs : List ℕ) (i : ℕ) → length xs ≤ i → ((a : ℕ) → Contains (take i xs) a → P a) → (a : ℕ) → Contains xs a → P a
all_end P xs i past before a m = before a (subst (λ ys. Contains ys a) (sym (take_all i xs past)) m)

pub not_same : (b c : Bool) → beq b c ≡ false → b ≡ not c
not_same true true other = absurd (true≢false other)
not_same true false other = refl
not_same false true other = refl
not_same false false other = absurd (true≢false other)

-- ---- which operations see their arguments at one time
seen_once : (o : Op) → IsTrue (is_seen o) → looks_back o ≡ false
seen_once op.Last is = absurd (false≢true is)
seen_once op.Delay is = absurd (false≢true is)
seen_once o is = refl

computes_once : (o : Op) → IsTrue (computes o) → looks_back o ≡ false
computes_once op.Last is = absurd (false≢true is)
computes_once op.Delay is = absurd (false≢true is)
computes_once o is = refl

joins_once : (o : Op) → IsTrue (joins o) → looks_back o ≡ false
joins_once op.Last is = absurd (false≢true is)
joins_once op.Delay is = absurd (false≢true is)
joins_once o is = refl

misses_once : (o : Op) → IsTrue (misses o) → looks_back o ≡ false
misses_once op.Last is = absurd (false≢true is)
misses_once op.Delay is = absurd (false≢true is)
misses_once o is = refl

-- ---- a filter's condition
abbrev is_filter : Op → Bool
is_filter op.Filter = true
is_filter _ = false

no_update_filters : (o : Op) → is_filter o ≡ true → update_in o ≡ None
no_update_filters op.Filter is = refl
no_update_filters o is = absurd (false≢true is)

condition_typed : (o : Op) (ts : List ValueType) (of : ValueType) → IsTyped o ts of → is_filter o ≡ true → (a c : Option View) → AreOf ts (a ∷ c ∷ []) → IsOf bool_type c
condition_typed o ts of filter is a c fit = fit.1.0
condition_typed o ts of (typed.update h row) is a c fit = absurd (none-some _ (sym (no_update_filters o is) ∙ h))
condition_typed o ts of typed.input is a c fit = absurd (false≢true is)
condition_typed o ts of typed.nil is a c fit = absurd (false≢true is)
condition_typed o ts of typed.unit is a c fit = absurd (false≢true is)
condition_typed o ts of (typed.empty h) is a c fit = absurd (false≢true is)
condition_typed o ts of typed.time is a c fit = absurd (false≢true is)
condition_typed o ts of (typed.any low high) is a c fit = absurd (false≢true is)
condition_typed o ts of typed.last is a c fit = absurd (false≢true is)
condition_typed o ts of typed.delay is a c fit = absurd (false≢true is)
condition_typed o ts of typed.merge is a c fit = absurd (false≢true is)
condition_typed o ts of (typed.pick h) is a c fit = absurd (false≢true is)
condition_typed o ts of (typed.lift low high kind) is a c fit = absurd (false≢true is)

filtered_false : (x w : View) → filtered (Some x) (Some w) ≡ None → IsTrue (is_of bool_type w) → w ≡ Plain (scalar.Bool false)
filtered_false x (Plain (scalar.Bool true)) none fit = absurd (none-some x (sym none))
filtered_false x (Plain (scalar.Bool false)) none fit = refl
filtered_false x w none fit = absurd (false≢true fit)

module _ (T : Tale) (t i : ℕ) (e : Equation) (draft : Draft) (c : CanTell T t i e draft) where
  abbrev s : System
  s = T.system

  abbrev p : Inputs
  p = T.inputs

  abbrev z : Streams
  z = T.streams

  abbrev steps : List WhyStep
  steps = draft.steps.items

  abbrev table : List (Option ℕ)
  table = draft.here.numbers.items

  abbrev Event : ℕ → View → List ℕ → Type 0
  Event u v by = IsGrounded s s.running p steps (Happens i u v) by

  abbrev Silence : List ℕ → Type 0
  Silence by = IsGrounded s s.running p steps (Silent i t t) by

  -- ---- an argument that has an event, or has none
  pub event_seen : IsTrue (is_seen e.op) → (v : View) (by : List ℕ) → event (z i t) ≡ Some v → IsByFirst draft e.args true by → Event t v by
  event_seen is v by at (inl f) =
      let a = f.0 in
      let at_a = here_arg T t i e draft c (seen_once e.op is) a f.1 in
      let some = some_of (event (z a t)) (sym (happens_is T t i e draft c a at_a) ∙ f.2) in
      let value = seen_value p z i t e.of e.op e.args a some.0 v is (shape T t i e draft c) f.1 some.1 (own_here T t i e draft c ∙ ap Ok at) in
      event_from T t i e draft c v by (Happens a t some.0 ∷ []) (named_one T t i e draft c a (Some some.0) by at_a some.1 f.3) (rule.Makes.seen value f.1)
  event_seen is v by at (inr none) =
      let own_none = seen_none p z i t e.of e.op e.args is (shape T t i e draft c) (λ a m. none_of (event (z a t)) (sym (happens_is T t i e draft c a (here_arg T t i e draft c (seen_once e.op is) a m)) ∙ none a m)) in
      absurd (none-some v (ap value_in (sym own_none ∙ own_here T t i e draft c ∙ ap Ok at)))

  missing : IsTrue (misses e.op) → (a : ℕ) → Contains e.args a → happens_now draft a ≡ false → (by : List ℕ) → by ≡ there (number_at table a ∷ []) → Silence by
  missing is a m none by by_is =
      let at_a = here_arg T t i e draft c (misses_once e.op is) a m in
      let silent = none_of (event (z a t)) (sym (happens_is T t i e draft c a at_a) ∙ none) in
      silence_from T t i e draft c by (Silent a t t ∷ []) (named_one T t i e draft c a None by at_a silent by_is) (rule.Lacks.missing is m (rule.Tells.none (omega arith) (omega arith)))

  pub silence_missing : IsTrue (misses_only e.op) → (by : List ℕ) → event (z i t) ≡ None → IsByFirst draft e.args false by → Silence by
  silence_missing is by at (inl f) = missing (only_misses e.op is) f.0 f.1 f.2 by f.3
  silence_missing is by at (inr some) =
      let one = only_misses e.op is in
      let typed = takes_run T c.story i e c.run c.is t c.early in
      let plain = plain_misses e.op is (values z e.args t) t in
      let all = all_there p z i t e.of e.args (λ a m. sym (happens_is T t i e draft c a (here_arg T t i e draft c (misses_once e.op one) a m)) ∙ some a m) in
      let known = gives e.op typed.types e.of typed.typed (values z e.args t) typed.values plain.0 t None (sym (own-missed p z i t e.of e.op e.args one) ∙ own_here T t i e draft c ∙ ap Ok at) in
      absurd (false≢true (known ∙ plain.1 ∙ all))

  -- ---- all arguments
  pub event_computed : IsTrue (computes e.op) → (v : View) (by : List ℕ) → event (z i t) ≡ Some v → by ≡ there (map (number_at table) e.args) → Event t v by
  event_computed is v by at by_is =
      event_from T t i e draft c v by (map (here_of z t) e.args) (named_all T t i e draft c (computes_once e.op is) by by_is)
      (rule.Makes.computed is (tells_each z t e.args) (sym (own-computed p z i t e.of e.op e.args is) ∙ own_here T t i e draft c ∙ ap Ok at))

  pub silence_joined : IsTrue (joins e.op) → (by : List ℕ) → event (z i t) ≡ None → by ≡ there (map (number_at table) e.args) → Silence by
  silence_joined is by at by_is =
      silence_from T t i e draft c by (map (here_of z t) e.args) (named_all T t i e draft c (joins_once e.op is) by by_is)
      (rule.Lacks.without is (tells_each z t e.args) (sym (own-joined p z i t e.of e.op e.args is) ∙ own_here T t i e draft c ∙ ap Ok at))

  -- ---- Merge
  module _ (op_is : e.op ≡ op.Merge) (v : View) (at : event (z i t) ≡ Some v) (a b : ℕ) (args_are : e.args ≡ a ∷ b ∷ []) where
    merged_is : merged (event (z a t)) (event (z b t)) ≡ Some v
    merged_is = ap value_in (own_as T t i e draft c op.Merge (a ∷ b ∷ []) (Some v) op_is args_are at)

    merge_at : (x : ℕ) → Contains e.args x → happens_now draft x ≡ is_some (event (z x t))
    merge_at x m = happens_is T t i e draft c x (here_arg T t i e draft c (ap looks_back op_is) x m)

    merge_first : (by : List ℕ) → happens_now draft a ≡ true → by ≡ there (number_at table a ∷ []) → Event t v by
    merge_first by has by_is =
        let m = at_head a e.args (b ∷ []) args_are in
        let some = some_of (event (z a t)) (sym (merge_at a m) ∙ has) in
        let same : some.0 ≡ v = same_Some some.0 v ((λ k. merged (sym some.1 k) (event (z b t))) ∙ merged_is) in
        event_from T t i e draft c v by (Happens a t v ∷ []) (named_one T t i e draft c a (Some v) by (here_arg T t i e draft c (ap looks_back op_is) a m) (some.1 ∙ ap Some same) by_is) (rule.Makes.first op_is args_are)

    merge_second : (by : List ℕ) → happens_now draft a ≡ false → by ≡ there (map (number_at table) e.args) → Event t v by
    merge_second by has by_is =
        let m = at_head a e.args (b ∷ []) args_are in
        let none : event (z a t) ≡ None = none_of (event (z a t)) (sym (merge_at a m) ∙ has) in
        let second : event (z b t) ≡ Some v = (λ k. merged (sym none k) (event (z b t))) ∙ merged_is in
        let named = named_all T t i e draft c (ap looks_back op_is) by by_is in
        let are : map (here_of z t) e.args ≡ Silent a t t ∷ Happens b t v ∷ [] = ap (map (here_of z t)) args_are ∙ (λ k. fact_here a t (none k) ∷ fact_here b t (second k) ∷ []) in
        event_from T t i e draft c v by (Silent a t t ∷ Happens b t v ∷ []) (subst (AreNamed steps (length steps) by) are named)
        (rule.Makes.second op_is args_are (rule.Tells.none (omega arith) (omega arith)))

  -- ---- Filter
  module _ (op_is : e.op ≡ op.Filter) (at : event (z i t) ≡ None) (a b : ℕ) (args_are : e.args ≡ a ∷ b ∷ []) where
    filter_not : (by : List ℕ) → ((x : ℕ) → Contains e.args x → happens_now draft x ≡ true) → by ≡ there (number_at table b ∷ []) → Silence by
    filter_not by has by_is =
        let first = at_head a e.args (b ∷ []) args_are in
        let second = at_next a b e.args [] args_are in
        let once = ap looks_back op_is in
        let at_b = here_arg T t i e draft c once b second in
        let x = some_of (event (z a t)) (sym (happens_is T t i e draft c a (here_arg T t i e draft c once a first)) ∙ has a first) in
        let w = some_of (event (z b t)) (sym (happens_is T t i e draft c b at_b) ∙ has b second) in
        let none = ap value_in (own_as T t i e draft c op.Filter (a ∷ b ∷ []) None op_is args_are at) in
        let typed = takes_run T c.story i e c.run c.is t c.early in
        let fit = condition_typed e.op typed.types e.of typed.typed (ap is_filter op_is) (event (z a t)) (event (z b t)) (subst (λ xs. AreOf typed.types (values z xs t)) args_are typed.values) in
        let wrong = filtered_false x.0 w.0 ((λ k. filtered (sym x.1 k) (sym w.1 k)) ∙ none) (subst (IsOf bool_type) w.1 fit) in
        silence_from T t i e draft c by (Happens b t (Plain (scalar.Bool false)) ∷ []) (named_one T t i e draft c b (Some (Plain (scalar.Bool false))) by at_b (w.1 ∙ ap Some wrong) by_is)
        (rule.Lacks.not_true op_is args_are)

-- ---- as the code asks for them
pub event_merge_first : (draft : Draft) (e : Equation) (i : ℕ) (by : List ℕ) → happens_at draft (slice_get e.args 0) ≡ true → by ≡ there (table_at draft.here.numbers.items (slice_get e.args 0) ∷ []) → e.op ≡ op.Merge → GroundsEvent draft e i by
event_merge_first draft e i by has by_is op_is T t v c at =
    let args = two_exist e.args (merge_two e.op e.args op_is (shape T t i e draft c)) in
    merge_first T t i e draft c op_is v at args.0 args.1 args.2 by
    (sym (ap (λ xs. happens_at draft (slice_get xs 0)) args.2) ∙ has)
    (by_is ∙ ap (λ xs. there (table_at draft.here.numbers.items (slice_get xs 0) ∷ [])) args.2)

pub event_merge_both : (draft : Draft) (e : Equation) (i : ℕ) (by : List ℕ) → happens_at draft (slice_get e.args 0) ≡ false → by ≡ there (map (number_at draft.here.numbers.items) e.args) → e.op ≡ op.Merge → GroundsEvent draft e i by
event_merge_both draft e i by has by_is op_is T t v c at =
    let args = two_exist e.args (merge_two e.op e.args op_is (shape T t i e draft c)) in
    merge_second T t i e draft c op_is v at args.0 args.1 args.2 by
    (sym (ap (λ xs. happens_at draft (slice_get xs 0)) args.2) ∙ has)
    by_is

pub silence_filter_first : (draft : Draft) (e : Equation) (i t : ℕ) (by : List ℕ) (a : ℕ) → Contains e.args a → happens_now draft a ≡ false → by ≡ there (number_at draft.here.numbers.items a ∷ []) → e.op ≡ op.Filter → GroundsSilence draft e i t by
silence_filter_first draft e i t by a m none by_is op_is T c at = missing T t i e draft c (ap misses op_is) a m none by by_is

pub silence_filter_second : (draft : Draft) (e : Equation) (i t : ℕ) (by : List ℕ) → ((a : ℕ) → Contains e.args a → happens_now draft a ≡ true) → by ≡ there (table_at draft.here.numbers.items (slice_get e.args 1) ∷ []) → e.op ≡ op.Filter → GroundsSilence draft e i t by
silence_filter_second draft e i t by has by_is op_is T c at =
    let args = two_exist e.args (filter_two e.op e.args op_is (shape T t i e draft c)) in
    filter_not T t i e draft c op_is at args.0 args.1 args.2 by has
    (by_is ∙ ap (λ xs. there (table_at draft.here.numbers.items (slice_get xs 1) ∷ [])) args.2)

module _ (draft : Draft) (e : Equation) (i : ℕ) (by : List ℕ) where
  pub event_alone_by : IsTrue (is_alone e.op) → by ≡ [] → GroundsEvent draft e i by
  event_alone_by is none T t v c at = event_alone T t i e draft c is v by at none

  pub event_seen_by : IsTrue (is_seen e.op) → IsByFirst draft e.args true by → GroundsEvent draft e i by
  event_seen_by is first T t v c at = event_seen T t i e draft c is v by at first

  pub event_computed_by : IsTrue (computes e.op) → by ≡ there (map (number_at draft.here.numbers.items) e.args) → GroundsEvent draft e i by
  event_computed_by is all T t v c at = event_computed T t i e draft c is v by at all

  module _ (t : ℕ) where
    pub silence_alone_by : IsTrue (is_alone e.op) → by ≡ [] → GroundsSilence draft e i t by
    silence_alone_by is none T c at = silence_alone T t i e draft c is by at none

    pub silence_missing_by : IsTrue (misses_only e.op) → IsByFirst draft e.args false by → GroundsSilence draft e i t by
    silence_missing_by is first T c at = silence_missing T t i e draft c is by at first

    pub silence_joined_by : IsTrue (joins e.op) → by ≡ there (map (number_at draft.here.numbers.items) e.args) → GroundsSilence draft e i t by
    silence_joined_by is all T c at = silence_joined T t i e draft c is by at all

-- the operations that are left over
pub computes_other : (o : Op) → ¬ (o ≡ op.Input) → ¬ (o ≡ op.Nil) → ¬ (o ≡ op.Unit) → ¬ (o ≡ op.Any) → ¬ (o ≡ op.Time) → ¬ (o ≡ op.Last) → ¬ (o ≡ op.Delay) → ¬ (o ≡ op.Merge) → ¬ (o ≡ op.Empty) → IsTrue (computes o)
computes_other op.Input a b c d e f g h i = absurd (a refl)
computes_other op.Nil a b c d e f g h i = absurd (b refl)
computes_other op.Unit a b c d e f g h i = absurd (c refl)
computes_other op.Any a b c d e f g h i = absurd (d refl)
computes_other op.Time a b c d e f g h i = absurd (e refl)
computes_other op.Last a b c d e f g h i = absurd (f refl)
computes_other op.Delay a b c d e f g h i = absurd (g refl)
computes_other op.Merge a b c d e f g h i = absurd (h refl)
computes_other op.Empty a b c d e f g h i = absurd (i refl)
computes_other o a b c d e f g h i = refl

pub misses_other : (o : Op) → ¬ (o ≡ op.Input) → ¬ (o ≡ op.Nil) → ¬ (o ≡ op.Unit) → ¬ (o ≡ op.Any) → ¬ (o ≡ op.Last) → ¬ (o ≡ op.Delay) → ¬ (o ≡ op.Merge) → ¬ (o ≡ op.Filter) → ¬ (o ≡ op.Empty) → ((body : BodyTree) (strict : Bool) → ¬ (o ≡ op.Lift body strict)) → IsTrue (misses_only o)
misses_other op.Input a b c d e f g h i j = absurd (a refl)
misses_other op.Nil a b c d e f g h i j = absurd (b refl)
misses_other op.Unit a b c d e f g h i j = absurd (c refl)
misses_other op.Any a b c d e f g h i j = absurd (d refl)
misses_other op.Last a b c d e f g h i j = absurd (e refl)
misses_other op.Delay a b c d e f g h i j = absurd (f refl)
misses_other op.Merge a b c d e f g h i j = absurd (g refl)
misses_other op.Filter a b c d e f g h i j = absurd (h refl)
misses_other op.Empty a b c d e f g h i j = absurd (i refl)
misses_other (op.Lift body strict) a b c d e f g h i j = absurd (j body strict refl)
misses_other o a b c d e f g h i j = refl
