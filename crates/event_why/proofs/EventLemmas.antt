-- From which facts an equation has an event, by its operation.
use Rattle.std.proofs.Common.{◌≡◌, ◌↔◌, ◌⊎◌, ℕ, suc, ◌-◌, ◌<◌, ◌≤◌, Bool, leb, List, [], ◌∷◌, Option, Some, None, Ok, inl, inr, refl, sym, ap, subst, ◌∙◌, arith}
use Rattle.std.proofs.lemmas.Bool.{false≢true, le-leb, leb-true}
use Rattle.std.proofs.lemmas.Option.{none-some, same_Some}
use Rattle.std.specs.Prelude.{IsTrue}
use Rattle.std.specs.List.{Contains}
use Rattle.tsl_value.specs.View.{View}
use Rattle.tsl_value.specs.declared.scalar.ValueType.{ValueType}
use Rattle.flat_core.specs.declared.equation.Equation.{Equation}
use Rattle.flat_core.specs.declared.equation.Op.{Op}
use Rattle.flat_core.specs.declared.equation.Op.TheVariants as op
use Rattle.flat_core.specs.Events.{Inputs, unit, at_once}
use Rattle.why_rules.specs.Facts.{Fact, Happens, Silent, Gap, Pending}
use Rattle.why_rules.specs.Rules.{Tells, TellsEach, SilentBetween, Makes, computes, is_constant, seen_by}
use Rattle.why_rules.specs.Rules as rule
use Rattle.event_why.specs.inner.Agrees.{Agrees}
use Rattle.event_why.specs.inner.Silence.{IsEventOfOne}
use Rattle.event_why.proofs.ListedFacts.{same_head, same_rest}

module _ (p : Inputs) (i t : ℕ) (v : View) (fs : List Fact) where
  -- an event of one argument is enough
  abbrev pub IsSeen : Option View → List ℕ → Type 0
  IsSeen made args = (made ≡ Some v) × ((a : ℕ) × (x : View) × Contains args a × (fs ≡ Happens a t x ∷ []))

  -- the case of the operation, from what is told of all arguments
  abbrev pub IsComputed : Op → List ℕ → ValueType → Type 0
  IsComputed o args of = (vs : List (Option View)) × TellsEach t args vs fs × (at_once o of vs t ≡ Ok (Some v))

  abbrev pub IsMerged : ℕ → ℕ → Type 0
  IsMerged a b = (fs ≡ Happens a t v ∷ []) ⊎ ((f : Fact) × Tells a t None f × (fs ≡ f ∷ Happens b t v ∷ []))

  abbrev pub IsLast : ℕ → ℕ → Type 0
  IsLast a r = (u : ℕ) × (x : View) × (rest : List Fact) × (u < t) × SilentBetween a (suc u) t rest × (fs ≡ Happens r t x ∷ Happens a u v ∷ rest)

  abbrev pub IsConstant : Op → ValueType → Type 0
  IsConstant o of = (fs ≡ []) × (t ≡ 0) × (at_once o of [] 0 ≡ Ok (Some v))

  abbrev pub MakesSo : Op → List ℕ → ValueType → Type 0
  MakesSo op.Input args of = (fs ≡ []) × (p i t ≡ Some v)
  MakesSo op.Nil args of = ⊥
  MakesSo op.Unit args of = IsConstant op.Unit of
  MakesSo op.Empty args of = IsConstant op.Empty of
  MakesSo op.Time args of = IsSeen (seen_by op.Time t) args
  MakesSo op.Any args of = IsSeen (seen_by op.Any t) args
  MakesSo op.Merge (a ∷ b ∷ []) of = IsMerged a b
  MakesSo op.Last (a ∷ r ∷ []) of = IsLast a r
  MakesSo op.Delay args of = (u : ℕ) × (t ≡ suc u) × (v ≡ unit) × (fs ≡ Pending i u (Some t) ∷ [])
  MakesSo op.Merge args of = ⊥
  MakesSo op.Last args of = ⊥
  MakesSo o args of = IsComputed o args of

module _ (p : Inputs) (i : ℕ) where
  -- ---- from the rules

  constant_so : (o : Op) (args : List ℕ) (of : ValueType) (v : View) → IsTrue (is_constant o) → at_once o of [] 0 ≡ Ok (Some v) → MakesSo p i 0 v [] o args of
  constant_so op.Unit args of v is at = (refl, refl, at)
  constant_so op.Empty args of v is at = (refl, refl, at)
  constant_so o args of v is at = absurd (false≢true is)

  seen_so : (o : Op) (args : List ℕ) (of : ValueType) (t a : ℕ) (v x : View) → seen_by o t ≡ Some v → Contains args a → MakesSo p i t v (Happens a t x ∷ []) o args of
  seen_so op.Time args of t a v x is among = (is, (a, x, among, refl))
  seen_so op.Any args of t a v x is among = (is, (a, x, among, refl))
  seen_so o args of t a v x is among = absurd (none-some v is)

  computed_so : (o : Op) (args : List ℕ) (of : ValueType) (t : ℕ) (v : View) (vs : List (Option View)) (fs : List Fact) → IsTrue (computes o) → TellsEach t args vs fs → at_once o of vs t ≡ Ok (Some v) → MakesSo p i t v fs o args of
  computed_so op.Input args of t v vs fs is tells at = absurd (false≢true is)
  computed_so op.Nil args of t v vs fs is tells at = absurd (false≢true is)
  computed_so op.Unit args of t v vs fs is tells at = absurd (false≢true is)
  computed_so op.Empty args of t v vs fs is tells at = absurd (false≢true is)
  computed_so op.Time args of t v vs fs is tells at = absurd (false≢true is)
  computed_so op.Any args of t v vs fs is tells at = absurd (false≢true is)
  computed_so op.Merge args of t v vs fs is tells at = absurd (false≢true is)
  computed_so op.Last args of t v vs fs is tells at = absurd (false≢true is)
  computed_so op.Delay args of t v vs fs is tells at = absurd (false≢true is)
  computed_so o args of t v vs fs is tells at = (vs, tells, at)

  -- two arguments of an operation that is known
  by_two : (e : Equation) (o : Op) (a b t : ℕ) (v : View) (fs : List Fact) → e.op ≡ o → e.args ≡ a ∷ b ∷ [] → MakesSo p i t v fs o (a ∷ b ∷ []) e.of → MakesSo p i t v fs e.op e.args e.of
  by_two e o a b t v fs op_is args_are so =
      subst (λ c. MakesSo p i t v fs c e.args e.of) (sym op_is) (subst (λ xs. MakesSo p i t v fs o xs e.of) (sym args_are) so)

  pub makes_so : (e : Equation) (t : ℕ) (v : View) (fs : List Fact) → Makes p i e t v fs → MakesSo p i t v fs e.op e.args e.of
  makes_so e t v fs (rule.Makes.given op_is given) = subst (λ c. MakesSo p i t v [] c e.args e.of) (sym op_is) (refl, given)
  makes_so e t v fs (rule.Makes.constant is at) = constant_so e.op e.args e.of v is at
  makes_so e t v fs (rule.Makes.seen {a = a} {x = x} is among) = seen_so e.op e.args e.of t a v x is among
  makes_so e t v fs (rule.Makes.first {a = a} {b = b} op_is args_are) = by_two e op.Merge a b t v (Happens a t v ∷ []) op_is args_are (inl refl)
  makes_so e t v fs (rule.Makes.second {a = a} {b = b} {f = f} op_is args_are silent) =
      by_two e op.Merge a b t v (f ∷ Happens b t v ∷ []) op_is args_are (inr (f, silent, refl))
  makes_so e t v fs (rule.Makes.computed {vs = vs} is tells at) = computed_so e.op e.args e.of t v vs fs is tells at
  makes_so e t v fs (rule.Makes.last {u = u} {a = a} {r = r} {x = x} {fs = rest} op_is args_are earlier between) =
      by_two e op.Last a r t v (Happens r t x ∷ Happens a u v ∷ rest) op_is args_are (u, x, rest, earlier, between, refl)
  makes_so e t v fs (rule.Makes.expired {t = u} op_is) =
      subst (λ c. MakesSo p i (suc u) unit (Pending i u (Some (suc u)) ∷ []) c e.args e.of) (sym op_is) (u, refl, refl, refl)

  -- ---- to the rules

  module _ (e : Equation) where
    abbrev pub Made : ℕ → View → List Fact → Type 0
    Made t v fs = Makes p i e t v fs

    pub constant_made : (t : ℕ) (v : View) (fs : List Fact) → IsTrue (is_constant e.op) → fs ≡ [] → t ≡ 0 → at_once e.op e.of [] 0 ≡ Ok (Some v) → Made t v fs
    constant_made t v fs is none start at = subst (λ gs. Made t v gs) (sym none) (subst (λ u. Made u v []) (sym start) (rule.Makes.constant is at))

    pub seen_made : (t : ℕ) (v : View) (fs : List Fact) → IsSeen p i t v fs (seen_by e.op t) e.args → Made t v fs
    seen_made t v fs (is, (a, x, among, at)) = subst (λ gs. Made t v gs) (sym at) (rule.Makes.seen is among)

    pub merged_made : (t a b : ℕ) (v : View) (fs : List Fact) → e.op ≡ op.Merge → e.args ≡ a ∷ b ∷ [] → IsMerged p i t v fs a b → Made t v fs
    merged_made t a b v fs op_is args_are (inl at) = subst (λ gs. Made t v gs) (sym at) (rule.Makes.first op_is args_are)
    merged_made t a b v fs op_is args_are (inr (f, silent, at)) = subst (λ gs. Made t v gs) (sym at) (rule.Makes.second op_is args_are silent)

    pub last_made : (t a r : ℕ) (v : View) (fs : List Fact) → e.op ≡ op.Last → e.args ≡ a ∷ r ∷ [] → IsLast p i t v fs a r → Made t v fs
    last_made t a r v fs op_is args_are (u, x, rest, earlier, between, at) =
        subst (λ gs. Made t v gs) (sym at) (rule.Makes.last {u = u} {x = x} op_is args_are earlier between)

    pub expired_made : (t u : ℕ) (v : View) (fs : List Fact) → e.op ≡ op.Delay → t ≡ suc u → v ≡ unit → fs ≡ Pending i u (Some t) ∷ [] → Made t v fs
    expired_made t u v fs op_is next is at =
        subst (λ gs. Made t v gs) (sym at)
        (subst (λ w. Made t w (Pending i u (Some t) ∷ [])) (sym is)
        (subst (λ n. Made n unit (Pending i u (Some n) ∷ [])) (sym next) (rule.Makes.expired op_is)))

    pub computed_made : (t : ℕ) (v : View) (fs : List Fact) → IsTrue (computes e.op) → IsComputed p i t v fs e.op e.args e.of → Made t v fs
    computed_made t v fs is (vs, tells, at) = rule.Makes.computed is tells at

  -- ---- by an operation that is known

  pub makes_by : (e : Equation) (o : Op) (t : ℕ) (v : View) (fs : List Fact) → e.op ≡ o → Makes p i e t v fs → MakesSo p i t v fs o e.args e.of
  makes_by e o t v fs op_is makes = subst (λ c. MakesSo p i t v fs c e.args e.of) op_is (makes_so e t v fs makes)

  pub makes_two : (e : Equation) (o : Op) (a b t : ℕ) (v : View) (fs : List Fact) → e.op ≡ o → e.args ≡ a ∷ b ∷ [] → Makes p i e t v fs → MakesSo p i t v fs o (a ∷ b ∷ []) e.of
  makes_two e o a b t v fs op_is args_are makes = subst (λ xs. MakesSo p i t v fs o xs e.of) args_are (makes_by e o t v fs op_is makes)

-- ---- no event between two times

between_none : (a from to : ℕ) (fs : List Fact) → SilentBetween a from to fs → fs ≡ [] → to ≤ from
between_none a from to fs (rule.SilentBetween.no_time past) none = past
between_none a from to fs (rule.SilentBetween.times low) none = absurd (cc)

pub between_none_test : (a from to : ℕ) (fs : List Fact) → fs ≡ [] → (IsTrue (leb to from) → SilentBetween a from to fs) × (SilentBetween a from to fs → IsTrue (leb to from))
between_none_test a from to fs none = (
  λ is. subst (λ gs. SilentBetween a from to gs) (sym none) (rule.SilentBetween.no_time (leb-true to from is)),
  λ between. le-leb to from (between_none a from to fs between none),
)

between_last : (a from to : ℕ) (fs : List Fact) (f : Fact) → SilentBetween a from to fs → fs ≡ f ∷ [] → f ≡ Silent a from (to - 1)
between_last a from to fs f (rule.SilentBetween.no_time past) one = absurd (cc)
between_last a from to fs f (rule.SilentBetween.times {last = last} low) one =
    let same : last ≡ suc last - 1 = omega arith in
    sym (same_head (Silent a from last) f [] [] one) ∙ ap (λ n. Silent a from n) same

pub between_one_test : (a from to : ℕ) (fs : List Fact) (f : Fact) (b : Bool) → fs ≡ f ∷ [] → from < to → (IsTrue b ↔ (f ≡ Silent a from (to - 1))) → (IsTrue b → SilentBetween a from to fs) × (SilentBetween a from to fs → IsTrue b)
between_one_test a from to fs f b one later test = (
  λ is.
      let next : suc (to - 1) ≡ to = omega arith in
      subst (λ gs. SilentBetween a from to gs) (sym (one ∙ ap (λ g. g ∷ []) (test.0 is)))
      (subst (λ n. SilentBetween a from n (Silent a from (to - 1) ∷ [])) next (rule.SilentBetween.times (omega arith))),
  λ between. test.1 (between_last a from to fs f between one),
)

-- ---- tests of the facts that are named

time_in : Fact → ℕ
time_in (Happens i t v) = t
time_in (Silent i from to) = 0
time_in (Gap from to) = 0
time_in (Pending i t due) = 0

value_or : View → Fact → View
value_or d (Happens i t v) = v
value_or d (Silent i from to) = d
value_or d (Gap from to) = d
value_or d (Pending i t due) = d

same_time : (i j t u : ℕ) (v w : View) → Happens i t v ≡ Happens j u w → t ≡ u
unfolding time_in
same_time i j t u v w same = ap time_in same

same_value : (i j t u : ℕ) (v w : View) → Happens i t v ≡ Happens j u w → v ≡ w
unfolding value_or
same_value i j t u v w same = ap (value_or v) same

module _ (p : Inputs) (i : ℕ) (e : Equation) where
  -- an input
  pub given_test : (t : ℕ) (v w : View) (fs : List Fact) → e.op ≡ op.Input → fs ≡ [] → p i t ≡ Some w → (v ≡ w) ↔ Makes p i e t v fs
  given_test t v w fs op_is none at = (
    λ same. subst (λ gs. Makes p i e t v gs) (sym none) (rule.Makes.given op_is (at ∙ ap Some (sym same))),
    λ makes. same_Some v w (sym (makes_by p i e op.Input t v fs op_is makes).1 ∙ at),
  )

  pub given_never : (t : ℕ) (v : View) (fs : List Fact) → e.op ≡ op.Input → (fs ≡ [] → ⊥) → ¬ Makes p i e t v fs
  given_never t v fs op_is some makes = some (makes_by p i e op.Input t v fs op_is makes).0

  pub not_given : (t : ℕ) (v : View) (fs : List Fact) → e.op ≡ op.Input → p i t ≡ None → ¬ Makes p i e t v fs
  not_given t v fs op_is none makes = none-some v (sym none ∙ (makes_by p i e op.Input t v fs op_is makes).1)

  -- an event at time 0
  constant_only : (o : Op) (args : List ℕ) (of : ValueType) (t : ℕ) (v : View) (fs : List Fact) → IsTrue (is_constant o) → MakesSo p i t v fs o args of → IsConstant p i t v fs o of
  constant_only op.Unit args of t v fs is so = so
  constant_only op.Empty args of t v fs is so = so
  constant_only o args of t v fs is so = absurd (false≢true is)

  pub constant_test : (t : ℕ) (v : View) (fs : List Fact) → IsTrue (is_constant e.op) → fs ≡ [] → t ≡ 0 → (at_once e.op e.of [] t ≡ Ok (Some v)) ↔ Makes p i e t v fs
  constant_test t v fs is none start = (
    λ at. constant_made p i e t v fs is none start (subst (λ u. at_once e.op e.of [] u ≡ Ok (Some v)) start at),
    λ makes. subst (λ u. at_once e.op e.of [] u ≡ Ok (Some v)) (sym start) (constant_only e.op e.args e.of t v fs is (makes_so p i e t v fs makes)).2,
  )

  pub constant_never : (t : ℕ) (v : View) (fs : List Fact) → IsTrue (is_constant e.op) → (fs ≡ [] → t ≡ 0 → ⊥) → ¬ Makes p i e t v fs
  constant_never t v fs is never makes =
      let so = constant_only e.op e.args e.of t v fs is (makes_so p i e t v fs makes) in
      never so.0 so.1

  -- an event of one argument
  seen_only : (o : Op) (args : List ℕ) (of : ValueType) (t : ℕ) (v made : View) (fs : List Fact) → seen_by o t ≡ Some made → MakesSo p i t v fs o args of → IsSeen p i t v fs (seen_by o t) args
  seen_only op.Time args of t v made fs is so = so
  seen_only op.Any args of t v made fs is so = so
  seen_only o args of t v made fs is so = absurd (none-some made is)

  pub seen_test : (t : ℕ) (v made : View) (fs : List Fact) (f : Fact) → seen_by e.op t ≡ Some made → fs ≡ f ∷ [] → ((v ≡ made) × IsEventOfOne e.args t f) ↔ Makes p i e t v fs
  seen_test t v made fs f is one = (
    λ both.
        let of = both.1 in
        seen_made p i e t v fs (is ∙ ap Some (sym both.0), (of.argument, of.value, of.among, one ∙ ap (λ g. g ∷ []) of.is)),
    λ makes.
        let so = seen_only e.op e.args e.of t v made fs is (makes_so p i e t v fs makes) in
        let found = so.1 in (
          same_Some v made (sym so.0 ∙ is),
          record {
            argument = found.0;
            value = found.1;
            among = found.2;
            is = same_head f (Happens found.0 t found.1) [] [] (sym one ∙ found.3);
          },
        ),
  )

  pub seen_never : (t : ℕ) (v made : View) (fs : List Fact) → seen_by e.op t ≡ Some made → ((f : Fact) → ¬ (fs ≡ f ∷ [])) → ¬ Makes p i e t v fs
  seen_never t v made fs is never makes =
      let so = seen_only e.op e.args e.of t v made fs is (makes_so p i e t v fs makes) in
      let found = so.1 in
      never (Happens found.0 t found.1) found.3

  -- a merge
  pub merged_one_test : (t a b : ℕ) (v : View) (fs : List Fact) (f : Fact) → e.op ≡ op.Merge → e.args ≡ a ∷ b ∷ [] → fs ≡ f ∷ [] → (f ≡ Happens a t v) ↔ Makes p i e t v fs
  merged_one_test t a b v fs f op_is args_are one = (
    λ is. merged_made p i e t a b v fs op_is args_are (inl (one ∙ ap (λ g. g ∷ []) is)),
    λ makes. elim (makes_two p i e op.Merge a b t v fs op_is args_are makes) [
      | inl first ↦ same_head f (Happens a t v) [] [] (sym one ∙ first)
      | inr second ↦ absurd (two_is_not_one f second.0 (Happens b t v) (sym one ∙ second.2))
    ],
  )
    where
      two_is_not_one : (f g h : Fact) → f ∷ [] ≡ g ∷ h ∷ [] → ⊥
      two_is_not_one f g h same = absurd (cc)

  pub merged_two_test : (t a b : ℕ) (v : View) (fs : List Fact) (f g : Fact) → e.op ≡ op.Merge → e.args ≡ a ∷ b ∷ [] → fs ≡ f ∷ g ∷ [] → (Tells a t None f × (g ≡ Happens b t v)) ↔ Makes p i e t v fs
  merged_two_test t a b v fs f g op_is args_are two = (
    λ both. merged_made p i e t a b v fs op_is args_are (inr (f, both.0, two ∙ ap (λ h. f ∷ h ∷ []) both.1)),
    λ makes. elim (makes_two p i e op.Merge a b t v fs op_is args_are makes) [
      | inl first ↦ absurd (one_is_not_two f g (Happens a t v) (sym two ∙ first))
      | inr second ↦
          let same = sym two ∙ second.2 in (
            subst (λ h. Tells a t None h) (sym (same_head f second.0 (g ∷ []) (Happens b t v ∷ []) same)) second.1,
            same_head g (Happens b t v) [] [] (same_rest f second.0 (g ∷ []) (Happens b t v ∷ []) same),
          )
    ],
  )
    where
      one_is_not_two : (f g h : Fact) → f ∷ g ∷ [] ≡ h ∷ [] → ⊥
      one_is_not_two f g h same = absurd (cc)

  pub merged_never : (t a b : ℕ) (v : View) (fs : List Fact) → e.op ≡ op.Merge → e.args ≡ a ∷ b ∷ [] → ((f : Fact) → ¬ (fs ≡ f ∷ [])) → ((f g : Fact) → ¬ (fs ≡ f ∷ g ∷ [])) → ¬ Makes p i e t v fs
  merged_never t a b v fs op_is args_are not_one not_two makes = elim (makes_two p i e op.Merge a b t v fs op_is args_are makes) [
    | inl first ↦ not_one (Happens a t v) first
    | inr second ↦ not_two second.0 (Happens b t v) second.2
  ]

  -- a last
  pub last_test : (t a r u : ℕ) (v : View) (fs : List Fact) (f g : Fact) (rest : List Fact) → e.op ≡ op.Last → e.args ≡ a ∷ r ∷ [] → fs ≡ f ∷ g ∷ rest → u < t → g ≡ Happens a u v → (((x : View) × (f ≡ Happens r t x)) × SilentBetween a (suc u) t rest) ↔ Makes p i e t v fs
  last_test t a r u v fs f g rest op_is args_are are early is = (
    λ both. last_made p i e t a r v fs op_is args_are (u, both.0.0, rest, early, both.1, are ∙ (λ k. both.0.1 k ∷ is k ∷ rest)),
    λ makes.
        let so = makes_two p i e op.Last a r t v fs op_is args_are makes in
        let w = so.0 in
        let x = so.1 in
        let others = so.2 in
        let same = sym are ∙ so.5 in
        let tails = same_rest f (Happens r t x) (g ∷ rest) (Happens a w v ∷ others) same in
        let time = same_time a a u w v v (sym is ∙ same_head g (Happens a w v) rest others tails) in (
          (x, same_head f (Happens r t x) (g ∷ rest) (Happens a w v ∷ others) same),
          subst (λ n. SilentBetween a (suc n) t rest) (sym time) (subst (λ gs. SilentBetween a (suc w) t gs) (sym (same_rest g (Happens a w v) rest others tails)) so.4),
        ),
  )

  pub last_never : (t a r : ℕ) (v : View) (fs : List Fact) → e.op ≡ op.Last → e.args ≡ a ∷ r ∷ [] → ((f g : Fact) (rest : List Fact) (u : ℕ) → fs ≡ f ∷ g ∷ rest → u < t → ¬ (g ≡ Happens a u v)) → ¬ Makes p i e t v fs
  last_never t a r v fs op_is args_are never makes =
      let so = makes_two p i e op.Last a r t v fs op_is args_are makes in
      never (Happens r t so.1) (Happens a so.0 v) so.2 so.0 so.5 so.3 refl

  -- a delay
  pub expired_test : (t : ℕ) (v : View) (fs : List Fact) (f : Fact) → e.op ≡ op.Delay → 0 < t → v ≡ unit → fs ≡ f ∷ [] → (f ≡ Pending i (t - 1) (Some t)) ↔ Makes p i e t v fs
  expired_test t v fs f op_is later is one = (
    λ due. expired_made p i e t (t - 1) v fs op_is (omega arith) is (one ∙ ap (λ g. g ∷ []) due),
    λ makes.
        let so = makes_by p i e op.Delay t v fs op_is makes in
        let next = so.1 in
        let before : so.0 ≡ t - 1 = omega (arith, next) in
        same_head f (Pending i so.0 (Some t)) [] [] (sym one ∙ so.3) ∙ ap (λ n. Pending i n (Some t)) before,
  )

  pub expired_never : (t : ℕ) (v : View) (fs : List Fact) → e.op ≡ op.Delay → (0 < t → v ≡ unit → (f : Fact) → ¬ (fs ≡ f ∷ [])) → ¬ Makes p i e t v fs
  expired_never t v fs op_is never makes =
      let so = makes_by p i e op.Delay t v fs op_is makes in
      let next = so.1 in
      never (omega (arith, next)) so.2 (Pending i so.0 (Some t)) so.3

  -- an operation that sees its arguments at one time
  computed_only : (o : Op) (args : List ℕ) (of : ValueType) (t : ℕ) (v : View) (fs : List Fact) → IsTrue (computes o) → MakesSo p i t v fs o args of → IsComputed p i t v fs o args of
  computed_only op.Input args of t v fs is so = absurd (false≢true is)
  computed_only op.Nil args of t v fs is so = absurd (false≢true is)
  computed_only op.Unit args of t v fs is so = absurd (false≢true is)
  computed_only op.Empty args of t v fs is so = absurd (false≢true is)
  computed_only op.Time args of t v fs is so = absurd (false≢true is)
  computed_only op.Any args of t v fs is so = absurd (false≢true is)
  computed_only op.Merge args of t v fs is so = absurd (false≢true is)
  computed_only op.Last args of t v fs is so = absurd (false≢true is)
  computed_only op.Delay args of t v fs is so = absurd (false≢true is)
  computed_only o args of t v fs is so = so

  pub computed_test : (t : ℕ) (v : View) (fs : List Fact) → IsTrue (computes e.op) → Agrees e t (Some v) fs ↔ Makes p i e t v fs
  computed_test t v fs is = (
    λ a. rule.Makes.computed is a.told a.is,
    λ makes.
        let so = computed_only e.op e.args e.of t v fs is (makes_so p i e t v fs makes) in
        record { values = so.0; told = so.1; is = so.2 },
  )

  pub nil_never : (t : ℕ) (v : View) (fs : List Fact) → e.op ≡ op.Nil → ¬ Makes p i e t v fs
  nil_never t v fs op_is makes = makes_by p i e op.Nil t v fs op_is makes
