-- From which facts it follows that an equation has no event at a time, by its operation.
use Rattle.std.proofs.Common.{◌≡◌, ◌↔◌, ◌⊎◌, ℕ, suc, ◌-◌, ◌<◌, true, false, List, [], ◌∷◌, Option, Some, None, Ok, inl, inr, refl, sym, ap, subst, ◌∙◌, arith}
use Rattle.std.proofs.lemmas.Bool.{eq-eqb, eqb-true, false≢true, lt-ltb, ltb-true}
use Rattle.std.specs.Prelude.{IsTrue, nat_eq, nat_lt}
use Rattle.std.specs.List.{Contains}
use Rattle.tsl_value.specs.View.{View, Plain}
use Rattle.tsl_value.specs.declared.scalar.Scalar.TheVariants as scalar
use Rattle.tsl_value.specs.declared.scalar.ValueType.{ValueType}
use Rattle.flat_core.specs.declared.equation.Equation.{Equation}
use Rattle.flat_core.specs.declared.equation.Op.{Op}
use Rattle.flat_core.specs.declared.equation.Op.TheVariants as op
use Rattle.flat_core.specs.Events.{Inputs, at_once}
use Rattle.why_rules.specs.Facts.{Fact, Happens, Silent, Gap, Pending}
use Rattle.why_rules.specs.Rules.{Tells, TellsEach, Lacks, is_constant, joins, looks_back, misses}
use Rattle.why_rules.specs.Rules as rule
use Rattle.event_why.specs.inner.Agrees.{Agrees}
use Rattle.event_why.specs.inner.Silence.{IsMissing, IsNotTrue, IsSilenceOfOne, IsSilentBefore, misses_only}
use Rattle.event_why.proofs.ListedFacts.{same_head}

module _ (p : Inputs) (i t : ℕ) (fs : List Fact) where
  -- what is told of all arguments makes no event
  abbrev pub IsWithout : Op → List ℕ → ValueType → Type 0
  IsWithout o args of = (vs : List (Option View)) × TellsEach t args vs fs × (at_once o of vs t ≡ Ok None)

  abbrev pub IsPast : Type 0
  IsPast = (u : ℕ) × (t ≡ suc u) × (fs ≡ [])

  abbrev pub IsStart : Type 0
  IsStart = (t ≡ 0) × (fs ≡ [])

  abbrev pub IsNotAsked : ℕ → Type 0
  IsNotAsked r = (f : Fact) × Tells r t None f × (fs ≡ f ∷ [])

  abbrev pub IsNothingBefore : ℕ → Type 0
  IsNothingBefore a = (u : ℕ) × (t ≡ suc u) × (fs ≡ Silent a 0 u ∷ [])

  abbrev pub IsNotDue : Type 0
  IsNotDue = (u : ℕ) × (due : Option ℕ) × (t ≡ suc u) × ¬ (due ≡ Some t) × (fs ≡ Pending i u due ∷ [])

  abbrev pub LacksSo : Op → List ℕ → ValueType → Type 0
  LacksSo op.Input args of = (fs ≡ []) × (p i t ≡ None)
  LacksSo op.Nil args of = fs ≡ []
  LacksSo op.Unit args of = IsPast
  LacksSo op.Empty args of = IsPast
  LacksSo op.Any args of = IsWithout op.Any args of
  LacksSo op.Merge args of = IsWithout op.Merge args of
  LacksSo (op.Lift body false) args of = IsWithout (op.Lift body false) args of
  LacksSo op.Filter (a ∷ c ∷ []) of = IsMissing (a ∷ c ∷ []) t fs ⊎ IsNotTrue c t fs
  LacksSo op.Last (a ∷ r ∷ []) of = IsStart ⊎ (IsNotAsked r ⊎ IsNothingBefore a)
  LacksSo op.Delay args of = IsStart ⊎ IsNotDue
  LacksSo op.Filter args of = IsMissing args t fs
  LacksSo op.Last args of = IsStart
  LacksSo o args of = IsMissing args t fs

module _ (p : Inputs) (i : ℕ) where
  -- ---- from the rules

  past_so : (o : Op) (args : List ℕ) (of : ValueType) (u : ℕ) → IsTrue (is_constant o) → LacksSo p i (suc u) [] o args of
  past_so op.Unit args of u is = (u, refl, refl)
  past_so op.Empty args of u is = (u, refl, refl)
  past_so o args of u is = absurd (false≢true is)

  filter_missing_so : (args : List ℕ) (of : ValueType) (t : ℕ) (fs : List Fact) → IsMissing args t fs → LacksSo p i t fs op.Filter args of
  filter_missing_so [] of t fs missing = missing
  filter_missing_so (a ∷ []) of t fs missing = missing
  filter_missing_so (a ∷ c ∷ []) of t fs missing = inl missing
  filter_missing_so (a ∷ c ∷ d ∷ args) of t fs missing = missing

  missing_so : (o : Op) (args : List ℕ) (of : ValueType) (t : ℕ) (fs : List Fact) → IsTrue (misses o) → IsMissing args t fs → LacksSo p i t fs o args of
  missing_so op.Filter args of t fs is missing = filter_missing_so args of t fs missing
  missing_so op.Input args of t fs is missing = absurd (false≢true is)
  missing_so op.Nil args of t fs is missing = absurd (false≢true is)
  missing_so op.Unit args of t fs is missing = absurd (false≢true is)
  missing_so op.Empty args of t fs is missing = absurd (false≢true is)
  missing_so op.Any args of t fs is missing = absurd (false≢true is)
  missing_so op.Merge args of t fs is missing = absurd (false≢true is)
  missing_so op.Last args of t fs is missing = absurd (false≢true is)
  missing_so op.Delay args of t fs is missing = absurd (false≢true is)
  missing_so (op.Lift body false) args of t fs is missing = absurd (false≢true is)
  missing_so (op.Lift body true) args of t fs is missing = missing
  missing_so o args of t fs is missing = missing

  without_so : (o : Op) (args : List ℕ) (of : ValueType) (t : ℕ) (vs : List (Option View)) (fs : List Fact) → IsTrue (joins o) → TellsEach t args vs fs → at_once o of vs t ≡ Ok None → LacksSo p i t fs o args of
  without_so op.Any args of t vs fs is tells at = (vs, tells, at)
  without_so op.Merge args of t vs fs is tells at = (vs, tells, at)
  without_so (op.Lift body false) args of t vs fs is tells at = (vs, tells, at)
  without_so (op.Lift body true) args of t vs fs is tells at = absurd (false≢true is)
  without_so o args of t vs fs is tells at = absurd (false≢true is)

  last_start_so : (args : List ℕ) (of : ValueType) → LacksSo p i 0 [] op.Last args of
  last_start_so [] of = (refl, refl)
  last_start_so (a ∷ []) of = (refl, refl)
  last_start_so (a ∷ r ∷ []) of = inl (refl, refl)
  last_start_so (a ∷ r ∷ b ∷ args) of = (refl, refl)

  start_so : (o : Op) (args : List ℕ) (of : ValueType) → IsTrue (looks_back o) → LacksSo p i 0 [] o args of
  start_so op.Last args of is = last_start_so args of
  start_so op.Delay args of is = inl (refl, refl)
  start_so o args of is = absurd (false≢true is)

  of_op : (e : Equation) (o : Op) (t : ℕ) (fs : List Fact) → e.op ≡ o → LacksSo p i t fs o e.args e.of → LacksSo p i t fs e.op e.args e.of
  of_op e o t fs op_is so = subst (λ c. LacksSo p i t fs c e.args e.of) (sym op_is) so

  of_two : (e : Equation) (o : Op) (a b t : ℕ) (fs : List Fact) → e.op ≡ o → e.args ≡ a ∷ b ∷ [] → LacksSo p i t fs o (a ∷ b ∷ []) e.of → LacksSo p i t fs e.op e.args e.of
  of_two e o a b t fs op_is args_are so = of_op e o t fs op_is (subst (λ xs. LacksSo p i t fs o xs e.of) (sym args_are) so)

  pub lacks_so : (e : Equation) (t : ℕ) (fs : List Fact) → Lacks p i e t fs → LacksSo p i t fs e.op e.args e.of
  lacks_so e t fs (rule.Lacks.not_given op_is none) = of_op e op.Input t [] op_is (refl, none)
  lacks_so e t fs (rule.Lacks.never op_is) = of_op e op.Nil t [] op_is refl
  lacks_so e t fs (rule.Lacks.past {t = u} is) = past_so e.op e.args e.of u is
  lacks_so e t fs (rule.Lacks.missing {a = a} {f = f} is among silent) =
      missing_so e.op e.args e.of t (f ∷ []) is (record { argument = a; fact = f; among = among; silent = silent; is = refl })
  lacks_so e t fs (rule.Lacks.not_true {a = a} {c = c} op_is args_are) =
      of_two e op.Filter a c t (Happens c t (Plain (scalar.Bool false)) ∷ []) op_is args_are (inr refl)
  lacks_so e t fs (rule.Lacks.without {vs = vs} is tells at) = without_so e.op e.args e.of t vs fs is tells at
  lacks_so e t fs (rule.Lacks.at_zero is) = start_so e.op e.args e.of is
  lacks_so e t fs (rule.Lacks.not_asked {a = a} {r = r} {f = f} op_is args_are silent) =
      of_two e op.Last a r t (f ∷ []) op_is args_are (inr (inl (f, silent, refl)))
  lacks_so e t fs (rule.Lacks.nothing_before {t = u} {a = a} {r = r} op_is args_are) =
      of_two e op.Last a r (suc u) (Silent a 0 u ∷ []) op_is args_are (inr (inr (u, refl, refl)))
  lacks_so e t fs (rule.Lacks.not_due {t = u} {due = due} op_is other) =
      of_op e op.Delay (suc u) (Pending i u due ∷ []) op_is (inr (u, due, refl, other, refl))

  -- ---- to the rules

  module _ (e : Equation) where
    abbrev pub Lacking : ℕ → List Fact → Type 0
    Lacking t fs = Lacks p i e t fs

    pub past_lacks : (t : ℕ) (fs : List Fact) → IsTrue (is_constant e.op) → IsPast p i t fs → Lacking t fs
    past_lacks t fs is (u, next, none) = subst (λ gs. Lacking t gs) (sym none) (subst (λ n. Lacking n []) (sym next) (rule.Lacks.past is))

    pub start_lacks : (t : ℕ) (fs : List Fact) → IsTrue (looks_back e.op) → IsStart p i t fs → Lacking t fs
    start_lacks t fs is (start, none) = subst (λ gs. Lacking t gs) (sym none) (subst (λ n. Lacking n []) (sym start) (rule.Lacks.at_zero is))

    pub missing_lacks : (t : ℕ) (fs : List Fact) → IsTrue (misses e.op) → IsMissing e.args t fs → Lacking t fs
    missing_lacks t fs is missing = subst (λ gs. Lacking t gs) (sym missing.is) (rule.Lacks.missing is missing.among missing.silent)

    pub not_true_lacks : (t a c : ℕ) (fs : List Fact) → e.op ≡ op.Filter → e.args ≡ a ∷ c ∷ [] → IsNotTrue c t fs → Lacking t fs
    not_true_lacks t a c fs op_is args_are at = subst (λ gs. Lacking t gs) (sym at) (rule.Lacks.not_true op_is args_are)

    pub not_asked_lacks : (t a r : ℕ) (fs : List Fact) → e.op ≡ op.Last → e.args ≡ a ∷ r ∷ [] → IsNotAsked p i t fs r → Lacking t fs
    not_asked_lacks t a r fs op_is args_are (f, silent, at) = subst (λ gs. Lacking t gs) (sym at) (rule.Lacks.not_asked op_is args_are silent)

    pub nothing_before_lacks : (t a r : ℕ) (fs : List Fact) → e.op ≡ op.Last → e.args ≡ a ∷ r ∷ [] → IsNothingBefore p i t fs a → Lacking t fs
    nothing_before_lacks t a r fs op_is args_are (u, next, at) =
        subst (λ gs. Lacking t gs) (sym at) (subst (λ n. Lacking n (Silent a 0 u ∷ [])) (sym next) (rule.Lacks.nothing_before op_is args_are))

    pub not_due_lacks : (t : ℕ) (fs : List Fact) → e.op ≡ op.Delay → IsNotDue p i t fs → Lacking t fs
    not_due_lacks t fs op_is (u, due, next, other, at) =
        subst (λ gs. Lacking t gs) (sym at)
        (subst (λ n. ¬ (due ≡ Some n) → Lacking n (Pending i u due ∷ [])) (sym next) (λ off. rule.Lacks.not_due op_is off) other)

  -- ---- by an operation that is known

  pub lacks_by : (e : Equation) (o : Op) (t : ℕ) (fs : List Fact) → e.op ≡ o → Lacks p i e t fs → LacksSo p i t fs o e.args e.of
  lacks_by e o t fs op_is lacks = subst (λ c. LacksSo p i t fs c e.args e.of) op_is (lacks_so e t fs lacks)

  pub lacks_two : (e : Equation) (o : Op) (a b t : ℕ) (fs : List Fact) → e.op ≡ o → e.args ≡ a ∷ b ∷ [] → Lacks p i e t fs → LacksSo p i t fs o (a ∷ b ∷ []) e.of
  lacks_two e o a b t fs op_is args_are lacks = subst (λ xs. LacksSo p i t fs o xs e.of) args_are (lacks_by e o t fs op_is lacks)

  -- ---- tests of times where no fact is named

  past_only : (o : Op) (args : List ℕ) (of : ValueType) (t : ℕ) (fs : List Fact) → IsTrue (is_constant o) → LacksSo p i t fs o args of → IsPast p i t fs
  past_only op.Unit args of t fs is so = so
  past_only op.Empty args of t fs is so = so
  past_only o args of t fs is so = absurd (false≢true is)

  -- an operation with one event, at time 0
  pub past_test : (e : Equation) (t n : ℕ) (fs : List Fact) → IsTrue (is_constant e.op) → n ≡ t → fs ≡ [] → (IsTrue (nat_lt 0 n) → Lacks p i e t fs) × (Lacks p i e t fs → IsTrue (nat_lt 0 n))
  past_test e t n fs constant same none = (
    λ is. let later = ltb-true 0 n is in past_lacks e t fs constant (t - 1, omega arith, none),
    λ lacks. let past = past_only e.op e.args e.of t fs constant (lacks_so e t fs lacks) in let next = past.1 in lt-ltb 0 n (omega (arith, next)),
  )

  -- a delay
  pub delay_start_test : (e : Equation) (t n : ℕ) (fs : List Fact) → e.op ≡ op.Delay → n ≡ t → fs ≡ [] → (IsTrue (nat_eq n 0) → Lacks p i e t fs) × (Lacks p i e t fs → IsTrue (nat_eq n 0))
  delay_start_test e t n fs op_is same none = (
    λ is. let start = eqb-true n 0 is in start_lacks e t fs (subst (λ o. IsTrue (looks_back o)) (sym op_is) refl) (omega arith, none),
    λ lacks. elim (lacks_by e op.Delay t fs op_is lacks) [
      | inl start ↦ let zero_is = start.0 in eq-eqb n 0 (omega (arith, zero_is))
      | inr other ↦ absurd (not_empty fs none (Pending i other.0 other.1) other.4)
    ],
  )
    where
      not_empty : (gs : List Fact) → gs ≡ [] → (f : Fact) → gs ≡ f ∷ [] → ⊥
      not_empty gs none f one = absurd (cc)

due_of_fact : Option ℕ → Fact → Option ℕ
due_of_fact d (Pending i t due) = due
due_of_fact d (Happens i t v) = d
due_of_fact d (Silent i from to) = d
due_of_fact d (Gap from to) = d

same_due : (i j t u : ℕ) (x y : Option ℕ) → Pending i t x ≡ Pending j u y → x ≡ y
unfolding due_of_fact
same_due i j t u x y same = ap (due_of_fact x) same

-- ---- tests of the facts that are named

-- one of these has no event
pub missing_test : (args : List ℕ) (t : ℕ) (fs : List Fact) (f : Fact) → fs ≡ f ∷ [] → IsSilenceOfOne args t f ↔ IsMissing args t fs
missing_test args t fs f one = (
  λ s. record {
    argument = s.argument;
    fact = f;
    among = s.among;
    silent = subst (λ g. Tells s.argument t None g) (sym s.is) (rule.Tells.none s.early s.late);
    is = one;
  },
  λ m. of_tells m.argument m.fact m.among m.silent (same_head f m.fact [] [] (sym one ∙ m.is)),
)
  where
    of_tells : (a : ℕ) (g : Fact) → Contains args a → Tells a t None g → f ≡ g → IsSilenceOfOne args t f
    of_tells a g among (rule.Tells.none {from = from} {to = to} low high) same =
        record { argument = a; from = from; to = to; among = among; early = low; late = high; is = same }

one_is_some : (gs : List Fact) → gs ≡ [] → (f : Fact) → gs ≡ f ∷ [] → ⊥
one_is_some gs none f one = absurd (cc)

module _ (p : Inputs) (i : ℕ) (e : Equation) where
  pub not_given_test : (t : ℕ) (fs : List Fact) → e.op ≡ op.Input → fs ≡ [] → (p i t ≡ None) ↔ Lacks p i e t fs
  not_given_test t fs op_is none = (
    λ at. subst (λ gs. Lacks p i e t gs) (sym none) (rule.Lacks.not_given op_is at),
    λ lacks. (lacks_by p i e op.Input t fs op_is lacks).1,
  )

  pub not_given_never : (t : ℕ) (fs : List Fact) → e.op ≡ op.Input → (fs ≡ [] → ⊥) → ¬ Lacks p i e t fs
  not_given_never t fs op_is some lacks = some (lacks_by p i e op.Input t fs op_is lacks).0

  pub never_test : (t : ℕ) (fs : List Fact) → e.op ≡ op.Nil → (fs ≡ []) ↔ Lacks p i e t fs
  never_test t fs op_is = (
    λ none. subst (λ gs. Lacks p i e t gs) (sym none) (rule.Lacks.never op_is),
    λ lacks. lacks_by p i e op.Nil t fs op_is lacks,
  )

  pub past_never : (t : ℕ) (fs : List Fact) → IsTrue (is_constant e.op) → (fs ≡ [] → ⊥) → ¬ Lacks p i e t fs
  past_never t fs is some lacks = some (past_only p i e.op e.args e.of t fs is (lacks_so p i e t fs lacks)).2

  -- an argument without an event
  missing_only : (o : Op) (args : List ℕ) (of : ValueType) (t : ℕ) (fs : List Fact) → IsTrue (misses o) → (o ≡ op.Filter → ⊥) → LacksSo p i t fs o args of → IsMissing args t fs
  missing_only op.Filter args of t fs is other so = absurd (other refl)
  missing_only op.Input args of t fs is other so = absurd (false≢true is)
  missing_only op.Nil args of t fs is other so = absurd (false≢true is)
  missing_only op.Unit args of t fs is other so = absurd (false≢true is)
  missing_only op.Empty args of t fs is other so = absurd (false≢true is)
  missing_only op.Any args of t fs is other so = absurd (false≢true is)
  missing_only op.Merge args of t fs is other so = absurd (false≢true is)
  missing_only op.Last args of t fs is other so = absurd (false≢true is)
  missing_only op.Delay args of t fs is other so = absurd (false≢true is)
  missing_only (op.Lift body false) args of t fs is other so = absurd (false≢true is)
  missing_only (op.Lift body true) args of t fs is other so = so
  missing_only o args of t fs is other so = so

  only_misses : (o : Op) → IsTrue (misses_only o) → IsTrue (misses o)
  only_misses op.Filter is = absurd (false≢true is)
  only_misses o is = is

  pub misses_test : (t : ℕ) (fs : List Fact) → IsTrue (misses_only e.op) → IsMissing e.args t fs ↔ Lacks p i e t fs
  misses_test t fs only = (
    λ missing. missing_lacks p i e t fs (only_misses e.op only) missing,
    λ lacks. missing_only e.op e.args e.of t fs (only_misses e.op only) (λ is. false≢true (subst (λ o. IsTrue (misses_only o)) is only)) (lacks_so p i e t fs lacks),
  )

  pub not_given_when : (t : ℕ) (fs : List Fact) → e.op ≡ op.Input → p i t ≡ None → (fs ≡ []) ↔ Lacks p i e t fs
  not_given_when t fs op_is at = (
    λ none. subst (λ gs. Lacks p i e t gs) (sym none) (rule.Lacks.not_given op_is at),
    λ lacks. (lacks_by p i e op.Input t fs op_is lacks).0,
  )

  pub filter_test : (t a c : ℕ) (fs : List Fact) → e.op ≡ op.Filter → e.args ≡ a ∷ c ∷ [] → (IsMissing (a ∷ c ∷ []) t fs ⊎ IsNotTrue c t fs) ↔ Lacks p i e t fs
  filter_test t a c fs op_is args_are = (
    λ either. elim either [
      | inl missing ↦
          missing_lacks p i e t fs (subst (λ o. IsTrue (misses o)) (sym op_is) refl) (subst (λ xs. IsMissing xs t fs) (sym args_are) missing)
      | inr false_is ↦ not_true_lacks p i e t a c fs op_is args_are false_is
    ],
    λ lacks. lacks_two p i e op.Filter a c t fs op_is args_are lacks,
  )

  -- all arguments are told
  without_only : (o : Op) (args : List ℕ) (of : ValueType) (t : ℕ) (fs : List Fact) → IsTrue (joins o) → LacksSo p i t fs o args of → IsWithout p i t fs o args of
  without_only op.Any args of t fs is so = so
  without_only op.Merge args of t fs is so = so
  without_only (op.Lift body false) args of t fs is so = so
  without_only (op.Lift body true) args of t fs is so = absurd (false≢true is)
  without_only o args of t fs is so = absurd (false≢true is)

  pub without_test : (t : ℕ) (fs : List Fact) → IsTrue (joins e.op) → Agrees e t None fs ↔ Lacks p i e t fs
  without_test t fs is = (
    λ a. rule.Lacks.without is a.told a.is,
    λ lacks.
        let so = without_only e.op e.args e.of t fs is (lacks_so p i e t fs lacks) in
        record { values = so.0; told = so.1; is = so.2 },
  )

  -- a last
  pub last_start_test : (t a r : ℕ) (fs : List Fact) → e.op ≡ op.Last → e.args ≡ a ∷ r ∷ [] → fs ≡ [] → (t ≡ 0) ↔ Lacks p i e t fs
  last_start_test t a r fs op_is args_are none = (
    λ start. start_lacks p i e t fs (subst (λ o. IsTrue (looks_back o)) (sym op_is) refl) (start, none),
    λ lacks. elim (lacks_two p i e op.Last a r t fs op_is args_are lacks) [
      | inl start ↦ start.0
      | inr (inl asked) ↦ absurd (one_is_some fs none asked.0 asked.2)
      | inr (inr before) ↦ absurd (one_is_some fs none (Silent a 0 before.0) before.2)
    ],
  )

  pub last_one_test : (t a r : ℕ) (fs : List Fact) (f : Fact) → e.op ≡ op.Last → e.args ≡ a ∷ r ∷ [] → fs ≡ f ∷ [] → (Tells r t None f ⊎ IsSilentBefore a t f) ↔ Lacks p i e t fs
  last_one_test t a r fs f op_is args_are one = (
    λ either. elim either [
      | inl silent ↦ not_asked_lacks p i e t a r fs op_is args_are (f, silent, one)
      | inr before ↦ let later = before.0 in nothing_before_lacks p i e t a r fs op_is args_are (t - 1, omega (arith, later), one ∙ ap (λ g. g ∷ []) before.1)
    ],
    λ lacks. elim (lacks_two p i e op.Last a r t fs op_is args_are lacks) [
      | inl start ↦ absurd (one_is_some fs start.1 f one)
      | inr (inl asked) ↦ inl (subst (λ g. Tells r t None g) (sym (same_head f asked.0 [] [] (sym one ∙ asked.2))) asked.1)
      | inr (inr before) ↦
          let next = before.1 in
          let last : before.0 ≡ t - 1 = omega (arith, next) in
          inr (omega (arith, next), same_head f (Silent a 0 before.0) [] [] (sym one ∙ before.2) ∙ ap (λ n. Silent a 0 n) last)
    ],
  )

  pub last_lacks_never : (t a r : ℕ) (fs : List Fact) → e.op ≡ op.Last → e.args ≡ a ∷ r ∷ [] → (fs ≡ [] → ⊥) → ((f : Fact) → ¬ (fs ≡ f ∷ [])) → ¬ Lacks p i e t fs
  last_lacks_never t a r fs op_is args_are some not_one lacks = elim (lacks_two p i e op.Last a r t fs op_is args_are lacks) [
    | inl start ↦ some start.1
    | inr (inl asked) ↦ not_one asked.0 asked.2
    | inr (inr before) ↦ not_one (Silent a 0 before.0) before.2
  ]

  -- a delay
  pub not_due_test : (t : ℕ) (fs : List Fact) (f : Fact) (due : Option ℕ) → e.op ≡ op.Delay → 0 < t → fs ≡ f ∷ [] → f ≡ Pending i (t - 1) due → ¬ (due ≡ Some t) ↔ Lacks p i e t fs
  not_due_test t fs f due op_is later one is = (
    λ other. not_due_lacks p i e t fs op_is (t - 1, due, omega arith, other, one ∙ ap (λ g. g ∷ []) is),
    λ lacks. elim (lacks_by p i e op.Delay t fs op_is lacks) [
      | inl start ↦ absurd (one_is_some fs start.1 f one)
      | inr so ↦ subst (λ d. ¬ (d ≡ Some t)) (same_due i i so.0 (t - 1) so.1 due (sym (same_head f (Pending i so.0 so.1) [] [] (sym one ∙ so.4)) ∙ is)) so.3
    ],
  )

  pub not_due_never : (t : ℕ) (fs : List Fact) → e.op ≡ op.Delay → (t ≡ 0 → fs ≡ [] → ⊥) → ((f : Fact) (due : Option ℕ) → 0 < t → fs ≡ f ∷ [] → ¬ (f ≡ Pending i (t - 1) due)) → ¬ Lacks p i e t fs
  not_due_never t fs op_is start none lacks = elim (lacks_by p i e op.Delay t fs op_is lacks) [
    | inl at ↦ start at.0 at.1
    | inr so ↦
        let next = so.2 in
        let before : so.0 ≡ t - 1 = omega (arith, next) in
        none (Pending i so.0 so.1) so.1 (omega (arith, next)) so.4 (ap (λ n. Pending i n so.1) before)
  ]

-- a number that is compared with 0
pub zero_test : (n t : ℕ) → n ≡ t → (IsTrue (nat_eq n 0) → t ≡ 0) × (t ≡ 0 → IsTrue (nat_eq n 0))
zero_test n t same = (λ is. sym same ∙ eqb-true n 0 is, λ zero_is. eq-eqb n 0 (same ∙ zero_is))
