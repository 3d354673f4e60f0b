-- A formula by its rule, and the steps of an order.
use Rattle.std.proofs.Common.{◌≡◌, ℕ, zero, suc, ◌+◌, ◌<◌, ◌↔◌, ◌⊎◌, Bool, true, false, not, ◌&&◌, ◌||◌, List, [], ◌∷◌, ◌++◌, length, take, get_or, set, Contains, Some, refl, sym, ap, subst, ◌∙◌, inl, inr, arith, append_assoc, append-nil}
use Rattle.std.specs.Prelude.{IsTrue, slice_get}
use Rattle.std.specs.List.{AllByRecursion, list_all, list_any}
use Rattle.std.specs.Option.{option_map_or}
use Rattle.std.proofs.lemmas.Bool.{cases_eq, false≢true, true≢false}
use Rattle.std.proofs.lemmas.List.{take_more, get_or_default, get_or-set_same, get_or-set_other}
use Rattle.std.proofs.lemmas.List.Elements.{Contains-push_cases}
use mathlib.Core.Logic.Iff.{trans}
use Rattle.flat_core.proofs.Uniqueness.{all_by}
use Rattle.trigger_rules.specs.declared.atom.Atom.{Atom}
use Rattle.trigger_rules.specs.declared.atom.Atom.TheVariants.{Start, Happens, Holds}
use Rattle.trigger_rules.specs.Formula as formula
use Rattle.trigger_rules.specs.Formula.{Formula, Assignment, Of, Both, If, IfNot, Unless, all_of, any_of, Meets, always, atom, no_atom, through, both, first, second, started, unless}
use Rattle.trigger_starts.specs.declared.rules.Rule.{Rule}
use Rattle.trigger_starts.specs.declared.rules.Rule.TheVariants as rule
use Rattle.trigger_starts.specs.inner.Kept.{AreFiring}
use Rattle.trigger_starts.specs.inner.Rules.{HasSome, formula_by, is_marked, ruled, used_by, IsReady, AreReady, starts_at}
use Rattle.trigger_starts.specs.inner.Truth.{IsMet, Started, TrueBy, value_by}
use Rattle.tsl_value.proofs.Lists.{here, later, none_in_nil, cons_cases}

-- ---- a formula by its rule
module _ (table : ℕ → Formula) (starts : List Bool) (holds : Assignment) where
  abbrev Met : Formula → Type 0
  Met p = Meets table (Started starts) holds p

  abbrev MetAt : ℕ → Type 0
  MetAt a = Met (Of a)

  to_if : {a : Atom} → Met (If a) → IsTrue (holds a)
  to_if (atom h) = h

  to_all : (args : List ℕ) → Met (all_of args) → AllByRecursion MetAt args
  to_all [] m = tt
  to_all (a ∷ args) (both p q) = (p, to_all args q)

  from_all : (args : List ℕ) → AllByRecursion MetAt args → Met (all_of args)
  from_all [] all = always
  from_all (a ∷ args) all = both all.0 (from_all args all.1)

  to_any : (args : List ℕ) → Met (any_of args) → HasSome MetAt args
  to_any [] m = elim m [ ]
  to_any (a ∷ args) (first p) = (a, here a args, p)
  to_any (a ∷ args) (second q) = let some = to_any args q in (some.0, later a some.0 args some.1, some.2)

  from_some : (args : List ℕ) (a : ℕ) → Contains args a → MetAt a → Met (any_of args)
  from_some [] a c p = absurd (none_in_nil a c)
  from_some (b ∷ args) a c p = elim (cons_cases b a args c) [
    | inl same ↦ first (subst MetAt (sym same) p)
    | inr rest ↦ second (from_some args a rest p)
  ]

  from_any : (args : List ℕ) → HasSome MetAt args → Met (any_of args)
  from_any args some = from_some args some.0 some.1 some.2

  to_rule : (it : Rule) (x : ℕ) → Met (formula_by it x) → TrueBy it x starts MetAt holds
  to_rule rule.Never x m = elim m [ ]
  to_rule rule.Start x m = to_if m
  to_rule rule.Own x m = to_if m
  to_rule (rule.All args) x m = to_all args m
  to_rule (rule.Any args) x m = to_any args m
  to_rule (rule.AnyAndOwn args) x (both p q) = (to_if p, to_any args q)
  to_rule (rule.Filter e c) x (both p (both q r)) = (p, q, to_if r)
  to_rule (rule.Last v r) x (both (no_atom n) (both q (started s))) = (n, q, inl s)
  to_rule (rule.Last v r) x (both (no_atom n) (both q (unless h))) = (n, q, inr h)
  to_rule rule.Delay x (both (no_atom n) q) = (n, to_if q)

  there : (v x : ℕ) → IsTrue (starts_at starts v) ⊎ IsTrue (holds (Happens x)) → Met (Unless v (Happens x))
  there v x (inl s) = started s
  there v x (inr h) = unless h

  from_rule : (it : Rule) (x : ℕ) → TrueBy it x starts MetAt holds → Met (formula_by it x)
  from_rule rule.Never x h = absurd h
  from_rule rule.Start x h = atom h
  from_rule rule.Own x h = atom h
  from_rule (rule.All args) x h = from_all args h
  from_rule (rule.Any args) x h = from_any args h
  from_rule (rule.AnyAndOwn args) x h = both (atom h.0) (from_any args h.1)
  from_rule (rule.Filter e c) x h = both h.0 (both h.1 (atom h.2))
  from_rule (rule.Last v r) x h = both (no_atom h.0) (both h.1 (there v x h.2))
  from_rule rule.Delay x h = both (no_atom h.0) (atom h.1)

-- ---- other ways to say that the arguments' formulas are true
module _ (P Q : ℕ → Type 0) where
  abbrev Alike : ℕ → Type 0
  Alike a = P a ↔ Q a

  all_alike : (args : List ℕ) → AllByRecursion Alike args → AllByRecursion P args → AllByRecursion Q args
  all_alike [] same all = tt
  all_alike (a ∷ args) same all = (same.0.0 all.0, all_alike args same.1 all.1)

  at_alike : (args : List ℕ) → AllByRecursion Alike args → (a : ℕ) → Contains args a → P a → Q a
  at_alike [] same a c p = absurd (none_in_nil a c)
  at_alike (b ∷ args) same a c p = elim (cons_cases b a args c) [
    | inl is ↦ (subst Alike is same.0).0 p
    | inr rest ↦ at_alike args same.1 a rest p
  ]

  some_alike : (args : List ℕ) → AllByRecursion Alike args → HasSome P args → HasSome Q args
  some_alike args same some = (some.0, some.1, at_alike args same some.0 some.1 some.2)

  pub true_alike : (it : Rule) (x : ℕ) (starts : List Bool) (holds : Assignment) → AllByRecursion Alike (used_by it) → TrueBy it x starts P holds → TrueBy it x starts Q holds
  true_alike rule.Never x starts holds same h = h
  true_alike rule.Start x starts holds same h = h
  true_alike rule.Own x starts holds same h = h
  true_alike (rule.All args) x starts holds same h = all_alike args same h
  true_alike (rule.Any args) x starts holds same h = some_alike args same h
  true_alike (rule.AnyAndOwn args) x starts holds same h = (h.0, some_alike args same h.1)
  true_alike (rule.Filter e c) x starts holds same h = (same.0.0 h.0, same.1.0.0 h.1, h.2)
  true_alike (rule.Last v r) x starts holds same h = (h.0, same.0.0 h.1, h.2)
  true_alike rule.Delay x starts holds same h = h

turned : (P Q : ℕ → Type 0) (args : List ℕ) → AllByRecursion (λ a. P a ↔ Q a) args → AllByRecursion (λ a. Q a ↔ P a) args
turned P Q [] same = tt
turned P Q (a ∷ args) same = ((same.0.1, same.0.0), turned P Q args same.1)

-- the formula of an equation, by its rule
module _ (rules : List Rule) (starts : List Bool) (holds : Assignment) (x : ℕ) (it : Rule) (is : slice_get rules x ≡ Some it) where
  abbrev IsMetAt : ℕ → Type 0
  IsMetAt a = IsMet false rules starts holds a

  ruled_is : ruled false rules x ≡ formula_by it x
  ruled_is = ap (λ o. option_map_or (λ it. formula_by it x) o formula.Never) is

  met_to : IsMetAt x → TrueBy it x starts IsMetAt holds
  met_to (through m) = to_rule (ruled false rules) starts holds it x (subst (λ p. Meets (ruled false rules) (Started starts) holds p) ruled_is m)

  to_met : TrueBy it x starts IsMetAt holds → IsMetAt x
  to_met h = through (subst (λ p. Meets (ruled false rules) (Started starts) holds p) (sym ruled_is) (from_rule (ruled false rules) starts holds it x h))

  pub met_by : (P : ℕ → Type 0) → AllByRecursion (λ a. P a ↔ IsMetAt a) (used_by it) → TrueBy it x starts P holds ↔ IsMetAt x
  met_by P same = (
    λ h. to_met (true_alike P IsMetAt it x starts holds same h),
    λ m. true_alike IsMetAt P it x starts holds (turned P IsMetAt (used_by it) same) (met_to m),
  )

-- ---- steps
pub ready_at : (rules : List Rule) (steps front : List ℕ) (k : ℕ) → k < length steps → AreReady rules front steps → (get_or steps k 0 < length rules) × IsReady rules (front ++ take k steps) (get_or steps k 0)
ready_at rules [] front k lt ready = absurd (omega arith)
ready_at rules (x ∷ steps) front zero lt ready = (ready.0, subst (λ l. IsReady rules l x) (sym (append-nil front)) ready.2)
ready_at rules (x ∷ steps) front (suc k) lt ready =
    let rest = ready_at rules steps (front ++ x ∷ []) k (omega arith) ready.3 in
    (rest.0, subst (λ l. IsReady rules l (get_or steps k 0)) (append_assoc front (x ∷ []) (take k steps)) rest.1)

-- each step is the number of a rule
pub step_below : (rules : List Rule) (steps : List ℕ) → AreReady rules [] steps → (x : ℕ) → Contains steps x → x < length rules
step_below rules steps ready x (k, lt, is) = subst (λ n. n < length rules) (default_read k lt ∙ is) (ready_at rules steps [] k lt ready).0
  where
    default_read : (k : ℕ) → k < length steps → get_or steps k 0 ≡ get_or steps k x
    default_read k lt = get_or_default steps k 0 x lt

-- ---- values
pub both_true : (p q : Bool) → (p && q) ≡ true ↔ ((p ≡ true) × (q ≡ true))
both_true true q = (λ e. (refl, e), λ h. h.1)
both_true false q = (λ e. absurd (false≢true e), λ h. absurd (false≢true h.0))

pub either_true : (p q : Bool) → (p || q) ≡ true ↔ ((p ≡ true) ⊎ (q ≡ true))
either_true true q = (λ e. inl refl, λ h. refl)
either_true false q = (
  λ e. inr e,
  λ h. elim h [
    | inl p ↦ absurd (false≢true p)
    | inr q ↦ q
  ],
)

not_true : (p : Bool) → not p ≡ true ↔ (p ≡ false)
not_true true = (λ e. absurd (false≢true e), λ h. absurd (true≢false h))
not_true false = (λ e. refl, λ h. refl)

module _ (f : ℕ → Bool) where
  all_true : (args : List ℕ) → list_all f args ≡ true ↔ AllByRecursion (λ a. IsTrue (f a)) args
  all_true [] = (λ e. tt, λ h. refl)
  all_true (a ∷ args) =
      let pair = both_true (f a) (list_all f args) in
      let rest = all_true args in
      (λ e. let h = pair.0 e in (h.0, rest.0 h.1), λ h. pair.1 (h.0, rest.1 h.1))

  some_true : (args : List ℕ) → list_any f args ≡ true ↔ HasSome (λ a. IsTrue (f a)) args
  some_true [] = (λ e. absurd (false≢true e), λ h. absurd (none_in_nil h.0 h.1))
  some_true (a ∷ args) =
      let either = either_true (f a) (list_any f args) in
      let rest = some_true args in (
        λ e. elim (either.0 e) [
          | inl p ↦ (a, here a args, p)
          | inr more ↦ let some = rest.0 more in (some.0, later a some.0 args some.1, some.2)
        ],
        λ h. either.1 (elim (cons_cases a h.0 args h.1) [
          | inl same ↦ inl (subst (λ b. IsTrue (f b)) (sym same) h.2)
          | inr more ↦ inr (rest.1 (h.0, more, h.2))
        ]),
      )

  pub value_true : (it : Rule) (x : ℕ) (starts : List Bool) (holds : Assignment) → IsTrue (value_by it x starts f holds) ↔ TrueBy it x starts (λ a. IsTrue (f a)) holds
  value_true rule.Never x starts holds = (λ e. absurd (false≢true e), λ h. absurd h)
  value_true rule.Start x starts holds = (λ e. e, λ h. h)
  value_true rule.Own x starts holds = (λ e. e, λ h. h)
  value_true (rule.All args) x starts holds = all_true args
  value_true (rule.Any args) x starts holds = some_true args
  value_true (rule.AnyAndOwn args) x starts holds =
      let pair = both_true (holds (Happens x)) (list_any f args) in
      let some = some_true args in
      (λ e. let h = pair.0 e in (h.0, some.0 h.1), λ h. pair.1 (h.0, some.1 h.1))
  value_true (rule.Filter e c) x starts holds =
      let outer = both_true (f e) (f c && holds (Holds c)) in
      let inner = both_true (f c) (holds (Holds c)) in
      (λ t. let h = outer.0 t in let g = inner.0 h.1 in (h.0, g.0, g.1), λ h. outer.1 (h.0, inner.1 (h.1, h.2)))
  value_true (rule.Last v r) x starts holds =
      let quiet = not_true (holds Start) in
      let outer = both_true (not (holds Start)) (f r && (starts_at starts v || holds (Happens x))) in
      let inner = both_true (f r) (starts_at starts v || holds (Happens x)) in
      let either = either_true (starts_at starts v) (holds (Happens x)) in (
        λ t. let h = outer.0 t in let g = inner.0 h.1 in (quiet.0 h.0, g.0, either.0 g.1),
        λ h. outer.1 (quiet.1 h.0, inner.1 (h.1, either.1 h.2)),
      )
  value_true rule.Delay x starts holds =
      let quiet = not_true (holds Start) in
      let pair = both_true (not (holds Start)) (holds (Happens x)) in
      (λ t. let h = pair.0 t in (quiet.0 h.0, h.1), λ h. pair.1 (quiet.1 h.0, h.1))

-- the value of an equation's formula, by those of the arguments that it needs
pub value_met : (rules : List Rule) (starts : List Bool) (holds : Assignment) (x : ℕ) (it : Rule) → slice_get rules x ≡ Some it → (f : ℕ → Bool) → AllByRecursion (λ a. IsTrue (f a) ↔ IsMet false rules starts holds a) (used_by it) → IsTrue (value_by it x starts f holds) ↔ IsMet false rules starts holds x
value_met rules starts holds x it is f same = trans (value_true f it x starts holds) (met_by rules starts holds x it is (λ a. IsTrue (f a)) same)

-- one more formula
pub firing_next : (rules : List Rule) (starts : List Bool) (holds : Assignment) (order : List ℕ) (ready : AreReady rules [] order) (k : ℕ) → k < length order → (marks : List Bool) → length marks ≡ length rules → (it : Rule) → slice_get rules (get_or order k 0) ≡ Some it → (fires : Bool) → fires ≡ value_by it (get_or order k 0) starts (is_marked marks) holds → AreFiring rules starts (take k order) holds marks → AreFiring rules starts (take (k + 1) order) holds (set marks (get_or order k 0) fires)
firing_next rules starts holds order ready k lt marks many it is fires value before x c =
    let step = get_or order k 0 in
    let now = ready_at rules order [] k lt ready in
    let low = now.0 in
    let here : IsTrue fires ↔ IsMet false rules starts holds step =
    subst (λ b. IsTrue b ↔ IsMet false rules starts holds step) (sym value)
    (value_met rules starts holds step it is (is_marked marks) (all_by (Contains (take k order)) (λ a. IsTrue (is_marked marks a) ↔ IsMet false rules starts holds a) before (used_by it) (now.1 it is))) in
    elim (cases_eq x step) [
      | inl same ↦ subst (λ n. IsTrue (is_marked (set marks step fires) n) ↔ IsMet false rules starts holds n) (sym same) (subst (λ b. IsTrue b ↔ IsMet false rules starts holds step) (sym (get_or-set_same marks step fires false (omega arith))) here)
      | inr other ↦ subst (λ b. IsTrue b ↔ IsMet false rules starts holds x) (sym (get_or-set_other marks step x fires false other)) (before x (elim (Contains-push_cases (take k order) step x (subst (λ l. Contains l x) (take_more order k 0 lt) c)) [
        | inl front ↦ front
        | inr same ↦ absurd (other (sym same))
      ]))
    ]
