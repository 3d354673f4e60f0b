-- The formula of an equation is true exactly where its own case gives a value, if the formulas of its arguments tell their events.
use Rattle.std.proofs.Common.{◌≡◌, ◌==◌, ◌↔◌, ℕ, zero, suc, Bool, true, false, List, [], ◌∷◌, map, Option, Some, None, Ok, refl, sym, ◌∙◌, inl, inr, arith}
use Rattle.std.specs.Prelude.{if◌then◌else◌, is_some, IsTrue, IsFalse}
use Rattle.std.specs.List.{AllByRecursion, list_all, list_any}
use Rattle.std.proofs.lemmas.Bool.{and_from, and_parts, or_left, or_right, or_cases, ne_eqb, false≢true, true≢false}
use Rattle.tsl_value.specs.declared.scalar.ValueType.{ValueType}
use Rattle.tsl_value.specs.View.{View}
use Rattle.lift_func.specs.Apply.{Answer, apply}
use Rattle.flat_core.specs.declared.equation.Op.{Op}
use Rattle.flat_core.specs.declared.equation.Op.TheVariants as op
use Rattle.flat_core.specs.Stream.{History, event, has_event, latest}
use Rattle.flat_core.specs.Case.{Streams, delayed, lasting, own_of, used_of}
use Rattle.flat_core.specs.Events.{Inputs, unit, expires, at_once}
use Rattle.flat_core.specs.Typed.{IsTyped, filter, last, delay, update}
use Rattle.flat_core.proofs.UpdateOps.{no_update}
use Rattle.trigger_rules.specs.declared.atom.Atom.{Atom}
use Rattle.trigger_rules.specs.declared.atom.Atom.TheVariants.{Happens}
use Rattle.trigger_rules.specs.Formula.{Formula, If, Of, Both, all_of, any_of, Meets, always, atom, no_atom, through, both, first, second, started, unless}
use Rattle.trigger_rules.specs.inner.Firing.{at_time}
use Rattle.trigger_rules.specs.Table.{formula_of}
use Rattle.flat_core.specs.inner.TypedEvents.{AreOf}
use Rattle.trigger_rules.proofs.Values.{is_plain, happens, gives, same_value}

-- a choice that gives a value
chosen : (b : Bool) (v : Option View) → IsTrue b → IsTrue (is_some v) → IsTrue (is_some (if b then v else None))
chosen true v h some = some
chosen false v h some = absurd (false≢true h)

chosen_parts : (b : Bool) (v : Option View) → IsTrue (is_some (if b then v else None)) → IsTrue b × IsTrue (is_some v)
chosen_parts true v some = (refl, some)
chosen_parts false v some = absurd (false≢true some)

where_some : (b : Bool) (answer : Answer) (v : Option View) → (if b then answer else Ok None) ≡ Ok v → IsTrue (is_some v) → IsTrue b
where_some true answer v is some = refl
where_some false answer v is some = absurd (true≢false (sym some ∙ same_value is))

-- what is due or was before does not happen at 0
latest_past : (h : History) (t : ℕ) → IsTrue (is_some (latest h t)) → IsFalse (t == 0)
latest_past h zero some = absurd (false≢true some)
latest_past h (suc t) some = ne_eqb (suc t) 0 (λ is. absurd (omega arith))

expires_past : (amount reset self : History) (t : ℕ) → IsTrue (expires amount reset self t) → IsFalse (t == 0)
expires_past amount reset self zero h = absurd (false≢true h)
expires_past amount reset self (suc t) h = ne_eqb (suc t) 0 (λ is. absurd (omega arith))

module _ (table : ℕ → Formula) (Known : ℕ → Type 0) (z : Streams) (t : ℕ) where
  abbrev pub Met : Formula → Type 0
  Met p = Meets table Known (at_time z t) p

  -- the formula of an equation tells whether it has an event
  abbrev pub Tells : ℕ → Type 0
  Tells a = Met (Of a) ↔ IsTrue (has_event (z a t))

  abbrev pub events : List ℕ → List (Option View)
  events args = map (λ a. event (z a t)) args

  pub unfolded : {x : ℕ} → Met (Of x) → Met (table x)
  unfolded (through m) = m

  if_to : {a : Atom} → Met (If a) → IsTrue (at_time z t a)
  if_to (atom h) = h

  all_to : (args : List ℕ) → AllByRecursion Tells args → Met (all_of args) → IsTrue (list_all is_some (events args))
  all_to [] tells m = refl
  all_to (a ∷ args) tells (both p q) = and_from (has_event (z a t)) (list_all is_some (events args)) (tells.0.0 p) (all_to args tells.1 q)

  to_all : (args : List ℕ) → AllByRecursion Tells args → IsTrue (list_all is_some (events args)) → Met (all_of args)
  to_all [] tells h = always
  to_all (a ∷ args) tells h = let parts = and_parts (has_event (z a t)) (list_all is_some (events args)) h in both (tells.0.1 parts.0) (to_all args tells.1 parts.1)

  any_to : (args : List ℕ) → AllByRecursion Tells args → Met (any_of args) → IsTrue (list_any is_some (events args))
  any_to [] tells m = elim m [ ]
  any_to (a ∷ args) tells (first p) = or_left (has_event (z a t)) (list_any is_some (events args)) (tells.0.0 p)
  any_to (a ∷ args) tells (second q) = or_right (has_event (z a t)) (list_any is_some (events args)) (any_to args tells.1 q)

  to_any : (args : List ℕ) → AllByRecursion Tells args → IsTrue (list_any is_some (events args)) → Met (any_of args)
  to_any [] tells h = absurd (false≢true h)
  to_any (a ∷ args) tells h = elim (or_cases (has_event (z a t)) (list_any is_some (events args)) h) [
    | inl here ↦ first (tells.0.1 here)
    | inr later ↦ second (to_any args tells.1 later)
  ]

  both_parts : {p q : Formula} → Met (Both p q) → Met p × Met q
  both_parts (both m n) = (m, n)

  -- the operations that decide by their arguments' events alone
  plain_met : (o : Op) (x : ℕ) (args : List ℕ) (ts : List ValueType) (k : ValueType) → IsTyped o ts k → AreOf ts (events args) → IsTrue (is_plain o) → AllByRecursion Tells args → Met (formula_of o x args) ↔ IsTrue (happens o (events args) t)
  plain_met op.Nil x args ts k typed fit plain tells = (λ m. elim m [ ], λ h. absurd (false≢true h))
  plain_met op.Unit x args ts k typed fit plain tells = (λ m. if_to m, λ h. atom h)
  plain_met op.Empty x args ts k typed fit plain tells = (λ m. if_to m, λ h. atom h)
  plain_met op.Any x args ts k typed fit plain tells = (any_to args tells, to_any args tells)
  plain_met op.Merge x args ts k typed fit plain tells = (any_to args tells, to_any args tells)
  plain_met op.Filter x args ts k (update is row) fit plain tells = no_update is
  plain_met op.Filter x [] ts k filter fit plain tells = absurd fit
  plain_met op.Filter x (e ∷ []) ts k filter fit plain tells = absurd fit.1
  plain_met op.Filter x (e ∷ c ∷ []) ts k filter fit plain tells = (
    λ m.
        let parts = both_parts m in
        let rest = both_parts parts.1 in
        and_from _ _ (tells.0.0 parts.0) (and_from _ _ (tells.1.0.0 rest.0) (if_to rest.1)),
    λ h.
        let parts = and_parts _ _ h in
        let rest = and_parts _ _ parts.1 in
        both (tells.0.1 parts.0) (both (tells.1.0.1 rest.0) (atom rest.1)),
  )
  plain_met op.Filter x (e ∷ c ∷ d ∷ args) ts k filter fit plain tells = absurd fit.1.1
  plain_met op.Input x args ts k typed fit plain tells = absurd (false≢true plain)
  plain_met op.Last x args ts k typed fit plain tells = absurd (false≢true plain)
  plain_met op.Delay x args ts k typed fit plain tells = absurd (false≢true plain)
  plain_met (op.Lift body false) x args ts k typed fit plain tells = absurd (false≢true plain)
  plain_met _ x args ts k typed fit plain tells = (all_to args tells, to_all args tells)

  module _ (inputs : Inputs) (x : ℕ) (w : Option View) (outcome : has_event (z x t) ≡ is_some w) where
    -- the equation's own atom tells whether there is a value
    own_to : IsTrue (has_event (z x t)) → IsTrue (is_some w)
    own_to h = sym outcome ∙ h

    to_own : IsTrue (is_some w) → IsTrue (has_event (z x t))
    to_own h = outcome ∙ h

    by_plain : (o : Op) (args : List ℕ) (ts : List ValueType) (k : ValueType) → IsTyped o ts k → AreOf ts (events args) → IsTrue (is_plain o) → AllByRecursion Tells args → at_once o k (events args) t ≡ Ok w → Met (formula_of o x args) ↔ IsTrue (is_some w)
    by_plain o args ts k typed fit plain tells is =
        let met = plain_met o x args ts k typed fit plain tells in
        let same = gives o ts k typed (events args) fit plain t w is in
        (λ m. same ∙ met.0 m, λ h. met.1 (sym same ∙ h))

    last_to : (v r : ℕ) → Tells r → (Known v → IsFalse (t == 0) → IsTrue (is_some (latest (z v) t))) → is_some w ≡ is_some (lasting z (v ∷ r ∷ []) t) → Met (formula_of op.Last x (v ∷ r ∷ [])) → IsTrue (is_some w)
    last_to v r tells known same (both (no_atom n) (both m (started k))) = same ∙ chosen (has_event (z r t)) (latest (z v) t) (tells.0 m) (known k n)
    last_to v r tells known same (both (no_atom n) (both m (unless h))) = own_to h

    to_last : (v r : ℕ) → Tells r → is_some w ≡ is_some (lasting z (v ∷ r ∷ []) t) → IsTrue (is_some w) → Met (formula_of op.Last x (v ∷ r ∷ []))
    to_last v r tells same h =
        let parts = chosen_parts (has_event (z r t)) (latest (z v) t) (sym same ∙ h) in
        both (no_atom (latest_past (z v) t parts.1)) (both (tells.1 parts.0) (unless (to_own h)))

    delay_to : Met (formula_of op.Delay x []) → IsTrue (is_some w)
    delay_to (both n (atom h)) = own_to h

    to_delay : (d r : ℕ) → is_some w ≡ is_some (delayed z x (d ∷ r ∷ []) t) → IsTrue (is_some w) → Met (formula_of op.Delay x [])
    to_delay d r same h =
        let parts = chosen_parts (expires (z d) (z r) (z x) t) (Some unit) (sym same ∙ h) in
        both (no_atom (expires_past (z d) (z r) (z x) t parts.0)) (atom (to_own h))

    option_to : (args : List ℕ) → Met (Both (If (Happens x)) (any_of args)) → IsTrue (is_some w)
    option_to args (both (atom h) m) = own_to h

    pub own_met : (o : Op) (args : List ℕ) (ts : List ValueType) (k : ValueType) → IsTyped o ts k → AreOf ts (events args) → AllByRecursion Tells (used_of o args) → ((v : ℕ) (rest : List ℕ) → args ≡ v ∷ rest → Known v → IsFalse (t == 0) → IsTrue (is_some (latest (z v) t))) → own_of inputs z x o args k t ≡ Ok w → Met (formula_of o x args) ↔ IsTrue (is_some w)
    own_met op.Input args ts k typed fit tells known is = (λ m. own_to (if_to m), λ h. atom (to_own h))
    own_met op.Last args ts k (update h row) fit tells known is = no_update h
    own_met op.Last [] ts k last fit tells known is = absurd fit
    own_met op.Last (v ∷ []) ts k last fit tells known is = absurd fit.1
    own_met op.Last (v ∷ r ∷ []) ts k last fit tells known is = (last_to v r tells.0 (known v (r ∷ []) refl) (same_value is), to_last v r tells.0 (same_value is))
    own_met op.Last (v ∷ r ∷ a ∷ args) ts k last fit tells known is = absurd fit.1.1
    own_met op.Delay args ts k (update h row) fit tells known is = no_update h
    own_met op.Delay [] ts k delay fit tells known is = absurd fit
    own_met op.Delay (d ∷ []) ts k delay fit tells known is = absurd fit.1
    own_met op.Delay (d ∷ r ∷ []) ts k delay fit tells known is = (delay_to, to_delay d r (same_value is))
    own_met op.Delay (d ∷ r ∷ a ∷ args) ts k delay fit tells known is = absurd fit.1.1
    own_met (op.Lift body false) args ts k typed fit tells known is = (option_to args, λ h. both (atom (to_own h)) (to_any args tells (where_some (list_any is_some (events args)) (apply body (events args)) w is h)))
    own_met o args ts k typed fit tells known is = by_plain o args ts k typed fit refl tells is
