-- Whole runs: what holds between instants, from the first state on.
use Rattle.std.proofs.Common.{◌≡◌, ◌==◌, ℕ, zero, suc, ◌^◌, ◌<◌, ◌≤◌, Bool, true, false, ◌||◌, List, [], ◌∷◌, Option, Some, None, refl, sym, ap, ◌∙◌, inl, inr, map, arith, pos}
use Rattle.std.specs.Prelude.{if◌then◌else◌, nat_lt}
use Rattle.std.proofs.Math.Bool.{true≢false}
use Rattle.std.proofs.lemmas.Bool.{cases_Bool, cases_eq, cases_lt, eq-eqb, ne_eqb, eqb-true, lt-ltb}
use Rattle.tsl_value.specs.View.{View, Plain}
use Rattle.tsl_value.specs.declared.scalar.Scalar.TheVariants as scalar
use Rattle.flat_core.specs.declared.equation.Equation.{Equation}
use Rattle.flat_core.specs.Stream.{History, event, has_event}
use Rattle.flat_core.specs.Events.{Inputs, expires}
use Rattle.flat_core.specs.Pending.{pending, reached, option_is}
use Rattle.flat_core.specs.System.{System, equation}
use Rattle.flat_core.specs.Members.{is_in}
use Rattle.flat_core.proofs.PendingLemmas.{expires_pending, pending_expires}
use Rattle.register_machine.specs.Machine.{Timer, Config, fires, value_in, with, timed, expiry, OfEquation, Step, Steps}
use Rattle.register_machine.proofs.Cells.{with-here, with-there}
use Rattle.register_machine.specs.Stands.{in_time}

pub expiry_is : (inputs : Inputs) (t : ℕ) (v : Option View) → expiry t v ≡ in_time (reached t v)
expiry_is inputs t (Some (Plain (scalar.Int (pos n)))) = refl
expiry_is inputs t _ = refl

pub pending_quiet : (d r i : History) (u t : ℕ) → u ≤ t → ((w : ℕ) → u ≤ w → w < t → r w ≡ None) → ((w : ℕ) → u ≤ w → w < t → i w ≡ None) → pending d r i t ≡ pending d r i u
pending_quiet d r i u zero le quiet_r quiet_i = let same : zero ≡ u = omega arith in ap (pending d r i) same
pending_quiet d r i u (suc t) le quiet_r quiet_i = elim (cases_lt t u) [
  | inl high ↦ let same : suc t ≡ u = omega arith in ap (pending d r i) same
  | inr low ↦ (λ k. if has_event (quiet_r t low (omega arith) k) || has_event (quiet_i t low (omega arith) k) then reached t (event (d t)) else pending d r i t) ∙ pending_quiet d r i u t low (λ w above below. quiet_r w above (omega arith)) (λ w above below. quiet_i w above (omega arith))
]

-- a delay is due exactly where what is pending says so

in_time_at : (p : Option ℕ) (t : ℕ) → option_is t (in_time p) ≡ true → p ≡ Some t
in_time_at None t is = absurd (true≢false (sym is))
in_time_at (Some w) t is = go (nat_lt w (2 ^ 63)) is
  where
    go : (b : Bool) → option_is t (if b then Some w else None) ≡ true → Some w ≡ Some t
    go true is_b = ap Some (eqb-true w t is_b)
    go false is_b = absurd (true≢false (sym is_b))

pub due_is : (d r i : History) (t : ℕ) → t < 2 ^ 63 → ((w : ℕ) → w < t → has_event (i w) ≡ expires d r i w) → option_is t (in_time (pending d r i t)) ≡ expires d r i t
due_is d r i t small solves = elim (cases_Bool (expires d r i t)) [
  | inl due ↦
      let is = expires_pending d r i t solves t (omega arith) due in
      ap (λ p. option_is t (in_time p)) is ∙ (λ k. option_is t (if lt-ltb t (2 ^ 63) small k then Some t else None)) ∙ eq-eqb t t refl ∙ sym due
  | inr not_due ↦ elim (cases_Bool (option_is t (in_time (pending d r i t)))) [
    | inl yes_due ↦ absurd (true≢false (sym (pending_expires d r i t solves t (omega arith) (in_time_at (pending d r i t) t yes_due)) ∙ not_due))
    | inr none ↦ none ∙ sym not_due
  ]
]

-- a timer sets its own delay alone
pub timed_there : (t : ℕ) (c : Config) (j i : ℕ) (args : List ℕ) → (i ≡ j → ⊥) → timed t c j args i ≡ c.pending i
timed_there t c j i [] other = refl
timed_there t c j i (d ∷ []) other = refl
timed_there t c j i (d ∷ r ∷ x ∷ more) other = refl
timed_there t c j i (d ∷ r ∷ []) other = go (fires c j || fires c r)
  where
    go : (b : Bool) → (if b then with c.pending j (expiry t (value_in c d)) else c.pending) i ≡ c.pending i
    go true = with-there c.pending j (expiry t (value_in c d)) i other
    go false = refl

-- what the timers leave
module _ (inputs : Inputs) (t : ℕ) (s : System) where
  abbrev pub timed_at : Config → ℕ → ℕ → ℕ → Option ℕ → Option ℕ
  timed_at c i d r p = if fires c i || fires c r then expiry t (value_in c d) else p

  timed_here : (c : Config) (i d r : ℕ) → timed t c i (d ∷ r ∷ []) i ≡ timed_at c i d r (c.pending i)
  timed_here c i d r = go (fires c i || fires c r)
    where
      go : (b : Bool) → (if b then with c.pending i (expiry t (value_in c d)) else c.pending) i ≡ (if b then expiry t (value_in c d) else c.pending i)
      go true = with-here c.pending i (expiry t (value_in c d))
      go false = refl

  timed_twice : (b f : Bool) (x p : Option ℕ) → (if b then (if f then x else (if f then x else p)) else (if f then x else p)) ≡ (if f then x else p)
  timed_twice true true x p = refl
  timed_twice true false x p = refl
  timed_twice false f x p = refl

  timer_step : (c d : Config) (j : ℕ) → Step inputs t s (Timer j) c d → (e : Equation) × (equation s j ≡ Some e) × (d ≡ record c { pending = timed t c j e.args })
  timer_step c d j st = go (equation s j) refl st
    where
      go : (q : Option Equation) → equation s j ≡ q → OfEquation q (λ e. d ≡ record c { pending = timed t c j e.args }) → (e : Equation) × (equation s j ≡ Some e) × (d ≡ record c { pending = timed t c j e.args })
      go None is st_q = absurd st_q
      go (Some e) is st_q = (e, is, st_q)

  pub timers_pending : (js : List ℕ) (c d : Config) → Steps inputs t s (map Timer js) c d → (i a r : ℕ) (e : Equation) → equation s i ≡ Some e → e.args ≡ a ∷ r ∷ [] → d.pending i ≡ (if is_in js i then timed_at c i a r (c.pending i) else c.pending i)
  timers_pending [] c d st i a r e is is_args = ap (λ x. x.pending i) st
  timers_pending (j ∷ js) c d st i a r e is is_args =
      let first = timer_step c st.0 j st.1 in
      let rest = timers_pending js st.0 d st.2 i a r e is is_args in
      rest ∙ (λ k. if is_in js i then timed_at (first.2 k) i a r ((first.2 k).pending i) else (first.2 k).pending i) ∙ one first.0 first.1
    where
      some_equation : {x y : Equation} → Some x ≡ Some y → x ≡ y
      some_equation q = cc

      one : (e_j : Equation) → equation s j ≡ Some e_j → (if is_in js i then timed_at c i a r (timed t c j e_j.args i) else timed t c j e_j.args i) ≡ (if (j == i) || is_in js i then timed_at c i a r (c.pending i) else c.pending i)
      one e_j is_j = elim (cases_eq i j) [
        | inl same ↦
            let args_are : e_j.args ≡ a ∷ r ∷ [] = ap (λ x. x.args) (some_equation (sym is_j ∙ ap (equation s) (sym same) ∙ is)) ∙ is_args in
            let value : timed t c j e_j.args i ≡ timed_at c i a r (c.pending i) = (λ k. timed t c (sym same k) (args_are k) i) ∙ timed_here c i a r in
            (λ k. if is_in js i then timed_at c i a r (value k) else value k)
            ∙ timed_twice (is_in js i) (fires c i || fires c r) (expiry t (value_in c a)) (c.pending i)
            ∙ sym (λ k. if eq-eqb j i (sym same) k || is_in js i then timed_at c i a r (c.pending i) else c.pending i)
        | inr other ↦
            let value = timed_there t c j i e_j.args other in
            (λ k. if is_in js i then timed_at c i a r (value k) else value k)
            ∙ sym (λ k. if ne_eqb j i (λ q. other (sym q)) k || is_in js i then timed_at c i a r (c.pending i) else c.pending i)
      ]
