-- The end of an instant, as the register machine has it: what is kept, and the delays.
use Rattle.std.proofs.Common.{◌≡◌, ◌==◌, ℕ, Bool, true, false, ◌||◌, List, [], ◌∷◌, ◌++◌, map, pos, Option, Some, None, refl, sym, ap, subst, ◌∙◌, inl, inr}
use Rattle.std.proofs.lemmas.Bool.{cases_eq, eq-eqb, ne_eqb}
use Rattle.std.specs.Prelude.{◌⊎◌, if◌then◌else◌, is_some}
use Rattle.std.specs.List.{AllByRecursion}
use Rattle.std.specs.Option.{option_and_then, option_or}
use Rattle.tsl_value.specs.View.{View, Plain}
use Rattle.tsl_value.specs.declared.scalar.Scalar.TheVariants as scalar
use Rattle.flat_core.specs.declared.equation.Equation.{Equation}
use Rattle.flat_core.specs.Events.{Inputs}
use Rattle.flat_core.specs.Members.{is_in}
use Rattle.flat_core.specs.Pending.{reached}
use Rattle.flat_core.specs.System.{System, equation}
use Rattle.register_machine.specs.Machine.{Instr, Keep, Timer, Held, held, view_of, fires, with, Config, value_in, expiry, timed, OfEquation, Steps}
use Rattle.register_machine.specs.Run.{ending}
use Rattle.flat_core.specs.Kept.{keeps_of, timers_of}
use Rattle.register_machine.specs.Stands.{in_time}
use Rattle.register_machine.proofs.Cells.{with-here}
use Rattle.register_machine.proofs.End.{keeps_are, timers_are}
use Rattle.register_machine.proofs.Gaps.{timed_there}

steps_join : (inputs : Inputs) (t : ℕ) (s : System) (xs ys : List Instr) (c mid d : Config) → Steps inputs t s xs c mid → Steps inputs t s ys mid d → Steps inputs t s (xs ++ ys) c d
steps_join inputs t s [] ys c mid d ran more = subst (λ x. Steps inputs t s ys x d) ran more
steps_join inputs t s (x ∷ xs) ys c mid d ran more = (ran.0, ran.1, steps_join inputs t s xs ys ran.0 mid d ran.2 more)

-- what a run of keeps leaves of a last register
abbrev pub overwritten : Bool → Option Held → Option Held → Option Held
overwritten b now last = if b then option_or now last else last

-- the time to which an amount leads
pub expiry_is : (t : ℕ) (v : Option View) → expiry t v ≡ in_time (reached t v)
expiry_is t None = refl
expiry_is t (Some (Plain (scalar.Int (pos n)))) = refl
expiry_is t (Some v) = refl

-- one delay, as it is set
abbrev pub timed_at : ℕ → Config → ℕ → Option Equation → Option ℕ
timed_at t c i None = c.pending i
timed_at t c i (Some e) = timed t c i e.args i

-- what is pending at i matters alone
timed_same : (t : ℕ) (c : Config) (pend : ℕ → Option ℕ) (i : ℕ) (args : List ℕ) → pend i ≡ c.pending i → timed t (record c { pending = pend }) i args i ≡ timed t c i args i
timed_same t c pend i [] same = same
timed_same t c pend i (d ∷ []) same = same
timed_same t c pend i (d ∷ r ∷ x ∷ args) same = same
timed_same t c pend i (d ∷ r ∷ []) same = go (fires c i || fires c r)
  where
    go : (b : Bool) → (if b then with pend i (expiry t (value_in c d)) else pend) i ≡ (if b then with c.pending i (expiry t (value_in c d)) else c.pending) i
    go true = with-here pend i (expiry t (value_in c d)) ∙ sym (with-here c.pending i (expiry t (value_in c d)))
    go false = same

timed_again : (t : ℕ) (c : Config) (i : ℕ) (args : List ℕ) → timed t (record c { pending = timed t c i args }) i args i ≡ timed t c i args i
timed_again t c i [] = refl
timed_again t c i (d ∷ []) = refl
timed_again t c i (d ∷ r ∷ x ∷ args) = refl
timed_again t c i (d ∷ r ∷ []) = go (fires c i || fires c r)
  where
    go : (b : Bool) → (if b then with (if b then with c.pending i (expiry t (value_in c d)) else c.pending) i (expiry t (value_in c d)) else (if b then with c.pending i (expiry t (value_in c d)) else c.pending)) i ≡ (if b then with c.pending i (expiry t (value_in c d)) else c.pending) i
    go true = with-here (with c.pending i (expiry t (value_in c d))) i (expiry t (value_in c d)) ∙ sym (with-here c.pending i (expiry t (value_in c d)))
    go false = refl

module _ (inputs : Inputs) (t : ℕ) (s : System) where
  keeps_go : (vs : List ℕ) (c : Config) → (d : Config) × Steps inputs t s (map Keep vs) c d × (d.slots ≡ c.slots) × (d.cells ≡ c.cells) × (d.ledger ≡ c.ledger) × (d.pending ≡ c.pending)
  keeps_go [] c = (c, refl, refl, refl, refl, refl)
  keeps_go (v ∷ vs) c =
      let rest = keeps_go vs (record c { lasts = with c.lasts v (option_or (held (c.slots v)) (c.lasts v)) }) in
      (rest.0, (record c { lasts = with c.lasts v (option_or (held (c.slots v)) (c.lasts v)) }, refl, rest.1), rest.2, rest.3, rest.4, rest.5)

  timers_go : (is_ : List ℕ) → AllByRecursion (λ i. (e : Equation) × (equation s i ≡ Some e)) is_ → (c : Config)
      → (d : Config) × Steps inputs t s (map Timer is_) c d × (d.ledger ≡ c.ledger) × ((i : ℕ) → d.pending i ≡ (if is_in is_ i then timed_at t c i (equation s i) else c.pending i))
  timers_go [] all c = (c, refl, refl, λ i. refl)
  timers_go (j ∷ is_) all c =
      let first : Config = record c { pending = timed t c j all.0.0.args } in
      let rest = timers_go is_ all.1 first in
      (rest.0, (first, subst (λ q. OfEquation q (λ e. first ≡ record c { pending = timed t c j e.args })) (sym all.0.1) refl, rest.1), rest.2, λ i. rest.3 i ∙ one i (cases_eq i j))
    where
      at_j : timed_at t c j (equation s j) ≡ timed t c j all.0.0.args j
      at_j = ap (timed_at t c j) all.0.1

      again : timed_at t (record c { pending = timed t c j all.0.0.args }) j (equation s j) ≡ timed t c j all.0.0.args j
      again = ap (timed_at t (record c { pending = timed t c j all.0.0.args }) j) all.0.1 ∙ timed_again t c j all.0.0.args

      same_at : (i : ℕ) (q : Option Equation) → (i ≡ j → ⊥) → timed_at t (record c { pending = timed t c j all.0.0.args }) i q ≡ timed_at t c i q
      same_at i None ne = timed_there t c j i all.0.0.args ne
      same_at i (Some e) ne = timed_same t c (timed t c j all.0.0.args) i e.args (timed_there t c j i all.0.0.args ne)

      both : (b : Bool) (x y : Option ℕ) → x ≡ y → (if b then x else y) ≡ y
      both true x y same = same
      both false x y same = refl

      one : (i : ℕ) → (i ≡ j) ⊎ (i ≡ j → ⊥) → (if is_in is_ i then timed_at t (record c { pending = timed t c j all.0.0.args }) i (equation s i) else timed t c j all.0.0.args i) ≡ (if (j == i) || is_in is_ i then timed_at t c i (equation s i) else c.pending i)
      one i (inl same) =
          subst (λ n. (if is_in is_ n then timed_at t (record c { pending = timed t c j all.0.0.args }) n (equation s n) else timed t c j all.0.0.args n) ≡ (if (j == n) || is_in is_ n then timed_at t c n (equation s n) else c.pending n)) (sym same)
          (both (is_in is_ j) (timed_at t (record c { pending = timed t c j all.0.0.args }) j (equation s j)) (timed t c j all.0.0.args j) again
          ∙ sym at_j
          ∙ sym (λ k. if eq-eqb j j refl k || is_in is_ j then timed_at t c j (equation s j) else c.pending j))
      one i (inr other) =
          (λ k. if is_in is_ i then same_at i (equation s i) other k else timed_there t c j i all.0.0.args other k)
          ∙ sym (λ k. if ne_eqb j i (λ e. other (sym e)) k || is_in is_ i then timed_at t c i (equation s i) else c.pending i)

  -- the end of an instant
  pub record HasEnding (c d : Config) : Type 0 where
    pub ran : Steps inputs t s (ending s) c d
    pub cells : d.cells ≡ c.cells
    pub ledger : d.ledger ≡ c.ledger
    pub lasts : (v : ℕ) → d.lasts v ≡ overwritten (is_in (keeps_of s) v) (held (c.slots v)) (c.lasts v)
    pub pending : (i : ℕ) → d.pending i ≡ (if is_in (timers_of s) i then timed_at t c i (equation s i) else c.pending i)

  pub ending_goes : AllByRecursion (λ i. (e : Equation) × (equation s i ≡ Some e)) (timers_of s) → (c : Config) → (d : Config) × HasEnding c d
  ending_goes there c =
      let first = keeps_go (keeps_of s) c in
      let second = timers_go (timers_of s) there first.0 in
      let whole = steps_join inputs t s (map Keep (keeps_of s)) (map Timer (timers_of s)) c first.0 second.0 first.1 second.1 in
      let parts = keeps_are inputs t s (keeps_of s) (map Timer (timers_of s)) c second.0 whole in
      let after = timers_are inputs t s (timers_of s) parts.0 second.0 parts.4 in (
        second.0,
        record {
          ran = whole;
          cells = after.1 ∙ parts.2;
          ledger = second.2 ∙ first.4;
          lasts = λ v. (λ k. after.0 k v) ∙ parts.3 v;
          pending = λ i. second.3 i ∙ (λ k. if is_in (timers_of s) i then at_same i (equation s i) first.0 first.2 first.3 first.5 k else first.5 k i);
        },
      )
    where
      timed_alike : (i : ℕ) (args : List ℕ) (m : Config) → m.slots ≡ c.slots → m.cells ≡ c.cells → m.pending ≡ c.pending → timed t m i args i ≡ timed t c i args i
      timed_alike i [] m slots cells pending = λ k. pending k i
      timed_alike i (d ∷ []) m slots cells pending = λ k. pending k i
      timed_alike i (d ∷ r ∷ x ∷ args) m slots cells pending = λ k. pending k i
      timed_alike i (d ∷ r ∷ []) m slots cells pending =
          λ k. (if is_some (held (slots k i)) || is_some (held (slots k r)) then with (pending k) i (expiry t (option_and_then (view_of (cells k)) (held (slots k d)))) else pending k) i

      at_same : (i : ℕ) (q : Option Equation) (m : Config) → m.slots ≡ c.slots → m.cells ≡ c.cells → m.pending ≡ c.pending → timed_at t m i q ≡ timed_at t c i q
      at_same i None m slots cells pending = λ k. pending k i
      at_same i (Some e) m slots cells pending = timed_alike i e.args m slots cells pending
