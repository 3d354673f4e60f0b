-- Instants keep nothing but what is kept.
use Rattle.std.proofs.Common.{◌≡◌, ◌==◌, ◌⊎◌, ℕ, ◌+◌, ◌-◌, ◌<◌, ◌≤◌, Bool, true, false, ◌||◌, ◌&&◌, List, [], ◌∷◌, ◌++◌, length, map, Contains, Option, Some, None, refl, sym, ap, subst, ◌∙◌, cond, inl, inr, arith, IsFalse, IsTrue}
use Rattle.std.specs.Prelude.{if◌then◌else◌, min, ◌^◌, nat_le, nat_lt}
use Rattle.std.proofs.lemmas.Bool.{and_parts, cases_Bool, cases_eq, eqb-true, false≢true, leb-true, ltb-true, ne_eqb, or_cases}
use Rattle.std.specs.List.{AllByRecursion, list_any}
use Rattle.std.specs.Option.{option_map}
use Rattle.std.specs.FinMap as finite_map
use Rattle.tsl_value.specs.View.{View}
use Rattle.tsl_value.proofs.Lists.{later}
use Rattle.flat_core.specs.declared.equation.Equation.{Equation}
use Rattle.flat_core.specs.Complete.{IsFlat}
use Rattle.flat_core.specs.Events.{Inputs}
use Rattle.flat_core.specs.Kept.{keeps_of, timers_of}
use Rattle.flat_core.specs.Members.{is_in}
use Rattle.flat_core.specs.System.{System, equation, runs}
use Rattle.flat_core.specs.Updates.{is_running_update, is_update, is_update_at}
use Rattle.flat_core.proofs.Members.{Contains-in, some_in}
use Rattle.alias_rules.specs.Fine.{IsFinePlan}
use Rattle.alias_rules.specs.Steps.{is_print}
use Rattle.register_machine.specs.Machine.{Instr, Run, RunInPlace, Print, Keep, Timer, Held, Bare, Cell, Cells, Config, Effect, Fill, Make, fires, value_in, expiry, with, counted, source_size, timed, effect, Ran, RanInPlace, OfEquation, Step, Steps}
use Rattle.register_machine.specs.Run.{Plan, State, Instant, body, ending, started, is_cell, ended, kept_cells, step_instr}
use Rattle.register_machine.specs.Tidy.{IsTidy}
use Rattle.register_machine.proofs.End.{get-kept}
use Rattle.register_machine.specs.Renamed.{AreRenamed, renamed}
use Rattle.register_machine.proofs.OneRun.{AreHeld, IsOptionThere, both_instants, no_change}

-- ---- the ledger, and what is pending

abbrev AreUncounted : System → (ℕ → ℕ) → Type 0
AreUncounted s ledger = (u : ℕ) → IsFalse (is_running_update s u) → ledger u ≡ 0

abbrev AreTimed : System → (ℕ → Option ℕ) → Type 0
AreTimed s pending = (i : ℕ) → (pending i ≡ None) ⊎ Contains (timers_of s) i

-- only running equations run, and only running delays are set
abbrev IsOwn : System → Instr → Type 0
IsOwn s (Run i) = IsTrue (runs s i)
IsOwn s (RunInPlace i) = IsTrue (runs s i)
IsOwn s (Timer i) = Contains (timers_of s) i
IsOwn s _ = Unit {0}

-- what is kept beside registers and cells
record IsBeside (s : System) (c : Config) : Type 0 where
  pub ledger : AreUncounted s c.ledger
  pub pending : AreTimed s c.pending

module _ (s : System) where
  other_count : (i : ℕ) (e : Equation) (c : Config) → IsTrue (runs s i) → equation s i ≡ Some e → AreUncounted s c.ledger → AreUncounted s (counted c i e)
  other_count i e c run is all = λ u none. from (is_update e.op) refl u none
    where
      not_it : (u : ℕ) → is_update e.op ≡ true → IsFalse (is_running_update s u) → u ≡ i → ⊥
      not_it u update none same =
          let here : is_running_update s i ≡ true = λ k. run k && ((ap is_update_at is ∙ update) k) in
          false≢true (sym none ∙ ap (is_running_update s) same ∙ here)

      from : (b : Bool) → is_update e.op ≡ b → (u : ℕ) → IsFalse (is_running_update s u) → (if b then with c.ledger i (min (c.ledger i + source_size c e.args) (2 ^ 64 - 1)) else c.ledger) u ≡ 0
      from true update u none = (λ k. if ne_eqb u i (not_it u update none) k then min (c.ledger i + source_size c e.args) (2 ^ 64 - 1) else c.ledger u) ∙ all u none
      from false other u none = all u none

  ran_beside : (i : ℕ) (e : Equation) (x : Effect) (c d : Config) → IsTrue (runs s i) → equation s i ≡ Some e → IsBeside s c → Ran i e c x d → IsBeside s d
  ran_beside i e (Fill slot) c d run is all ran = subst (IsBeside s) (sym ran) (record { ledger = all.ledger; pending = all.pending })
  ran_beside i e (Make v) c d run is all ran = subst (IsBeside s) (sym ran.2) (record { ledger = other_count i e c run is all.ledger; pending = all.pending })

  placed_beside : (i : ℕ) (e : Equation) (x : Effect) (c d : Config) → IsBeside s c → RanInPlace i e c x d → IsBeside s d
  placed_beside i e (Fill slot) c d all ran = subst (IsBeside s) (sym ran) (record { ledger = all.ledger; pending = all.pending })
  placed_beside i e (Make v) c d all ran = subst (IsBeside s) (sym ran.2) (record { ledger = all.ledger; pending = all.pending })

  set_one : (i : ℕ) (u : Option ℕ) (pending : ℕ → Option ℕ) → Contains (timers_of s) i → AreTimed s pending → AreTimed s (with pending i u)
  set_one i u pending timer all = λ j. elim (cases_eq j i) [
    | inl same ↦ inr (subst (Contains (timers_of s)) (sym same) timer)
    | inr other ↦ elim (all j) [
      | inl none ↦ inl ((λ k. if ne_eqb j i other k then u else pending j) ∙ none)
      | inr there ↦ inr there
    ]
  ]

  set_if : (b : Bool) (i : ℕ) (u : Option ℕ) (pending : ℕ → Option ℕ) → Contains (timers_of s) i → AreTimed s pending → AreTimed s (if b then with pending i u else pending)
  set_if true i u pending timer all = set_one i u pending timer all
  set_if false i u pending timer all = all

  timed_on : (t i : ℕ) (c : Config) (args : List ℕ) → Contains (timers_of s) i → AreTimed s c.pending → AreTimed s (timed t c i args)
  timed_on t i c [] timer all = all
  timed_on t i c (d ∷ []) timer all = all
  timed_on t i c (d ∷ r ∷ []) timer all = set_if (fires c i || fires c r) i (expiry t (value_in c d)) c.pending timer all
  timed_on t i c (d ∷ r ∷ x ∷ more) timer all = all

  module _ (inputs : Inputs) (t : ℕ) where
    step_beside : (instr : Instr) (c d : Config) → IsOwn s instr → IsBeside s c → Step inputs t s instr c d → IsBeside s d
    step_beside (Run i) c d own all st = from (equation s i) refl st
      where
        from : (q : Option Equation) → equation s i ≡ q → OfEquation q (λ e. Ran i e c (effect inputs t c i e) d) → IsBeside s d
        from None is ran = absurd ran
        from (Some e) is ran = ran_beside i e (effect inputs t c i e) c d own is all ran
    step_beside (RunInPlace i) c d own all st = from (equation s i) st
      where
        from : (q : Option Equation) → OfEquation q (λ e. RanInPlace i e c (effect inputs t c i e) d) → IsBeside s d
        from None ran = absurd ran
        from (Some e) ran = placed_beside i e (effect inputs t c i e) c d all ran
    step_beside (Print k) c d own all st = subst (IsBeside s) (sym st) all
    step_beside (Keep v) c d own all st = subst (IsBeside s) (sym st) (record { ledger = all.ledger; pending = all.pending })
    step_beside (Timer i) c d own all st = from (equation s i) st
      where
        from : (q : Option Equation) → OfEquation q (λ e. d ≡ record c { pending = timed t c i e.args }) → IsBeside s d
        from None ran = absurd ran
        from (Some e) ran = subst (IsBeside s) (sym ran) (record { ledger = all.ledger; pending = timed_on t i c e.args own all.pending })

    steps_beside : (code : List Instr) (c d : Config) → AllByRecursion (IsOwn s) code → IsBeside s c → Steps inputs t s code c d → IsBeside s d
    steps_beside [] c d own all st = subst (IsBeside s) (sym st) all
    steps_beside (instr ∷ code) c d own all st = steps_beside code st.0 d own.1 (step_beside instr c st.0 own.0 all st.1) st.2

-- ---- the code

module _ (s : System) (plan : Plan) (fine : IsFinePlan s plan.in_place plan.order) where
  step_runs : (n : ℕ) → Contains plan.order n → n < length s.equations → IsTrue (runs s n)
  step_runs n there low = elim (or_cases (runs s n) (is_print s n) ((fine.ordered.steps n).0 there)) [
    | inl run ↦ run
    | inr print ↦ let high = leb-true (length s.equations) n (and_parts (nat_le (length s.equations) n) _ print).0 in absurd (omega arith)
  ]

  own_step : (n : ℕ) → Contains plan.order n → IsOwn s (step_instr s plan n)
  own_step n there = from (nat_lt n (length s.equations)) (is_in plan.in_place n) refl
    where
      from : (b in_place : Bool) → nat_lt n (length s.equations) ≡ b → IsOwn s (if b then (if in_place then RunInPlace n else Run n) else Print (n - length s.equations))
      from true true low = step_runs n there (ltb-true n (length s.equations) low)
      from true false low = step_runs n there (ltb-true n (length s.equations) low)
      from false in_place high = tt

  own_steps : (order : List ℕ) → ((n : ℕ) → Contains order n → Contains plan.order n) → AllByRecursion (IsOwn s) (map (step_instr s plan) order)
  own_steps [] within = tt
  own_steps (n ∷ order) within = (own_step n (within n (0, omega arith, refl)), own_steps order (λ m there. within m (later n m order there)))

  own_timers : (ts : List ℕ) → ((i : ℕ) → Contains ts i → Contains (timers_of s) i) → AllByRecursion (IsOwn s) (map Timer ts)
  own_timers [] within = tt
  own_timers (i ∷ ts) within = (within i (0, omega arith, refl), own_timers ts (λ j there. within j (later i j ts there)))

  own_ending : (vs : List ℕ) → AllByRecursion (IsOwn s) (map Keep vs ++ map Timer (timers_of s))
  own_ending [] = own_timers (timers_of s) (λ i there. there)
  own_ending (v ∷ vs) = (tt, own_ending vs)

-- ---- cells that stay

cell_is : (h : ℕ) (o : Option Held) → is_cell h o ≡ true → o ≡ Some (Cell h)
cell_is h None is = absurd (false≢true is)
cell_is h (Some (Bare s)) is = absurd (false≢true is)
cell_is h (Some (Cell k)) is = ap (λ j. Some (Cell j)) (eqb-true k h is)

some_of_none : {A P : Type 0} {a : A} → None ≡ Some a → P
some_of_none e = absurd (cc)

named_cell : (s : System) (c : Config) (h : ℕ) (view : View) → finite_map.get (kept_cells s c) h ≡ Some view → (v : ℕ) × Contains (keeps_of s) v × (c.lasts v ≡ Some (Cell h))
named_cell s c h view is = from (list_any (λ v. is_cell h (c.lasts v)) (keeps_of s)) refl (sym (get-kept c.cells (λ k. list_any (λ v. is_cell k (c.lasts v)) (keeps_of s)) h) ∙ is)
  where
    from : (b : Bool) → list_any (λ v. is_cell h (c.lasts v)) (keeps_of s) ≡ b → cond b (finite_map.get c.cells h) None ≡ Some view → (v : ℕ) × Contains (keeps_of s) v × (c.lasts v ≡ Some (Cell h))
    from true held found =
        let by = some_in (λ v. is_cell h (c.lasts v)) (keeps_of s) held in
        (by.0, Contains-in (keeps_of s) by.0 by.1, cell_is h (c.lasts by.0) by.2)
    from false none found = some_of_none found

-- ---- instants

there_option : (cells : Cells) (o : Option Held) → ((h : ℕ) → o ≡ Some (Cell h) → finite_map.get cells h ≡ None → ⊥) → IsOptionThere cells o
there_option cells None all = tt
there_option cells (Some (Bare s)) all = tt
there_option cells (Some (Cell h)) all = all h refl

same_held : (o : Option Held) → o ≡ option_map (renamed (λ h. h)) o
same_held None = refl
same_held (Some (Bare s)) = refl
same_held (Some (Cell h)) = refl

same_state : (a : State) → AreRenamed no_change a a
same_state a = record { lasts = λ v. same_held (a.lasts v); cells = λ h. refl; ledger = λ u. refl; pending = λ i. refl }

tidy_ended : (s : System) (c : Config) → AreHeld s (ended s c) → IsBeside s c → IsTidy s (ended s c)
tidy_ended s c held all = record {
  lasts = held.alone;
  there = λ v h is. subst (IsOptionThere (kept_cells s c)) is (held.lasts v);
  named = named_cell s c;
  ledger = all.ledger;
  pending = all.pending;
}

pub instants_tidy : (s : System) (plan : Plan) (inputs : Inputs) (t : ℕ) (a b : State) → IsFlat s → IsFinePlan s plan.in_place plan.order → IsTidy s a → Instant s plan inputs t a b → IsTidy s b
instants_tidy s plan inputs t a b whole fine tidy ran =
    let before : AreHeld s a = record { lasts = λ v. there_option a.cells (a.lasts v) (tidy.there v); alone = tidy.lasts } in
    let after = (both_instants s plan inputs t no_change a b a b before (same_state a) ran ran).0 in
    let begun : IsBeside s (started a) = record { ledger = tidy.ledger; pending = tidy.pending } in
    let reached = steps_beside s inputs t (body s plan) (started a) ran.reached (own_steps s plan fine plan.order (λ n there. there)) begun ran.ran in
    let last = steps_beside s inputs t (ending s) ran.reached ran.last (own_ending s plan fine (keeps_of s)) reached ran.kept_on in
    subst (IsTidy s) (sym ran.is) (tidy_ended s ran.last (subst (AreHeld s) ran.is after) last)
