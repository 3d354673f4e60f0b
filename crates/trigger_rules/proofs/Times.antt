-- At each time up to the fault time formulas tell events.
use Rattle.std.proofs.Common.{◌≡◌, ◌==◌, ◌↔◌, ℕ, zero, suc, ◌<◌, Bool, true, false, ◌||◌, List, [], ◌∷◌, map, Option, Some, None, Ok, Err, refl, sym, ap, subst, ◌∙◌, inl, inr, arith}
use Rattle.std.specs.Prelude.{if◌then◌else◌, is_some, IsTrue, IsFalse}
use Rattle.std.specs.List.{AllByRecursion, list_any}
use Rattle.std.specs.Option.{option_and_then, option_map_or, option_or}
use Rattle.std.proofs.lemmas.Bool.{cases_lt, or_from, or_parts, true≢false, false≢true, ne_eqb}
use Rattle.tsl_value.specs.declared.scalar.ValueType.{ValueType}
use Rattle.tsl_value.specs.View.{View, is_of}
use Rattle.lift_func.specs.Apply.{Answer}
use Rattle.flat_core.specs.declared.equation.Equation.{Equation}
use Rattle.flat_core.specs.declared.equation.Op.{Op}
use Rattle.flat_core.specs.declared.equation.Op.TheVariants as op
use Rattle.flat_core.specs.Stream.{Outcome, Event, Fault, History, event, has_event, is_fault, latest}
use Rattle.flat_core.specs.Case.{Streams, delayed, own, own_of, used_of, is_blocked, root_of, root_fault}
use Rattle.flat_core.specs.Events.{Inputs, outcome_of, fault_of}
use Rattle.flat_core.specs.Fault.{root_at, is_faulty}
use Rattle.flat_core.specs.System.{System, runs, equation}
use Rattle.flat_core.specs.inner.TypedEvents.{HasTypedEvents, AreOf}
use Rattle.flat_core.specs.TypedSystem.{AreOfTypes}
use Rattle.flat_core.proofs.Members.{none_in}
use Rattle.flat_core.proofs.TypedCase.{is_of_from}
use Rattle.flat_core.proofs.TypedEvents.{events_typed}
use Rattle.flat_core.proofs.Uniqueness.{all_used, all_with, used_all}
use Rattle.trigger_rules.specs.declared.atom.Atom.TheVariants.{Start}
use Rattle.trigger_rules.specs.Formula.{Formula, Never, IfNot, Both, no_atom, through, both}
use Rattle.trigger_rules.specs.inner.Firing.{at_time, IsUpToFault}
use Rattle.trigger_rules.specs.Table.{formula_of, at_zero, formula, zero_formula}
use Rattle.trigger_rules.specs.Question.{Fires, Starts, Implies, Together}
use Rattle.trigger_rules.proofs.Meeting.{Met, Tells, unfolded, own_met}

-- ---- outcomes

-- an outcome that is not Fault comes from the own case
record IsOwn (blocked : Bool) (answer : Answer) (o : Option Outcome) : Type 0 where
  pub value : Option View
  pub own : answer ≡ Ok value
  pub outcome : has_event o ≡ is_some value
  pub clear : blocked ≡ false

own_value : (v : Option View) → has_event (outcome_of (Ok v)) ≡ is_some v
own_value None = refl
own_value (Some v) = refl

is_own : (blocked : Bool) (answer : Answer) (o : Option Outcome) → o ≡ (if blocked then Some Fault else outcome_of answer) → is_fault o ≡ false → IsOwn blocked answer o
is_own true answer o is clear = absurd (true≢false (sym (ap is_fault is) ∙ clear))
is_own false (Err kind) o is clear = absurd (true≢false (sym (ap is_fault is) ∙ clear))
is_own false (Ok v) o is clear = record { value = v; own = refl; outcome = ap has_event is ∙ own_value v; clear = refl }

event_is_clear : (o : Option Outcome) → IsTrue (has_event o) → IsFalse (is_fault o)
event_is_clear None h = absurd (false≢true h)
event_is_clear (Some (Event v)) h = refl
event_is_clear (Some Fault) h = absurd (false≢true h)

value_is_clear : (v : Option View) → IsFalse (is_fault (outcome_of (Ok v)))
value_is_clear None = refl
value_is_clear (Some v) = refl

no_root_is_clear : (blocked : Bool) (answer : Answer) → blocked ≡ false → is_some (if blocked then None else fault_of answer) ≡ false → is_fault (outcome_of answer) ≡ false
no_root_is_clear true answer unblocked none = absurd (true≢false unblocked)
no_root_is_clear false (Ok v) unblocked none = value_is_clear v
no_root_is_clear false (Err kind) unblocked none = absurd (true≢false none)

outcome_is_clear : (blocked : Bool) (o : Option Outcome) → blocked ≡ false → is_fault o ≡ false → is_fault (if blocked then Some Fault else o) ≡ false
outcome_is_clear true o unblocked clear = absurd (true≢false unblocked)
outcome_is_clear false o unblocked clear = clear

-- an event stays the latest, or another comes
or_before : (o v : Option View) → (o ≡ None → IsTrue (is_some v)) → IsTrue (is_some (option_or o v))
or_before (Some x) v before = refl
or_before None v before = before refl

latest_there : (h : History) (u t : ℕ) → u < t → IsTrue (has_event (h u)) → IsTrue (is_some (latest h t))
latest_there h u zero lt some = absurd (omega arith)
latest_there h u (suc t) lt some = or_before (event (h t)) (latest h t) (λ is. elim (cases_lt u t) [
  | inl before ↦ latest_there h u t before some
  | inr not ↦
      let same : u ≡ t = omega arith in
      absurd (false≢true (sym (ap is_some is) ∙ subst (λ n. IsTrue (has_event (h n))) same some))
])

module _ (s : System) (inputs : Inputs) (bound : ℕ) (z : Streams) (t : ℕ) (up : IsUpToFault s inputs bound z t) where
  abbrev rank : ℕ → ℕ
  rank = up.rank

  abbrev IsClear : ℕ → Type 0
  IsClear a = is_fault (z a t) ≡ false

  all_clear : (args : List ℕ) → list_any (λ a. is_fault (z a t)) args ≡ false → AllByRecursion IsClear args
  all_clear [] none = tt
  all_clear (a ∷ args) none = let parts = or_parts (is_fault (z a t)) (list_any (λ b. is_fault (z b t)) args) none in (parts.0, all_clear args parts.1)

  none_blocks : (args : List ℕ) → AllByRecursion IsClear args → list_any (λ a. is_fault (z a t)) args ≡ false
  none_blocks [] all = refl
  none_blocks (a ∷ args) all = or_from (is_fault (z a t)) (list_any (λ b. is_fault (z b t)) args) all.0 (none_blocks args all.1)

  -- ---- values have their types
  typed_events : HasTypedEvents s bound z
  typed_events = events_typed s inputs bound z up.proper up.typed up.rank up.ranked up.typed_inputs up.solves

  values_typed : (args : List ℕ) (types : List ValueType) → AreOfTypes s.equations args types → AllByRecursion (λ a. IsTrue (runs s a)) args → AreOf types (map (λ a. event (z a t)) args)
  values_typed [] [] of run = tt
  values_typed [] (k ∷ types) of run = absurd of
  values_typed (a ∷ args) [] of run = absurd of
  values_typed (a ∷ args) (k ∷ types) of run = (
    is_of_from k (event (z a t)) (λ x is. subst (λ u. IsTrue (is_of u x)) of.0.of_is (typed_events.each a of.0.at run.0 of.0.is t up.below x is)),
    values_typed args types of.1 run.1,
  )

  -- the used arguments of an equation: what holds of all that are below it and not Fault
  used : (P : ℕ → Type 0) (x : ℕ) (e : Equation) → IsTrue (runs s x) → equation s x ≡ Some e → AllByRecursion (λ a. IsTrue (runs s a)) e.args → ((a : ℕ) → rank a < rank x → IsTrue (runs s a) → P a) → AllByRecursion P (used_of e.op e.args)
  used P x e run is running gives =
      all_with (λ a. rank a < rank x) (λ a. IsTrue (runs s a)) P gives (used_of e.op e.args)
      (all_used (λ a. rank a < rank x) e.op e.args (up.ranked.falls x e run is))
      (used_all (λ a. IsTrue (runs s a)) e.op e.args running)

  -- ---- times without a root fault
  module _ (sound : is_faulty s inputs z t ≡ false) where
    op_clear : (x : ℕ) (e : Equation) (o : Op) → e.op ≡ o → is_blocked z e t ≡ false → is_some (root_of inputs z x e o t) ≡ false → is_fault (outcome_of (own inputs z x e t)) ≡ false
    op_clear x e op.Delay is unblocked none = ap (λ o. is_fault (outcome_of (own_of inputs z x o e.args e.of t))) is ∙ value_is_clear (delayed z x e.args t)
    op_clear x e _ is unblocked none = no_root_is_clear (is_blocked z e t) (own inputs z x e t) unblocked none

    clear_by_rank : (k x : ℕ) → rank x < k → IsTrue (runs s x) → IsClear x
    clear_by_rank zero x low run = absurd (omega arith)
    clear_by_rank (suc k) x low run =
        let found = up.proper.runs_all x run in
        let e = found.0 in
        let unblocked = none_blocks (used_of e.op e.args) (used IsClear x e run found.1 found.2 (λ a lower run_a. clear_by_rank k a (omega arith) run_a)) in
        let none : is_some (root_at s inputs z t x) ≡ false = none_in (λ i. is_some (root_at s inputs z t i)) s.running sound x run in
        let root = sym (ap (λ o. is_some (option_and_then (λ f. root_fault inputs z x f t) o)) found.1) ∙ none in
        ap is_fault (up.solves.each x e run found.1 t up.below) ∙ outcome_is_clear (is_blocked z e t) (outcome_of (own inputs z x e t)) unblocked (op_clear x e e.op refl unblocked root)

    pub all_are_clear : (x : ℕ) → IsTrue (runs s x) → IsClear x
    all_are_clear x run = clear_by_rank (suc (rank x)) x (omega arith) run

  -- ---- formulas of a table
  module _ (table : ℕ → Formula) (Known : ℕ → Type 0) (known : (v : ℕ) → IsTrue (runs s v) → Known v → IsFalse (t == 0) → IsTrue (is_some (latest (z v) t))) (tabled : (x : ℕ) (e : Equation) → equation s x ≡ Some e → (b : Bool) → Met table Known z t (formula_of e.op x e.args) ↔ IsTrue b → Met table Known z t (table x) ↔ IsTrue b) where
    known_first : (args : List ℕ) → AllByRecursion (λ a. IsTrue (runs s a)) args → (v : ℕ) (rest : List ℕ) → args ≡ v ∷ rest → Known v → IsFalse (t == 0) → IsTrue (is_some (latest (z v) t))
    known_first args running v rest is = known v (subst (AllByRecursion (λ a. IsTrue (runs s a))) is running).0

    tells_by_rank : (k x : ℕ) → rank x < k → IsTrue (runs s x) → IsClear x → Tells table Known z t x
    tells_by_rank zero x low run clear = absurd (omega arith)
    tells_by_rank (suc k) x low run clear =
        let found = up.proper.runs_all x run in
        let e = found.0 in
        let g = up.typed.each x e found.1 in
        let it = is_own (is_blocked z e t) (own inputs z x e t) (z x t) (up.solves.each x e run found.1 t up.below) clear in
        let lower = used (λ a. IsClear a → Tells table Known z t a) x e run found.1 found.2 (λ a less run_a. tells_by_rank k a (omega arith) run_a) in
        let tells = all_with IsClear (λ a. IsClear a → Tells table Known z t a) (Tells table Known z t) (λ a c gives. gives c) (used_of e.op e.args) (all_clear (used_of e.op e.args) it.clear) lower in
        let own_is = own_met table Known z t inputs x it.value it.outcome e.op e.args g.types e.of g.typed (values_typed e.args g.types g.arguments found.2) tells (known_first e.args found.2) it.own in
        let here = tabled x e found.1 (is_some it.value) own_is in
        (λ m. it.outcome ∙ here.0 (unfolded table Known z t m), λ h. through (here.1 (sym it.outcome ∙ h)))

    pub tells : (x : ℕ) → IsTrue (runs s x) → IsClear x → Tells table Known z t x
    tells x run clear = tells_by_rank (suc (rank x)) x (omega arith) run clear

-- ---- time 0
module _ (s : System) (inputs : Inputs) (bound : ℕ) (z : Streams) (up : IsUpToFault s inputs bound z 0) where
  abbrev MetAtZero : Formula → Type 0
  MetAtZero p = Met (zero_formula s) (λ v. ⊥) z 0 p

  not_start : (p : Formula) → MetAtZero (Both (IfNot Start) p) → ⊥
  not_start p (both (no_atom n) m) = true≢false n

  none_at_zero : (p : Formula) (b : Bool) → (MetAtZero p → ⊥) → MetAtZero p ↔ IsTrue b → MetAtZero Never ↔ IsTrue b
  none_at_zero p b never met = (λ m. elim m [ ], λ h. absurd (never (met.1 h)))

  last_not : (x : ℕ) (args : List ℕ) → MetAtZero (formula_of op.Last x args) → ⊥
  last_not x (v ∷ r ∷ []) m = not_start _ m
  last_not x [] m = elim m [ ]
  last_not x (v ∷ []) m = elim m [ ]
  last_not x (v ∷ r ∷ a ∷ args) m = elim m [ ]

  zeroed : (o : Op) (x : ℕ) (args : List ℕ) (b : Bool) → MetAtZero (formula_of o x args) ↔ IsTrue b → MetAtZero (at_zero o (formula_of o x args)) ↔ IsTrue b
  zeroed op.Last x args b met = none_at_zero (formula_of op.Last x args) b (last_not x args) met
  zeroed op.Delay x args b met = none_at_zero (formula_of op.Delay x args) b (not_start _) met
  zeroed o x args b met = met

  zero_tabled : (x : ℕ) (e : Equation) → equation s x ≡ Some e → (b : Bool) → MetAtZero (formula_of e.op x e.args) ↔ IsTrue b → MetAtZero (zero_formula s x) ↔ IsTrue b
  zero_tabled x e is b met =
      subst (λ o. MetAtZero (option_map_or (λ f. at_zero f.op (formula_of f.op x f.args)) o Never) ↔ IsTrue b) (sym is) (zeroed e.op x e.args b met)

  pub starting : (x : ℕ) → IsTrue (runs s x) → Starts s x → IsFalse (is_fault (z x 0)) → IsTrue (has_event (z x 0))
  starting x run starts clear = (tells s inputs bound z 0 up (zero_formula s) (λ v. ⊥) (λ v run_v known past. absurd known) zero_tabled x run clear).0 (starts.fires (at_time z 0) refl)

-- ---- every time up to the fault time
module _ (s : System) (inputs : Inputs) (bound : ℕ) (z : Streams) (t : ℕ) (up : IsUpToFault s inputs bound z t) where
  tabled : (x : ℕ) (e : Equation) → equation s x ≡ Some e → (b : Bool) → Met (formula s) (Starts s) z t (formula_of e.op x e.args) ↔ IsTrue b → Met (formula s) (Starts s) z t (formula s x) ↔ IsTrue b
  tabled x e is b met = subst (λ o. Met (formula s) (Starts s) z t (option_map_or (λ f. formula_of f.op x f.args) o Never) ↔ IsTrue b) (sym is) met

  at_start : IsUpToFault s inputs bound z 0
  at_start = record { proper = up.proper; typed = up.typed; rank = up.rank; ranked = up.ranked; solves = up.solves; typed_inputs = up.typed_inputs; below = (let low = up.below in omega arith); sound = λ u lt. absurd (omega arith) }

  -- what starts was before
  pub was_before : (v : ℕ) → IsTrue (runs s v) → Starts s v → IsFalse (t == 0) → IsTrue (is_some (latest (z v) t))
  was_before v run starts past =
      let later : 0 < t = positive t past in
      latest_there (z v) 0 t later (starting s inputs bound z at_start v run starts (all_are_clear s inputs bound z 0 at_start (up.sound 0 later) v run))
    where
      positive : (n : ℕ) → IsFalse (n == 0) → 0 < n
      positive zero h = absurd (true≢false h)
      positive (suc n) h = omega arith

  pub exact : (x : ℕ) → IsTrue (runs s x) → IsFalse (is_fault (z x t)) → Fires s (at_time z t) x ↔ IsTrue (has_event (z x t))
  exact x run clear = tells s inputs bound z t up (formula s) (Starts s) was_before tabled x run clear

  pub implied : (x y : ℕ) → IsTrue (runs s x) → IsTrue (runs s y) → Implies s x y → IsFalse (is_fault (z y t)) → IsTrue (has_event (z x t)) → IsTrue (has_event (z y t))
  implied x y run_x run_y (inl same) clear h = subst (λ n. IsTrue (has_event (z n t))) same h
  implied x y run_x run_y (inr entails) clear h = (exact y run_y clear).0 (entails.fires (at_time z t) ((exact x run_x (event_is_clear (z x t) h)).1 h))

  pub apart : (x y : ℕ) → IsTrue (runs s x) → IsTrue (runs s y) → (Together s x y → ⊥) → IsTrue (has_event (z x t)) → IsTrue (has_event (z y t)) → ⊥
  apart x y run_x run_y never h k =
      never (inr (record { holds = at_time z t; first = (exact x run_x (event_is_clear (z x t) h)).1 h; second = (exact y run_y (event_is_clear (z y t) k)).1 k }))

  last_is : (o : Option Outcome) (v : Option View) → IsTrue (is_some v) → has_event (if (is_fault o || false) then Some Fault else outcome_of (Ok (if has_event o then v else None))) ≡ has_event o
  last_is None v some = refl
  last_is (Some (Event x)) None some = absurd (false≢true some)
  last_is (Some (Event x)) (Some v) some = refl
  last_is (Some Fault) v some = refl

  pub last_there : 0 < t → (x : ℕ) (e : Equation) (v r : ℕ) → IsTrue (runs s x) → equation s x ≡ Some e → e.op ≡ op.Last → e.args ≡ v ∷ r ∷ [] → Starts s v → has_event (z x t) ≡ has_event (z r t)
  last_there later x e v r run is op_is args_are starts =
      let found = up.proper.runs_all x run in
      let same : found.0 ≡ e = cc in
      let running : AllByRecursion (λ a. IsTrue (runs s a)) (v ∷ r ∷ []) = subst (AllByRecursion (λ a. IsTrue (runs s a))) (ap (λ f. f.args) same ∙ args_are) found.2 in
      let some = was_before v running.0 starts (ne_eqb t 0 (λ at. absurd (omega arith))) in
      ap has_event (up.solves.each x e run is t up.below)
      ∙ (λ k. has_event (if list_any (λ a. is_fault (z a t)) (used_of (op_is k) (args_are k)) then Some Fault else outcome_of (own_of inputs z x (op_is k) (args_are k) e.of t)))
      ∙ last_is (z r t) (latest (z v) t) some
