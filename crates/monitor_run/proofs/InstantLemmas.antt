-- One instant: how it begins, and what it has reached once all steps have run.
use Rattle.std.proofs.Common.{◌≡◌, ◌==◌, ℕ, ◌<◌, Bool, true, false, ◌&&◌, ◌||◌, not, List, [], ◌∷◌, length, Option, Some, None, Result, Ok, Err, OnOk, refl, sym, ap, subst, ◌∙◌, inl, inr, arith}
use Rattle.std.proofs.lemmas.Bool.{cases_Bool, and_parts, eqb-true, false≢true, true≢false}
use Rattle.std.specs.Prelude.{if◌then◌else◌, ◌≢◌, ◌⊎◌, unwrap_or, IsTrue, slice_index, slice_index_or}
use Rattle.std.specs.Option.{option_or, option_and_then}
use Rattle.std.specs.List.{All, AllByRecursion, filter}
use Rattle.std.specs.FinMap as finite_map
use Rattle.tsl_value.specs.View.{View, Plain, is_of}
use Rattle.tsl_value.specs.declared.scalar.Scalar.{Scalar}
use Rattle.tsl_value.specs.declared.scalar.Scalar.TheVariants as scalar
use Rattle.tsl_value.specs.declared.scalar.ValueType.{ValueType}
use Rattle.lift_func.specs.declared.fault.FaultKind.{FaultKind}
use Rattle.body_eval.specs.declared.register.Register.TheVariants as register
use Rattle.cell_reader.specs.inner.Cells.{Cells}
use Rattle.body_eval.specs.inner.Registers.{HoldsLive, held}
use Rattle.lift_func.specs.Typing.{Optional, fits}
use Rattle.aggregate_store.specs.inner.Stored.{Stored, is_listed}
use Rattle.flat_core.specs.declared.equation.Equation.{Equation}
use Rattle.flat_core.specs.declared.equation.Op.{Op}
use Rattle.flat_core.specs.declared.equation.Op.TheVariants as op
use Rattle.flat_core.specs.Events.{Inputs, unit, refused as refused_op}
use Rattle.flat_core.specs.Complete.{IsFlat}
use Rattle.flat_core.specs.Instant.{is_delay, is_delay_op}
use Rattle.flat_core.specs.Line.{Line, event_in, inputs_of}
use Rattle.flat_core.specs.Members.{is_in}
use Rattle.flat_core.specs.Pending.{option_is}
use Rattle.flat_core.specs.System.{System, equation, runs, numbers}
use Rattle.flat_core.specs.Typed.{IsTyped, unit_type}
use Rattle.flat_core.specs.Typed as rule
use Rattle.flat_core.proofs.UpdateOps.{no_update}
use Rattle.std.proofs.lemmas.List.Elements.{All-from_recursion}
use Rattle.flat_core.proofs.Members.{all_from, in-Contains, in_numbers, some_in}
use Rattle.flat_core.proofs.Depth.{runs_below}
use Rattle.flat_core.specs.Kept.{is_kept, is_number, is_timer, kept_at, kept_by, keeps_of, timers_of}
use Rattle.register_machine.specs.Machine.{Bare, value_in, view_of, slot_of_answer}
use Rattle.register_machine.specs.Machine as machine
use Rattle.register_machine.specs.Run as run
use Rattle.register_machine.specs.Run.{Plan, root_in, root_seen}
use Rattle.monitor_run.specs.declared.machine.Machine.{Machine}
use Rattle.monitor_run.specs.declared.run.Root.{Root}
use Rattle.monitor_run.specs.inner.Given.{AreEventLines}
use Rattle.monitor_state.specs.Inputs.{IsInputOf}
use Rattle.flat_core.specs.inner.Arity.{HasArity}
use Rattle.monitor_run.specs.inner.Here.{is_given_op}
use Rattle.monitor_run.specs.inner.Instant.{AreInputs, AreTimers, Begins, HasEnded, HasRunAll, HasRunBody, HasRunRegisters, IsLeastRoot, IsSound, StartsAs, cells_in, expired_at, first_value, kept_of, kept_register, refusal_of, root_beside, set_at, with_event}
use Rattle.monitor_run.specs.inner.Machine.{AreFresh}
use Rattle.monitor_run.specs.inner.Registers.{AreHeld, IsHeldOf, register_at, value_at}
use Rattle.monitor_run.specs.inner.Shown.{held_at, held_by}
use Rattle.monitor_run.specs.inner.Visits.{AreKept}
use Rattle.monitor_run.proofs.CellLemmas.{seen_is}
use Rattle.monitor_run.proofs.DelayLemmas.{timer_runs, timer_shape}
use Rattle.flat_core.proofs.Shapes.{running_args}
use Rattle.monitor_run.proofs.RootLemmas.{least-at, least-same}
use Rattle.flat_core.proofs.Rising.{in_filter}
use Rattle.flat_core.proofs.Answered.{delay_op}

-- ---- given events

-- the value of an input is a scalar of its type
pub given_of : (s : System) (lines : List Line) → AreEventLines s lines → (i t : ℕ) (v : View) → inputs_of lines i t ≡ Some v → (value : Scalar) × (v ≡ Plain value) × IsInputOf s i value
given_of s [] events i t v is = absurd (cc)
given_of s (l ∷ lines) events i t v is = from (event_in i t l.time l.event) refl (λ p. given_of s lines events.1 i t v p)
  where
    some_same : (a b : View) → Some a ≡ Some b → a ≡ b
    some_same a b p = cc

    pair_same : (a b : ℕ) (x y : Scalar) → ◌≡◌ {A = Option (ℕ × Scalar)} (Some (a, x)) (Some (b, y)) → (a ≡ b) × (x ≡ y)
    pair_same a b x y p = (ap (λ (o : Option (ℕ × Scalar)). (unwrap_or {T = ℕ × Scalar} o (a, x)).0) p, ap (λ (o : Option (ℕ × Scalar)). (unwrap_or {T = ℕ × Scalar} o (a, x)).1) p)

    in_line : (e : Option (ℕ × Scalar)) → l.event ≡ e → (w : View) → event_in i t l.time e ≡ Some w → (value : Scalar) × (w ≡ Plain value) × IsInputOf s i value
    in_line None at w p = absurd (cc)
    in_line (Some e) at w p = elim (cases_Bool ((l.time == t) && (e.0 == i))) [
      | inl here ↦
          let same : e.0 ≡ i = eqb-true e.0 i (and_parts (l.time == t) (e.0 == i) here).1 in
          let parts = pair_same events.0.input e.0 events.0.value e.1 (sym events.0.is ∙ at) in
          let w_is : Plain e.1 ≡ w = some_same (Plain e.1) w (sym (λ k. if here k then Some (Plain e.1) else None) ∙ p) in
          (e.1, sym w_is, subst (λ j. IsInputOf s j e.1) same (subst (λ j. IsInputOf s j e.1) parts.0 (subst (IsInputOf s events.0.input) parts.1 events.0.fits)))
      | inr not_here ↦ let none : None ≡ Some w = sym (λ k. if not_here k then Some (Plain e.1) else None) ∙ p in absurd (cc)
    ]

    from : (o : Option View) → event_in i t l.time l.event ≡ o → (inputs_of lines i t ≡ Some v → (value : Scalar) × (v ≡ Plain value) × IsInputOf s i value) → (value : Scalar) × (v ≡ Plain value) × IsInputOf s i value
    from None at rest = rest (sym (ap (λ o. option_or o (inputs_of lines i t)) at) ∙ is)
    from (Some w) at rest =
        let same : w ≡ v = some_same w v (sym (ap (λ o. option_or o (inputs_of lines i t)) at) ∙ is) in
        in_line l.event refl v (at ∙ ap Some same)

module _ (s : System) (whole : IsFlat s) (t : ℕ) (given : List Line) (events : AreEventLines s given) (old mid : Machine) (begins : Begins s t given old mid) (timers : AreTimers s t old.timers.times) where
  due_timer : (i : ℕ) → option_is t (finite_map.get old.timers.times i) ≡ true → IsTrue (is_timer s i)
  due_timer i due = from (finite_map.get old.timers.times i) refl due
    where
      from : (o : Option ℕ) → finite_map.get old.timers.times i ≡ o → option_is t o ≡ true → IsTrue (is_timer s i)
      from None is d = absurd (false≢true d)
      from (Some u) is d = (timers.each i u is).0

  one_equation : (i : ℕ) (e f : Equation) → equation s i ≡ Some e → equation s i ≡ Some f → f ≡ e
  one_equation i e f is also = cc

  -- nothing is given to what is no input
  not_given : (i : ℕ) (e : Equation) → equation s i ≡ Some e → e.op ≢ op.Input → inputs_of given i t ≡ None
  not_given i e is ne = from (inputs_of given i t) refl
    where
      from : (o : Option View) → inputs_of given i t ≡ o → o ≡ None
      from None p = refl
      from (Some v) p = let found = given_of s given events i t v p in absurd (ne (ap (λ (f : Equation). f.op) (sym (one_equation i e found.2.at is found.2.is)) ∙ found.2.op_is))

  -- no delay is due at what is none
  not_due : (i : ℕ) (e : Equation) → equation s i ≡ Some e → is_delay_op e.op ≡ false → option_is t (finite_map.get old.timers.times i) ≡ false
  not_due i e is none = elim (cases_Bool (option_is t (finite_map.get old.timers.times i))) [
    | inl due ↦ absurd (false≢true (sym (ap is_delay is ∙ none) ∙ (and_parts (runs s i) (is_delay (equation s i)) (due_timer i due)).1))
    | inr no_due ↦ no_due
  ]

  register_of_input : (i : ℕ) (e : Equation) → IsTrue (runs s i) → equation s i ≡ Some e → is_delay_op e.op ≡ false → register_at mid.registers.items i ≡ with_event (inputs_of given i t) register.Empty
  register_of_input i e run is none = begins.registers i run ∙ (λ k. with_event (inputs_of given i t) (if not_due i e is none k then register.Scalar scalar.Unit else register.Empty))

  register_of_other : (i : ℕ) (e : Equation) → IsTrue (runs s i) → equation s i ≡ Some e → e.op ≢ op.Input → register_at mid.registers.items i ≡ expired_at t (finite_map.get old.timers.times i) register.Empty
  register_of_other i e run is ne = begins.registers i run ∙ (λ k. with_event (not_given i e is ne k) (expired_at t (finite_map.get old.timers.times i) register.Empty))

  -- a register with a given event
  value_given : (c : Cells) (i : ℕ) (o : Option View) → inputs_of given i t ≡ o → held c (with_event o register.Empty) ≡ o
  value_given c i None is = refl
  value_given c i (Some v) is = let found = given_of s given events i t v is in (λ k. held c (with_event (Some (found.1 k)) register.Empty)) ∙ ap Some (sym found.1)

  value_due : (c : Cells) (b : Bool) → held c (if b then register.Scalar scalar.Unit else register.Empty) ≡ (if b then Some unit else None)
  value_due c true = refl
  value_due c false = refl

  op_cases : (o : Op) → (o ≡ op.Input) ⊎ (o ≢ op.Input)
  op_cases op.Input = inl refl
  op_cases op.Delay = inr (λ is. absurd (cc))
  op_cases o = inr (λ is. absurd (cc))

  input_no_delay : (o : Op) → o ≡ op.Input → is_delay_op o ≡ false
  input_no_delay o is = ap is_delay_op is

  -- what registers hold then
  live_given : (c : Cells) (o : Option View) → HoldsLive c (with_event o register.Empty)
  live_given c None = tt
  live_given c (Some (Plain x)) = tt
  live_given c (Some v) = tt

  live_due : (c : Cells) (b : Bool) → HoldsLive c (if b then register.Scalar scalar.Unit else register.Empty)
  live_due c true = tt
  live_due c false = tt

  typed_given : (i : ℕ) (e : Equation) → equation s i ≡ Some e → (o : Option View) → inputs_of given i t ≡ o → IsTrue (fits (Optional e.of) o)
  typed_given i e is None p = refl
  typed_given i e is (Some v) p =
      let found = given_of s given events i t v p in
      subst (λ w. IsTrue (is_of e.of w)) (sym found.1) (subst (λ (f : Equation). IsTrue (is_of f.of (Plain found.0))) (one_equation i e found.2.at is found.2.is) found.2.typed)

  delay_type : (types : List ValueType) (of : ValueType) → IsTyped op.Delay types of → of ≡ unit_type
  delay_type types of rule.delay = refl
  delay_type types of (rule.update is row) = no_update is

  typed_due : (i : ℕ) (e : Equation) → equation s i ≡ Some e → (b : Bool) → option_is t (finite_map.get old.timers.times i) ≡ b → IsTrue (fits (Optional e.of) (if b then Some unit else None))
  typed_due i e is false p = refl
  typed_due i e is true p =
      let timer = and_parts (runs s i) (is_delay (equation s i)) (due_timer i p) in
      let g = whole.complete.typed.each i e is in
      let of_unit = delay_type g.types e.of (subst (λ o. IsTyped o g.types e.of) (delay_op e.op (ap is_delay (sym is) ∙ timer.1)) g.typed) in
      subst (λ o. IsTrue (is_of o unit)) (sym of_unit) refl

  -- no cell is among them
  no_cell : {P : Type 0} (i h : ℕ) → IsTrue (runs s i) → register_at mid.registers.items i ≡ register.Aggregate h → P
  no_cell i h run is = given_cell (inputs_of given i t) (option_is t (finite_map.get old.timers.times i)) (sym (begins.registers i run) ∙ is)
    where
      given_cell : {P : Type 0} (o : Option View) (b : Bool) → with_event o (if b then register.Scalar scalar.Unit else register.Empty) ≡ register.Aggregate h → P
      given_cell (Some (Plain x)) b is = absurd (cc)
      given_cell None true is = absurd (cc)
      given_cell None false is = absurd (cc)
      given_cell (Some v) true is = absurd (cc)
      given_cell (Some v) false is = absurd (cc)

  pub begins-held : (types : ℕ → ValueType) (c : Cells) → length old.registers.items ≡ length s.equations → AreHeld s types c mid.registers.items
  begins-held types c each = record {
    one_type = λ i h e run is holds. no_cell i h run holds;
    one_each = begins.registers_each ∙ each;
    each = λ i e run is. elim (op_cases e.op) [
      | inl input ↦ subst (IsHeldOf c e.of) (sym (register_of_input i e run is (input_no_delay e.op input))) (record {
        typed = subst (λ v. IsTrue (fits (Optional e.of) v)) (sym (value_given c i (inputs_of given i t) refl)) (typed_given i e is (inputs_of given i t) refl);
        live = live_given c (inputs_of given i t);
      })
      | inr other ↦ subst (IsHeldOf c e.of) (sym (register_of_other i e run is other)) (record {
        typed = subst (λ v. IsTrue (fits (Optional e.of) v)) (sym (value_due c (option_is t (finite_map.get old.timers.times i)))) (typed_due i e is (option_is t (finite_map.get old.timers.times i)) refl);
        live = live_due c (option_is t (finite_map.get old.timers.times i));
      })
    ];
  }

  pub begins-fresh : AreFresh s mid
  begins-fresh = record {
    each = λ i e run is. record {
      unmarked = begins.faulted i run;
      empty = λ none.
          register_of_other i e run is (not_input e.op none)
          ∙ (λ k. if not_due i e is (not_delay e.op none) k then register.Scalar scalar.Unit else register.Empty);
    };
  }
    where
      not_input : (o : Op) → is_given_op o ≡ false → o ≢ op.Input
      not_input o none is = false≢true (sym none ∙ ap is_given_op is)

      not_delay : (o : Op) → is_given_op o ≡ false → is_delay_op o ≡ false
      not_delay op.Delay none = absurd (true≢false none)
      not_delay o none = refl

  -- the code begins as the machine does
  pub begins-starts : (inputs : Inputs) → AreInputs given t inputs → StartsAs s inputs t (kept_of old) mid
  begins-starts inputs are = record {
    given = λ i e run is. record {
      input = λ input. ap held_by (register_of_input i e run is (input_no_delay e.op input)) ∙ input_slot (inputs_of given i t) ∙ ap (λ o. machine.held (slot_of_answer (Ok o))) (are i);
      delay = λ delayed. ap held_by (register_of_other i e run is (λ input. delay_input (sym delayed ∙ input))) ∙ due_slot (option_is t (finite_map.get old.timers.times i));
    };
    beside = record {
      lasts = λ v. ap (λ l. held_at l v) begins.last;
      cells = ap (λ st. st.cells) begins.store;
      ledger = λ u. ap (λ st. slice_index st.ledger u) begins.store;
    };
  }
    where
      delay_input : op.Delay ≡ op.Input → ⊥
      delay_input is = absurd (cc)

      input_slot : (o : Option View) → held_by (with_event o register.Empty) ≡ machine.held (slot_of_answer (Ok o))
      input_slot None = refl
      input_slot (Some (Plain x)) = refl
      input_slot (Some v) = refl

      due_slot : (b : Bool) → held_by (if b then register.Scalar scalar.Unit else register.Empty) ≡ (if b then Some (Bare scalar.Unit) else None)
      due_slot true = refl
      due_slot false = refl

-- ---- what is listed
-- among running equations
pub filtered_running : (s : System) → IsFlat s → (p : ℕ → Bool) (i : ℕ) → IsTrue (runs s i) → is_in (filter p (numbers s)) i ≡ p i
filtered_running s whole p i run = in_filter p (numbers s) i ∙ (λ k. p i && in_numbers s i (runs_below s whole.proper i run) k) ∙ and_true (p i)
  where
    and_true : (b : Bool) → (b && true) ≡ b
    and_true true = refl
    and_true false = refl

pub listed_timer : (s : System) (i : ℕ) → IsTrue (is_in (timers_of s) i) → IsTrue (is_timer s i)
listed_timer s i h = (and_parts (is_timer s i) (is_in (numbers s) i) (sym (in_filter (is_timer s) (numbers s) i) ∙ h)).0

pub listed_kept : (s : System) (i : ℕ) → IsTrue (is_in (keeps_of s) i) → IsTrue (is_kept s i)
listed_kept s i h = (and_parts (is_kept s i) (is_in (numbers s) i) (sym (in_filter (is_kept s) (numbers s) i) ∙ h)).0

-- what is kept runs
pub kept_runs : (s : System) → IsFlat s → (i : ℕ) → IsTrue (is_kept s i) → IsTrue (runs s i)
kept_runs s whole i kept =
    let found = some_in (λ j. runs s j && is_number (kept_at (equation s j)) i) (numbers s) kept in
    let parts = and_parts (runs s found.0) (is_number (kept_at (equation s found.0)) i) found.2 in
    let f = whole.proper.runs_all found.0 parts.0 in
    from f.0.op f.0.args (running_args s whole.proper found.0 f.0 parts.0 f.1) (sym (ap (λ o. is_number (kept_at o) i) f.1) ∙ parts.1)
  where
    from : (o : Op) (args : List ℕ) → AllByRecursion (λ a. IsTrue (runs s a)) args → is_number (kept_by o args) i ≡ true → IsTrue (runs s i)
    from op.Last [] all h = absurd (false≢true h)
    from op.Last (v ∷ args) all h = subst (λ j. IsTrue (runs s j)) (eqb-true v i h) all.0
    from o args all h = absurd (false≢true h)

-- ---- the root fault
module _ (s : System) (whole : IsFlat s) (plan : Plan) (inputs : Inputs) (t : ℕ) (a : run.State) (new : Machine) (types : ℕ → ValueType) (are_held : AreHeld s types new.store.cells new.registers.items) (found refused root : Option Root) (ran : HasRunBody s plan inputs t a new found)
    (refused_is : IsLeastRoot (is_in (timers_of s)) (λ i. refusal_of (equation s i) new.store.cells new.registers.items) refused)
    (least : (among besides : ℕ → Bool) (p : ℕ → Option FaultKind) → IsLeastRoot among p found → IsLeastRoot besides p refused → IsLeastRoot (λ i. among i || besides i) p root) where
  -- what the machine sees at a running equation
  value_here : (i : ℕ) → IsTrue (runs s i) → value_at new.store.cells new.registers.items i ≡ value_in ran.reached i
  value_here i run =
      let f = whole.proper.runs_all i run in
      sym (seen_is new.store.cells (register_at new.registers.items i) (are_held.each i f.0 run f.1).live)
      ∙ (λ k. option_and_then (view_of (ran.shows.beside.cells k)) ((ran.shows.each i run refl).holds k))

  amount_is : (i : ℕ) (args : List ℕ) → HasArity op.Delay args → AllByRecursion (λ x. IsTrue (runs s x)) args → refused_op (first_value new.store.cells new.registers.items args) ≡ root_in ran.reached i op.Delay args
  amount_is i [] shape all = absurd shape
  amount_is i (d ∷ []) shape all = absurd shape
  amount_is i (d ∷ r ∷ []) shape all = ap refused_op (value_here d all.0)
  amount_is i (d ∷ r ∷ x ∷ args) shape all = absurd shape

  refusal_same : (i : ℕ) → IsTrue (is_timer s i) → refusal_of (equation s i) new.store.cells new.registers.items ≡ root_seen s ran.reached i
  refusal_same i timer =
      let run = timer_runs s i timer in
      let f = whole.proper.runs_all i run in
      let is_op = delay_op f.0.op (ap is_delay (sym f.1) ∙ (and_parts (runs s i) (is_delay (equation s i)) timer).1) in
      (λ k. refusal_of (f.1 k) new.store.cells new.registers.items) ∙ amount_is i f.0.args (timer_shape s whole i f.0 timer f.1) (running_args s whole.proper i f.0 run f.1)
      ∙ sym ((λ k. option_and_then (λ e. root_in ran.reached i e.op e.args) (f.1 k)) ∙ (λ k. root_in ran.reached i (is_op k) f.0.args))

  beside_same : (i : ℕ) → is_delay (equation s i) ≡ false → root_beside s ran.reached i ≡ root_seen s ran.reached i
  beside_same i none = λ k. if none k then None else root_seen s ran.reached i

  not_false : (b : Bool) → not b ≡ true → b ≡ false
  not_false true h = absurd (false≢true h)
  not_false false h = refl

  found_from : (r : Option Root) → IsLeastRoot (runs s) (root_beside s ran.reached) r → IsLeastRoot (λ i. runs s i && not (is_delay (equation s i))) (root_seen s ran.reached) r
  found_from None h = λ i among. let parts = and_parts (runs s i) (not (is_delay (equation s i))) among in sym (beside_same i (not_false (is_delay (equation s i)) parts.1)) ∙ h i parts.0
  found_from (Some r) h =
      let fails = no_delay (is_delay (equation s r.equation)) refl in (
        (λ k. h.0 k && not (fails k)),
        sym (beside_same r.equation fails) ∙ h.1,
        λ i among lt. let parts = and_parts (runs s i) (not (is_delay (equation s i))) among in sym (beside_same i (not_false (is_delay (equation s i)) parts.1)) ∙ h.2 i parts.0 lt,
      )
    where
      no_delay : (b : Bool) → is_delay (equation s r.equation) ≡ b → is_delay (equation s r.equation) ≡ false
      no_delay false is = is
      no_delay true is = let none : None ≡ Some r.kind = sym (λ k. if is k then None else root_seen s ran.reached r.equation) ∙ h.1 in absurd (cc)

  union_is : (i : ℕ) → ((runs s i && not (is_delay (equation s i))) || is_in (timers_of s) i) ≡ runs s i
  union_is i = elim (cases_Bool (runs s i)) [
    | inl run ↦ (λ k. (run k && not (is_delay (equation s i))) || (filtered_running s whole (is_timer s) i run ∙ (λ j. run j && is_delay (equation s i))) k) ∙ either (is_delay (equation s i)) ∙ sym run
    | inr idle ↦ (λ k. (idle k && not (is_delay (equation s i))) || (in_filter (is_timer s) (numbers s) i ∙ (λ j. (idle j && is_delay (equation s i)) && is_in (numbers s) i)) k) ∙ sym idle
  ]
    where
      either : (b : Bool) → ((true && not b) || (true && b)) ≡ true
      either true = refl
      either false = refl

  pub root_least : IsLeastRoot (runs s) (root_seen s ran.reached) root
  root_least =
      least-same (λ i. (runs s i && not (is_delay (equation s i))) || is_in (timers_of s) i) (runs s) (root_seen s ran.reached) root union_is
      (least (λ i. runs s i && not (is_delay (equation s i))) (is_in (timers_of s)) (root_seen s ran.reached) (found_from found ran.root_is)
      (least-at (is_in (timers_of s)) (λ i. refusal_of (equation s i) new.store.cells new.registers.items) (root_seen s ran.reached) refused (λ i h. refusal_same i (listed_timer s i h)) refused_is))

-- begin, steps and refused delays together
pub runs-registers : (s : System) → IsFlat s → (plan : Plan) (t : ℕ) (given : List Line) → AreEventLines s given → (old mid new : Machine) → Begins s t given old mid → IsSound s t old → (found refused root : Option Root) → HasRunAll s plan t mid new found
    → ((types : ℕ → ValueType) (cells : Cells) → AreHeld s types cells new.registers.items → IsLeastRoot (is_in (timers_of s)) (λ i. refusal_of (equation s i) cells new.registers.items) refused)
    → ((among besides : ℕ → Bool) (p : ℕ → Option FaultKind) → IsLeastRoot among p found → IsLeastRoot besides p refused → IsLeastRoot (λ i. among i || besides i) p root)
    → (root ≡ None → refused ≡ None) → HasRunRegisters s plan t given old new root
runs-registers s whole plan t given events old mid new begins sound found refused root all refused_is least none = record {
  types = all.types;
  held = all.held;
  last = all.last;
  last_same = all.same.last ∙ begins.last;
  cells_stay = λ bare. all.cells_stay bare ∙ ap (λ (st : Stored). st.cells) begins.store;
  timers = λ i. ap (λ ts. finite_map.get ts.times i) all.same.timers ∙ begins.timers i;
  positive = λ rootless i timer.
      let run = timer_runs s i timer in
      subst (IsLeastRoot (is_in (timers_of s)) (λ i. refusal_of (equation s i) new.store.cells new.registers.items)) (none rootless) (refused_is all.types new.store.cells all.held) i (filtered_running s whole (is_timer s) i run ∙ timer);
  means = λ inputs are.
      let ran = all.means inputs (kept_of old) (begins-starts s whole t given events old mid begins sound.timers inputs are) in
      record {
        reached = ran.reached;
        ran = ran.ran;
        shows = ran.shows;
        pending = ran.pending;
        delays = ran.delays;
        least = root_least s whole plan inputs t (kept_of old) new all.types all.held found refused root ran (refused_is all.types new.store.cells all.held) least;
        printed = ran.printed;
      };
}

pub begins-all : (s : System) → IsFlat s → (t : ℕ) (given : List Line) → AreEventLines s given → (old mid : Machine) → Begins s t given old mid → IsSound s t old → length old.registers.items ≡ length s.equations
    → (types : ℕ → ValueType) × AreHeld s types mid.store.cells mid.registers.items × AreHeld s types mid.store.cells mid.last.items
begins-all s whole t given events old mid begins sound each = (
  sound.types,
  begins-held s whole t given events old mid begins sound.timers sound.types mid.store.cells each,
  subst (λ st. AreHeld s sound.types st.cells mid.last.items) (sym begins.store) (subst (AreHeld s sound.types old.store.cells) (sym begins.last) sound.last),
)

-- each listed delay is a running one
pub all_timers : (s : System) (delays : List ℕ) → delays ≡ timers_of s → All (λ i. IsTrue (is_timer s i)) delays
all_timers s delays is = subst (All (λ i. IsTrue (is_timer s i))) (sym is) (All-from_recursion (λ i. IsTrue (is_timer s i)) (timers_of s) (all_from (λ i. IsTrue (is_timer s i)) (timers_of s) (λ i there. listed_timer s i (in-Contains (timers_of s) i there))))

pub all_kept : (s : System) → IsFlat s → (n : ℕ) → n ≡ length s.equations → (keeps : List ℕ) → keeps ≡ keeps_of s → All (λ i. i < n) keeps
all_kept s whole n size keeps is =
    subst (All (λ i. i < n)) (sym is) (All-from_recursion (λ i. i < n) (keeps_of s) (all_from (λ i. i < n) (keeps_of s) (λ i there.
    let lt = runs_below s whole.proper i (kept_runs s whole i (listed_kept s i (in-Contains (keeps_of s) i there))) in omega arith)))

-- what is listed is marked as kept
pub kept_there_in : (s : System) → IsFlat s → (kept : List Bool) → AreKept s kept → (i : ℕ) → is_in (keeps_of s) i ≡ true → slice_index_or kept i false ≡ true
kept_there_in s whole kept are i listed = are i (let lt = runs_below s whole.proper i (kept_runs s whole i (listed_kept s i listed)) in omega arith) ∙ listed

-- what is kept, the delays that are set, and the cells that stay
pub ends : {E : Type 0} (s : System) (t : ℕ) (old new : Machine)
    → ((i : ℕ) → register_at new.last.items i
    ≡ (if is_in (keeps_of s) i then kept_register (register_at old.registers.items i) (register_at old.last.items i) else register_at old.last.items i))
    → ((types : ℕ → ValueType) (cells : Cells) → AreHeld s types cells old.registers.items → (i : ℕ) → finite_map.get new.timers.times i
    ≡ (if is_in (timers_of s) i then set_at (equation s i) cells old.registers.items t i (finite_map.get old.timers.times i) else finite_map.get old.timers.times i))
    → (r : Result (Unit {0}) E)
    → OnOk r (new.store ≡ record old.store { cells = finite_map.retain_keys old.store.cells (is_listed (cells_in new.last.items (keeps_of s))) })
    → OnOk r (HasEnded s t old new)
ends s t old new last timers (Ok v) is = record { last = last; timers = timers; cells = ap (λ (st : Stored). st.cells) is; ledger = ap (λ (st : Stored). st.ledger) is }
ends s t old new last timers (Err e) is = tt
