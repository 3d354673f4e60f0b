-- The instructions of an instant keep what holds within it.
use Rattle.std.proofs.Common.{None, ◌≡◌, ℕ, ◌-◌, ◌<◌, ◌≤◌, Bool, true, false, List, Option, Some, refl, sym, ap, subst, ◌∙◌, inl, inr, Contains, IsTrue, arith, length}
use Rattle.std.specs.Prelude.{if◌then◌else◌}
use Rattle.std.proofs.lemmas.Bool.{cases_eq, lt-ltb, le-ltb}
use Rattle.std.proofs.lemmas.Option.{slice_get_within}
use Rattle.std.specs.FinMap as finite_map
use Rattle.flat_core.specs.declared.equation.Equation.{Equation}
use Rattle.flat_core.specs.Stream.{Fault, is_fault}
use Rattle.flat_core.specs.Case.{Streams, own, used_of, is_blocked}
use Rattle.flat_core.specs.Events.{Inputs, outcome_of, fault_of}
use Rattle.flat_core.specs.System.{System, runs}
use Rattle.flat_core.specs.Members.{is_in}
use Rattle.flat_core.proofs.Members.{in-Contains, all_at, none_in}
use Rattle.alias_rules.specs.Conflict.{StandsBefore}
use Rattle.register_machine.specs.Run.{Plan, step_instr}
use Rattle.register_machine.proofs.Running.{argument_before, Running}
use Rattle.register_machine.proofs.Orders.{steps_cases, all_steps, steps_of}
use Rattle.register_machine.specs.Machine.{Run, RunInPlace, Print, Held, Cell, Slot, Holds, Failed, Cells, Config, is_barred, Effect, Fill, Make, with, effect_of, effect, Ran, RanInPlace, OfEquation, Step}
use Rattle.register_machine.proofs.Cells.{failed_holds, with-here, with-there, without, without-there, without-keeps}
use Rattle.register_machine.proofs.Middle.{SlotOf, Mid, IsNext, Fills, filled, spoiled_on, last_spoiled_on}
use Rattle.register_machine.proofs.Moves.{Between, fills_bare}
use Rattle.register_machine.proofs.Setting.{Setting, failed_is, any_same, used_unguarded, used_argument}
use Rattle.register_machine.proofs.Effects.{Fits, own_fits, some_equation}
use Rattle.lift_func.specs.declared.fault.FaultKind.{FaultKind}
use Rattle.register_machine.proofs.FailedKinds.{own_kind, kind_of_own}

module _ (s : System) (plan : Plan) (inputs : Inputs) (z : Streams) (t : ℕ) (last : ℕ → Option Held) (pend : ℕ → Option ℕ) (old : Cells) (given : Setting s inputs z t last pend) (between : Between s plan.in_place z t last old) where
  -- a configuration within the instant
  pub record Good (rest : List ℕ) (c : Config) : Type 0 where
    pub mid : Mid s plan.in_place z t last old (steps_of s) rest c.slots c.cells
    pub lasts : c.lasts ≡ last
    pub pending : c.pending ≡ pend
    pub kinds : (x : ℕ) (e : Equation) → Running s x e → (Contains rest x → ⊥) → (kind : Option FaultKind) → c.slots x ≡ Failed kind → kind ≡ own_kind inputs z t x e

  pub below : (i : ℕ) → IsTrue (runs s i) → (e : Equation) × Running s i e × (i < length s.equations)
  below i run = let found = given.proper.runs_all i run in (found.0, record { is = found.1; runs_too = run }, slice_get_within s.equations i found.0 found.1)

  module _ (rest : List ℕ) (c : Config) (good : Good rest c) (i : ℕ) (next : IsNext s plan.in_place z t last old (steps_of s) rest i) where
    pub done_args : (e : Equation) → Running s i e → (a : ℕ) → Contains (used_of e.op e.args) a → IsTrue (runs s a) × (Contains rest a → ⊥)
    done_args e running a found =
        let all = given.proper.runs_all i running.runs_too in
        let same = some_equation (sym all.1 ∙ running.is) in (
          subst (λ d. Contains d.args a → IsTrue (runs s a)) same (all_at (λ b. IsTrue (runs s b)) all.0.args all.2 a) (used_argument e.op e.args a found),
          λ r. next.first a r (argument_before s plan.in_place a i e running (used_unguarded e.op e.args a found)),
        )

    pub barred_is : (e : Equation) → Running s i e → is_barred c e ≡ is_blocked z e t
    barred_is e running = any_same _ _ (used_of e.op e.args) (λ a found. let d = done_args e running a found in failed_is (z a t) (c.slots a) (good.mid.status a d.0 d.1))

    pub sound_args : (e : Equation) → is_blocked z e t ≡ false → (a : ℕ) → Contains (used_of e.op e.args) a → is_fault (z a t) ≡ false
    sound_args e none a found = none_in (λ x. is_fault (z x t)) (used_of e.op e.args) none a (in-Contains (used_of e.op e.args) a found)

    effect_fits : (b : Bool) → is_in plan.in_place i ≡ b → (e : Equation) → Running s i e → Fits s plan.in_place inputs z t last pend old given between (steps_of s) rest (all_steps s) c good.lasts good.pending good.mid i next b e.args (effect inputs t c i e)
    effect_fits b listed e running =
        subst (λ q. FitsHere (if q then Fill (Failed None) else effect_of inputs t c i e.op e.args e.of)) (sym (barred_is e running)) (go (is_blocked z e t) refl (given.solves i e running))
      where
        FitsHere : Effect → Type 0
        FitsHere = Fits s plan.in_place inputs z t last pend old given between (steps_of s) rest (all_steps s) c good.lasts good.pending good.mid i next b e.args

        go : (q : Bool) → is_blocked z e t ≡ q → z i t ≡ (if q then Some Fault else outcome_of (own inputs z i e t)) → FitsHere (if q then Fill (Failed None) else effect_of inputs t c i e.op e.args e.of)
        go true blocked is = fills_bare s plan.in_place z t last old given.law between (steps_of s) rest c.slots c.cells good.mid i next (Failed None) (subst (λ o. SlotOf o (Failed None)) (sym is) (None, refl)) (λ h. failed_holds)
        go false blocked is = own_fits s plan.in_place inputs z t last pend old given between (steps_of s) rest (all_steps s) c good.lasts good.pending good.mid i next e b listed e.op e.args e.of running (given.fitting i e running) (done_args e running) (sound_args e blocked) is

    -- the kind of a failure
    kind_is : (e : Equation) → Running s i e → (kind : Option FaultKind) → effect inputs t c i e ≡ Fill (Failed kind) → kind ≡ own_kind inputs z t i e
    kind_is e running kind is =
        go (is_blocked z e t) (sym (λ k. if barred_is e running k then Fill (Failed None) else effect_of inputs t c i e.op e.args e.of) ∙ is)
      where
        none_kind : {x y : Option FaultKind} → Fill (Failed x) ≡ Fill (Failed y) → x ≡ y
        none_kind q = cc

        go : (q : Bool) → (if q then Fill (Failed None) else effect_of inputs t c i e.op e.args e.of) ≡ Fill (Failed kind) → kind ≡ (if q then None else fault_of (own inputs z i e t))
        go true same = sym (none_kind same)
        go false same = kind_of_own s plan.in_place inputs z t last pend old given between (steps_of s) rest (all_steps s) c good.lasts good.pending good.mid i next e e.op e.args e.of running (given.fitting i e running) (done_args e running) kind same

    abbrev KindIs : Slot → Type 0
    KindIs new = (e : Equation) → Running s i e → (kind : Option FaultKind) → new ≡ Failed kind → kind ≡ own_kind inputs z t i e

    fill_good : (d : Config) (new : Slot) (after : Cells) → Fills s plan.in_place z t last old rest c.slots c.cells i new after → d.slots ≡ with c.slots i new → d.cells ≡ after → d.lasts ≡ c.lasts → d.pending ≡ c.pending → KindIs new → Good (without i rest) d
    fill_good d new after f is_slots is_cells is_lasts is_pending kind_here = record {
      mid = subst (λ x. Mid s plan.in_place z t last old (steps_of s) (without i rest) x d.cells) (sym is_slots) (subst (λ x. Mid s plan.in_place z t last old (steps_of s) (without i rest) (with c.slots i new) x) (sym is_cells) (filled s plan.in_place z t last old (steps_of s) rest c.slots c.cells good.mid i next new after f));
      lasts = is_lasts ∙ good.lasts;
      pending = is_pending ∙ good.pending;
      kinds = λ x e running gone kind is. elim (cases_eq x i) [
        | inl same ↦ subst (λ n. kind ≡ own_kind inputs z t n e) (sym same) (kind_here e (subst (λ n. Running s n e) same running) kind (sym (ap (with c.slots i new) same ∙ with-here c.slots i new) ∙ sym (λ k. is_slots k x) ∙ is))
        | inr other ↦ good.kinds x e running (λ r. gone (without-keeps i rest x r other)) kind (sym (with-there c.slots i new x other) ∙ sym (λ k. is_slots k x) ∙ is)
      ];
    }

    holds_kind : (h : ℕ) → KindIs (Holds (Cell h))
    holds_kind h e running kind is = failed_holds (sym is)

    fill_kind : (e : Equation) → Running s i e → (new : Slot) → effect inputs t c i e ≡ Fill new → KindIs new
    fill_kind e running new is other running_other kind same =
        let kind_e = kind_is e running kind (is ∙ ap Fill same) in
        let same_equation : e ≡ other = some_equation (sym running.is ∙ running_other.is) in
        kind_e ∙ ap (own_kind inputs z t i) same_equation

    run_good : (d : Config) (e : Equation) → Running s i e → is_in plan.in_place i ≡ false → Ran i e c (effect inputs t c i e) d → Good (without i rest) d
    run_good d e running listed ran = go (effect inputs t c i e) refl (effect_fits false listed e running) ran
      where
        go : (x : Effect) → effect inputs t c i e ≡ x → Fits s plan.in_place inputs z t last pend old given between (steps_of s) rest (all_steps s) c good.lasts good.pending good.mid i next false e.args x → Ran i e c x d → Good (without i rest) d
        go (Fill new) at f is = fill_good d new c.cells f (ap (λ x. x.slots) is) (ap (λ x. x.cells) is) (ap (λ x. x.lasts) is) (ap (λ x. x.pending) is) (fill_kind e running new at)
        go (Make v) at f is = fill_good d (Holds (Cell is.0)) (finite_map.insert c.cells is.0 v) (f is.0 is.1) (ap (λ x. x.slots) is.2) (ap (λ x. x.cells) is.2) (ap (λ x. x.lasts) is.2) (ap (λ x. x.pending) is.2) (holds_kind is.0)

    in_place_good : (d : Config) (e : Equation) → Running s i e → is_in plan.in_place i ≡ true → RanInPlace i e c (effect inputs t c i e) d → Good (without i rest) d
    in_place_good d e running listed ran = go (effect inputs t c i e) refl (effect_fits true listed e running) ran
      where
        go : (x : Effect) → effect inputs t c i e ≡ x → Fits s plan.in_place inputs z t last pend old given between (steps_of s) rest (all_steps s) c good.lasts good.pending good.mid i next true e.args x → RanInPlace i e c x d → Good (without i rest) d
        go (Fill new) at f is = fill_good d new c.cells f (ap (λ x. x.slots) is) (ap (λ x. x.cells) is) (ap (λ x. x.lasts) is) (ap (λ x. x.pending) is) (fill_kind e running new at)
        go (Make v) at f is = fill_good d (Holds (Cell is.0)) (finite_map.insert c.cells is.0 v) (f is.0 is.1) (ap (λ x. x.slots) is.2) (ap (λ x. x.cells) is.2) (ap (λ x. x.lasts) is.2) (ap (λ x. x.pending) is.2) (holds_kind is.0)

    -- a print
    print_good : (IsTrue (runs s i) → ⊥) → Good (without i rest) c
    print_good idle = record {
      mid = record {
        blank = λ x r. good.mid.blank x (without-there i rest x r);
        status = λ x run gone. good.mid.status x run (λ r. gone (without-keeps i rest x r (λ is. idle (subst (λ n. IsTrue (runs s n)) is run))));
        variable = good.mid.variable;
        live = good.mid.live;
        grown = good.mid.grown;
        reached = good.mid.reached;
        alias = good.mid.alias;
        view = λ x h holds. elim (good.mid.view x h holds) [ inl right ↦ inl right | inr p ↦ inr (spoiled_on s plan.in_place z t last old rest i x p) ];
        last_view = λ v h holds. elim (good.mid.last_view v h holds) [ inl right ↦ inl right | inr p ↦ inr (last_spoiled_on s plan.in_place z t last old rest i v p) ];
        past = λ y w in_steps gone remains pair. elim (cases_eq y i) [
          | inl is ↦ next.first w (without-there i rest w remains) (subst (StandsBefore s plan.in_place w) is pair)
          | inr other ↦ good.mid.past y w in_steps (λ r. gone (without-keeps i rest y r other)) (without-there i rest w remains) pair
        ];
      };
      lasts = good.lasts;
      pending = good.pending;
      kinds = λ x e running gone. good.kinds x e running (λ r. gone (without-keeps i rest x r (λ is. idle (subst (λ n. IsTrue (runs s n)) is running.runs_too))));
    }

    pub step_good : (d : Config) → Contains (steps_of s) i → Step inputs t s (step_instr s plan i) c d → Good (without i rest) d
    step_good d in_steps stepped = elim (steps_cases s i in_steps) [
      | inl run ↦
          let found = below i run in
          equation_step found.0 found.1 (is_in plan.in_place i) refl (subst (λ b. Step inputs t s (if b then (if is_in plan.in_place i then RunInPlace i else Run i) else Print (i - length s.equations)) c d) (lt-ltb i (length s.equations) found.2) stepped)
      | inr print ↦
          let high : length s.equations ≤ i = omega (arith, print.3) in
          let is : d ≡ c = subst (λ b. Step inputs t s (if b then (if is_in plan.in_place i then RunInPlace i else Run i) else Print (i - length s.equations)) c d) (le-ltb i (length s.equations) high) stepped in
          subst (Good (without i rest)) (sym is) (print_good (λ run. let low = (below i run).2 in omega arith))
    ]
      where
        equation_step : (e : Equation) → Running s i e → (b : Bool) → is_in plan.in_place i ≡ b → Step inputs t s (if is_in plan.in_place i then RunInPlace i else Run i) c d → Good (without i rest) d
        equation_step e running true listed st = in_place_good d e running listed (subst (λ q. OfEquation q (λ x. RanInPlace i x c (effect inputs t c i x) d)) running.is (subst (λ b. Step inputs t s (if b then RunInPlace i else Run i) c d) listed st))
        equation_step e running false listed st = run_good d e running listed (subst (λ q. OfEquation q (λ x. Ran i x c (effect inputs t c i x) d)) running.is (subst (λ b. Step inputs t s (if b then RunInPlace i else Run i) c d) listed st))
