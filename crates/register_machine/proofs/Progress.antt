-- A run of an instant is never stuck.
use Rattle.std.proofs.Common.{◌≡◌, ℕ, suc, ◌+◌, ◌-◌, ◌≤◌, Bool, true, false, ◌||◌, List, [], ◌∷◌, ◌++◌, Option, Some, None, Ok, is_some, refl, sym, ap, subst, ◌∙◌, inl, inr, ◌⊎◌, Contains, IsTrue, map, arith, length}
use Rattle.std.specs.Prelude.{if◌then◌else◌}
use Rattle.std.specs.List.{list_any}
use Rattle.std.specs.Ordering.{nat_cmp, eq_by_cmp}
use Rattle.std.specs.Cmp.{unsigned_tied}
use Rattle.std.proofs.Math.Bool.{true≢false}
use Rattle.std.proofs.lemmas.Bool.{ne_eqb, lt-ltb, le-ltb}
use Rattle.std.specs.FinMap as finite_map
use Rattle.tsl_value.specs.View.{View, Plain}
use Rattle.tsl_value.specs.declared.operation.Update.{Update}
use Rattle.lift_func.specs.Update.{update_answer}
use Rattle.tsl_value.specs.declared.scalar.ValueType.{ValueType}
use Rattle.flat_core.specs.declared.equation.Op.{Op}
use Rattle.flat_core.specs.declared.equation.Equation.{Equation}
use Rattle.flat_core.specs.Stream.{Outcome, Event, Fault, event}
use Rattle.flat_core.specs.Case.{Streams, used_of}
use Rattle.flat_core.specs.Events.{Inputs}
use Rattle.flat_core.specs.System.{System, runs}
use Rattle.flat_core.specs.Members.{is_in}
use Rattle.tsl_value.proofs.Lists.{later}
use Rattle.flat_core.specs.Updates.{is_update}
use Rattle.alias_rules.specs.Conflict.{StandsBefore}
use Rattle.register_machine.specs.Run.{Plan, step_instr}
use Rattle.register_machine.proofs.Running.{Running}
use Rattle.register_machine.proofs.Orders.{Agrees, steps_of, steps_cases}
use Rattle.register_machine.specs.Machine.{Instr, Run, RunInPlace, Print, Held, Bare, Cell, Slot, Blank, Holds, Failed, Cells, Config, held, is_barred, view_of, value_in, Effect, Fill, Make, made, with, effect_of, effect, source_slot, counted, Ran, RanInPlace, OfEquation, Step, Steps}
use Rattle.register_machine.proofs.Cells.{blank_holds, failed_holds, without, without-there}
use Rattle.register_machine.proofs.Middle.{SlotOf, IsNext}
use Rattle.register_machine.proofs.Moves.{Between}
use Rattle.register_machine.proofs.UpdateEffects.{effect_update, used_first}
use Rattle.register_machine.proofs.Setting.{each_update, Fit, Setting, aggregate}
use Rattle.register_machine.proofs.Steps.{Good, below, done_args, step_good}
use Rattle.std.specs.Option.{option_and_then}
use Rattle.register_machine.specs.Stands.{is_aggregate_at}

-- a handle that is not live
above : List ℕ → ℕ
above [] = 0
above (k ∷ ks) = suc (k + above ks)

none_above : (ks : List ℕ) (q : ℕ) → above ks ≤ q → list_any (eq_by_cmp nat_cmp q) ks ≡ false
unfolding above
none_above [] q le = refl
none_above (k ∷ ks) q le =
    let rest = none_above ks q (omega arith) in
    (λ j. (unsigned_tied q k ∙ ne_eqb q k (λ is. omega arith)) j || rest j)

none_is : (o : Option View) → is_some o ≡ false → o ≡ None
none_is None is = refl
none_is (Some v) is = absurd (true≢false is)

pub fresh : (m : Cells) → (h : ℕ) × (finite_map.get m h ≡ None)
fresh m =
    (above (finite_map.keys m), none_is (finite_map.get m (above (finite_map.keys m))) (contains_is m (above (finite_map.keys m)) ∙ finite_map.contains_key-keys m (above (finite_map.keys m)) ∙ none_above (finite_map.keys m) (above (finite_map.keys m)) (omega arith)))
  where
    contains_is : (n : Cells) (q : ℕ) → is_some (finite_map.get n q) ≡ finite_map.contains_key n q
    contains_is n q = refl

make_same : {v w : View} → Make v ≡ Make w → v ≡ w
make_same e = cc

fill_make : {slot : Slot} {v : View} {P : Type 0} → Fill slot ≡ Make v → P
fill_make e = absurd (cc)

plain_event : (o : Option Outcome) (b : _) → SlotOf o (Holds (Bare b)) → event o ≡ Some (Plain b)
plain_event None b is = blank_holds (sym is)
plain_event (Some Fault) b is = failed_holds (sym is.1)
plain_event (Some (Event (Plain v))) b is = ap (λ x. Some (Plain x)) (bare_same is)
  where
    bare_same : {x y : _} → Holds (Bare x) ≡ Holds (Bare y) → y ≡ x
    bare_same e = cc
plain_event (Some (Event v)) b is = absurd (bare_no_cell is.1)
  where
    bare_no_cell : {x : _} {h : ℕ} → Holds (Bare x) ≡ Holds (Cell h) → ⊥
    bare_no_cell e = absurd (cc)

module _ (s : System) (plan : Plan) (inputs : Inputs) (z : Streams) (t : ℕ) (last : ℕ → Option Held) (pend : ℕ → Option ℕ) (old : Cells) (given : Setting s inputs z t last pend) (between : Between s plan.in_place z t last old) (updates : (y : ℕ) (e : Equation) → Running s y e → IsTrue (is_in plan.in_place y) → IsTrue (is_update e.op)) where
  -- the register of an aggregate is empty or holds a cell
  source_ready : (rest : List ℕ) (c : Config) → Good s plan inputs z t last pend old given between rest c → (m : ℕ) → IsTrue (runs s m) → (Contains rest m → ⊥) → aggregate s m ≡ true → (value_in c m ≡ None) ⊎ ((h : ℕ) × (c.slots m ≡ Holds (Cell h)))
  source_ready rest c good m run gone typed = go (c.slots m) refl
    where
      go : (slot : Slot) → c.slots m ≡ slot → (value_in c m ≡ None) ⊎ ((h : ℕ) × (c.slots m ≡ Holds (Cell h)))
      go Blank is = inl (ap (λ x. option_and_then (view_of c.cells) (held x)) is)
      go (Failed kind) is = inl (ap (λ x. option_and_then (view_of c.cells) (held x)) is)
      go (Holds (Cell h)) is = inr (h, is)
      go (Holds (Bare b)) is =
          let all = given.proper.runs_all m run in
          let value = plain_event (z m t) b (subst (SlotOf (z m t)) is (good.mid.status m run gone)) in
          absurd (true≢false (sym typed ∙ ap is_aggregate_at all.1 ∙ sym (given.typed m all.0 (record { is = all.1; runs_too = run }) (Plain b) value)))

  module _ (rest : List ℕ) (c : Config) (good : Good s plan inputs z t last pend old given between rest c) (i : ℕ) (next : IsNext s plan.in_place z t last old (steps_of s) rest i) where
    IsThere : Op → List ℕ → ValueType → Type 0
    IsThere o args of = ((a : ℕ) → Contains (used_of o args) a → IsTrue (runs s a) × (Contains rest a → ⊥)) → (v : View) → effect_of inputs t c i o args of ≡ Make v → (h : ℕ) × (source_slot c args ≡ Holds (Cell h))

    cell_there : (u : Update) (m : ℕ) → IsTrue (runs s m) × (Contains rest m → ⊥) → aggregate s m ≡ true → (values : List (Option View)) (v : View) → made (update_answer u (value_in c m ∷ values)) ≡ Make v → (h : ℕ) × (c.slots m ≡ Holds (Cell h))
    cell_there u m done typed values v is = elim (source_ready rest c good m done.0 done.1 typed) [
      | inl none ↦ fill_make (sym (ap (λ x. made (update_answer u (x ∷ values))) none) ∙ is)
      | inr cell ↦ cell
    ]

    source_there : (o : Op) (args : List ℕ) (of : ValueType) → is_update o ≡ true → Fit s o args of → IsThere o args of
    unfolding IsThere
    source_there = each_update s IsThere (λ o u h m ks of fit done v is.
        cell_there u m (done m (used_first o u h m ks)) fit.source (map (value_in c) ks) v (sym (effect_update inputs t c i o u h (m ∷ ks) of) ∙ is))

    source_found : (o : Op) (args : List ℕ) (of : ValueType) → is_update o ≡ true → Fit s o args of → ((a : ℕ) → Contains (used_of o args) a → IsTrue (runs s a) × (Contains rest a → ⊥)) → (v : View) → effect_of inputs t c i o args of ≡ Make v → (h : ℕ) × (source_slot c args ≡ Holds (Cell h))
    unfolding IsThere
    source_found = source_there

    in_place_goes : (e : Equation) → Running s i e → is_in plan.in_place i ≡ true → (d : Config) × RanInPlace i e c (effect inputs t c i e) d
    in_place_goes e running listed = go (is_barred c e)
      where
        inside : (x : Effect) → effect_of inputs t c i e.op e.args e.of ≡ x → (d : Config) × RanInPlace i e c x d
        inside (Fill slot) is = (record c { slots = with c.slots i slot }, refl)
        inside (Make v) is =
            let found = source_found e.op e.args e.of (updates i e running listed) (given.fitting i e running) (done_args s plan inputs z t last pend old given between rest c good i next e running) v is in
            (record c { slots = with c.slots i (Holds (Cell found.0)); cells = finite_map.insert c.cells found.0 v }, (found.0, found.1, refl))

        go : (b : Bool) → (d : Config) × RanInPlace i e c (if b then Fill (Failed None) else effect_of inputs t c i e.op e.args e.of) d
        go true = (record c { slots = with c.slots i (Failed None) }, refl)
        go false = inside (effect_of inputs t c i e.op e.args e.of) refl

    run_goes : (e : Equation) → (x : Effect) → (d : Config) × Ran i e c x d
    run_goes e (Fill slot) = (record c { slots = with c.slots i slot }, refl)
    run_goes e (Make v) =
        let f = fresh c.cells in
        (record c { slots = with c.slots i (Holds (Cell (fresh c.cells).0)); cells = finite_map.insert c.cells (fresh c.cells).0 v; ledger = counted c i e }, ((fresh c.cells).0, (fresh c.cells).1, refl))

    pub step_goes : Contains (steps_of s) i → (d : Config) × Step inputs t s (step_instr s plan i) c d
    step_goes in_steps = elim (steps_cases s i in_steps) [
      | inl run ↦
          let found = below s plan inputs z t last pend old given between i run in
          subst (λ b. (d : Config) × Step inputs t s (if b then (if is_in plan.in_place i then RunInPlace i else Run i) else Print (i - length s.equations)) c d) (sym (lt-ltb i (length s.equations) found.2)) (equation_goes found.0 found.1 (is_in plan.in_place i) refl)
      | inr print ↦
          let high : length s.equations ≤ i = omega (arith, print.3) in
          subst (λ b. (d : Config) × Step inputs t s (if b then (if is_in plan.in_place i then RunInPlace i else Run i) else Print (i - length s.equations)) c d) (sym (le-ltb i (length s.equations) high)) (c, refl)
    ]
      where
        equation_goes : (e : Equation) → Running s i e → (b : Bool) → is_in plan.in_place i ≡ b → (d : Config) × Step inputs t s (if b then RunInPlace i else Run i) c d
        equation_goes e running true listed = let got = in_place_goes e running listed in (got.0, subst (λ q. OfEquation q (λ x. RanInPlace i x c (effect inputs t c i x) got.0)) (sym running.is) got.1)
        equation_goes e running false listed = let got = run_goes e (effect inputs t c i e) in (got.0, subst (λ q. OfEquation q (λ x. Ran i x c (effect inputs t c i x) got.0)) (sym running.is) got.1)

  -- the ending goes on from any configuration
  pub ending_goes : (tail : List Instr) → ((instr : Instr) → Contains tail instr → (c : Config) → (d : Config) × Step inputs t s instr c d) → (c : Config) → (d : Config) × Steps inputs t s tail c d
  ending_goes [] each c = (c, refl)
  ending_goes (instr ∷ tail) each c =
      let first = each instr (0, omega arith, refl) c in
      let rest = ending_goes tail (λ x found. each x (later instr x tail found)) first.0 in
      (rest.0, (first.0, first.1, rest.1))

  pub body_goes : (tail : List Instr) → ((instr : Instr) → Contains tail instr → (c : Config) → (d : Config) × Step inputs t s instr c d) → (order rest : List ℕ) (c : Config) → Agrees (StandsBefore s plan.in_place) rest order → ((x : ℕ) → Contains rest x → Contains (steps_of s) x) → Good s plan inputs z t last pend old given between rest c → (d : Config) × Steps inputs t s (map (step_instr s plan) order ++ tail) c d
  body_goes tail each [] rest c agrees steps good = ending_goes tail each c
  body_goes tail each (n ∷ order) rest c agrees steps good =
      let next : IsNext s plan.in_place z t last old (steps_of s) rest n = record { remains = agrees.0.remains; first = agrees.0.first } in
      let first = step_goes rest c good n next (steps n agrees.0.remains) in
      let good' = step_good s plan inputs z t last pend old given between rest c good n next first.0 (steps n agrees.0.remains) first.1 in
      let more = body_goes tail each order (without n rest) first.0 agrees.1 (λ x found. steps x (without-there n rest x found)) good' in
      (more.0, (first.0, first.1, more.1))
