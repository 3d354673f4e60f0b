-- The ledger after an instant is the number of elements that updates outside the set have copied.
use Rattle.std.proofs.Common.{◌≡◌, ℕ, suc, ◌+◌, ◌-◌, ◌^◌, ◌≤◌, min, Bool, true, false, List, [], ◌∷◌, Option, Some, None, Ok, Err, is_some, refl, sym, ap, subst, ◌∙◌, inl, inr, Contains, IsTrue, map, arith, length}
use Rattle.std.specs.Prelude.{if◌then◌else◌}
use Rattle.std.proofs.lemmas.Bool.{cases_eq, lt-ltb, le-ltb}
use Rattle.tsl_value.specs.View.{View}
use Rattle.lift_func.specs.Apply.{Answer}
use Rattle.lift_func.specs.Update.{update_answer}
use Rattle.tsl_value.specs.declared.scalar.ValueType.{ValueType}
use Rattle.flat_core.specs.declared.equation.Op.{Op}
use Rattle.flat_core.specs.declared.equation.Equation.{Equation}
use Rattle.flat_core.specs.Stream.{event, has_event}
use Rattle.flat_core.specs.Case.{Streams, used_of}
use Rattle.flat_core.specs.Events.{Inputs}
use Rattle.flat_core.specs.System.{System, runs}
use Rattle.flat_core.specs.Members.{is_in}
use Rattle.flat_core.specs.declared.equation.Op.TheVariants as op
use Rattle.flat_core.specs.Updates.{is_update}
use Rattle.alias_rules.specs.Uses.{written_of}
use Rattle.alias_rules.specs.Conflict.{StandsBefore}
use Rattle.register_machine.specs.Run.{Plan, step_instr}
use Rattle.register_machine.specs.Copied.{size_at, copied_at, args_of, total_copied, copied}
use Rattle.register_machine.proofs.Running.{Running}
use Rattle.register_machine.proofs.Orders.{Agrees, steps_of, steps_cases, all_steps}
use Rattle.register_machine.specs.Machine.{Run, RunInPlace, Print, Held, Cell, Slot, Holds, Failed, Cells, Config, held, is_barred, value_in, Effect, Fill, Make, made, with, effect_of, effect, source_size, Ran, RanInPlace, OfEquation, Step, Steps}
use Rattle.register_machine.proofs.Cells.{with-here, with-there, without, without-there, without-other, without-keeps}
use Rattle.register_machine.proofs.Middle.{SlotOf, IsNext}
use Rattle.register_machine.proofs.Moves.{Between}
use Rattle.register_machine.proofs.UpdateEffects.{effect_update, used_first, written_first}
use Rattle.register_machine.proofs.Setting.{each_update, Fit, Setting, fires_is}
use Rattle.register_machine.proofs.Effects.{some_equation, source_value}
use Rattle.register_machine.proofs.Steps.{Good, below, done_args, step_good}
use Rattle.register_machine.proofs.FailedKinds.{fill_same}

made_blank : (answer : Answer) (new : Slot) → made answer ≡ Fill new → held new ≡ None
made_blank (Ok None) new is = ap held (fill_same (sym is))
made_blank (Err kind) new is = ap held (fill_same (sym is))
made_blank (Ok (Some v)) new is = absurd (make_fill is)
  where
    make_fill : {x : View} {y : Slot} → Make x ≡ Fill y → ⊥
    make_fill e = absurd (cc)

capped_sum : (total more cap : ℕ) → min (min total cap + more) cap ≡ min (total + more) cap
capped_sum total more cap = omega arith

module _ (s : System) (plan : Plan) (inputs : Inputs) (z : Streams) (t : ℕ) (last : ℕ → Option Held) (pend : ℕ → Option ℕ) (old : Cells) (given : Setting s inputs z t last pend) (between : Between s plan.in_place z t last old) where
  -- the ledger while these steps remain
  pub record Counts (rest : List ℕ) (c : Config) : Type 0 where
    pub before : (u : ℕ) (e : Equation) → Running s u e → is_update e.op ≡ true → Contains rest u → c.ledger u ≡ copied s plan.in_place z u t
    pub after : (u : ℕ) (e : Equation) → Running s u e → is_update e.op ≡ true → (Contains rest u → ⊥) → c.ledger u ≡ copied s plan.in_place z u (suc t)

  module _ (rest : List ℕ) (c : Config) (good : Good s plan inputs z t last pend old given between rest c) (i : ℕ) (next : IsNext s plan.in_place z t last old (steps_of s) rest i) (d : Config) (good' : Good s plan inputs z t last pend old given between (without i rest) d) where
    status' : IsTrue (runs s i) → SlotOf (z i t) (d.slots i)
    status' run = good'.mid.status i run (λ r. without-other i rest i r refl)

    -- an update that fills its register alone has no event
    update_blank : (o : Op) (args : List ℕ) (of : ValueType) → is_update o ≡ true → Fit s o args of → (new : Slot) → effect_of inputs t c i o args of ≡ Fill new → held new ≡ None
    update_blank = each_update s (λ o args of. (new : Slot) → effect_of inputs t c i o args of ≡ Fill new → held new ≡ None)
        (λ o u h m ks of fit new is. made_blank (update_answer u (map (value_in c) (m ∷ ks))) new (sym (effect_update inputs t c i o u h (m ∷ ks) of) ∙ is))

    fill_blank : (e : Equation) → Running s i e → is_update e.op ≡ true → (new : Slot) → effect inputs t c i e ≡ Fill new → held new ≡ None
    fill_blank e running update new is = go (is_barred c e) is
      where
        go : (b : Bool) → (if b then Fill (Failed None) else effect_of inputs t c i e.op e.args e.of) ≡ Fill new → held new ≡ None
        go true is_b = ap held (fill_same (sym is_b))
        go false is_b = update_blank e.op e.args e.of update (given.fitting i e running) new is_b

    no_event : (e : Equation) → Running s i e → (new : Slot) → held new ≡ None → d.slots i ≡ new → has_event (z i t) ≡ false
    no_event e running new none is = sym (fires_is (z i t) (d.slots i) (status' running.runs_too)) ∙ ap (λ x. is_some (held x)) is ∙ ap is_some none

    -- the size of the source is that of its value
    size_is : (e : Equation) → Running s i e → is_update e.op ≡ true → has_event (z i t) ≡ true → source_size c e.args ≡ copied_at z i e.args t
    size_is e running update happens = go e.op e.args e.of update (given.fitting i e running) refl refl
      where
        source : (o : Op) (m : ℕ) (ks : List ℕ) → e.op ≡ o → e.args ≡ m ∷ ks → Contains (written_of o (m ∷ ks)) m → Contains (used_of o (m ∷ ks)) m → source_size c e.args ≡ copied_at z i e.args t
        source o m ks is_op is_args written used =
            let done = done_args s plan inputs z t last pend old given between rest c good i next e running m (subst (λ l. Contains (used_of e.op l) m) (sym is_args) (subst (λ q. Contains (used_of q (m ∷ ks)) m) (sym is_op) used)) in
            let running' : Running s i (record e { op = o; args = m ∷ ks }) = subst (Running s i) (λ k. record e { op = is_op k; args = is_args k }) running in
            let value = source_value s plan.in_place inputs z t last pend old given between (steps_of s) rest (all_steps s) c good.lasts good.pending good.mid i next e o m ks e.of running' written done in
            ap (source_size c) is_args ∙ ap size_at value ∙ sym (λ k. if happens k then size_at (event (z m t)) else 0) ∙ sym (ap (λ l. copied_at z i l t) is_args)

        go : (o : Op) (args : List ℕ) (of : ValueType) → is_update o ≡ true → Fit s o args of → e.op ≡ o → e.args ≡ args → source_size c e.args ≡ copied_at z i e.args t
        go = each_update s (λ o args of. e.op ≡ o → e.args ≡ args → source_size c e.args ≡ copied_at z i e.args t)
            (λ o u h m ks of fit is_op is_args. source o m ks is_op is_args (written_first o u h m ks) (used_first o u h m ks))

    copied_zero : (args : List ℕ) → has_event (z i t) ≡ false → copied_at z i args t ≡ 0
    copied_zero [] none = refl
    copied_zero (m ∷ args) none = λ k. if none k then size_at (event (z m t)) else 0

    -- one more time
    copied_on : (e : Equation) → Running s i e → is_in plan.in_place i ≡ false → copied s plan.in_place z i (suc t) ≡ min (copied s plan.in_place z i t + copied_at z i e.args t) (2 ^ 64 - 1)
    copied_on e running listed =
        (λ k. if listed k then 0 else min (total_copied s z i t + copied_at z i (args_of (running.is k)) t) (2 ^ 64 - 1))
        ∙ sym (capped_sum (total_copied s z i t) (copied_at z i e.args t) (2 ^ 64 - 1))
        ∙ sym (λ k. min ((if listed k then 0 else min (total_copied s z i t) (2 ^ 64 - 1)) + copied_at z i e.args t) (2 ^ 64 - 1))

    copied_capped : copied s plan.in_place z i t ≤ 2 ^ 64 - 1
    copied_capped = go (is_in plan.in_place i)
      where
        go : (b : Bool) → (if b then 0 else min (total_copied s z i t) (2 ^ 64 - 1)) ≤ 2 ^ 64 - 1
        go true = omega arith
        go false = omega arith

    ran_here : (e : Equation) → Running s i e → is_update e.op ≡ true → is_in plan.in_place i ≡ false → Ran i e c (effect inputs t c i e) d → c.ledger i ≡ copied s plan.in_place z i t → d.ledger i ≡ copied s plan.in_place z i (suc t)
    ran_here e running update listed ran before = go (effect inputs t c i e) refl ran
      where
        go : (x : Effect) → effect inputs t c i e ≡ x → Ran i e c x d → d.ledger i ≡ copied s plan.in_place z i (suc t)
        go (Fill new) is ran_x =
            let none = no_event e running new (fill_blank e running update new is) (ap (λ q. q.slots i) ran_x ∙ with-here c.slots i new) in
            let zero_more = copied_zero e.args none in
            let cap = copied_capped in
            let on = copied_on e running listed in
            ap (λ q. q.ledger i) ran_x ∙ before ∙ sum_zero (copied s plan.in_place z i t) (copied_at z i e.args t) zero_more cap ∙ sym on
          where
            sum_zero : (n m : ℕ) → m ≡ 0 → n ≤ 2 ^ 64 - 1 → n ≡ min (n + m) (2 ^ 64 - 1)
            sum_zero n m is_zero le = omega arith
        go (Make v) is ran_x =
            let happens : has_event (z i t) ≡ true = sym (fires_is (z i t) (d.slots i) (status' running.runs_too)) ∙ ap (λ q. is_some (held (q.slots i))) ran_x.2 ∙ ap (λ q. is_some (held q)) (with-here c.slots i (Holds (Cell ran_x.0))) in
            ap (λ q. q.ledger i) ran_x.2
            ∙ (λ k. (if update k then with c.ledger i (min (c.ledger i + source_size c e.args) (2 ^ 64 - 1)) else c.ledger) i)
            ∙ with-here c.ledger i (min (c.ledger i + source_size c e.args) (2 ^ 64 - 1))
            ∙ (λ k. min (before k + size_is e running update happens k) (2 ^ 64 - 1))
            ∙ sym (copied_on e running listed)

    ran_other : (e : Equation) (x : Effect) → Ran i e c x d → (u : ℕ) → (u ≡ i → ⊥) → d.ledger u ≡ c.ledger u
    ran_other e (Fill new) ran u other = ap (λ q. q.ledger u) ran
    ran_other e (Make v) ran u other = ap (λ q. q.ledger u) ran.2 ∙ go (is_update e.op)
      where
        go : (b : Bool) → (if b then with c.ledger i (min (c.ledger i + source_size c e.args) (2 ^ 64 - 1)) else c.ledger) u ≡ c.ledger u
        go true = with-there c.ledger i (min (c.ledger i + source_size c e.args) (2 ^ 64 - 1)) u other
        go false = refl

    in_place_same : (e : Equation) (x : Effect) → RanInPlace i e c x d → d.ledger ≡ c.ledger
    in_place_same e (Fill new) ran = ap (λ q. q.ledger) ran
    in_place_same e (Make v) ran = ap (λ q. q.ledger) ran.2

    copied_listed : is_in plan.in_place i ≡ true → copied s plan.in_place z i t ≡ copied s plan.in_place z i (suc t)
    copied_listed listed = (λ k. if listed k then 0 else min (total_copied s z i t) (2 ^ 64 - 1)) ∙ sym (λ k. if listed k then 0 else min (total_copied s z i (suc t)) (2 ^ 64 - 1))

    -- the ledger of another is as it was, and that of an update that ran has one more time
    ledger_step : Contains (steps_of s) i → Step inputs t s (step_instr s plan i) c d
        → ((u : ℕ) → IsTrue (runs s u) → (u ≡ i → ⊥) → d.ledger u ≡ c.ledger u)
        × ((e : Equation) → Running s i e → is_update e.op ≡ true → c.ledger i ≡ copied s plan.in_place z i t → d.ledger i ≡ copied s plan.in_place z i (suc t))
    ledger_step in_steps stepped = elim (steps_cases s i in_steps) [
      | inl run ↦
          let found = below s plan inputs z t last pend old given between i run in
          equation_step found.0 found.1 (is_in plan.in_place i) refl (subst (λ b. Step inputs t s (if b then (if is_in plan.in_place i then RunInPlace i else Run i) else Print (i - length s.equations)) c d) (lt-ltb i (length s.equations) found.2) stepped)
      | inr print ↦
          let high : length s.equations ≤ i = omega (arith, print.3) in
          let is : d ≡ c = subst (λ b. Step inputs t s (if b then (if is_in plan.in_place i then RunInPlace i else Run i) else Print (i - length s.equations)) c d) (le-ltb i (length s.equations) high) stepped in
          (λ u run other. ap (λ q. q.ledger u) is, λ e running update before. let low = (below s plan inputs z t last pend old given between i running.runs_too).2 in absurd (omega arith))
    ]
      where
        Result : Type 0
        Result = ((u : ℕ) → IsTrue (runs s u) → (u ≡ i → ⊥) → d.ledger u ≡ c.ledger u)
            × ((e : Equation) → Running s i e → is_update e.op ≡ true → c.ledger i ≡ copied s plan.in_place z i t → d.ledger i ≡ copied s plan.in_place z i (suc t))

        equation_step : (e : Equation) → Running s i e → (b : Bool) → is_in plan.in_place i ≡ b → Step inputs t s (if is_in plan.in_place i then RunInPlace i else Run i) c d → Result
        equation_step e running true listed st =
            let ran = subst (λ q. OfEquation q (λ x. RanInPlace i x c (effect inputs t c i x) d)) running.is (subst (λ b. Step inputs t s (if b then RunInPlace i else Run i) c d) listed st) in
            let same = in_place_same e (effect inputs t c i e) ran in
            (λ u run other k. same k u, λ x running_x update before. (λ k. same k i) ∙ before ∙ copied_listed listed)
        equation_step e running false listed st =
            let ran = subst (λ q. OfEquation q (λ x. Ran i x c (effect inputs t c i x) d)) running.is (subst (λ b. Step inputs t s (if b then RunInPlace i else Run i) c d) listed st) in (
              λ u run other. ran_other e (effect inputs t c i e) ran u other,
              λ x running_x update before. ran_here e running (subst (λ q. is_update q.op ≡ true) (some_equation (sym running_x.is ∙ running.is)) update) listed ran before,
            )

    pub counts_step : Counts rest c → Contains (steps_of s) i → Step inputs t s (step_instr s plan i) c d → Counts (without i rest) d
    counts_step counts in_steps stepped =
        let got = ledger_step in_steps stepped in
        record {
          before = λ u e running update remains. got.0 u running.runs_too (without-other i rest u remains) ∙ counts.before u e running update (without-there i rest u remains);
          after = λ u e running update gone. elim (cases_eq u i) [
            | inl is ↦
                let running_i : Running s i e = subst (λ n. Running s n e) is running in
                subst (λ n. d.ledger n ≡ copied s plan.in_place z n (suc t)) (sym is) (got.1 e running_i update (counts.before i e running_i update next.remains))
            | inr other ↦ got.0 u running.runs_too other ∙ counts.after u e running update (λ r. gone (without-keeps i rest u r other))
          ];
        }

  -- over the body of an instant
  pub counts_body : (order rest : List ℕ) (c d : Config) → Agrees (StandsBefore s plan.in_place) rest order → ((x : ℕ) → Contains rest x → Contains (steps_of s) x) → Good s plan inputs z t last pend old given between rest c → Counts rest c → Steps inputs t s (map (step_instr s plan) order) c d → Counts [] d
  counts_body [] rest c d agrees steps good counts st = subst (Counts []) (sym st) (subst (λ r. Counts r c) agrees counts)
  counts_body (n ∷ order) rest c d agrees steps good counts st =
      let next : IsNext s plan.in_place z t last old (steps_of s) rest n = record { remains = agrees.0.remains; first = agrees.0.first } in
      let good' = step_good s plan inputs z t last pend old given between rest c good n next st.0 (steps n agrees.0.remains) st.1 in
      counts_body order (without n rest) st.0 d agrees.1 (λ x found. steps x (without-there n rest x found)) good' (counts_step rest c good n next st.0 good' counts (steps n agrees.0.remains) st.1) st.2
