-- What running an equation does keeps what holds within an instant.
use Rattle.std.proofs.Common.{◌≡◌, ℕ, Bool, true, false, not, ◌||◌, List, [], ◌∷◌, Option, Some, None, Ok, Err, is_some, refl, sym, ap, subst, ◌∙◌, inl, inr, Contains, IsTrue, option_map, option_and_then, map, arith}
use Rattle.std.specs.Prelude.{if◌then◌else◌, pos}
use Rattle.std.specs.Option.{option_or}
use Rattle.std.specs.List.{AllByRecursion, list_any}
use Rattle.std.proofs.Math.Bool.{true≢false}
use Rattle.std.specs.FinMap as finite_map
use Rattle.tsl_value.specs.View.{View, Plain}
use Rattle.tsl_value.specs.declared.scalar.ValueType.{ValueType}
use Rattle.tsl_value.specs.declared.scalar.Scalar.TheVariants as scalar
use Rattle.lift_func.specs.Apply.{Answer}
use Rattle.lift_func.specs.declared.fault.FaultKind.{FaultKind}
use Rattle.lift_func.specs.Update.{update_answer}
use Rattle.tsl_value.specs.declared.operation.Update.{Update}
use Rattle.flat_core.specs.declared.equation.Op.{Op}
use Rattle.flat_core.specs.declared.equation.Equation.{Equation}
use Rattle.flat_core.specs.Stream.{Outcome, Event, Fault, event, has_event, is_fault, latest}
use Rattle.flat_core.specs.Case.{Streams, own_of, used_of}
use Rattle.flat_core.specs.Events.{Inputs, at_once, outcome_of, expires, filtered, picked, unit, at_zero}
use Rattle.tsl_value.specs.Aggregate.{empty_of, is_aggregate, has_elements}
use Rattle.flat_core.specs.System.{System, runs, equation}
use Rattle.flat_core.specs.Members.{is_in}
use Rattle.flat_core.specs.Pending.{option_is}
use Rattle.flat_core.specs.declared.equation.Op.TheVariants as op
use Rattle.flat_core.specs.Updates.{update_in, is_update}
use Rattle.flat_core.proofs.Answered.{event_of_value}
use Rattle.flat_core.proofs.UpdateOps.{own_update}
use Rattle.tsl_value.proofs.Lists.{later}
use Rattle.alias_rules.specs.Uses.{passed_of, written_of, IsVariable, IsPassed, IsWritten, IsLast, IsRead}
use Rattle.alias_rules.specs.Roots.{begins_content, IsOrigin}
use Rattle.alias_rules.specs.Roots as roots
use Rattle.register_machine.proofs.Running.{Running}
use Rattle.register_machine.specs.Machine.{Held, Bare, Cell, Slot, Blank, Holds, Failed, Cells, Config, held, value_in, slot_of, slot_of_answer, fires, where_true, where_either, Effect, Fill, Make, made, effect_of, source_slot}
use Rattle.register_machine.proofs.Cells.{blank_holds, failed_holds, bare_cell}
use Rattle.register_machine.proofs.Reach.{IsEntered}
use Rattle.register_machine.proofs.Middle.{SlotOf, Mid, IsNext, Fills, holds_event}
use Rattle.register_machine.proofs.Moves.{Between, fills_bare, fills_passed, fills_last, fills_fresh, fills_in_place, held_spoiled, last_spoiled}
use Rattle.register_machine.proofs.Setting.{aggregate, Fit, FitIf, FitsUpdate, by_fit, Setting, fires_is, value_is, present_is, handed, map_same, no_variable, variable_too}
use Rattle.register_machine.proofs.UpdateEffects.{effect_update, used_each, used_first, written_first, begins_update, entered_update}
use Rattle.register_machine.proofs.Uses.{right_read, right_written, right_passed, right_last}

keyed_slot : (v : View) (h : ℕ) → has_elements v ≡ true → SlotOf (Some (Event v)) (Holds (Cell h))
keyed_slot (Plain v) h is = absurd (true≢false (sym is))
keyed_slot _ h is = (h, refl)

-- a scalar as it is held
abbrev plain_held : View → Option Held
plain_held (Plain v) = Some (Bare v)
plain_held _ = None

scalar_held : (o : Option Outcome) (slot : Slot) → SlotOf o slot → ((h : ℕ) → slot ≡ Holds (Cell h) → ⊥) → held slot ≡ option_and_then plain_held (event o)
scalar_held None slot is none = ap held is
scalar_held (Some Fault) slot is none = ap held is.1
scalar_held (Some (Event (Plain v))) slot is none = ap held is
scalar_held (Some (Event v)) slot is none = absurd (none is.0 is.1)

pub some_equation : {a b : Equation} → Some a ≡ Some b → a ≡ b
some_equation e = cc

module _ (s : System) (set : List ℕ) (inputs : Inputs) (z : Streams) (t : ℕ) (last : ℕ → Option Held) (pend : ℕ → Option ℕ) (old : Cells) (given : Setting s inputs z t last pend) (between : Between s set z t last old) (steps rest : List ℕ) (all_steps : (x : ℕ) → IsTrue (runs s x) → Contains steps x) (c : Config) (same_lasts : c.lasts ≡ last) (same_pending : c.pending ≡ pend) (m : Mid s set z t last old steps rest c.slots c.cells) (i : ℕ) (next : IsNext s set z t last old steps rest i) where
  abbrev pub Filling : Slot → Cells → Type 0
  Filling new after = Fills s set z t last old rest c.slots c.cells i new after

  -- an argument that has run
  abbrev pub IsDone : ℕ → Type 0
  IsDone a = IsTrue (runs s a) × (Contains rest a → ⊥)

  abbrev pub Fits : Bool → List ℕ → Effect → Type 0
  Fits b args (Fill new) = Filling new c.cells
  Fits false args (Make v) = (h : ℕ) → finite_map.get c.cells h ≡ None → Filling (Holds (Cell h)) (finite_map.insert c.cells h v)
  Fits true args (Make v) = (h : ℕ) → source_slot c args ≡ Holds (Cell h) → Filling (Holds (Cell h)) (finite_map.insert c.cells h v)

  bare : (new : Slot) → SlotOf (z i t) new → ((h : ℕ) → new ≡ Holds (Cell h) → ⊥) → Filling new c.cells
  bare new status none = fills_bare s set z t last old given.law between steps rest c.slots c.cells m i next new status none

  nothing : z i t ≡ None → Filling Blank c.cells
  nothing is = bare Blank (subst (λ o. SlotOf o Blank) (sym is) refl) (λ h. blank_holds)

  failing : (kind : FaultKind) → z i t ≡ Some Fault → Filling (Failed (Some kind)) c.cells
  failing kind is = bare (Failed (Some kind)) (subst (λ o. SlotOf o (Failed (Some kind))) (sym is) (Some kind, refl)) (λ h. failed_holds)

  answered : (answer : Answer) → z i t ≡ outcome_of answer → ((v : View) → event (z i t) ≡ Some v → has_elements v ≡ false) → Filling (slot_of_answer answer) c.cells
  answered (Ok None) is plain = nothing is
  answered (Ok (Some (Plain v))) is plain = bare (Holds (Bare v)) (subst (λ o. SlotOf o (Holds (Bare v))) (sym is) refl) (λ h. bare_cell)
  answered (Ok (Some v)) is plain = absurd (true≢false (plain v (ap event is)))
  answered (Err kind) is plain = failing kind is

  status_of : (a : ℕ) → IsDone a → SlotOf (z a t) (c.slots a)
  status_of a done = m.status a done.0 done.1

  not_root : (e : Equation) → equation s i ≡ Some e → begins_content e.op (is_in set i) ≡ false → IsOrigin s set i → ⊥
  not_root e is no_root root = true≢false (sym (sym (ap (λ d. begins_content d.op (is_in set i)) (some_equation (sym root.is ∙ is))) ∙ root.begins) ∙ no_root)

  -- a register handed on
  handed_on : (e : Equation) → Running s i e → (x : ℕ) → Contains (passed_of e.op e.args) x → IsDone x → IsEntered s set z t last old x e.op e.args → aggregate s x ≡ is_aggregate e.of → begins_content e.op (is_in set i) ≡ false → z i t ≡ outcome_of (Ok (event (z x t))) → Filling (slot_of (held (c.slots x))) c.cells
  handed_on e running x passed done entered typed no_root is = go (c.slots x) refl
    where
      status : (slot : Slot) → c.slots x ≡ slot → SlotOf (z i t) (slot_of (held slot))
      status slot same = subst (λ o. SlotOf o (slot_of (held slot))) (sym is) (handed (z x t) slot (subst (SlotOf (z x t)) same (status_of x done)))

      go : (slot : Slot) → c.slots x ≡ slot → Filling (slot_of (held slot)) c.cells
      go Blank same = bare Blank (status Blank same) (λ h. blank_holds)
      go (Failed kind) same = bare Blank (status (Failed kind) same) (λ h. blank_holds)
      go (Holds (Bare v)) same = bare (Holds (Bare v)) (status (Holds (Bare v)) same) (λ h. bare_cell)
      go (Holds (Cell h)) same =
          let variable = m.variable x h same in
          let takes : IsPassed s x i = record { at = e; is = running.is; running = running.runs_too; variable = variable; argument = passed } in
          let right = right_passed s set z t last old given.law steps rest all_steps c.slots c.cells m x h i same next.remains e running.is takes entered in
          fills_passed s set z t last old given.law between steps rest c.slots c.cells m i next x h same e running.is (roots.passed takes) entered (variable_too s x i e running variable typed) (not_root e running.is no_root) (status (Holds (Cell h)) same) (right ∙ sym (event_of_value (event (z x t))) ∙ sym (ap event is))

  no_cell : (a : ℕ) → aggregate s a ≡ false → (h : ℕ) → c.slots a ≡ Holds (Cell h) → ⊥
  no_cell a flat h holds = no_variable s a (m.variable a h holds) flat

  scalar_value : (a : ℕ) → IsDone a → aggregate s a ≡ false → value_in c a ≡ event (z a t)
  scalar_value a done flat = value_is c.cells (z a t) (c.slots a) (status_of a done) (λ h holds. absurd (no_cell a flat h holds))

  module _ (e0 : Equation) where
    abbrev pub mk : Op → List ℕ → ValueType → Equation
    mk o args of = record e0 { op = o; args = args; of = of }

    merge_fits : (a b : ℕ) (of : ValueType) → Running s i (mk op.Merge (a ∷ b ∷ []) of) → Fit s op.Merge (a ∷ b ∷ []) of → IsDone a → IsDone b → is_fault (z a t) ≡ false
        → z i t ≡ outcome_of (Ok (option_or (event (z a t)) (event (z b t)))) → Filling (slot_of (option_or (held (c.slots a)) (held (c.slots b)))) c.cells
    merge_fits a b of running fit done_a done_b sound is = go (event (z a t)) (held (c.slots a)) refl refl (fires_is (z a t) (c.slots a) (status_of a done_a))
      where
        e : Equation
        e = mk op.Merge (a ∷ b ∷ []) of

        go : (v : Option View) (k : Option Held) → event (z a t) ≡ v → held (c.slots a) ≡ k → is_some (held (c.slots a)) ≡ has_event (z a t) → Filling (slot_of (option_or (held (c.slots a)) (held (c.slots b)))) c.cells
        go (Some v) (Some k) ev he both =
            subst (λ x. Filling (slot_of x) c.cells) (he ∙ sym (ap (λ x. option_or x (held (c.slots b))) he))
            (handed_on (mk op.Merge (a ∷ b ∷ []) of) running a (0, omega arith, refl) done_a (inl refl) fit.0 refl (is ∙ ap (λ x. outcome_of (Ok (option_or x (event (z b t))))) ev ∙ sym (ap (λ x. outcome_of (Ok x)) ev)))
        go None None ev he both =
            subst (λ x. Filling (slot_of x) c.cells) (sym (ap (λ x. option_or x (held (c.slots b))) he))
            (handed_on (mk op.Merge (a ∷ b ∷ []) of) running b (1, omega arith, refl) done_b (inr (done_a.0, sound, ap is_some ev)) fit.1 refl (is ∙ ap (λ x. outcome_of (Ok (option_or x (event (z b t))))) ev))
        go (Some v) None ev he both = absurd (true≢false (sym (ap is_some ev) ∙ sym both ∙ ap is_some he))
        go None (Some k) ev he both = absurd (true≢false (sym (ap is_some he) ∙ both ∙ ap is_some ev))

    filter_fits : (x d : ℕ) (of : ValueType) → Running s i (mk op.Filter (x ∷ d ∷ []) of) → Fit s op.Filter (x ∷ d ∷ []) of → IsDone x → IsDone d
        → z i t ≡ outcome_of (Ok (filtered (event (z x t)) (event (z d t)))) → Filling (slot_of (where_true (held (c.slots d)) (held (c.slots x)))) c.cells
    filter_fits x d of running fit done_x done_d is =
        subst (λ k. Filling (slot_of (where_true k (held (c.slots x)))) c.cells) (sym (scalar_held (z d t) (c.slots d) (status_of d done_d) (no_cell d fit.1))) (go (event (z d t)) is)
      where
        go : (v : Option View) → z i t ≡ outcome_of (Ok (filtered (event (z x t)) v)) → Filling (slot_of (where_true (option_and_then plain_held v) (held (c.slots x)))) c.cells
        go (Some (Plain (scalar.Bool true))) is_v = handed_on (mk op.Filter (x ∷ d ∷ []) of) running x (0, omega arith, refl) done_x tt fit.0 refl is_v
        go _ is_v = nothing is_v

    pick_fits : (d a b : ℕ) (of : ValueType) → Running s i (mk op.Pick (d ∷ a ∷ b ∷ []) of) → Fit s op.Pick (d ∷ a ∷ b ∷ []) of → IsDone d → IsDone a → IsDone b
        → z i t ≡ outcome_of (Ok (picked (event (z d t)) (event (z a t)) (event (z b t)))) → Filling (slot_of (where_either (held (c.slots d)) (held (c.slots a)) (held (c.slots b)))) c.cells
    pick_fits d a b of running fit done_d done_a done_b is =
        subst (λ k. Filling (slot_of (where_either k (held (c.slots a)) (held (c.slots b)))) c.cells) (sym (scalar_held (z d t) (c.slots d) (status_of d done_d) (no_cell d fit.0))) (go (event (z d t)) is)
      where
        first : (va vb : Option View) (ka kb : Option Held) → event (z a t) ≡ va → held (c.slots a) ≡ ka → is_some ka ≡ is_some va → is_some kb ≡ is_some vb → z i t ≡ outcome_of (Ok (picked (Some (Plain (scalar.Bool true))) va vb)) → Filling (slot_of (where_either (Some (Bare (scalar.Bool true))) ka kb)) c.cells
        first (Some va) (Some vb) (Some ka) (Some kb) ea ha ba bb is_v = subst (λ x. Filling (slot_of x) c.cells) ha (handed_on (mk op.Pick (d ∷ a ∷ b ∷ []) of) running a (0, omega arith, refl) done_a tt fit.1 refl (is_v ∙ sym (ap (λ x. outcome_of (Ok x)) ea)))
        first None vb None kb ea ha ba bb is_v = nothing is_v
        first (Some va) None (Some ka) None ea ha ba bb is_v = nothing is_v
        first None vb (Some ka) kb ea ha ba bb is_v = absurd (true≢false ba)
        first (Some va) vb None kb ea ha ba bb is_v = absurd (true≢false (sym ba))
        first (Some va) None (Some ka) (Some kb) ea ha ba bb is_v = absurd (true≢false bb)
        first (Some va) (Some vb) (Some ka) None ea ha ba bb is_v = absurd (true≢false (sym bb))

        second : (va vb : Option View) (ka kb : Option Held) → event (z b t) ≡ vb → held (c.slots b) ≡ kb → is_some ka ≡ is_some va → is_some kb ≡ is_some vb → z i t ≡ outcome_of (Ok (picked (Some (Plain (scalar.Bool false))) va vb)) → Filling (slot_of (where_either (Some (Bare (scalar.Bool false))) ka kb)) c.cells
        second (Some va) (Some vb) (Some ka) (Some kb) eb hb ba bb is_v = subst (λ x. Filling (slot_of x) c.cells) hb (handed_on (mk op.Pick (d ∷ a ∷ b ∷ []) of) running b (1, omega arith, refl) done_b tt fit.2 refl (is_v ∙ sym (ap (λ x. outcome_of (Ok x)) eb)))
        second None vb None kb ea ha ba bb is_v = nothing is_v
        second (Some va) None (Some ka) None ea ha ba bb is_v = nothing is_v
        second None vb (Some ka) kb ea ha ba bb is_v = absurd (true≢false ba)
        second (Some va) vb None kb ea ha ba bb is_v = absurd (true≢false (sym ba))
        second (Some va) None (Some ka) (Some kb) ea ha ba bb is_v = absurd (true≢false bb)
        second (Some va) (Some vb) (Some ka) None ea ha ba bb is_v = absurd (true≢false (sym bb))

        there_a : is_some (held (c.slots a)) ≡ is_some (event (z a t))
        there_a = fires_is (z a t) (c.slots a) (status_of a done_a)

        there_b : is_some (held (c.slots b)) ≡ is_some (event (z b t))
        there_b = fires_is (z b t) (c.slots b) (status_of b done_b)

        go : (v : Option View) → z i t ≡ outcome_of (Ok (picked v (event (z a t)) (event (z b t)))) → Filling (slot_of (where_either (option_and_then plain_held v) (held (c.slots a)) (held (c.slots b)))) c.cells
        go (Some (Plain (scalar.Bool true))) is_v = first (event (z a t)) (event (z b t)) (held (c.slots a)) (held (c.slots b)) refl refl there_a there_b is_v
        go (Some (Plain (scalar.Bool false))) is_v = second (event (z a t)) (event (z b t)) (held (c.slots a)) (held (c.slots b)) refl refl there_a there_b is_v
        go _ is_v = nothing is_v

    -- a last
    last_fits : (v r : ℕ) (of : ValueType) → Running s i (mk op.Last (v ∷ r ∷ []) of) → Fit s op.Last (v ∷ r ∷ []) of → IsDone r
        → z i t ≡ outcome_of (Ok (if has_event (z r t) then latest (z v) t else None)) → Filling (if fires c r then slot_of (c.lasts v) else Blank) c.cells
    last_fits v r of running fit done_r is =
        subst (λ b. Filling (if b then slot_of (c.lasts v) else Blank) c.cells) (sym (fires_is (z r t) (c.slots r) (status_of r done_r))) (go (has_event (z r t)) is)
      where
        found : z i t ≡ outcome_of (Ok (latest (z v) t)) → (k : Option Held) → last v ≡ k → Filling (slot_of k) c.cells
        found is_v None same = nothing_more
          where
            status : SlotOf (z i t) Blank
            status = subst (λ o. SlotOf o Blank) (sym is_v) (subst (λ k. SlotOf (outcome_of (Ok (latest (z v) t))) (slot_of k)) same (given.lasts v i (mk op.Last (v ∷ r ∷ []) of) running (0, omega arith, refl)))

            nothing_more : Filling Blank c.cells
            nothing_more = bare Blank status (λ h. blank_holds)
        found is_v (Some (Bare x)) same = bare (Holds (Bare x)) (subst (λ o. SlotOf o (Holds (Bare x))) (sym is_v) (subst (λ k. SlotOf (outcome_of (Ok (latest (z v) t))) (slot_of k)) same (given.lasts v i (mk op.Last (v ∷ r ∷ []) of) running (0, omega arith, refl)))) (λ h. bare_cell)
        found is_v (Some (Cell h)) same =
            let status : SlotOf (z i t) (Holds (Cell h)) = subst (λ o. SlotOf o (Holds (Cell h))) (sym is_v) (subst (λ k. SlotOf (outcome_of (Ok (latest (z v) t))) (slot_of k)) same (given.lasts v i (mk op.Last (v ∷ r ∷ []) of) running (0, omega arith, refl))) in
            let variable_v = (between.stored v h same).taken.variable in
            let variable_i = variable_too s v i (mk op.Last (v ∷ r ∷ []) of) running variable_v fit in
            let takes : IsLast s v i = record { at = mk op.Last (v ∷ r ∷ []) of; is = running.is; running = running.runs_too; variable = variable_v; argument = (0, omega arith, refl) } in
            let root : IsOrigin s set i = record { variable = variable_i; at = mk op.Last (v ∷ r ∷ []) of; is = running.is; begins = refl } in
            let happens = holds_event (z i t) (Holds (Cell h)) (Cell h) status refl in
            let right = right_last s set z t last old given.law steps rest all_steps c.slots c.cells m v h i same next.remains running.runs_too happens takes root variable_i in
            fills_last s set z t last old given.law between steps rest c.slots c.cells m i next v h same takes root variable_i status (right ∙ sym (event_of_value (latest (z v) t)) ∙ sym (ap event is_v))

        go : (b : Bool) → z i t ≡ outcome_of (Ok (if b then latest (z v) t else None)) → Filling (if b then slot_of (c.lasts v) else Blank) c.cells
        go true is_v = subst (λ k. Filling (slot_of k) c.cells) (sym (λ k. same_lasts k v)) (found is_v (last v) refl)
        go false is_v = nothing is_v

    delay_fits : (b : Bool) → z i t ≡ outcome_of (Ok (if b then Some unit else None)) → Filling (if b then Holds (Bare scalar.Unit) else Blank) c.cells
    delay_fits true is = bare (Holds (Bare scalar.Unit)) (subst (λ o. SlotOf o (Holds (Bare scalar.Unit))) (sym is) refl) (λ h. bare_cell)
    delay_fits false is = nothing is

    -- a view in a new cell, or in that of the source
    value_here : (v : View) → z i t ≡ Some (Event v) → event (z i t) ≡ Some v
    value_here v is = ap event is

    status_cell : (v : View) (h : ℕ) → has_elements v ≡ true → z i t ≡ Some (Event v) → SlotOf (z i t) (Holds (Cell h))
    status_cell v h keyed is = subst (λ o. SlotOf o (Holds (Cell h))) (sym is) (keyed_slot v h keyed)

    empty_fits : (b : Bool) (of : ValueType) → Running s i (mk op.Empty [] of) → Fit s op.Empty [] of → (v : Option View) → z i t ≡ outcome_of (Ok v) → Fits b [] (made (Ok v))
    empty_fits b of running fit None is = nothing is
    empty_fits true of running fit (Some v) is = λ h none. blank_holds none
    empty_fits false of running fit (Some v) is =
        let e = mk op.Empty [] of in
        let keyed = given.typed i (mk op.Empty [] of) running v (value_here v is) ∙ fit in
        let variable : IsVariable s i = record { at = mk op.Empty [] of; is = running.is; running = running.runs_too; aggregate = fit } in
        λ h free. fills_fresh s set z t last old given.law between steps rest c.slots c.cells m i next h v free (record { variable = variable; at = mk op.Empty [] of; is = running.is; begins = refl }) variable (status_cell v h keyed is) (value_here v is)

    update_fits : (b : Bool) → is_in set i ≡ b → (o : Op) (x : ℕ) (ks : List ℕ) (of : ValueType) → Running s i (mk o (x ∷ ks) of) → is_aggregate of ≡ true → (begins_content o (is_in set i) ≡ not (is_in set i)) → Contains (written_of o (x ∷ ks)) x → IsEntered s set z t last old x o (x ∷ ks)
        → (answer : Answer) → z i t ≡ outcome_of answer → Fits b (x ∷ ks) (made answer)
    update_fits b listed o x ks of running typed root_is written entered (Ok None) is = nothing is
    update_fits b listed o x ks of running typed root_is written entered (Err kind) is = failing kind is
    update_fits false listed o x ks of running typed root_is written entered (Ok (Some v)) is =
        let keyed = given.typed i (mk o (x ∷ ks) of) running v (value_here v is) ∙ typed in
        let variable : IsVariable s i = record { at = mk o (x ∷ ks) of; is = running.is; running = running.runs_too; aggregate = typed } in
        λ h free. fills_fresh s set z t last old given.law between steps rest c.slots c.cells m i next h v free (record { variable = variable; at = mk o (x ∷ ks) of; is = running.is; begins = root_is ∙ ap not listed }) variable (status_cell v h keyed is) (value_here v is)
    update_fits true listed o x ks of running typed root_is written entered (Ok (Some v)) is =
        let keyed = given.typed i (mk o (x ∷ ks) of) running v (value_here v is) ∙ typed in
        let happens : has_event (z i t) ≡ true = ap is_some (value_here v is) in
        λ h held_x.
        let takes : IsWritten s x i = record { at = mk o (x ∷ ks) of; is = running.is; running = running.runs_too; variable = m.variable x h held_x; argument = written } in
        fills_in_place s set z t last old given.law between steps rest c.slots c.cells m i next x h v held_x (mk o (x ∷ ks) of) running.is listed takes entered (record { at = mk o (x ∷ ks) of; is = running.is; running = running.runs_too; aggregate = typed }) (not_root (mk o (x ∷ ks) of) running.is (root_is ∙ ap not listed)) (status_cell v h keyed is) (value_here v is) happens
        (λ y k held_y same. held_spoiled s set z t last old given.law between steps rest c.slots c.cells m i next listed running.runs_too happens x h held_x takes y (held_y ∙ ap (λ n. Holds (Cell n)) same))
        (λ w k held_w same. last_spoiled s set z t last old given.law between steps rest c.slots c.cells m i next listed running.runs_too happens x h held_x takes w (held_w ∙ ap (λ n. Some (Cell n)) same))

    -- the values of the arguments, where they are read; and else whether they are there
    pub read_values : (args : List ℕ) → ((a : ℕ) → Contains args a → IsDone a) → ((a : ℕ) → Contains args a → IsVariable s a → IsRead s a i) → map (value_in c) args ≡ map (λ a. event (z a t)) args
    read_values args done takes = map_same (value_in c) (λ a. event (z a t)) args (λ a found. value_is c.cells (z a t) (c.slots a) (status_of a (done a found)) (λ h holds. right_read s set z t last old given.law steps rest all_steps c.slots c.cells m a h i holds next.remains (takes a found (m.variable a h holds))))

    there : (a : ℕ) → IsDone a → is_some (value_in c a) ≡ is_some (event (z a t))
    there a done = present_is c.cells (z a t) (c.slots a) (status_of a done) (λ h holds. m.live a h holds)

    any_there : (args : List ℕ) → ((a : ℕ) → Contains args a → IsDone a) → list_any is_some (map (value_in c) args) ≡ list_any is_some (map (λ a. event (z a t)) args)
    any_there [] done = refl
    any_there (a ∷ args) done =
        let here = there a (done a (0, omega arith, refl)) in
        let in_rest = any_there args (λ b found. done b (in_more a b args found)) in
        λ k. here k || in_rest k
      where
        in_more : (x y : ℕ) (xs : List ℕ) → Contains xs y → Contains (x ∷ xs) y
        in_more = later

    pub source_value : (o : Op) (x : ℕ) (ks : List ℕ) (of : ValueType) → Running s i (mk o (x ∷ ks) of) → Contains (written_of o (x ∷ ks)) x → IsDone x → value_in c x ≡ event (z x t)
    source_value o x ks of running written done = value_is c.cells (z x t) (c.slots x) (status_of x done) (λ h holds. right_written s set z t last old given.law steps rest all_steps c.slots c.cells m x h i holds next.remains (record { at = mk o (x ∷ ks) of; is = running.is; running = running.runs_too; variable = m.variable x h holds; argument = written }))

    plain_if : (of : ValueType) (o : Op) (args : List ℕ) → Running s i (mk o args of) → is_aggregate of ≡ false → (v : View) → event (z i t) ≡ Some v → has_elements v ≡ false
    plain_if of o args running flat v is = given.typed i (mk o args of) running v is ∙ flat

    time_same : (x y : Option View) (v : View) → is_some x ≡ is_some y → option_map (λ _. v) x ≡ option_map (λ _. v) y
    time_same None None v same = refl
    time_same (Some x) (Some y) v same = refl
    time_same None (Some y) v same = absurd (true≢false (sym same))
    time_same (Some x) None v same = absurd (true≢false same)

    filled_by : (b : Bool) (args : List ℕ) (new : Slot) → Filling new c.cells → Fits b args (Fill new)
    filled_by b args new f = f

    -- the values of an update's arguments: its aggregate's, which is written, and those beside it
    pub update_values : (o : Op) (u : Update) → update_in o ≡ Some u → (x : ℕ) (ks : List ℕ) (of : ValueType) → Running s i (mk o (x ∷ ks) of) → FitsUpdate s x ks of → ((a : ℕ) → Contains (used_of o (x ∷ ks)) a → IsDone a) → map (value_in c) (x ∷ ks) ≡ map (λ a. event (z a t)) (x ∷ ks)
    update_values o u h x ks of running fit done =
        let first = source_value o x ks of running (written_first o u h x ks) (done x (used_first o u h x ks)) in
        let rest = scalar_values ks fit.others (λ a found. done a (used_each o u h (x ∷ ks) a (later x a ks found))) in
        λ j. first j ∷ rest j
      where
        scalar_values : (ks : List ℕ) → AllByRecursion (λ k. aggregate s k ≡ false) ks → ((a : ℕ) → Contains ks a → IsDone a) → map (value_in c) ks ≡ map (λ a. event (z a t)) ks
        scalar_values [] flat done = refl
        scalar_values (k ∷ ks) flat done =
            let here = scalar_value k (done k (0, omega arith, refl)) flat.0 in
            let rest = scalar_values ks flat.1 (λ a found. done a (later k a ks found)) in
            λ j. here j ∷ rest j

    update_own : (b : Bool) → is_in set i ≡ b → (o : Op) (u : Update) → update_in o ≡ Some u → (x : ℕ) (ks : List ℕ) (of : ValueType) → FitsUpdate s x ks of → Running s i (mk o (x ∷ ks) of) → ((a : ℕ) → Contains (used_of o (x ∷ ks)) a → IsDone a)
        → z i t ≡ outcome_of (own_of inputs z i o (x ∷ ks) of t) → Fits b (x ∷ ks) (effect_of inputs t c i o (x ∷ ks) of)
    update_own b listed o u h x ks of fit running done is =
        let values = update_values o u h x ks of running fit done in
        let own = own_update inputs z i o u h (x ∷ ks) of t in
        subst (Fits b (x ∷ ks)) (sym (effect_update inputs t c i o u h (x ∷ ks) of ∙ ap (λ vs. made (update_answer u vs)) values))
        (update_fits b listed o x ks of running fit.made (begins_update o u h (is_in set i)) (written_first o u h x ks) (entered_update s set z t last old o u h x (x ∷ ks)) (update_answer u (map (λ a. event (z a t)) (x ∷ ks))) (is ∙ ap outcome_of own))

    -- no operation but an update is fit by what an update asks
    others_fit : (b : Bool) → is_in set i ≡ b → (o : Op) (args : List ℕ) (of : ValueType) → Running s i (mk o args of) → FitIf s (is_update o) args of → ((a : ℕ) → Contains (used_of o args) a → IsDone a)
        → z i t ≡ outcome_of (own_of inputs z i o args of t) → Fits b args (effect_of inputs t c i o args of)
    others_fit b listed o args of running fit =
        by_fit s o of (λ args. Running s i (mk o args of) → ((a : ℕ) → Contains (used_of o args) a → IsDone a) → z i t ≡ outcome_of (own_of inputs z i o args of t) → Fits b args (effect_of inputs t c i o args of)) (λ u h x ks fits. update_own b listed o u h x ks of fits) args fit running

    -- the own case of each operation
    pub own_fits : (b : Bool) → is_in set i ≡ b → (o : Op) (args : List ℕ) (of : ValueType) → Running s i (mk o args of) → Fit s o args of → ((a : ℕ) → Contains (used_of o args) a → IsDone a) → ((a : ℕ) → Contains (used_of o args) a → is_fault (z a t) ≡ false)
        → z i t ≡ outcome_of (own_of inputs z i o args of t) → Fits b args (effect_of inputs t c i o args of)
    own_fits b listed op.Input [] of running fit done sound is = answered (Ok (inputs i t)) is (plain_if of op.Input [] running fit)
    own_fits b listed op.Nil [] of running fit done sound is = nothing is
    own_fits b listed op.Unit [] of running fit done sound is = answered (Ok (at_zero t unit)) is (plain_if of op.Unit [] running fit)
    own_fits b listed op.Empty [] of running fit done sound is = empty_fits b of running fit (at_zero t (empty_of of)) is
    own_fits b listed (op.Lift body strict) args of running fit done sound is =
        let values = read_values args done (λ a found variable. record { at = mk (op.Lift body strict) args of; is = running.is; running = running.runs_too; variable = variable; argument = found }) in
        subst (λ vs. Fits b args (Fill (slot_of_answer (at_once (op.Lift body strict) of vs t)))) (sym values) (answered (at_once (op.Lift body strict) of (map (λ a. event (z a t)) args) t) is (plain_if of (op.Lift body strict) args running fit))
    own_fits b listed op.Any args of running fit done sound is =
        subst (λ q. Fits b args (Fill (slot_of_answer (Ok (if q then Some unit else None))))) (sym (any_there args done)) (answered (Ok (if list_any is_some (map (λ a. event (z a t)) args) then Some unit else None)) is (plain_if of op.Any args running fit))
    own_fits b listed op.Time (a ∷ []) of running fit done sound is =
        subst (λ x. Fits b (a ∷ []) (Fill (slot_of_answer (Ok x)))) (sym (time_same (value_in c a) (event (z a t)) (Plain (scalar.Int (pos t))) (there a (done a (0, omega arith, refl)))))
        (answered (Ok (option_map (λ _. Plain (scalar.Int (pos t))) (event (z a t)))) is (plain_if of op.Time (a ∷ []) running fit))
    own_fits b listed op.Last (v ∷ r ∷ []) of running fit done sound is = last_fits v r of running fit (done r (0, omega arith, refl)) is
    own_fits b listed op.Delay (d ∷ r ∷ []) of running fit done sound is =
        subst (λ q. Fits b (d ∷ r ∷ []) (Fill (if q then Holds (Bare scalar.Unit) else Blank))) (sym (ap (option_is t) (λ k. same_pending k i) ∙ given.pending i d r (mk op.Delay (d ∷ r ∷ []) of) running refl refl)) (delay_fits (expires (z d) (z r) (z i) t) is)
    own_fits b listed op.Merge (x ∷ y ∷ []) of running fit done sound is = merge_fits x y of running fit (done x (0, omega arith, refl)) (done y (1, omega arith, refl)) (sound x (0, omega arith, refl)) is
    own_fits b listed op.Filter (x ∷ d ∷ []) of running fit done sound is = filter_fits x d of running fit (done x (0, omega arith, refl)) (done d (1, omega arith, refl)) is
    own_fits b listed op.Pick (d ∷ x ∷ y ∷ []) of running fit done sound is = pick_fits d x y of running fit (done d (0, omega arith, refl)) (done x (1, omega arith, refl)) (done y (2, omega arith, refl)) is
    own_fits b listed o args of running fit done sound is = others_fit b listed o args of running fit done is
