use Rattle.std.proofs.Common.{◌≡◌, ◌<◌, length, refl, sym, ap, subst, ◌∙◌}
use Rattle.std.proofs.lemmas.List.{length-set, with_items_is}
use Rattle.std.specs.List.{All}
use Rattle.std.specs.Prelude.{slice_set}
use Rattle.flat_core.specs.Members.{is_in}
use Rattle.flat_core.proofs.Shapes.{args_there, shape_of}
use Rattle.monitor_run.specs.declared.machine.Machine.{Machine}
use Rattle.monitor_run.specs.inner.Here.{TakesTyped, handed_of}
use Rattle.monitor_run.specs.inner.Instant.{was_given, was_barred}
use Rattle.monitor_run.specs.inner.Actions.{IsActionOf}
use Rattle.flat_core.proofs.Finished.{equation_there}
use Rattle.monitor_run.proofs.ActionLemmas.{given_unblocked, hands, ran_handed, same_args}
use Rattle.monitor_run.proofs.run.run_action.Goals as goal

pub returns-then-bar-clause-ran : goal.returns-then-bar-clause-ran
returns-then-bar-clause-ran c = λ e is.
    let blocked = sym (c.bar.ensures.blocked e is) ∙ c.if-bar.true in
    let barred = c.bar.ensures.barred c.if-bar.true in
    was_barred (given_unblocked c.args.machine.now.faulted.items e.op e.args (shape_of c.args.flat.now c.requires.whole c.args.id e is) blocked) blocked barred.registers barred.faulted barred.store

pub run_own-requires-clause-shape : goal.run_own-requires-clause-shape
run_own-requires-clause-shape c = shape_of c.args.flat.now c.requires.whole c.args.id c.equation.result.now c.equation.ensures

pub run_own-requires-clause-registers_known : goal.run_own-requires-clause-registers_known
run_own-requires-clause-registers_known c = args_there c.args.flat.now c.args.id c.equation.result.now _ c.requires.whole c.equation.ensures (c.bar.ensures.same.registers_each ∙ c.requires.room.registers)

pub run_own-requires-clause-typed : goal.run_own-requires-clause-typed
run_own-requires-clause-typed c =
    let e = c.equation.result.now in
    let own = subst (λ a. IsActionOf a e.op e.args) c.in-Own.is (c.requires.action e c.equation.ensures) in
    subst (λ (m : Machine). TakesTyped m.store.cells m.registers.items e) (sym (c.bar.ensures.unbarred c.if-bar.false)) (c.requires.typed e c.equation.ensures own.0 own.1)

pub run_own-requires-clause-other : goal.run_own-requires-clause-other
run_own-requires-clause-other c = (subst (λ a. IsActionOf a c.equation.result.now.op c.equation.result.now.args) c.in-Own.is (c.requires.action c.equation.result.now c.equation.ensures)).0

pub run_own-requires-clause-own : goal.run_own-requires-clause-own
run_own-requires-clause-own c = (subst (λ a. IsActionOf a c.equation.result.now.op c.equation.result.now.args) c.in-Own.is (c.requires.action c.equation.result.now c.equation.ensures)).1

pub hand_by-requires : goal.hand_by-requires
hand_by-requires c =
    let s = c.args.flat.now in
    let found = equation_there s.equations c.args.id c.requires.there in
    let size : length c.deref_mut.result.now ≡ length s.equations = ap length c.deref_mut.ensures.value ∙ c.bar.ensures.same.registers_each ∙ c.requires.room.registers in
    record {
      known = λ o args acts.
          subst (All (λ a. a < length c.deref_mut.result.now)) (sym (same_args c.args.action c.in_default.not-Given c.in_default.not-Own found.0.op o found.0.args args (c.requires.action found.0 found.1) acts))
          (args_there s c.args.id found.0 _ c.requires.whole found.1 size);
      one_each = ap length c.deref.ensures.value ∙ ap length c.bar.ensures.same.last ∙ c.requires.room.last ∙ sym size;
      place = subst (λ n. n < length c.deref_mut.result.now) (sym c.get.ensures) (subst (λ n. c.args.id < n) (sym size) c.requires.there);
    }

pub returns-in-Given-clause-ran : goal.returns-in-Given-clause-ran
returns-in-Given-clause-ran c = λ e is. was_given (subst (λ a. IsActionOf a e.op e.args) c.in-Given.is (c.requires.action e is)) (c.bar.ensures.unbarred c.if-bar.false)

pub returns-in_ok-hand_by-in_default : goal.returns-in_ok-hand_by-in_default
returns-in_ok-hand_by-in_default c =
    let s = c.args.flat.now in
    let old = c.bar.new.machine in
    let found = equation_there s.equations c.args.id c.requires.there in
    let acts = c.requires.action found.0 found.1 in
    let handed = c.in_ok-hand_by-in_default.ensures in
    let one = handed found.0.op found.0.args acts (hands c.args.action c.in_default.not-Given c.in_default.not-Own found.0.op found.0.args acts).0 in
    let each : length c.hand_by.new.registers ≡ length c.deref_mut.result.now = ap length one.1 ∙ length-set c.deref_mut.result.now c.get.result one.0 in
    let items = with_items_is old.registers c.hand_by.new.registers (each ∙ c.deref_mut.ensures.len) in
    let beside = c.bar.ensures.same in
    record {
      same = record {
        timers = beside.timers;
        last = beside.last;
        registers_each = ap length items ∙ each ∙ ap length c.deref_mut.ensures.value ∙ beside.registers_each;
        faulted_each = beside.faulted_each;
        ledger_each = beside.ledger_each;
        texts_each = beside.texts_each;
      };
      texts = c.bar.ensures.texts;
      ran = ran_handed s c.requires.whole (is_in c.args.in_place.now c.args.id) c.args.time c.args.id c.args.action c.in_default.not-Given c.in_default.not-Own c.requires.action
          c.args.machine.now old _ (c.bar.ensures.unbarred c.if-bar.false) (λ e is. sym (c.bar.ensures.blocked e is) ∙ c.if-bar.false)
          (λ o args does on.
          let r = handed o args does on in
          (r.0, items ∙ r.1 ∙ (λ k. slice_set (c.deref_mut.ensures.value k) (c.get.ensures k) r.0), r.2 ∙ (λ k. handed_of (c.deref_mut.ensures.value k) (c.deref.ensures.value k) o args)))
          refl refl;
    }
