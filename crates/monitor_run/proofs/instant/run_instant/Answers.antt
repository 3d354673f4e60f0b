use Rattle.std.proofs.Common.{◌≡◌, ℕ, None, sym, ap, subst, ◌∙◌}
use Rattle.std.specs.Prelude.{not}
use Rattle.std.specs.Vec.{with_items}
use Rattle.flat_core.specs.System.{System}
use Rattle.tsl_value.specs.declared.scalar.ValueType.{ValueType}
use Rattle.register_machine.specs.Run.{Plan}
use Rattle.monitor_run.specs.inner.Instant.{AreBare, AreListed, HasEnded, HasRunRegisters}
use Rattle.monitor_run.specs.inner.Here.{is_marked}
use Rattle.monitor_run.specs.inner.Machine.{AreUnmarked, HasRoom, printed_to}
use Rattle.monitor_run.specs.inner.Registers.{AreHeld}
use Rattle.monitor_run.specs.inner.Shown.{plan_in}
use Rattle.monitor_run.proofs.BareLemmas.{listed_on}
use Rattle.monitor_run.proofs.EventLemmas.{on_err}
use Rattle.monitor_run.proofs.PrintedInstant.{all_appended, has_run_to, instant_ended, instant_faulted, part_appended}
use Rattle.monitor_run.proofs.instant.run_instant.Goals as goal
use Rattle.monitor_run.proofs.instant.run_instant.Goals.{then-is_none+in_ok-append_rest+in_ok-end, else-is_none}

pub returns-in_err-append_rest-clause-err : goal.returns-in_err-append_rest-clause-err
returns-in_err-append_rest-clause-err c =
    let plan : Plan = record { in_place = c.args.code.now.in_place; order = c.args.code.now.order } in
    let run = has_run_to c.args.code.now.system _ plan _ _ _ _ _ _ _ _ _ _ c.flat.ensures.flat c.plan.ensures.in_place c.plan.ensures.order
    c.in-Ok.ensures.ran c.run_registers.ensures.room c.run_registers.ensures.can c.run_registers.ensures.front c.start_of-at_once.ensures.front in
    on_err c.from_residual.result _ (part_appended _ _ _ _ _ _ _ _ _ _ run _ c.deref_mut.ensures.value _ c.in_err-append_rest.ensures.err)

pub end-requires-clause-held : goal.end-requires-clause-held
end-requires-clause-held c =
    let ran = c.in-Ok.ensures.ran in
    let m = c.run_registers.new.machine in
    subst (λ (q : System). (types : ℕ → ValueType) × AreHeld q types m.store.cells m.registers.items × AreHeld q types m.store.cells m.last.items) (c.flat.ensures.flat ∙ sym c.flat-then-is_none.ensures.flat) (ran.types, ran.held, ran.last)

pub end-requires-clause-listed : goal.end-requires-clause-listed
end-requires-clause-listed c =
    let m = c.run_registers.new.machine in
    let plan = plan_in c.plan.result.now in
    let ran = subst (λ (q : System). HasRunRegisters q plan c.args.time c.args.given.now.items c.args.machine.now (printed_to c.start_of-at_once.result c.run_registers.new.out m) c.in-Ok.root) c.flat.ensures.flat c.in-Ok.ensures.ran in
    subst (λ (q : System). AreBare m.registers.items → AreListed q m) (sym c.flat-then-is_none.ensures.flat)
    (listed_on c.args.code.now.system plan c.args.time c.args.given.now.items c.args.machine.now (printed_to c.start_of-at_once.result c.run_registers.new.out m) c.in-Ok.root c.requires.sound.listed ran)

pub returns-in_err-end-clause-err : goal.returns-in_err-end-clause-err
returns-in_err-end-clause-err c =
    let plan : Plan = record { in_place = c.args.code.now.in_place; order = c.args.code.now.order } in
    let run = has_run_to c.args.code.now.system _ plan _ _ _ _ _ _ _ _ _ _ c.flat.ensures.flat c.plan.ensures.in_place c.plan.ensures.order
    c.in-Ok.ensures.ran c.run_registers.ensures.room c.run_registers.ensures.can c.run_registers.ensures.front c.start_of-at_once.ensures.front in
    on_err c.from_residual-in_err-end.result _ (all_appended _ _ _ _ _ _ _ _ _ _ run _ c.deref_mut.ensures.value _ c.in_ok-append_rest.ensures.ok)

pub returns-clause-ran : goal.returns-clause-ran
returns-clause-ran c =
    let plan : Plan = record { in_place = c.args.code.now.in_place; order = c.args.code.now.order } in
    let run = has_run_to c.args.code.now.system _ plan _ _ _ _ _ _ _ _ _ _ c.flat.ensures.flat c.plan.ensures.in_place c.plan.ensures.order
    c.in-Ok.ensures.ran c.run_registers.ensures.room c.run_registers.ensures.can c.run_registers.ensures.front c.start_of-at_once.ensures.front in
    elim c.if-is_none.branch [
      | then-is_none+in_ok-append_rest+in_ok-end w ↦
          let new = w.end.new.machine in
          let m = c.run_registers.new.machine in
          let over = subst (λ (q : System). HasEnded q c.args.time (record m { texts = with_items m.texts w.append_rest.new.texts }) new) w.flat-then-is_none.ensures.flat w.in_ok-end.ensures.ended in
          let ended : HasEnded c.args.code.now.system c.args.time c.run_registers.new.machine new = record { last = over.last; timers = over.timers; cells = over.cells; ledger = over.ledger } in
          let room = subst (λ (q : System). HasRoom q new) w.flat-then-is_none.ensures.flat w.end.ensures.room in
          rw (w.machine-is, w.out-is)
          (instant_ended _ _ _ _ _ _ _ _ _ _ run c.requires.whole (c.is_none.ensures ∙ ap not w.if-is_none.true) c.requires.sound new ended room.last
          _ w.deref_mut.ensures.value _ w.in_ok-append_rest.ensures.ok)
      | else-is_none w ↦
          rw (w.machine-is, w.out-is)
          (instant_faulted _ _ _ _ _ _ _ _ _ _ run (c.is_none.ensures ∙ ap not w.if-is_none.false) _ w.take_back-else-is_none.ensures)
    ]

pub returns-clause-unmarked : goal.returns-clause-unmarked
returns-clause-unmarked c =
    let unmarked = subst (λ (q : System). c.in-Ok.root ≡ None → AreUnmarked q c.run_registers.new.machine) c.flat.ensures.flat c.in-Ok.ensures.unmarked in
    elim c.if-is_none.branch [
      | then-is_none+in_ok-append_rest+in_ok-end w ↦ rw w.machine-is (λ none i run. ap (λ v. is_marked v.items i) w.end.ensures.faulted ∙ unmarked none i run)
      | else-is_none w ↦ rw w.machine-is unmarked
    ]
