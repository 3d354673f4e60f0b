use Rattle.std.proofs.Common.{◌≡◌, true, length, Ok, refl, ap, ◌∙◌}
use Rattle.std.proofs.lemmas.List.{length-set, with_items_is}
use Rattle.std.specs.Prelude.{slice_set}
use Rattle.std.specs.Vec.{with_items}
use Rattle.body_eval.specs.declared.register.Register.TheVariants.{Empty}
use Rattle.flat_core.specs.Members.{is_in}
use Rattle.monitor_run.specs.inner.Here.{HasEffect, source_of, effect_here}
use Rattle.monitor_run.specs.inner.Instant.{was_filled, has_failed}
use Rattle.monitor_run.proofs.CaseLemmas.{ledger_each}
use Rattle.monitor_run.proofs.run.run_own.Goals as goal

pub returns-in-Ok-clause-same : goal.returns-in-Ok-clause-same
returns-in-Ok-clause-same c =
    let e = c.args.e.now in
    let old = c.args.machine.now in
    let done = c.in-Ok.ensures.effect old.last.items in
    let each : length c.put_own.new.registers ≡ length c.deref_mut.result.now = ap length done.1 ∙ length-set c.deref_mut.result.now c.args.id done.0 in
    record {
      timers = refl;
      last = refl;
      registers_each = ap length (with_items_is old.registers c.put_own.new.registers (each ∙ c.deref_mut.ensures.len)) ∙ each ∙ ap length c.deref_mut.ensures.value;
      faulted_each = refl;
      ledger_each =
          ledger_each (is_in c.args.in_place.now c.args.id) c.args.id e.op (source_of c.deref_mut.result.now e.args) old.store c.put_own.new.store done.0
          (effect_here c.deref_mut.result.now old.last.items old.store c.args.id c.args.time e) done.2;
      texts_each = refl;
    }

pub returns-in-Ok-clause-ran : goal.returns-in-Ok-clause-ran
returns-in-Ok-clause-ran c =
    let e = c.args.e.now in
    let old = c.args.machine.now in
    let done = c.in-Ok.ensures.effect old.last.items in
    let each : length c.put_own.new.registers ≡ length c.deref_mut.result.now = ap length done.1 ∙ length-set c.deref_mut.result.now c.args.id done.0 in
    let does : HasEffect (is_in c.args.in_place.now c.args.id) c.args.id e.op (source_of c.deref_mut.result.now e.args) old.store c.put_own.new.store (Ok done.0) (effect_here c.deref_mut.result.now old.last.items old.store c.args.id c.args.time e) = done.2 in
    was_filled done.0 c.requires.other
    c.requires.unblocked
    (rw c.deref_mut.ensures.value at does)
    (with_items_is old.registers c.put_own.new.registers (each ∙ c.deref_mut.ensures.len) ∙ done.1 ∙ (λ k. slice_set (c.deref_mut.ensures.value k) c.args.id done.0))
    refl

pub returns-in-Err-Fault-clause-ran : goal.returns-in-Err-Fault-clause-ran
returns-in-Err-Fault-clause-ran c =
    let items = c.args.machine.now.faulted.items in
    let registers = c.args.machine.now.registers in
    let same = c.in-Err-Fault.ensures.same in
    let between = with_items registers c.put_own.new.registers in
    let each : length c.empty.new.registers ≡ length c.deref_mut-in-Err-Fault.result.now = ap length c.empty.ensures ∙ length-set c.deref_mut-in-Err-Fault.result.now c.get-place.result Empty in
    let before = c.deref_mut-in-Err-Fault.ensures.value ∙ with_items_is registers c.put_own.new.registers (ap length same ∙ c.deref_mut.ensures.len) ∙ same ∙ c.deref_mut.ensures.value in
    has_failed c.in-Err-Fault.kind c.requires.other
    c.requires.unblocked
    (rw (c.deref_mut.ensures.value, c.in-Err-Fault.field-0-is) at (c.in-Err-Fault.ensures.effect c.args.machine.now.last.items))
    (with_items_is between c.empty.new.registers (each ∙ c.deref_mut-in-Err-Fault.ensures.len) ∙ c.empty.ensures ∙ (λ k. slice_set (before k) (c.get-place.ensures k) Empty))
    (ap (λ n. slice_set items n true) c.get-place.ensures)
