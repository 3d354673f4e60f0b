use Rattle.std.proofs.Common.{◌≡◌, arith, length, map, sym, ap, subst, ◌∙◌}
use Rattle.std.proofs.lemmas.List.{length-replicate, with_items_is}
use Rattle.std.specs.Prelude.{slice_index}
use Rattle.std.specs.FinMap as finite_map
use Rattle.std.specs.Ordering.{nat_cmp}
use Rattle.aggregate_store.specs.inner.Stored.{Stored}
use Rattle.delay_timers.specs.inner.Pending.{Pending}
use Rattle.flat_core.specs.Kept.{is_kept, is_timer}
use Rattle.flat_core.specs.System.{System}
use Rattle.flat_core.specs.Updates.{is_running_update, running_updates}
use Rattle.monitor_run.specs.inner.Here.{is_marked}
use Rattle.monitor_run.specs.inner.Machine.{HasRoom}
use Rattle.monitor_run.specs.inner.Registers.{register_at}
use Rattle.monitor_run.specs.inner.Resuming.{HasCells, IsOnce, placed, register_with}
use Rattle.monitor_run.proofs.FilledLemmas.{as_many}
use Rattle.monitor_run.proofs.InstantLemmas.{all_kept}
use Rattle.monitor_run.proofs.MonitorLemmas.{number_none, rest_new, room_new, unmarked_new, value_none}
use Rattle.monitor_run.proofs.RestoredLemmas.{aggregates, all_updates, low_in, numbers_once}
use Rattle.monitor_run.proofs.SavedLemmas.{all_timed}
use Rattle.monitor_run.proofs.restored.restored.Goals as goal

pub fill_cells-requires-clause-aggregates : goal.fill_cells-requires-clause-aggregates
fill_cells-requires-clause-aggregates c =
    aggregates c.args.code.now.system c.flat-flat.ensures.is_code.is_flat c.requires.0 c.args.state.now c.requires.1 c.as_slice.result.now c.as_slice.ensures

pub fill_cells-requires-clause-none : goal.fill_cells-requires-clause-none
fill_cells-requires-clause-none c = ap (λ (st : Stored). st.cells) c.in_ok-machine.ensures.store

pub set_counts-requires-clause-known : goal.set_counts-requires-clause-known
set_counts-requires-clause-known c =
    let size = c.count.ensures.count ∙ ap (λ (q : System). length q.equations) c.flat-flat.ensures.flat in
    all_updates c.args.code.now.system c.flat-flat.ensures.is_code.is_flat (length c.fill_cells.new.store.ledger)
    (ap length c.in_ok-handles.ensures.ledger ∙ ap (λ (st : Stored). length st.ledger) c.in_ok-machine.ensures.store ∙ length-replicate c.count.result 0 ∙ size)
    c.deref.result.now (c.deref.ensures.value ∙ c.in_ok-updates.ensures ∙ ap running_updates c.flat-flat.ensures.flat)

pub set_counts-requires-clause-once : goal.set_counts-requires-clause-once
set_counts-requires-clause-once c =
    subst IsOnce (sym (c.deref.ensures.value ∙ c.in_ok-updates.ensures)) (numbers_once c.flat-flat.result.now (is_running_update c.flat-flat.result.now))

pub set_registers-requires-clause-known : goal.set_registers-requires-clause-known
set_registers-requires-clause-known c =
    let size = c.count.ensures.count ∙ ap (λ (q : System). length q.equations) c.flat-flat.ensures.flat in
    all_kept c.args.code.now.system c.flat-flat.ensures.is_code.is_flat (length c.deref_mut.result.now)
    (ap length (c.deref_mut.ensures.value ∙ c.in_ok-machine.ensures.last) ∙ length-replicate c.count.result _ ∙ size) c.keeps.result.now c.keeps.ensures

pub set_registers-requires-clause-once : goal.set_registers-requires-clause-once
set_registers-requires-clause-once c = subst IsOnce (sym c.keeps.ensures) (numbers_once c.args.code.now.system (is_kept c.args.code.now.system))

pub set_registers-requires-clause-named : goal.set_registers-requires-clause-named
set_registers-requires-clause-named c =
    low_in c.args.code.now.system c.args.state.now c.requires.1.numbered c.as_slice-3.result.now c.deref-2.result.now c.as_slice-3.ensures
    (ap length c.deref-2.ensures.value ∙ as_many c.fill_cells.new.store.cells c.as_slice.result.now c.in_ok-handles.handles.items c.in_ok-handles.ensures.cells.views ∙ ap length c.as_slice.ensures)

pub set_timers-requires-clause-known : goal.set_timers-requires-clause-known
set_timers-requires-clause-known c =
    let size = c.count.ensures.count ∙ ap (λ (q : System). length q.equations) c.flat-flat.ensures.flat in
    all_timed c.args.code.now.system c.flat-flat.ensures.is_code.is_flat c.in_ok-machine.machine.timers.capacity
    (ap (λ (p : Pending). p.capacity) c.in_ok-machine.ensures.timers ∙ size) c.timers.result.now c.timers.ensures

pub set_timers-requires-clause-once : goal.set_timers-requires-clause-once
set_timers-requires-clause-once c = subst IsOnce (sym c.timers.ensures) (numbers_once c.args.code.now.system (is_timer c.args.code.now.system))

pub returns-clause-restored : goal.returns-clause-restored
returns-clause-restored c =
    let made = c.in_ok-machine.ensures in
    let last = c.in_ok-machine.machine.last in
    let new = c.set_registers.new.last in
    let len : length new ≡ last.len = omega (arith, c.set_registers.ensures.length, ap length c.deref_mut.ensures.value, last.ok.0) in
    record {
      handles = c.in_ok-handles.handles.items;
      has_cells =
          subst (λ cs. HasCells cs c.in_ok-handles.handles.items c.set_counts.new.store.cells) c.as_slice.ensures
          (subst (HasCells c.as_slice.result.now c.in_ok-handles.handles.items) (sym c.set_counts.ensures.cells) c.in_ok-handles.ensures.cells);
      counts = λ u.
          let none = ap (λ l. slice_index l u) (c.in_ok-handles.ensures.ledger ∙ ap (λ (st : Stored). st.ledger) made.store) ∙ number_none c.count.result u in
          let updates = c.deref.ensures.value ∙ c.in_ok-updates.ensures ∙ ap running_updates c.flat-flat.ensures.flat in
          c.set_counts.ensures.set u ∙ (λ k. placed (updates k) (c.as_slice-2.ensures k) u (none k));
      registers = λ v.
          let empty = ap (λ rs. register_at rs v) (c.deref_mut.ensures.value ∙ made.last) ∙ value_none c.count.result v in
          ap (λ rs. register_at rs v) (with_items_is last new len)
          ∙ c.in_ok-set_registers.ensures.set v
          ∙ (λ k. placed (c.keeps.ensures k) (map (register_with (c.deref-2.ensures.value k)) (c.as_slice-3.ensures k)) v (empty k));
      pending = λ d.
          let none = ap (λ (p : Pending). finite_map.get p.times d) made.timers ∙ finite_map.get-empty nat_cmp d in
          c.set_timers.ensures.set d ∙ (λ k. placed (c.timers.ensures k) (c.as_slice-4.ensures k) d (none k));
    }

pub returns-clause-room : goal.returns-clause-room
returns-clause-room c =
    let made = c.in_ok-machine.ensures in
    let s = c.args.code.now.system in
    let last = c.in_ok-machine.machine.last in
    let new = c.set_registers.new.last in
    let len : length new ≡ last.len = omega (arith, c.set_registers.ensures.length, ap length c.deref_mut.ensures.value, last.ok.0) in
    let size = c.count.ensures.count ∙ ap (λ (q : System). length q.equations) c.flat-flat.ensures.flat in
    let outputs = ap length (c.outputs.ensures ∙ ap (λ (q : System). q.outputs) c.flat-flat.ensures.flat) in
    let room : HasRoom s c.in_ok-machine.machine =
    room_new s c.in_ok-machine.machine c.count.result size made.registers made.faulted made.last made.store made.timers _ outputs made.texts in
    record {
      registers = room.registers;
      faulted = room.faulted;
      ledger = c.set_counts.ensures.length ∙ ap length c.in_ok-handles.ensures.ledger ∙ room.ledger;
      capacity = c.set_timers.ensures.capacity ∙ room.capacity;
      last = ap length (with_items_is last new len) ∙ c.set_registers.ensures.length ∙ ap length c.deref_mut.ensures.value ∙ room.last;
      texts = room.texts;
    }

pub returns-clause-unmarked : goal.returns-clause-unmarked
returns-clause-unmarked c = λ i run. ap (λ ms. is_marked ms i) c.in_ok-machine.ensures.faulted ∙ unmarked_new c.count.result i

pub returns-clause-rest : goal.returns-clause-rest
returns-clause-rest c = rest_new _ _ _ c.in_ok-machine.ensures.registers c.in_ok-machine.ensures.texts
