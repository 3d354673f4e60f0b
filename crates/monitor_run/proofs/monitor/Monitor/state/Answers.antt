use Rattle.std.proofs.Common.{◌<◌, ◌^◌, refl, length, map, sym, ap, subst, ◌∙◌}
use Rattle.std.specs.Prelude.{slice_index}
use Rattle.std.specs.FinMap as finite_map
use Rattle.std.specs.List.{flat_map}
use Rattle.cell_reader.specs.inner.Cells.{view_at}
use Rattle.aggregate_store.specs.Content.{content_of}
use Rattle.flat_core.specs.System.{System}
use Rattle.flat_core.specs.Updates.{running_updates}
use Rattle.monitor_state.specs.declared.state.MonitorState.{MonitorState}
use Rattle.monitor_state.specs.Fits.{FitsMonitor}
use Rattle.monitor_run.specs.inner.Given.{AreAt}
use Rattle.monitor_run.specs.inner.Registers.{AreHeld}
use Rattle.monitor_run.specs.inner.Saved.{CanSave, HasState, cell_held, saved_of}
use Rattle.monitor_state.specs.Firsts.{firsts}
use Rattle.monitor_run.specs.inner.Shown.{held_at}
use Rattle.monitor_run.specs.inner.State.{State, IsReady}
use Rattle.monitor_run.specs.inner.Taking.{opened_below}
use Rattle.monitor_run.proofs.FitLemmas.{fits}
use Rattle.monitor_run.proofs.InstantLemmas.{all_kept}
use Rattle.monitor_run.proofs.SavedLemmas.{all_timed, cells_live, has_state}
use Rattle.monitor_run.proofs.StateAfter.{state_after}
use Rattle.monitor_run.proofs.monitor.Monitor.state.Goals as goal

pub held_cells-requires : goal.held_cells-requires
held_cells-requires c =
    let ready = c.self.invariant.1 (ap (λ (m : State). m.stop) c.self.view_is ∙ c.requires.going) in
    all_kept c.self.inside.code.now.system ready.whole _ (ap length c.deref.ensures.value ∙ c.self.invariant.0.last) c.keeps-keeps.result.now c.keeps-keeps.ensures

pub saved_registers-requires : goal.saved_registers-requires
saved_registers-requires c =
    let ready = c.self.invariant.1 (ap (λ (m : State). m.stop) c.self.view_is ∙ c.requires.going) in
    all_kept c.self.inside.code.now.system ready.whole _ (ap length c.deref-4.ensures.value ∙ c.self.invariant.0.last) c.keeps-keeps.result.now c.keeps-keeps.ensures

pub contents-requires : goal.contents-requires
contents-requires c =
    let inside = c.self.inside in
    let s = inside.code.now.system in
    let cells = inside.machine.store.cells in
    let ready = c.self.invariant.1 (ap (λ (m : State). m.stop) c.self.view_is ∙ c.requires.going) in
    cells_live s ready.whole ready.types cells c.deref.result.now c.keeps-keeps.result.now c.deref-6.result.now
    (subst (AreHeld s ready.types cells) (sym c.deref.ensures.value) ready.last) c.keeps-keeps.ensures (c.deref-6.ensures.value ∙ c.in_ok-cells.ensures)

pub pending_times-requires : goal.pending_times-requires
pending_times-requires c =
    let ready = c.self.invariant.1 (ap (λ (m : State). m.stop) c.self.view_is ∙ c.requires.going) in
    all_timed c.self.inside.code.now.system ready.whole _ c.self.invariant.0.capacity c.timers.result.now c.timers.ensures

pub returns-clause-state : goal.returns-clause-state
returns-clause-state c =
    let inside = c.self.inside in
    let s = inside.code.now.system in
    let ready = c.self.invariant.1 (ap (λ (m : State). m.stop) c.self.view_is ∙ c.requires.going) in
    let st : MonitorState = record { bound = inside.bound; instants = c.instants.result; open_events = c.in_ok-open_events.field-0; ledger = c.in_ok-ledger_of.field-0; registers = c.in_ok-saved_registers.field-0; cells = c.in_ok-contents.field-0; pending = c.in_ok-pending_times.field-0 } in
    let same = ap (λ (q : System). length q.equations) c.flat-flat.ensures.flat in
    subst (λ (m : State). HasState m st) c.self.view_is
    (has_state _ ready (subst CanSave (sym c.self.view_is) c.requires) st c.count.result c.in_ok-cells.cells.items (c.count.ensures.count ∙ same) refl (c.instants.ensures.ran ∙ sym (ap (λ (m : State). m.ran) c.self.view_is))
    (c.in_ok-open_events.ensures.events ∙ ap (λ ls. opened_below ls c.count.result) c.deref-3.ensures.value)
    (c.in_ok-ledger_of.ensures.same ∙ ap (λ q. map (slice_index inside.machine.store.ledger) (running_updates q)) c.flat-flat.ensures.flat)
    (c.in_ok-cells.ensures ∙ (λ k. firsts (flat_map (λ v. cell_held (held_at (c.deref.ensures.value k) v)) (c.keeps-keeps.ensures k))))
    (c.in_ok-saved_registers.ensures.same ∙ (λ k. map (λ v. saved_of (c.deref-5.ensures.value k) (held_at (c.deref-4.ensures.value k) v)) (c.keeps-keeps.ensures k)))
    (c.in_ok-contents.ensures.same ∙ ap (map (λ h. content_of (view_at inside.machine.store.cells h))) c.deref-6.ensures.value)
    (c.in_ok-pending_times.ensures ∙ ap (map (finite_map.get inside.machine.timers.times)) c.timers.ensures))

pub returns-clause-fits : goal.returns-clause-fits
returns-clause-fits c =
    let inside = c.self.inside in
    let ready = c.self.invariant.1 (ap (λ (m : State). m.stop) c.self.view_is ∙ c.requires.going) in
    let can = subst CanSave (sym c.self.view_is) c.requires in
    let st : MonitorState = record { bound = inside.bound; instants = c.instants.result; open_events = c.in_ok-open_events.field-0; ledger = c.in_ok-ledger_of.field-0; registers = c.in_ok-saved_registers.field-0; cells = c.in_ok-contents.field-0; pending = c.in_ok-pending_times.field-0 } in
    subst (λ (m : State). FitsMonitor m.system m.limit st) c.self.view_is
    (fits _ ready can st (subst (λ (m : State). HasState m st) (sym c.self.view_is) (returns-clause-state c)) c.in_ok-ledger_of.ensures.range
    (subst (λ n. n < 2 ^ 64) (c.instants.ensures.ran ∙ sym (ap (λ (m : State). m.ran) c.self.view_is)) c.instants.type_inv)
    (λ some. c.assert_in_time.ensures inside.bound (subst (AreAt inside.bound) (sym c.deref-2.ensures.value) can.at_bound) (subst (λ ls. 0 < length ls) (sym c.deref-2.ensures.value) some))
    c.in_ok-open_events.ensures.range c.in_ok-saved_registers.ensures.range c.in_ok-contents.ensures.range c.in_ok-contents.ensures.sized)

pub returns-clause-after : goal.returns-clause-after
returns-clause-after c = λ lines stands.
    let ready = subst IsReady c.self.view_is (c.self.invariant.1 (ap (λ (m : State). m.stop) c.self.view_is ∙ c.requires.going)) in
    state_after _ _ lines (record { ready = ready; can = c.requires; state = returns-clause-state c }) stands
