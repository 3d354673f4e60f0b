use Rattle.std.proofs.Common.{ℕ, List, refl, subst, sym}
use Rattle.run_state.specs.declared.state.RunState.{RunState}
use Rattle.trace_monitor.specs.Saved.{AreOptionsOf, IsRunAfter}
use Rattle.trace_monitor.specs.inner.Kept.{Kept}
use Rattle.trace_monitor.specs.inner.Snapshot.{HasRunState, code_of}
use Rattle.trace_monitor.specs.inner.State.{State}
use Rattle.trace_monitor.specs.inner.Waits.{Waits}
use Rattle.trace_monitor.proofs.Resuming.{state_after, state_fits}
use Rattle.trace_monitor.proofs.monitor.TraceMonitor.state.Goals as goal

pub returns-clause-state : goal.returns-clause-state
returns-clause-state c =
    let at : State = record { system = c.self.inside.code.now.system; options = c.self.inside.options; reader = c.self.inside.reader; last = c.self.inside.last; engine = c.self.inside.engine } in
    let st : RunState = record { strict = c.self.inside.options.strict; instants_limit = c.self.inside.options.instants; bytes_limit = c.self.inside.options.bytes; reader = c.in_ok-reader.reader; monitor = c.in_ok-monitor.monitor } in
    let has : HasRunState at st = record { options = record { strict = refl; instants = refl; bytes = refl }; reader = c.in_ok-reader.ensures.state; monitor = c.in_ok-monitor.ensures.state } in
    subst (λ (m : State). HasRunState m st) c.self.view_is has

pub returns-clause-fits : goal.returns-clause-fits
returns-clause-fits c =
    let at : State = record { system = c.self.inside.code.now.system; options = c.self.inside.options; reader = c.self.inside.reader; last = c.self.inside.last; engine = c.self.inside.engine } in
    let st : RunState = record { strict = c.self.inside.options.strict; instants_limit = c.self.inside.options.instants; bytes_limit = c.self.inside.options.bytes; reader = c.in_ok-reader.reader; monitor = c.in_ok-monitor.monitor } in
    let waits : Waits at = subst (λ (m : State). Waits m) (sym c.self.view_is) c.requires in
    let options : AreOptionsOf at.options st = record { strict = refl; instants = refl; bytes = refl } in
    rw (← c.self.view_is) (λ few. state_fits at st (c.instants.ensures.ready waits.in_step.can_save.going) waits options c.in_ok-reader.ensures.state c.in_ok-monitor.ensures.state c.assert_ascending.ensures
    c.in_ok-reader.ensures.fits c.in_ok-monitor.ensures.fits c.self.invariant.0 few c.self.invariant.2 c.self.invariant.3)

pub returns-clause-after : goal.returns-clause-after
returns-clause-after c =
    let at : State = record { system = c.self.inside.code.now.system; options = c.self.inside.options; reader = c.self.inside.reader; last = c.self.inside.last; engine = c.self.inside.engine } in
    let st : RunState = record { strict = c.self.inside.options.strict; instants_limit = c.self.inside.options.instants; bytes_limit = c.self.inside.options.bytes; reader = c.in_ok-reader.reader; monitor = c.in_ok-monitor.monitor } in
    let waits : Waits at = subst (λ (m : State). Waits m) (sym c.self.view_is) c.requires in
    let options : AreOptionsOf at.options st = record { strict = refl; instants = refl; bytes = refl } in
    let after : (fed : List ℕ) → Kept at fed → IsRunAfter (code_of at) at.options fed st =
    λ fed kept. state_after at st fed (c.instants.ensures.ready waits.in_step.can_save.going) options c.in_ok-monitor.ensures.state
    (λ ls reads. c.in_ok-reader.ensures.after at.system at.options.strict at.options.bytes fed ls reads) c.in_ok-monitor.ensures.after kept in
    subst (λ (m : State). (fed : List ℕ) → Kept m fed → IsRunAfter (code_of m) m.options fed st) c.self.view_is after
