use Rattle.std.proofs.Common.{◌+◌, Some, refl, sym, ap, subst, ◌∙◌, arith}
use Rattle.std.specs.Prelude.{IsTrue}
use Rattle.flat_core.specs.System.{runs}
use Rattle.monitor_run.specs.inner.AnyMonitor.{HasRunAny}
use Rattle.monitor_run.specs.inner.Given.{AreAt}
use Rattle.monitor_run.specs.inner.Instant.{IsInstant}
use Rattle.monitor_run.specs.inner.Next.{IsIdle, IsNextTime, NothingBefore}
use Rattle.monitor_run.specs.inner.Stands.{Stands}
use Rattle.monitor_run.specs.inner.State.{State}
use Rattle.monitor_run.specs.inner.Steps.{HasFaulted, HasRun, IsAtLimit, IsBegun, NoneIsLeft}
use Rattle.monitor_run.proofs.BareLemmas.{tidy_listed}
use Rattle.monitor_run.proofs.MonitorLemmas.{begun_is, below_limit, fault_is, limit_is, none_left, ready_on, run_is}
use Rattle.monitor_run.proofs.AnyStep.{named_runs, run_any}
use Rattle.monitor_run.proofs.monitor.Monitor.step.Goals as goal

pub next_below-requires : goal.next_below-requires
next_below-requires c =
    let ready = c.self.invariant.1 c.in_default.is in
    (ready.time, subst (AreAt ready.time) (sym c.deref.ensures.value) ready.given_at)

pub returns-in-None-clause-steps : goal.returns-in-None-clause-steps
returns-in-None-clause-steps c = λ going lines stands.
    let inside = c.self.inside in
    let old = inside.machine in
    let ready = c.self.invariant.1 (ap (λ (m : State). m.stop) c.self.view_is ∙ going) in
    let stands_in = subst (λ (m : State). Stands m lines) (sym c.self.view_is) stands in
    let none = subst (λ gs. NothingBefore inside.next gs old.timers.times inside.bound) c.deref.ensures.value c.in-None.ensures in
    (refl, refl, subst (λ (m : State). NoneIsLeft m lines) c.self.view_is (none_left _ ready lines stands_in none))

pub returns-then-self-clause-steps : goal.returns-then-self-clause-steps
returns-then-self-clause-steps c = λ going lines stands.
    let inside = c.self.inside in
    let old = inside.machine in
    let ready = c.self.invariant.1 (ap (λ (m : State). m.stop) c.self.view_is ∙ going) in
    let stands_in = subst (λ (m : State). Stands m lines) (sym c.self.view_is) stands in
    let t = c.in-Some-next_below.time in
    let found = subst (λ gs. IsNextTime inside.next inside.bound gs old.timers.times (Some t)) c.deref.ensures.value c.in-Some-next_below.ensures in
    rw c.stop_with.ensures.same
    (refl, (λ k. record (c.self.view_is k) { stop = c.stop_with.ensures.kept k }), subst (λ (m : State). IsAtLimit m lines inside.limit t) c.self.view_is (limit_is _ ready t found.1 found.2 found.0 lines stands_in c.if-self.true))

pub run_instant-requires-clause-one : goal.run_instant-requires-clause-one
run_instant-requires-clause-one c =
    let ready = c.self.invariant.1 c.in_default.is in
    (ready.time, ready.given_at)

pub run_instant-requires-clause-sound : goal.run_instant-requires-clause-sound
run_instant-requires-clause-sound c =
    let inside = c.self.inside in
    let m = inside.machine in
    let ready = c.self.invariant.1 c.in_default.is in
    let t = c.in-Some-next_below.time in
    let found = subst (λ gs. IsNextTime inside.next inside.bound gs m.timers.times (Some t)) c.deref.ensures.value c.in-Some-next_below.ensures in
    record {
      types = ready.types;
      last = ready.last;
      unkept = ready.unkept;
      timers = record { each = λ i u at. let timer = ready.timers.each i u at in (timer.0, found.2.delays i u at, timer.2) };
      few_cells = ready.few_cells;
      listed = tidy_listed inside.code.now.system m.store.cells m.store.ledger m.last.items m.timers.times ready.tidy;
    }

pub invariant_of-self-in-Ok-None : goal.invariant_of-self-in-Ok-None
invariant_of-self-in-Ok-None c = (
  c.run_instant.ensures.room,
  λ going.
      let inside = c.self.inside in
      let old = inside.machine in
      let ready = c.self.invariant.1 going in
      let t = c.in-Some-next_below.time in
      let found = subst (λ gs. IsNextTime inside.next inside.bound gs old.timers.times (Some t)) c.deref.ensures.value c.in-Some-next_below.ensures in
      let after = c.run_instant.new.machine in
      let ran = subst (λ r. IsInstant inside.code.now.system (record { in_place = inside.code.now.in_place; order = inside.code.now.order }) t inside.given.items old after c.args.out.now c.run_instant.new.out r) c.in-Ok-None.field-0-is c.in-Ok-None.ensures.ran in
      let new : State = record { system = inside.code.now.system; in_place = inside.code.now.in_place; order = inside.code.now.order; limit = inside.limit; ran = inside.ran + 1; next = c.get.result + 1; bound = inside.bound; given = c.run_instant.new.given.items; cells = after.store.cells; ledger = after.store.ledger; last = after.last.items; timers = after.timers.times; stop = inside.stop } in
      ready_on _ ready t found.1 found.2 found.0 new old after c.args.out.now c.run_instant.new.out (record { cells = refl; last = refl; timers = refl; ledger = refl }) (record { cells = refl; last = refl; timers = refl; ledger = refl }) (record { system = refl; in_place = refl; order = refl; limit = refl; bound = refl }) (omega (arith, c.get.ensures.value)) refl (below_limit inside.ran inside.limit ready.room c.if-self.false) (c.in-Ok-None.ensures.given ready.time ready.given_at) ran,
  c.self.invariant.2,
  c.run_instant.ensures.places,
  λ going. (c.in-Ok-None.ensures.unmarked c.in-Ok-None.field-0-is, c.in-Ok-None.ensures.rest c.in-Ok-None.field-0-is),
)

pub returns-in-Ok-None-clause-steps : goal.returns-in-Ok-None-clause-steps
returns-in-Ok-None-clause-steps c = λ going lines stands.
    let inside = c.self.inside in
    let old = inside.machine in
    let ready = c.self.invariant.1 (ap (λ (m : State). m.stop) c.self.view_is ∙ going) in
    let stands_in = subst (λ (m : State). Stands m lines) (sym c.self.view_is) stands in
    let t = c.in-Some-next_below.time in
    let found = subst (λ gs. IsNextTime inside.next inside.bound gs old.timers.times (Some t)) c.deref.ensures.value c.in-Some-next_below.ensures in
    let after = c.run_instant.new.machine in
    let ran = subst (λ r. IsInstant inside.code.now.system (record { in_place = inside.code.now.in_place; order = inside.code.now.order }) t inside.given.items old after c.args.out.now c.run_instant.new.out r) c.in-Ok-None.field-0-is c.in-Ok-None.ensures.ran in
    let new : State = record { system = inside.code.now.system; in_place = inside.code.now.in_place; order = inside.code.now.order; limit = inside.limit; ran = inside.ran + 1; next = c.get.result + 1; bound = inside.bound; given = c.run_instant.new.given.items; cells = after.store.cells; ledger = after.store.ledger; last = after.last.items; timers = after.timers.times; stop = inside.stop } in
    subst (λ (m : State). HasRun m new lines c.args.out.now c.run_instant.new.out) c.self.view_is (run_is _ ready t found.1 found.2 found.0 lines stands_in new old after c.args.out.now c.run_instant.new.out (record { cells = refl; last = refl; timers = refl; ledger = refl }) (record { cells = refl; last = refl; timers = refl; ledger = refl }) (record { system = refl; in_place = refl; order = refl; limit = refl; bound = refl }) (omega (arith, c.get.ensures.value)) refl (ap (λ (m : State). m.stop) c.self.view_is ∙ going) (c.in-Ok-None.ensures.given ready.time ready.given_at) ran)

pub returns-in-Ok-Some-clause-steps : goal.returns-in-Ok-Some-clause-steps
returns-in-Ok-Some-clause-steps c = λ going lines stands.
    let inside = c.self.inside in
    let old = inside.machine in
    let ready = c.self.invariant.1 (ap (λ (m : State). m.stop) c.self.view_is ∙ going) in
    let stands_in = subst (λ (m : State). Stands m lines) (sym c.self.view_is) stands in
    let t = c.in-Some-next_below.time in
    let found = subst (λ gs. IsNextTime inside.next inside.bound gs old.timers.times (Some t)) c.deref.ensures.value c.in-Some-next_below.ensures in
    let after = c.run_instant.new.machine in
    let root = c.in-Ok-Some.field-0-0 in
    let faulted = subst (λ r. IsInstant inside.code.now.system (record { in_place = inside.code.now.in_place; order = inside.code.now.order }) t inside.given.items old after c.args.out.now c.run_instant.new.out r) c.in-Ok-Some.field-0-is c.in-Ok-Some.ensures.ran in
    let new : State = record { system = inside.code.now.system; in_place = inside.code.now.in_place; order = inside.code.now.order; limit = inside.limit; ran = inside.ran; next = inside.next; bound = inside.bound; given = c.run_instant.new.given.items; cells = after.store.cells; ledger = after.store.ledger; last = after.last.items; timers = after.timers.times; stop = c.stop_with-in-Ok-Some.new.slot } in
    let named = fault_is _ ready t found.1 found.2 found.0 lines stands_in new old after root c.args.out.now c.run_instant.new.out (record { cells = refl; last = refl; timers = refl; ledger = refl }) refl (below_limit inside.ran inside.limit ready.room c.if-self.false) faulted in
    rw c.stop_with-in-Ok-Some.ensures.same
    (faulted.unwritten, subst (λ (m : State). HasFaulted m new lines t root.equation root.kind) c.self.view_is named)

pub returns-in-Err-clause-steps : goal.returns-in-Err-clause-steps
returns-in-Err-clause-steps c = λ going lines stands.
    let inside = c.self.inside in
    let old = inside.machine in
    let ready = c.self.invariant.1 (ap (λ (m : State). m.stop) c.self.view_is ∙ going) in
    let stands_in = subst (λ (m : State). Stands m lines) (sym c.self.view_is) stands in
    let t = c.in-Some-next_below.time in
    let found = subst (λ gs. IsNextTime inside.next inside.bound gs old.timers.times (Some t)) c.deref.ensures.value c.in-Some-next_below.ensures in
    rw c.stop_with-in-Err.ensures.same
    (subst (λ (m : State). IsBegun m lines c.args.out.now c.run_instant.new.out) c.self.view_is (begun_is _ ready t found.1 found.2 found.0 lines stands_in old c.args.out.now c.run_instant.new.out (record { cells = refl; last = refl; timers = refl; ledger = refl }) (below_limit inside.ran inside.limit ready.room c.if-self.false) c.in-Err.ensures.err))

-- ---- whatever it stands for

pub returns-in-None-clause-any : goal.returns-in-None-clause-any
returns-in-None-clause-any c = λ going.
    let inside = c.self.inside in
    let old = inside.machine in
    let none = subst (λ gs. NothingBefore inside.next gs old.timers.times inside.bound) c.deref.ensures.value c.in-None.ensures in
    (refl, refl, subst (λ (m : State). IsIdle m) c.self.view_is none)

pub returns-then-self-clause-any : goal.returns-then-self-clause-any
returns-then-self-clause-any c = λ going. rw c.stop_with.ensures.same (c.stop_with.ensures.kept, tt)

pub returns-in-Ok-None-clause-any : goal.returns-in-Ok-None-clause-any
returns-in-Ok-None-clause-any c = λ going.
    let inside = c.self.inside in
    let old = inside.machine in
    let ready = c.self.invariant.1 (ap (λ (m : State). m.stop) c.self.view_is ∙ going) in
    let t = c.in-Some-next_below.time in
    let found = subst (λ gs. IsNextTime inside.next inside.bound gs old.timers.times (Some t)) c.deref.ensures.value c.in-Some-next_below.ensures in
    let after = c.run_instant.new.machine in
    let ran = subst (λ r. IsInstant inside.code.now.system (record { in_place = inside.code.now.in_place; order = inside.code.now.order }) t inside.given.items old after c.args.out.now c.run_instant.new.out r) c.in-Ok-None.field-0-is c.in-Ok-None.ensures.ran in
    let new : State = record { system = inside.code.now.system; in_place = inside.code.now.in_place; order = inside.code.now.order; limit = inside.limit; ran = inside.ran + 1; next = c.get.result + 1; bound = inside.bound; given = c.run_instant.new.given.items; cells = after.store.cells; ledger = after.store.ledger; last = after.last.items; timers = after.timers.times; stop = inside.stop } in
    subst (λ (m : State). HasRunAny m new) c.self.view_is (run_any _ ready t found.1 found.2 found.0 ready.time ready.given_at new old after c.args.out.now c.run_instant.new.out (record { cells = refl; last = refl; timers = refl; ledger = refl }) (record { cells = refl; last = refl; timers = refl; ledger = refl }) (record { system = refl; in_place = refl; order = refl; limit = refl; bound = refl }) (omega (arith, c.get.ensures.value)) refl (below_limit inside.ran inside.limit ready.room c.if-self.false) (c.in-Ok-None.ensures.given ready.time ready.given_at) ran)

pub returns-in-Ok-Some-clause-any : goal.returns-in-Ok-Some-clause-any
returns-in-Ok-Some-clause-any c = λ going.
    let inside = c.self.inside in
    let old = inside.machine in
    let t = c.in-Some-next_below.time in
    let after = c.run_instant.new.machine in
    let root = c.in-Ok-Some.field-0-0 in
    let faulted = subst (λ r. IsInstant inside.code.now.system (record { in_place = inside.code.now.in_place; order = inside.code.now.order }) t inside.given.items old after c.args.out.now c.run_instant.new.out r) c.in-Ok-Some.field-0-is c.in-Ok-Some.ensures.ran in
    rw c.stop_with-in-Ok-Some.ensures.same
    (c.stop_with-in-Ok-Some.ensures.kept, subst (λ (m : State). IsTrue (runs m.system root.equation)) c.self.view_is (named_runs _ _ t _ old after root c.args.out.now c.run_instant.new.out faulted))

pub returns-in-Err-clause-any : goal.returns-in-Err-clause-any
returns-in-Err-clause-any c = λ going. rw c.stop_with-in-Err.ensures.same (c.stop_with-in-Err.ensures.kept, tt)
