use Rattle.std.proofs.Common.{◌≡◌, sym, ap, subst, ◌∙◌}
use Rattle.compiled_meaning.specs.inner.Ready.{IsReady}
use Rattle.trace_monitor.specs.declared.options.Options.{Options}
use Rattle.trace_monitor.proofs.Taking.{if_ok, on_if_ok}
use Rattle.tsl_world.specs.declared.outside.Did.TheVariants.{NotOpened}
use Rattle.tsl_world.specs.declared.outside.Slot.TheVariants.{Trace}
use Rattle.tsl_world.specs.Runs.{Runs}
use Rattle.tsl_world.specs.Standing.{with_slot}
use Rattle.tsl_world.specs.World.{RoseBy}
use Rattle.tsl_world.proofs.Runs.{grows_called, grows_none}
use Rattle.why_run.specs.Effects.{Asks, AsksTrace, HasAsked, idle, no_trace}
use Rattle.why_run.proofs.Asking.{of_same, opened_asks, opened_ends}
use Rattle.why_run.proofs.ask.ask.Goals as goal

pub returns-in_err-monitor-clause-calls : goal.returns-in_err-monitor-clause-calls
returns-in_err-monitor-clause-calls g c =
    grows_none g.W.World.told g.W.World.journal c.args.world.now (AsksTrace c.args.trace.now c.args.code.now.system c.args.options c.args.question) idle

pub returns-in_err-open-clause-calls : goal.returns-in_err-open-clause-calls
returns-in_err-open-clause-calls g c =
    grows_called g.W.World.told g.W.World.journal c.args.world.now c.open.new.self (NotOpened Trace c.args.trace.now) (AsksTrace c.args.trace.now c.args.code.now.system c.args.options c.args.question)
    c.open.ensures.told c.in_err-open.ensures.journal no_trace

pub returns-clause-outside : goal.returns-clause-outside
returns-clause-outside g c = λ fails. subst (λ n. RoseBy 1 n (g.W.World.faults c.read_on.new.world)) c.in_ok-open.ensures.cause.ok (c.read_on.ensures.outside fails)

pub returns-clause-memory : goal.returns-clause-memory
returns-clause-memory g c = λ fails. c.read_on.ensures.memory fails ∙ c.in_ok-open.ensures.cause.ok

pub returns-clause-calls : goal.returns-clause-calls
returns-clause-calls g c =
    let s = c.args.code.now.system in
    let o = c.args.options in
    let q = c.args.question in
    let made = c.in_ok-monitor.ensures in
    let m = c.in_ok-monitor.monitor in
    let calls = of_same (λ x y z. Runs g.W.World.told g.W.World.journal g.W.World.standing c.open.new.self c.read_on.new.world (Asks x y z)) m.system s m.options o m.question q made.system made.options made.question c.read_on.ensures.calls in
    opened_asks g.W.World.told g.W.World.journal g.W.World.standing c.args.world.now c.open.new.self c.read_on.new.world c.args.trace.now s o q c.open.ensures.told c.in_ok-open.ensures.journal calls

pub returns-clause-ending : goal.returns-clause-ending
returns-clause-ending g c = if_ok c.read_on.result _ _ (λ by ends.
    let s = c.args.code.now.system in
    let o = c.args.options in
    let q = c.args.question in
    let made = c.in_ok-monitor.ensures in
    let m = c.in_ok-monitor.monitor in
    let calls = of_same (λ x y z. Runs g.W.World.told g.W.World.journal g.W.World.standing c.open.new.self c.read_on.new.world (Asks x y z)) m.system s m.options o m.question q made.system made.options made.question c.read_on.ensures.calls in
    let has = of_same (λ x y z. Runs g.W.World.told g.W.World.journal g.W.World.standing c.open.new.self c.read_on.new.world (HasAsked x y z by)) m.system s m.options o m.question q made.system made.options made.question ends in
    opened_ends g.W.World.told g.W.World.journal g.W.World.standing c.args.world.now c.open.new.self c.read_on.new.world c.args.trace.now s o q c.open.ensures.told c.in_ok-open.ensures.journal calls by has) c.read_on.ensures.ending

pub returns-clause-standing : goal.returns-clause-standing
returns-clause-standing g c =
    let m = c.in_ok-monitor.monitor in
    on_if_ok c.read_on.result (λ by. Runs g.W.World.told g.W.World.journal g.W.World.standing c.open.new.self c.read_on.new.world (HasAsked m.system m.options m.question by))
    (g.W.World.standing c.read_on.new.world ≡ with_slot (g.W.World.standing c.args.world.now) Trace) (λ by ends. ends.stands ∙ c.in_ok-open.ensures.standing) c.read_on.ensures.ending

pub read_on-requires-clause-ready : goal.read_on-requires-clause-ready
read_on-requires-clause-ready g c = subst IsReady (sym c.in_ok-monitor.ensures.system) c.requires.ready

pub read_on-requires-clause-kept : goal.read_on-requires-clause-kept
read_on-requires-clause-kept g c = c.in_ok-monitor.ensures.kept

pub read_on-requires-clause-limit : goal.read_on-requires-clause-limit
read_on-requires-clause-limit g c = ap (λ (o : Options). o.bytes) (sym c.in_ok-monitor.ensures.options)

pub new-requires-clause-well_formed : goal.new-requires-clause-well_formed
new-requires-clause-well_formed g c = c.requires.ready.well_formed
