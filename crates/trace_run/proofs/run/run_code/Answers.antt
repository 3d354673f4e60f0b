use Rattle.std.proofs.Common.{◌∙◌}
use Rattle.tsl_world.proofs.Runs.{grows_none}
use Rattle.trace_run.specs.Effects.{RunsCode, idle}
use Rattle.trace_run.proofs.Coming.{ends_if_ok, runs_however}
use Rattle.trace_run.proofs.run.run_code.Goals as goal

pub returns-in_err-monitor-clause-calls : goal.returns-in_err-monitor-clause-calls
returns-in_err-monitor-clause-calls g c = grows_none g.W.World.told g.W.World.journal c.args.world.now (RunsCode c.args.trace.now c.args.code.now c.args.start c.args.saves) idle

pub follow-ran-requires-clause-begun : goal.follow-ran-requires-clause-begun
follow-ran-requires-clause-begun g c = (c.args.start, c.in_ok-monitor.ensures)

pub follow-ran-requires-clause-limit : goal.follow-ran-requires-clause-limit
follow-ran-requires-clause-limit g c = c.limit_of-limit.ensures ∙ c.in_ok-monitor.ensures.bytes

pub returns-clause-calls : goal.returns-clause-calls
returns-clause-calls g c =
    runs_however g.W.World.told g.W.World.journal c.args.trace.now c.args.code.now c.args.start c.args.saves c.args.with_statistics c.args.world.now c.follow-ran.new.world c.follow-ran.result
    (c.follow-ran.ensures.calls c.args.start c.in_ok-monitor.ensures)

pub returns-clause-ending : goal.returns-clause-ending
returns-clause-ending g c =
    ends_if_ok g.W.World.told g.W.World.journal c.args.trace.now c.args.code.now c.args.start c.args.saves c.args.with_statistics c.args.world.now c.follow-ran.new.world c.follow-ran.result
    (c.follow-ran.ensures.calls c.args.start c.in_ok-monitor.ensures)
