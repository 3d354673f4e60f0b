use Rattle.std.proofs.lemmas.Result.{IfOk-weaker}
use Rattle.tsl_world.proofs.Runs.{grows_weaker}
use Rattle.tessla_cli.specs.Alone.{BenchStops, IsTallyText}
use Rattle.tessla_cli.specs.inner.RunPhases.{AloneEnds, HasPutMade, PutsMade, RunsAlone}
use Rattle.tessla_cli.proofs.Printing.{benched_ends, benched_runs}
use Rattle.tessla_cli.proofs.run.tell_bench.Goals as goal

pub returns-clause-calls : goal.returns-clause-calls
returns-clause-calls g c =
    let kind = c.args.kind in
    let lines = c.args.lines in
    let made = c.in_ok-outcome_of.field-0 in
    grows_weaker g.W.World.told g.W.World.journal c.args.world.now c.put_made.new.world (PutsMade made) (RunsAlone (IsTallyText kind lines)) c.put_made.ensures.calls
    (λ p r. benched_runs kind lines p made c.in_ok-outcome_of.ensures r)

pub returns-clause-ending : goal.returns-clause-ending
returns-clause-ending g c =
    let kind = c.args.kind in
    let lines = c.args.lines in
    let made = c.in_ok-outcome_of.field-0 in
    IfOk-weaker c.put_made.result _ _
    (λ by ends. grows_weaker g.W.World.told g.W.World.journal c.args.world.now c.put_made.new.world (HasPutMade made by) (AloneEnds (IsTallyText kind lines) (BenchStops kind lines) by) ends
    (λ p r. benched_ends kind lines p made by c.in_ok-outcome_of.ensures r)) c.put_made.ensures.ending
