use Rattle.std.proofs.Common.{IfOk, List, Option, subst, sym, ℕ}
use Rattle.tsl_world.specs.Runs.{Grows}
use Rattle.tessla_cli.specs.inner.RunPhases.{EndsSince, RunsSince}
use Rattle.tessla_cli.proofs.trace.run_program.Goals as goal

pub returns-in-None-clause-calls : goal.returns-in-None-clause-calls
returns-in-None-clause-calls g c =
    let runs = rw c.options_of.ensures.options at c.run_from.ensures.calls in
    subst (λ (resume : Option (List ℕ)). Grows g.W.World.told g.W.World.journal c.args.world.now c.run_from.new.world (RunsSince resume c.args.run.now c.args.code.now)) (sym c.in-None.is) runs

pub returns-in-None-clause-ending : goal.returns-in-None-clause-ending
returns-in-None-clause-ending g c =
    let ends = rw c.options_of.ensures.options at c.run_from.ensures.ending in
    subst (λ (resume : Option (List ℕ)). IfOk c.run_from.result (λ by. Grows g.W.World.told g.W.World.journal c.args.world.now c.run_from.new.world (EndsSince resume c.args.run.now c.args.code.now by))) (sym c.in-None.is) ends
