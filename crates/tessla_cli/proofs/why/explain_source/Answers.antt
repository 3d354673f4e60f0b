use Rattle.std.proofs.Common.{refl, ◌∙◌}
use Rattle.std.proofs.lemmas.Result.{IfOk-weaker}
use Rattle.tessla_cli.specs.inner.RunPhases.{HasExplained, SourceEnds, compiled_ends, spec_refused}
use Rattle.tsl_world.proofs.Runs.{grows_none, grows_weaker}
use Rattle.tessla_cli.proofs.why.explain_source.Goals as goal

pub returns-in-Ok-clause-calls : goal.returns-in-Ok-clause-calls
returns-in-Ok-clause-calls g c = c.explain_code.ensures.calls c.args.source.now c.in-Ok.ensures.system.0 c.in-Ok.ensures.system.1

pub returns-in-Ok-clause-ending : goal.returns-in-Ok-clause-ending
returns-in-Ok-clause-ending g c =
    let source = c.args.source.now in
    let why = c.args.why.now in
    IfOk-weaker c.explain_code.result _ _
    (λ ended says. grows_weaker g.W.World.told g.W.World.journal c.args.world.now c.explain_code.new.world (HasExplained source why ended) (SourceEnds source (HasExplained source why ended) ended) (says source c.in-Ok.ensures.system.0 c.in-Ok.ensures.system.1)
    (λ p r. compiled_ends r)) c.explain_code.ensures.ending

pub returns-in_ok-alone-in-Err-clause-ending : goal.returns-in_ok-alone-in-Err-clause-ending
returns-in_ok-alone-in-Err-clause-ending g c =
    grows_none g.W.World.told g.W.World.journal c.args.world.now (SourceEnds c.args.source.now (HasExplained c.args.source.now c.args.why.now _) _)
    (spec_refused {fault = c.in-Err.fault} (c.in_ok-alone-in-Err.ensures.ending ∙ c.in_ok-refused-in-Err.ensures.ending) c.in_ok-alone-in-Err.ensures.text (c.in_ok-refused-in-Err.ensures.refused, c.in-Err.ensures.fault) refl)
