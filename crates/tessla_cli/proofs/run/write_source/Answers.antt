use Rattle.std.proofs.Common.{refl, ◌∙◌}
use Rattle.std.proofs.lemmas.Result.{IfOk-weaker}
use Rattle.compiled_code.proofs.Spelled.{compiled_code_has_a_spelling}
use Rattle.tessla_cli.specs.inner.RunPhases.{HasWritten, SourceEnds, compiled_ends, spec_refused}
use Rattle.tsl_world.proofs.Runs.{grows_none, grows_weaker}
use Rattle.tessla_cli.proofs.run.write_source.Goals as goal

pub write_text-requires-clause-spelling : goal.write_text-requires-clause-spelling
write_text-requires-clause-spelling g c = compiled_code_has_a_spelling c.args.source.now c.in-Ok.ensures.system.0 c.in-Ok.compiled.code.system c.in-Ok.ensures.system.1

pub returns-in-Ok-clause-calls : goal.returns-in-Ok-clause-calls
returns-in-Ok-clause-calls g c = c.write_text.ensures.calls c.args.source.now c.in-Ok.ensures.system

pub returns-in-Ok-clause-ending : goal.returns-in-Ok-clause-ending
returns-in-Ok-clause-ending g c =
    let source = c.args.source.now in
    let form = c.args.form.now in
    IfOk-weaker c.write_text.result _ _
    (λ ended says. grows_weaker g.W.World.told g.W.World.journal c.args.world.now c.write_text.new.world (HasWritten source form ended) (SourceEnds source (HasWritten source form ended) ended) (says source c.in-Ok.ensures.system)
    (λ p r. compiled_ends r)) c.write_text.ensures.ending

pub returns-in_ok-alone-in-Err-clause-ending : goal.returns-in_ok-alone-in-Err-clause-ending
returns-in_ok-alone-in-Err-clause-ending g c =
    grows_none g.W.World.told g.W.World.journal c.args.world.now (SourceEnds c.args.source.now (HasWritten c.args.source.now c.args.form.now _) _)
    (spec_refused {fault = c.in-Err.fault} (c.in_ok-alone-in-Err.ensures.ending ∙ c.in_ok-refused-in-Err.ensures.ending) c.in_ok-alone-in-Err.ensures.text (c.in_ok-refused-in-Err.ensures.refused, c.in-Err.ensures.fault) refl)
