use Rattle.std.proofs.lemmas.Result.{IfOk-weaker}
use Rattle.spec_lexer.specs.declared.limits.TheConstants.{MOST_SOURCE_BYTES}
use Rattle.tsl_world.specs.declared.outside.Slot.TheVariants.{Spec}
use Rattle.tessla_cli.specs.Conduct.{MakesNothing}
use Rattle.tessla_cli.specs.inner.RunPhases.{GivesName, HasWritten, Prints, ReadsName, RunsSource, RunsSpec, SourceEnds, SpecEnds, unread}
use Rattle.tessla_cli.proofs.Phases.{joins_ends, joins_runs}
use Rattle.tessla_cli.proofs.Saving.{file_makes_none, name_makes_none}
use Rattle.tsl_world.proofs.Runs.{grows_on, grows_weaker}
use Rattle.tessla_cli.proofs.run.write_form.Goals as goal

pub returns-in_err-source-clause-calls : goal.returns-in_err-source-clause-calls
returns-in_err-source-clause-calls g c =
    grows_weaker g.W.World.told g.W.World.journal c.args.world.now c.read_spec.new.world (ReadsName Spec MOST_SOURCE_BYTES c.args.spec.now) (RunsSpec c.args.spec.now (λ source. RunsSource (Prints source c.args.form.now))) c.read_spec.ensures.calls
    (λ p r. unread p r)

pub returns-in_err-source-clause-unmade : goal.returns-in_err-source-clause-unmade
returns-in_err-source-clause-unmade g c = λ e.
    grows_weaker g.W.World.told g.W.World.journal c.args.world.now c.read_spec.new.world (ReadsName Spec MOST_SOURCE_BYTES c.args.spec.now) MakesNothing c.read_spec.ensures.calls
    (λ p r. name_makes_none Spec MOST_SOURCE_BYTES c.args.spec.now p r)

pub returns-clause-calls : goal.returns-clause-calls
returns-clause-calls g c =
    let source = c.in_ok-source.source in
    let from_name = c.in_ok-source.ensures.source in
    let ran = rw c.as_slice.ensures at c.write_source.ensures.calls in
    grows_on g.W.World.told g.W.World.journal c.args.world.now c.read_spec.new.world c.write_source.new.world (GivesName Spec MOST_SOURCE_BYTES c.args.spec.now source) (RunsSource (Prints source c.args.form.now)) (RunsSpec c.args.spec.now (λ source. RunsSource (Prints source c.args.form.now))) from_name ran
    (λ p q r t. joins_runs c.args.spec.now (λ source. RunsSource (Prints source c.args.form.now)) source p q r t)

pub returns-clause-unmade : goal.returns-clause-unmade
returns-clause-unmade g c = λ e.
    let source = c.in_ok-source.source in
    grows_on g.W.World.told g.W.World.journal c.args.world.now c.read_spec.new.world c.write_source.new.world (GivesName Spec MOST_SOURCE_BYTES c.args.spec.now source) MakesNothing MakesNothing c.in_ok-source.ensures.source (c.write_source.ensures.unmade e)
    (λ p q r t. file_makes_none Spec MOST_SOURCE_BYTES c.args.spec.now source p q r t)

pub returns-clause-ending : goal.returns-clause-ending
returns-clause-ending g c =
    let source = c.in_ok-source.source in
    let form = c.args.form.now in
    let from_name = c.in_ok-source.ensures.source in
    let ends = rw c.as_slice.ensures at c.write_source.ensures.ending in
    IfOk-weaker c.write_source.result _ _
    (λ by ended. grows_on g.W.World.told g.W.World.journal c.args.world.now c.read_spec.new.world c.write_source.new.world (GivesName Spec MOST_SOURCE_BYTES c.args.spec.now source) (SourceEnds source (HasWritten source form by) by) (SpecEnds c.args.spec.now (λ source. SourceEnds source (HasWritten source form by) by)) from_name ended
    (λ p q r t. joins_ends c.args.spec.now (λ source. SourceEnds source (HasWritten source form by) by) source p q r t)) ends
