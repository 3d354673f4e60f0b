use Rattle.std.proofs.Common.{◌∙◌, ap}
use Rattle.std.proofs.lemmas.Result.{IfOk-weaker}
use Rattle.spec_lexer.specs.declared.limits.TheConstants.{MOST_SOURCE_BYTES}
use Rattle.tsl_world.specs.declared.outside.Slot.TheVariants.{Spec, Trace}
use Rattle.tsl_world.specs.Standing.{Standing, is_open, with_slot}
use Rattle.tessla_cli.specs.inner.RunPhases.{Explains, GivesName, HasExplained, ReadsName, RunsSource, RunsSpec, SourceEnds, SpecEnds, unread}
use Rattle.tessla_cli.proofs.Phases.{joins_ends, joins_runs}
use Rattle.tsl_world.proofs.Runs.{grows_on, grows_weaker}
use Rattle.tessla_cli.proofs.why.explain.Goals as goal

pub returns-in_err-source-clause-calls : goal.returns-in_err-source-clause-calls
returns-in_err-source-clause-calls g c =
    let why = c.args.why.now in
    let read = rw c.as_str-spec.ensures at c.read_file.ensures.calls in
    grows_weaker g.W.World.told g.W.World.journal c.args.world.now c.read_file.new.world (ReadsName Spec MOST_SOURCE_BYTES why.spec) (RunsSpec why.spec (λ source. RunsSource (Explains source why))) read (λ p r. unread p r)

pub explain_source-requires-clause-trace : goal.explain_source-requires-clause-trace
explain_source-requires-clause-trace g c =
    ap (λ (s : Standing). is_open s Trace) (c.in_ok-source.ensures.standing ∙ ap (λ (s : Standing). with_slot s Spec) c.requires.stands)

pub returns-clause-calls : goal.returns-clause-calls
returns-clause-calls g c =
    let why = c.args.why.now in
    let source = c.in_ok-source.source in
    let from_name = rw c.as_str-spec.ensures at c.in_ok-source.ensures.bytes in
    let ran = rw c.as_slice.ensures at c.explain_source.ensures.calls in
    grows_on g.W.World.told g.W.World.journal c.args.world.now c.read_file.new.world c.explain_source.new.world (GivesName Spec MOST_SOURCE_BYTES why.spec source) (RunsSource (Explains source why)) (RunsSpec why.spec (λ source. RunsSource (Explains source why))) from_name ran
    (λ p q r t. joins_runs why.spec (λ source. RunsSource (Explains source why)) source p q r t)

pub returns-clause-ending : goal.returns-clause-ending
returns-clause-ending g c =
    let why = c.args.why.now in
    let source = c.in_ok-source.source in
    let from_name = rw c.as_str-spec.ensures at c.in_ok-source.ensures.bytes in
    let ends = rw c.as_slice.ensures at c.explain_source.ensures.ending in
    IfOk-weaker c.explain_source.result _ _
    (λ by ended. grows_on g.W.World.told g.W.World.journal c.args.world.now c.read_file.new.world c.explain_source.new.world (GivesName Spec MOST_SOURCE_BYTES why.spec source) (SourceEnds source (HasExplained source why by) by) (SpecEnds why.spec (λ source. SourceEnds source (HasExplained source why by) by)) from_name ended
    (λ p q r t. joins_ends why.spec (λ source. SourceEnds source (HasExplained source why by) by) source p q r t)) ends
