use Rattle.std.proofs.Common.{refl}
use Rattle.std.proofs.lemmas.Result.{IfOk-weaker}
use Rattle.slice_text.proofs.Named.{called_within}
use Rattle.tsl_world.proofs.Runs.{grows_on, grows_weaker}
use Rattle.why_run.specs.Effects.{AskEnds, AsksTrace}
use Rattle.tessla_cli.specs.Asked.{why_options}
use Rattle.tessla_cli.specs.Explained.{question_of}
use Rattle.tessla_cli.specs.inner.RunPhases.{Explains, HasExplained, HasPutMade, IsAsked, PutsMade, RunsSource, asking, compiled}
use Rattle.tessla_cli.proofs.Explaining.{explains, has_explained, is_asked, reads_limited}
use Rattle.tessla_cli.proofs.why.explain_output.Goals as goal

pub ask-requires-clause-there : goal.ask-requires-clause-there
ask-requires-clause-there g c = called_within c.args.code.now.system c.args.why.now.output c.args.output c.requires.called

pub ask-requires-clause-some : goal.ask-requires-clause-some
ask-requires-clause-some g c = (reads_limited c.args.why.now c.options_of.result c.options_of.ensures c.requires.limited).some_bytes

pub ask-requires-clause-few : goal.ask-requires-clause-few
ask-requires-clause-few g c = (reads_limited c.args.why.now c.options_of.result c.options_of.ensures c.requires.limited).few_bytes

pub ask-requires-clause-instants : goal.ask-requires-clause-instants
ask-requires-clause-instants g c = (reads_limited c.args.why.now c.options_of.result c.options_of.ensures c.requires.limited).some_instants

pub ask-requires-clause-until : goal.ask-requires-clause-until
ask-requires-clause-until g c = (reads_limited c.args.why.now c.options_of.result c.options_of.ensures c.requires.limited).until

pub returns-in_err-answer-clause-calls : goal.returns-in_err-answer-clause-calls
returns-in_err-answer-clause-calls g c = λ source items compiles.
    let why = c.args.why.now in
    let system = c.args.code.now.system in
    let question = question_of why c.args.output in
    let asks = rw (c.as_str-trace.ensures, c.options_of.ensures) at c.ask.ensures.calls in
    grows_weaker g.W.World.told g.W.World.journal c.args.world.now c.ask.new.world (AsksTrace why.trace system (why_options why) question) (RunsSource (Explains source why)) asks
    (λ p r. compiled (asking system question (is_asked why source items system c.args.output compiles c.requires.called) r))

pub returns-in_err-made_of-clause-calls : goal.returns-in_err-made_of-clause-calls
returns-in_err-made_of-clause-calls g c = λ source items compiles.
    let why = c.args.why.now in
    let system = c.args.code.now.system in
    let question = question_of why c.args.output in
    let asks = rw (c.as_str-trace.ensures, c.options_of.ensures) at c.ask.ensures.calls in
    grows_weaker g.W.World.told g.W.World.journal c.args.world.now c.ask.new.world (AsksTrace why.trace system (why_options why) question) (RunsSource (Explains source why)) asks
    (λ p r. compiled (asking system question (is_asked why source items system c.args.output compiles c.requires.called) r))

pub returns-clause-calls : goal.returns-clause-calls
returns-clause-calls g c = λ source items compiles.
    let why = c.args.why.now in
    let system = c.args.code.now.system in
    let question = question_of why c.args.output in
    let answer = c.in_ok-answer.answer in
    let made = c.in_ok-made_of.field-0 in
    let ends = rw (c.as_str-trace.ensures, c.options_of.ensures) at c.in_ok-answer.ensures.ending in
    grows_on g.W.World.told g.W.World.journal c.args.world.now c.ask.new.world c.put_made.new.world (AskEnds why.trace system (why_options why) question answer) (PutsMade made) (RunsSource (Explains source why)) ends c.put_made.ensures.calls
    (λ p q r t. compiled (explains why source system question (is_asked why source items system c.args.output compiles c.requires.called) answer made c.in_ok-made_of.ensures p q r t))

pub returns-clause-ending : goal.returns-clause-ending
returns-clause-ending g c =
    let why = c.args.why.now in
    let system = c.args.code.now.system in
    let question = question_of why c.args.output in
    let answer = c.in_ok-answer.answer in
    let made = c.in_ok-made_of.field-0 in
    let ends = rw (c.as_str-trace.ensures, c.options_of.ensures) at c.in_ok-answer.ensures.ending in
    IfOk-weaker c.put_made.result _ _
    (λ by put. λ source items compiles. grows_on g.W.World.told g.W.World.journal c.args.world.now c.ask.new.world c.put_made.new.world (AskEnds why.trace system (why_options why) question answer) (HasPutMade made by) (HasExplained source why by) ends put
    (λ p q r t. has_explained why source system question (is_asked why source items system c.args.output compiles c.requires.called) answer made c.in_ok-made_of.ensures p q r by t)) c.put_made.ensures.ending
