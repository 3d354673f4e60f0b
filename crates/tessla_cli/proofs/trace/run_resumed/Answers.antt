use Rattle.std.proofs.Common.{◌≡◌, ◌∙◌, [], refl, subst, Some}
use Rattle.std.proofs.lemmas.Result.{IfOk-weaker}
use Rattle.tsl_world.specs.declared.outside.Slot.TheVariants.{State}
use Rattle.tsl_world.proofs.Runs.{grows_none, grows_on, grows_weaker}
use Rattle.tessla_cli.specs.declared.limits.TheConstants.{MOST_STATE_BYTES}
use Rattle.tessla_cli.specs.Conduct.{MakesNothing}
use Rattle.tessla_cli.specs.inner.RunPhases.{EndsSince, GivesName, HasRunFrom, IsBegunAs, IsResumed, ReadsName, ResumedEnds, RunsFrom, RunsResumed, RunsSince, RunsSource, compiled, has_resumed, state_refused, unread}
use Rattle.tessla_cli.proofs.Phases.{file_ends, file_runs}
use Rattle.tessla_cli.proofs.Saving.{can_start, file_makes_none, name_makes_none}
use Rattle.tessla_cli.proofs.trace.run_resumed.Goals as goal

pub returns-in_err-bytes-clause-calls : goal.returns-in_err-bytes-clause-calls
returns-in_err-bytes-clause-calls g c =
    let file = c.args.file.now in
    grows_weaker g.W.World.told g.W.World.journal c.args.world.now c.read_file.new.world (ReadsName State MOST_STATE_BYTES file) (RunsSince (Some file) c.args.run.now c.args.code.now) c.read_file.ensures.calls (λ p r. unread p r)

pub returns-in_err-bytes-clause-unmade : goal.returns-in_err-bytes-clause-unmade
returns-in_err-bytes-clause-unmade g c = λ e.
    let file = c.args.file.now in
    grows_weaker g.W.World.told g.W.World.journal c.args.world.now c.read_file.new.world (ReadsName State MOST_STATE_BYTES file) MakesNothing c.read_file.ensures.calls (λ p r. name_makes_none State MOST_STATE_BYTES file p r)

pub returns-in_err-start-clause-calls : goal.returns-in_err-start-clause-calls
returns-in_err-start-clause-calls g c =
    let file = c.args.file.now in
    grows_weaker g.W.World.told g.W.World.journal c.args.world.now c.read_file.new.world (ReadsName State MOST_STATE_BYTES file) (RunsSince (Some file) c.args.run.now c.args.code.now) c.read_file.ensures.calls (λ p r. unread p r)

pub returns-in_err-start-clause-unmade : goal.returns-in_err-start-clause-unmade
returns-in_err-start-clause-unmade g c = λ e.
    let file = c.args.file.now in
    grows_weaker g.W.World.told g.W.World.journal c.args.world.now c.read_file.new.world (ReadsName State MOST_STATE_BYTES file) MakesNothing c.read_file.ensures.calls (λ p r. name_makes_none State MOST_STATE_BYTES file p r)

pub run_from-requires-clause-starts : goal.run_from-requires-clause-starts
run_from-requires-clause-starts g c =
    let code = c.args.code.now in
    let until = c.args.run.now.until in
    let bytes = c.in_ok-bytes.bytes in
    let begun = rw c.as_slice.ensures at c.in_ok-start.ensures in
    let is : IsResumed code until bytes c.in-Starts.start = subst (IsBegunAs code until bytes) c.in-Starts.is begun in
    can_start code until bytes c.in-Starts.start c.requires.limited.until is

pub returns-in-Starts-clause-calls : goal.returns-in-Starts-clause-calls
returns-in-Starts-clause-calls g c =
    let run = c.args.run.now in
    let code = c.args.code.now in
    let file = c.args.file.now in
    let bytes = c.in_ok-bytes.bytes in
    let begins = c.in-Starts.start in
    let begun = rw c.as_slice.ensures at c.in_ok-start.ensures in
    let is : IsResumed code run.until bytes begins = subst (IsBegunAs code run.until bytes) c.in-Starts.is begun in
    grows_on g.W.World.told g.W.World.journal c.args.world.now c.read_file.new.world c.run_from.new.world (GivesName State MOST_STATE_BYTES file bytes) (RunsFrom run code begins) (RunsSince (Some file) run code)
    c.in_ok-bytes.ensures.bytes c.run_from.ensures.calls
    (λ p q r t. file_runs State MOST_STATE_BYTES file (λ bytes. RunsSource (RunsResumed run code bytes)) bytes p q r (compiled (record { begins = begins; resumed = is; runs = t })))

pub returns-in-Starts-clause-unmade : goal.returns-in-Starts-clause-unmade
returns-in-Starts-clause-unmade g c = λ e.
    let file = c.args.file.now in
    let bytes = c.in_ok-bytes.bytes in
    grows_on g.W.World.told g.W.World.journal c.args.world.now c.read_file.new.world c.run_from.new.world (GivesName State MOST_STATE_BYTES file bytes) MakesNothing MakesNothing c.in_ok-bytes.ensures.bytes (c.run_from.ensures.unmade e)
    (λ p q r t. file_makes_none State MOST_STATE_BYTES file bytes p q r t)

pub returns-in-Starts-clause-ending : goal.returns-in-Starts-clause-ending
returns-in-Starts-clause-ending g c =
    let run = c.args.run.now in
    let code = c.args.code.now in
    let file = c.args.file.now in
    let bytes = c.in_ok-bytes.bytes in
    let begins = c.in-Starts.start in
    let begun = rw c.as_slice.ensures at c.in_ok-start.ensures in
    let is : IsResumed code run.until bytes begins = subst (IsBegunAs code run.until bytes) c.in-Starts.is begun in
    IfOk-weaker c.run_from.result _ _
    (λ by ended. grows_on g.W.World.told g.W.World.journal c.args.world.now c.read_file.new.world c.run_from.new.world (GivesName State MOST_STATE_BYTES file bytes) (HasRunFrom run code begins by) (EndsSince (Some file) run code by)
    c.in_ok-bytes.ensures.bytes ended
    (λ p q r t. file_ends State MOST_STATE_BYTES file (ResumedEnds run code by) bytes p q r (has_resumed begins is t))) c.run_from.ensures.ending

pub returns-in_err-alone-in-Stops-clause-calls : goal.returns-in_err-alone-in-Stops-clause-calls
returns-in_err-alone-in-Stops-clause-calls g c =
    let file = c.args.file.now in
    grows_weaker g.W.World.told g.W.World.journal c.args.world.now c.read_file.new.world (ReadsName State MOST_STATE_BYTES file) (RunsSince (Some file) c.args.run.now c.args.code.now) c.read_file.ensures.calls (λ p r. unread p r)

pub returns-in_err-alone-in-Stops-clause-unmade : goal.returns-in_err-alone-in-Stops-clause-unmade
returns-in_err-alone-in-Stops-clause-unmade g c = λ e.
    let file = c.args.file.now in
    grows_weaker g.W.World.told g.W.World.journal c.args.world.now c.read_file.new.world (ReadsName State MOST_STATE_BYTES file) MakesNothing c.read_file.ensures.calls (λ p r. name_makes_none State MOST_STATE_BYTES file p r)

pub returns-clause-calls : goal.returns-clause-calls
returns-clause-calls g c =
    let file = c.args.file.now in
    grows_weaker g.W.World.told g.W.World.journal c.args.world.now c.read_file.new.world (ReadsName State MOST_STATE_BYTES file) (RunsSince (Some file) c.args.run.now c.args.code.now) c.read_file.ensures.calls (λ p r. unread p r)

pub returns-clause-ending : goal.returns-clause-ending
returns-clause-ending g c =
    let run = c.args.run.now in
    let code = c.args.code.now in
    let file = c.args.file.now in
    let bytes = c.in_ok-bytes.bytes in
    let by = c.in_ok-alone-in-Stops.field-0 in
    let begun = rw c.as_slice.ensures at c.in_ok-start.ensures in
    let (fault, is, refuses) = subst (IsBegunAs code run.until bytes) c.in-Stops.is begun in
    grows_on g.W.World.told g.W.World.journal c.args.world.now c.read_file.new.world c.read_file.new.world (GivesName State MOST_STATE_BYTES file bytes) (λ q. q ≡ []) (EndsSince (Some file) run code by)
    c.in_ok-bytes.ensures.bytes (grows_none g.W.World.told g.W.World.journal c.read_file.new.world (λ q. q ≡ []) refl)
    (λ p q r none. file_ends State MOST_STATE_BYTES file (ResumedEnds run code by) bytes p q r (state_refused fault (c.in_ok-alone-in-Stops.ensures.ending ∙ is) refuses c.in_ok-alone-in-Stops.ensures.text none))
