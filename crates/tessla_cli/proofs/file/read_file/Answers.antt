use Rattle.tsl_world.specs.declared.outside.Did.TheVariants.{Opened, NotOpened}
use Rattle.tessla_cli.specs.inner.RunPhases.{GivesFile, GivesName, ReadsFile, ReadsName, no_file, reading, given_name}
use Rattle.tsl_world.proofs.Runs.{grows_called, grows_run}
use Rattle.trace_run.proofs.Grown.{grows_both, grows_following}
use Rattle.tessla_cli.proofs.file.read_file.Goals as goal

pub returns-in_err-open-clause-calls : goal.returns-in_err-open-clause-calls
returns-in_err-open-clause-calls g c =
    grows_called g.W.World.told g.W.World.journal c.args.world.now c.open.new.self (NotOpened c.args.slot c.args.name.now) (ReadsName c.args.slot c.args.most c.args.name.now) c.open.ensures.told c.in_err-open.ensures.journal no_file

pub returns-in_err-read_whole-clause-calls : goal.returns-in_err-read_whole-clause-calls
returns-in_err-read_whole-clause-calls g c =
    grows_following g.W.World.told g.W.World.journal c.args.world.now c.open.new.self c.read_whole.new.world (Opened c.args.slot c.args.name.now) (ReadsFile c.args.slot c.args.most) (ReadsName c.args.slot c.args.most c.args.name.now) c.open.ensures.told
    c.in_ok-open.ensures.journal (grows_run g.W.World.told g.W.World.journal g.W.World.standing c.open.new.self c.read_whole.new.world _ c.read_whole.ensures.calls) (λ q r. reading q r)

pub returns-clause-calls : goal.returns-clause-calls
returns-clause-calls g c =
    grows_following g.W.World.told g.W.World.journal c.args.world.now c.open.new.self c.read_whole.new.world (Opened c.args.slot c.args.name.now) (ReadsFile c.args.slot c.args.most) (ReadsName c.args.slot c.args.most c.args.name.now) c.open.ensures.told
    c.in_ok-open.ensures.journal (grows_run g.W.World.told g.W.World.journal g.W.World.standing c.open.new.self c.read_whole.new.world _ c.read_whole.ensures.calls) (λ q r. reading q r)

pub returns-clause-bytes : goal.returns-clause-bytes
returns-clause-bytes g c =
    let slot = c.args.slot in
    let most = c.args.most in
    let name = c.args.name.now in
    let bytes = c.in_ok-read_whole.field-0 in
    let read = grows_both g.W.World.told g.W.World.journal c.open.new.self c.read_whole.new.world (ReadsFile slot most) (GivesFile slot most bytes)
    (grows_run g.W.World.told g.W.World.journal g.W.World.standing c.open.new.self c.read_whole.new.world (ReadsFile slot most) c.read_whole.ensures.calls)
    (grows_run g.W.World.told g.W.World.journal g.W.World.standing c.open.new.self c.read_whole.new.world (GivesFile slot most bytes) c.in_ok-read_whole.ensures.bytes) in
    grows_following g.W.World.told g.W.World.journal c.args.world.now c.open.new.self c.read_whole.new.world (Opened slot name) (λ q. ReadsFile slot most q × GivesFile slot most bytes q) (GivesName slot most name bytes) c.open.ensures.told
    c.in_ok-open.ensures.journal read (λ q r. given_name q r.0 r.1)
