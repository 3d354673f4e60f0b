use Rattle.std.proofs.Common.{◌∙◌, OnOk}
use Rattle.trace_run.proofs.Grown.{grows_following}
use Rattle.trace_run.specs.Effects.{Gives}
use Rattle.tsl_world.specs.declared.outside.Did.TheVariants.{Created, NotCreated}
use Rattle.tsl_world.proofs.Runs.{grows_called, grows_run}
use Rattle.tessla_cli.specs.inner.RunPhases.{HasPutFile, PutsFile, file_made, no_file_made}
use Rattle.tessla_cli.proofs.Saving.{unmade_elsewhere}
use Rattle.tessla_cli.proofs.Writing.{grows_ok, has_put_of}
use Rattle.tessla_cli.proofs.file.put_file.Goals as goal

pub returns-in_err-create-clause-calls : goal.returns-in_err-create-clause-calls
returns-in_err-create-clause-calls g c =
    grows_called g.W.World.told g.W.World.journal c.args.world.now c.create.new.self (NotCreated c.args.to c.args.name.now) (PutsFile c.args.to c.args.name.now c.args.text.now) c.create.ensures.told c.in_err-create.ensures.journal no_file_made

pub returns-clause-heard : goal.returns-clause-heard
returns-clause-heard g c = c.write_all.ensures.heard.elsewhere (unmade_elsewhere (g.W.World.standing c.args.world.now) c.args.to c.requires) ∙ c.create.ensures.heard

pub returns-clause-calls : goal.returns-clause-calls
returns-clause-calls g c =
    let to = c.args.to in
    let name = c.args.name.now in
    let text = c.args.text.now in
    let gives = grows_run g.W.World.told g.W.World.journal g.W.World.standing c.create.new.self c.write_all.new.world (Gives to text c.write_all.result) c.write_all.ensures.calls in
    grows_following g.W.World.told g.W.World.journal c.args.world.now c.create.new.self c.write_all.new.world (Created to name) (Gives to text c.write_all.result) (PutsFile to name text)
    c.create.ensures.told c.in_ok-create.ensures.journal gives (λ q r. file_made q r.writes r.some)

pub returns-clause-whole : goal.returns-clause-whole
returns-clause-whole g c =
    let to = c.args.to in
    let name = c.args.name.now in
    let text = c.args.text.now in
    let result = c.write_all.result in
    let gives = grows_run g.W.World.told g.W.World.journal g.W.World.standing c.create.new.self c.write_all.new.world (Gives to text result) c.write_all.ensures.calls in
    grows_ok g.W.World.told g.W.World.journal result c.args.world.now c.write_all.new.world (HasPutFile to name text)
    (grows_following g.W.World.told g.W.World.journal c.args.world.now c.create.new.self c.write_all.new.world (Created to name) (Gives to text result)
    (λ p. OnOk result (HasPutFile to name text p)) c.create.ensures.told c.in_ok-create.ensures.journal gives (λ q r. has_put_of to name text result q r))
