use Rattle.std.proofs.Common.{◌≡◌, None}
use Rattle.std.proofs.lemmas.Result.{on_ok_weaker}
use Rattle.tsl_world.proofs.Runs.{grows_none, grows_weaker}
use Rattle.tsl_world.specs.declared.outside.Channel.TheVariants.{State}
use Rattle.tessla_cli.specs.inner.RunPhases.{HasPutFile, HasSavedTo}
use Rattle.tessla_cli.proofs.Saving.{none_saved, put_saved}
use Rattle.tessla_cli.proofs.trace.save.Goals as goal

pub returns-in-Some-Some-clause-whole : goal.returns-in-Some-Some-clause-whole
returns-in-Some-Some-clause-whole g c =
    let file = c.args.file.now in
    let left = c.args.left.now in
    let name = c.in-Some-Some.file in
    let text = c.in-Some-Some.left in
    let put = rw (c.as_str.ensures, c.as_slice.ensures) at c.put_file.ensures.whole in
    on_ok_weaker c.put_file.result
    (λ whole. grows_weaker g.W.World.told g.W.World.journal c.args.world.now c.put_file.new.world (HasPutFile State name text) (λ part. (file ≡ None → left ≡ None) → HasSavedTo file left part) whole
    (λ p r unasked. put_saved file left name text c.in-Some-Some.is-0 c.in-Some-Some.is-1 p r)) put

pub returns-in_default-clause-whole : goal.returns-in_default-clause-whole
returns-in_default-clause-whole g c =
    let file = c.args.file.now in
    let left = c.args.left.now in
    grows_none g.W.World.told g.W.World.journal c.args.world.now (λ part. (file ≡ None → left ≡ None) → HasSavedTo file left part) (λ unasked. none_saved file left c.in_default.is-1)

pub returns-in_default-2-clause-whole : goal.returns-in_default-2-clause-whole
returns-in_default-2-clause-whole g c =
    let file = c.args.file.now in
    let left = c.args.left.now in
    grows_none g.W.World.told g.W.World.journal c.args.world.now (λ part. (file ≡ None → left ≡ None) → HasSavedTo file left part) (λ unasked. none_saved file left (unasked c.in_default.is-0))
