use Rattle.tsl_world.proofs.Runs.{grows_none, grows_run, grows_weaker}
use Rattle.tessla_cli.specs.inner.RunPhases.{HasPutMade, PutsMade}
use Rattle.tessla_cli.proofs.Printing.{has_put_made, has_put_none, puts_made, puts_nothing}
use Rattle.tessla_cli.proofs.put.put_made.Goals as goal

pub returns-in_err-ended-in-Text-clause-calls : goal.returns-in_err-ended-in-Text-clause-calls
returns-in_err-ended-in-Text-clause-calls g c = grows_none g.W.World.told g.W.World.journal c.args.world.now (PutsMade c.args.made) (puts_nothing c.args.made)

pub returns-in_err-write_all-in-Text-clause-calls : goal.returns-in_err-write_all-in-Text-clause-calls
returns-in_err-write_all-in-Text-clause-calls g c =
    let new = c.write_all.new.world in
    let gives = rw c.as_slice.ensures at c.write_all.ensures.calls in
    grows_weaker g.W.World.told g.W.World.journal c.args.world.now new _ (PutsMade c.args.made) (grows_run g.W.World.told g.W.World.journal g.W.World.standing c.args.world.now new _ gives)
    (λ p r. puts_made c.args.made c.in-Text.text c.in-Text.is c.write_all.result p r)

pub returns-in_ok-write_all-in-Text-clause-calls : goal.returns-in_ok-write_all-in-Text-clause-calls
returns-in_ok-write_all-in-Text-clause-calls g c =
    let new = c.write_all.new.world in
    let gives = rw c.as_slice.ensures at c.write_all.ensures.calls in
    grows_weaker g.W.World.told g.W.World.journal c.args.world.now new _ (PutsMade c.args.made) (grows_run g.W.World.told g.W.World.journal g.W.World.standing c.args.world.now new _ gives)
    (λ p r. puts_made c.args.made c.in-Text.text c.in-Text.is c.write_all.result p r)

pub returns-in_ok-write_all-in-Text-clause-ending : goal.returns-in_ok-write_all-in-Text-clause-ending
returns-in_ok-write_all-in-Text-clause-ending g c =
    let new = c.write_all.new.world in
    let ended = c.in_ok-ended-in-Text.ended in
    let gives = rw c.as_slice.ensures at c.in_ok-write_all-in-Text.ensures.calls in
    grows_weaker g.W.World.told g.W.World.journal c.args.world.now new _ (HasPutMade c.args.made ended) (grows_run g.W.World.told g.W.World.journal g.W.World.standing c.args.world.now new _ gives)
    (λ p r. has_put_made c.args.made c.in-Text.text c.in-Text.is ended c.in_ok-ended-in-Text.ensures.ending c.in_ok-ended-in-Text.ensures.text p r)

pub returns-in_err-alone-in-Stops-clause-calls : goal.returns-in_err-alone-in-Stops-clause-calls
returns-in_err-alone-in-Stops-clause-calls g c = grows_none g.W.World.told g.W.World.journal c.args.world.now (PutsMade c.args.made) (puts_nothing c.args.made)

pub returns-in_ok-alone-in-Stops-clause-calls : goal.returns-in_ok-alone-in-Stops-clause-calls
returns-in_ok-alone-in-Stops-clause-calls g c = grows_none g.W.World.told g.W.World.journal c.args.world.now (PutsMade c.args.made) (puts_nothing c.args.made)

pub returns-in_ok-alone-in-Stops-clause-ending : goal.returns-in_ok-alone-in-Stops-clause-ending
returns-in_ok-alone-in-Stops-clause-ending g c =
    let by = c.in_ok-alone-in-Stops.field-0 in
    grows_none g.W.World.told g.W.World.journal c.args.world.now (HasPutMade c.args.made by)
    (has_put_none c.args.made c.in-Stops.ending c.in-Stops.is by c.in_ok-alone-in-Stops.ensures.ending c.in_ok-alone-in-Stops.ensures.text)
