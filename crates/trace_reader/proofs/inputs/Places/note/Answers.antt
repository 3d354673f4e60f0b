use Rattle.trace_reader.proofs.PlacesLemmas.{noted_new, noted_there}
use Rattle.trace_reader.proofs.inputs.Places.note.Goals as goal

pub returns-then-contains_key-clause-ok : goal.returns-then-contains_key-clause-ok
returns-then-contains_key-clause-ok c =
    noted_there c.args.self.now c.args.name.now c.args.input c.self.inside.entries.entries c.self.view_is c.contains_key.result c.contains_key.ensures c.if-contains_key.true

pub returns-clause-ok : goal.returns-clause-ok
returns-clause-ok c =
    noted_new c.args.self.now c.args.name.now c.args.input c.self.inside.entries.entries c.self.view_is c.contains_key.result c.contains_key.ensures
    c.in_ok-key.key c.insert.new.self.entries c.if-contains_key.false c.in_ok-key.ensures.ok c.in_ok-insert.ensures.entries
