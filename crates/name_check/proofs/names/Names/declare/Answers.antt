use Rattle.name_check.proofs.TableLemmas.{new_in, declared_in}
use Rattle.name_check.proofs.names.Names.declare.Goals as goal

pub returns-then-contains_key-clause-new : goal.returns-then-contains_key-clause-new
returns-then-contains_key-clause-new c = new_in c.args.self.now c.args.name.now c.self.inside.entries.entries c.contains_key.result _ c.self.view_is c.contains_key.ensures c.if-contains_key.true

pub returns-clause-new : goal.returns-clause-new
returns-clause-new c = new_in c.args.self.now c.args.name.now c.self.inside.entries.entries c.contains_key.result _ c.self.view_is c.contains_key.ensures c.if-contains_key.false

pub returns-clause-added : goal.returns-clause-added
returns-clause-added c = declared_in c.args.self.now c.args.name.now c.in_ok-key.key c.args.is c.self.inside.entries.entries c.insert.new.self.entries c.contains_key.result c.self.view_is c.in_ok-key.ensures.ok c.contains_key.ensures c.if-contains_key.false c.in_ok-insert.ensures.entries
