use Rattle.form_check.proofs.OutputLemmas.{is_again, is_first, one_more}
use Rattle.form_check.proofs.output.print.Goals as goal

pub returns-then-contains-clause-found : goal.returns-then-contains-clause-found
returns-then-contains-clause-found c = is_again c.args.names.now.keys c.args.place c.args.name.now c.contains.result c.contains.ensures c.if-contains.true

pub returns-clause-found : goal.returns-clause-found
returns-clause-found c = is_first c.args.names.now.keys c.args.place c.args.name.now c.contains.result c.contains.ensures c.if-contains.false

pub returns-clause-printed : goal.returns-clause-printed
returns-clause-printed c = one_more c.args.names.now.keys c.insert.new.self.keys c.in_ok-name.name c.args.name.now c.contains.result c.in_ok-name.ensures.ok c.contains.ensures c.if-contains.false c.in_ok-_new.ensures.keys
