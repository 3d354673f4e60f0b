use Rattle.name_check.proofs.TopLemmas.{added}
use Rattle.name_check.proofs.top.add.Goals as goal

pub returns : goal.returns
returns c = added c.args.names.now c.declare.new.self (record { name = c.args.name.now; is = c.args.is }) c.in_ok-_new._new c.in_ok-_new.ensures.new c.in_ok-_new.ensures.added
