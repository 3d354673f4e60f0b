use Rattle.alias_nears.proofs.Widening.{added_are}
use Rattle.alias_nears.proofs.writes.added.Goals as goal

pub returns : goal.returns
returns c = added_are c.args.set.now c.args.smaller.now c.args.flat.now c.args.uses.now c.new-added.result c.as_slice.result.now c.push_added.new.pairs c.requires c.new-added.ensures c.as_slice.ensures c.in_ok-push_added.ensures
