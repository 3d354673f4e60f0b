use Rattle.alias_nears.proofs.Bypassing.{begins_are}
use Rattle.alias_nears.proofs.begins.begins_of.Goals as goal

pub returns : goal.returns
returns c = record {
  sharers = c.in_ok-sharers.ensures;
  begins =
      begins_are c.args.flat.now c.assert_whole.ensures.is_flat c.args.set.now c.args.update c.in_ok-begins.begins c.in_ok-sharers.sharers.all c.mark_aliases.new.roots
      c.in_ok-begins.ensures c.in_ok-sharers.ensures.of_source c.in_ok-mark_aliases.ensures;
}
