use Rattle.std.proofs.Common.{inl}
use Rattle.last_use.proofs.block.fine_block.Goals as goal

pub nears_of-requires-clause-wider : goal.nears_of-requires-clause-wider
nears_of-requires-clause-wider c = λ x h. (c.in_ok-set.ensures.each x).1 (inl h)
