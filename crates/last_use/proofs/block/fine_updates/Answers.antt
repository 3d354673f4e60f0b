use Rattle.std.proofs.Common.{arith}
use Rattle.last_use.proofs.block.fine_updates.Goals as goal

pub fine_block-requires-clause-none_is_nil : goal.fine_block-requires-clause-none_is_nil
fine_block-requires-clause-none_is_nil c = c.requires.several (let le = c.loop-updates.invariant in let more = c.loop-updates-test.true in omega arith)
