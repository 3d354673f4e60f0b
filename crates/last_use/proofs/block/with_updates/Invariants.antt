use Rattle.last_use.specs.inner.Blocks.{IsWithBlock}
use Rattle.last_use.proofs.block.with_updates.Given as goal

abbrev pub invariant-loop-number : goal.invariant-loop-number
invariant-loop-number l = IsWithBlock l.flat l.set l.from l.number l.more
