use Rattle.flat_core.specs.inner.Marks.{left, Spreading}
use Rattle.translation_order.specs.Order.{Before}
use Rattle.alias_paths.specs.inner.Search.{marks_of, AreListed}
use Rattle.alias_paths.proofs.reach.Search.spread.Given as goal

abbrev pub invariant-loop-number : goal.invariant-loop-number
invariant-loop-number l = record {
  spreading : Spreading (Before l.links) (marks_of l.fn.self) (marks_of l.self);
  listed : AreListed l.fn.self → AreListed l.self;
}

abbrev pub decreases-loop-number : goal.decreases-loop-number
decreases-loop-number l = left (marks_of l.self)
