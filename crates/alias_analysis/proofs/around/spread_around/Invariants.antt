use Rattle.flat_core.specs.inner.Marks.{left, Spreading}
use Rattle.alias_paths.specs.inner.Search.{marks_of, AreListed}
use Rattle.alias_nears.specs.inner.Contents.{IsPairAround}
use Rattle.alias_analysis.proofs.around.spread_around.Given as goal

abbrev pub invariant-loop-number : goal.invariant-loop-number
invariant-loop-number l = record {
  spreading : Spreading (IsPairAround l.flat l.update l.carriers) (marks_of l.initial.search) (marks_of l.search);
  listed : AreListed l.initial.search → AreListed l.search;
}

abbrev pub decreases-loop-number : goal.decreases-loop-number
decreases-loop-number l = left (marks_of l.search)
