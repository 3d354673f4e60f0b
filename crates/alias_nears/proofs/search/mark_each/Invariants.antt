use Rattle.std.proofs.Common.{take}
use Rattle.flat_core.specs.inner.Marks.{Marked}
use Rattle.alias_paths.specs.inner.Search.{marks_of, AreListed}
use Rattle.alias_nears.proofs.search.mark_each.Given as goal

abbrev pub invariant-loop-number : goal.invariant-loop-number
invariant-loop-number l = record {
  marked : Marked (take l.number-index l.listed) (marks_of l.initial.search) (marks_of l.search);
  listed : AreListed l.initial.search → AreListed l.search;
}
