use Rattle.std.proofs.Common.{◌∷◌, reverse}
use Rattle.translation_order.specs.inner.Searching.{IsSearch, steps_left}
use Rattle.translation_order.proofs.search.visit_all.Given as goal

abbrev pub invariant-loop-search : goal.invariant-loop-search
invariant-loop-search l = IsSearch l.successors l.search.visits.items l.search.entered (l.last ∷ reverse l.search.others.items)

abbrev pub decreases-loop-search : goal.decreases-loop-search
decreases-loop-search l = steps_left l.successors l.search.entered (l.last ∷ reverse l.search.others.items)
