use Rattle.plan_check.specs.inner.Places.{ArePlaces}
use Rattle.plan_check.proofs.places.places_of.Given as goal

abbrev pub invariant-loop-place : goal.invariant-loop-place
invariant-loop-place l = ArePlaces l.flat l.order l.place l.places.items
