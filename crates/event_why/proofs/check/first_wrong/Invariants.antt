use Rattle.flat_core.specs.Line.{inputs_of}
use Rattle.event_why.specs.Check.{AreRight}
use Rattle.event_why.proofs.check.first_wrong.Given as goal

abbrev pub invariant-loop-step : goal.invariant-loop-step
invariant-loop-step l = AreRight l.grounds.flat.now l.grounds.slice.now (inputs_of l.grounds.lines.now) l.steps l.step
