use Rattle.std.proofs.Common.{[], Contains, take}
use Rattle.flat_core.proofs.Uniqueness.{all_by}
use Rattle.trigger_starts.specs.inner.Rules.{used_by}
use Rattle.trigger_starts.proofs.Meaning.{ready_at}
use Rattle.trigger_diagram.specs.inner.Made.{IsMade}
use Rattle.trigger_diagram.proofs.Making.{made_next}
use Rattle.decision_diagrams.proofs.Nodes.{grows_on}
use Rattle.trigger_diagram.proofs.made.make_all.Goals as goal

pub make-requires-clause-below : goal.make-requires-clause-below
make-requires-clause-below c = (ready_at c.args.rules.now c.args.steps.now [] c.loop-step.step-index c.loop-step-test.true c.requires.ready).0

pub make-requires-clause-used : goal.make-requires-clause-used
make-requires-clause-used c it is =
    all_by (Contains (take c.loop-step.step-index c.args.steps.now)) (IsMade c.loop-step.nodes) c.loop-step.invariant.made (used_by it)
    ((ready_at c.args.rules.now c.args.steps.now [] c.loop-step.step-index c.loop-step-test.true c.requires.ready).1 it is)

pub loop-step-preserved : goal.loop-step-preserved
loop-step-preserved c = record {
  grows = grows_on c.args.arena.now c.loop-step.arena c.make.new.arena c.loop-step.invariant.grows c.make.ensures.grows;
  nodes = c.make.ensures.nodes;
  made = made_next c.args.steps.now c.loop-step.step-index c.loop-step-test.true c.loop-step.nodes c.make.new.nodes c.make.ensures.kept c.in_ok-make.ensures.made c.loop-step.invariant.made;
}
