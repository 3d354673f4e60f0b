use Rattle.std.proofs.Common.{ℕ, suc, ◌<◌}
use Rattle.flat_core.specs.Case.{Streams}
use Rattle.flat_core.specs.Events.{Inputs}
use Rattle.flat_core.specs.System.{runs}
use Rattle.event_why.specs.inner.Tale.{IsAt, IsRun, IsStory, always, passed, tale_of}
use Rattle.event_why.proofs.instants.settle.Given as goal

abbrev pub invariant-loop-n : goal.invariant-loop-n
invariant-loop-n l =
    (p : Inputs) (z : Streams) (bound t : ℕ) →
    IsStory (tale_of l.story p z bound) →
    t < bound →
    IsRun (tale_of l.story p z bound) t l.initial.draft →
    IsAt (tale_of l.story p z bound) (passed l.n (suc t) t) (always t) t (runs l.story.flat.now) l.draft
