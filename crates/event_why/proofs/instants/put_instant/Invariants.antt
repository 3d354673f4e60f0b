use Rattle.std.proofs.Common.{ℕ, ◌<◌, drop}
use Rattle.flat_core.specs.Case.{Streams}
use Rattle.flat_core.specs.Events.{Inputs}
use Rattle.event_why.specs.inner.Row.{IsRow}
use Rattle.event_why.specs.inner.Tale.{IsStory, IsUpTo, tale_of}
use Rattle.event_why.proofs.RunLemmas.{IsPartly}
use Rattle.event_why.proofs.instants.put_instant.Given as goal

abbrev pub invariant-loop-number : goal.invariant-loop-number
invariant-loop-number l =
    (p : Inputs) (z : Streams) (bound : ℕ) →
    IsStory (tale_of l.story p z bound) →
    l.t < bound →
    IsRow (tale_of l.story p z bound) l.t l.row →
    IsUpTo (tale_of l.story p z bound) l.t l.initial.draft →
    IsPartly (tale_of l.story p z bound) l.t (drop l.number-index l.story.order.now) l.draft
