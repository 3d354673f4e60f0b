use Rattle.std.proofs.Common.{◌≡◌, ℕ, suc, ◌<◌, ◌≤◌, false, Some}
use Rattle.flat_core.specs.Case.{Streams}
use Rattle.flat_core.specs.Events.{Inputs}
use Rattle.why_rules.specs.Facts.{Gap}
use Rattle.event_why.specs.inner.Drafted.{fact_at}
use Rattle.event_why.specs.inner.Tale.{IsAt, IsCalm, IsStory, always, passed, tale_of}
use Rattle.event_why.proofs.instants.put_all_quiet.Given as goal

abbrev pub invariant-loop-n : goal.invariant-loop-n
invariant-loop-n l =
    (p : Inputs) (z : Streams) (bound : ℕ) (due : ℕ → ℕ) →
    IsStory (tale_of l.story p z bound) →
    l.from ≤ l.to →
    l.to < bound →
    IsCalm (tale_of l.story p z bound) l.from (suc l.to) →
    fact_at l.initial.draft.steps.items (Some l.gap) ≡ Some (Gap l.from l.to) →
    IsAt (tale_of l.story p z bound) (always l.from) due 0 (λ i. false) l.initial.draft →
    (fact_at l.draft.steps.items (Some l.gap) ≡ Some (Gap l.from l.to))
    × IsAt (tale_of l.story p z bound) (passed l.n (suc l.to) l.from) due 0 (λ i. false) l.draft
