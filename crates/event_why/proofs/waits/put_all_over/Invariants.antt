use Rattle.std.proofs.Common.{◌≡◌, ℕ, suc, ◌<◌, false, Some}
use Rattle.why_rules.specs.Facts.{Gap}
use Rattle.event_why.specs.inner.Drafted.{fact_at}
use Rattle.event_why.specs.inner.Tale.{IsAt, IsCalm, IsStory, SaysStill, Tale, always, passed}
use Rattle.event_why.proofs.waits.put_all_over.Given as goal

abbrev pub invariant-loop-n : goal.invariant-loop-n
invariant-loop-n l = record {
  still : SaysStill l.initial.draft l.draft;
  over :
      (T : Tale) (past : ℕ → ℕ) (before : ℕ) →
      l.flat ≡ T.system →
      IsStory T →
      before < l.to →
      l.to < T.bound →
      IsCalm T (suc before) (suc l.to) →
      fact_at l.initial.draft.steps.items (Some l.gap) ≡ Some (Gap (suc before) l.to) →
      IsAt T past (always (suc before)) 0 (λ i. false) l.initial.draft →
      IsAt T past (passed l.n (suc l.to) (suc before)) 0 (λ i. false) l.draft;
}
