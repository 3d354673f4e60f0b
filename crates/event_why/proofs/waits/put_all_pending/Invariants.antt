use Rattle.std.proofs.Common.{◌≡◌, ℕ, suc, ◌<◌}
use Rattle.flat_core.specs.System.{runs}
use Rattle.event_why.specs.inner.Tale.{IsAt, IsStory, Tale, always, passed}
use Rattle.event_why.proofs.waits.put_all_pending.Given as goal

abbrev pub invariant-loop-n : goal.invariant-loop-n
invariant-loop-n l =
    (T : Tale) (past : ℕ → ℕ) →
    l.flat ≡ T.system →
    IsStory T →
    l.t < T.bound →
    IsAt T past (always l.t) l.t (runs T.system) l.initial.draft →
    IsAt T past (passed l.n (suc l.t) l.t) l.t (runs T.system) l.draft
