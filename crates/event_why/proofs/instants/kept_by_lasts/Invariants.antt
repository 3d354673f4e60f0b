use Rattle.std.proofs.Common.{◌≡◌, length}
use Rattle.event_why.proofs.KeptLemmas.{AreKeptBelow}
use Rattle.event_why.proofs.instants.kept_by_lasts.Given as goal

abbrev pub invariant-loop-n : goal.invariant-loop-n
invariant-loop-n l = record { count : length l.kept.items ≡ length l.flat.equations; kept : AreKeptBelow l.flat l.n l.kept.items }
