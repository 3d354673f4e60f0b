use Rattle.std.proofs.Common.{◌≡◌, false, rules}
use Rattle.trace_reader.proofs.AnyLemmas.{has_ended}
use Rattle.trace_reader.proofs.SoundLemmas.{sound_ended}
use Rattle.trace_reader.proofs.StepLemmas.{none_told, reads_end_on}
use Rattle.trace_reader.proofs.reader.TraceReader.finish.Goals as goal

pub invariant_of-self : goal.invariant_of-self
invariant_of-self c =
    let ended = none_told c.self.inside.beyond c.is_none.result c.is_none.ensures in
    let unended : c.self.inside.ended ≡ false = search rules in
    sound_ended _ c.self.invariant unended c.pass_skipped.new.self c.pass_skipped.result (rw ended at c.pass_skipped.ensures.passes) (rw ended at c.pass_skipped.ensures.stops)

pub returns-then-not-self-clause-reads : goal.returns-then-not-self-clause-reads
returns-then-not-self-clause-reads c =
    let ended = none_told c.self.inside.beyond c.is_none.result c.is_none.ensures in
    let passes = rw ended at c.pass_skipped.ensures.passes in
    rw (← c.self.view_is) (λ s strict limit fed given reads. reads_end_on _ s strict limit fed given c.pass_skipped.result c.pass_skipped.new.self passes reads)

pub returns-then-not-self-clause-ended : goal.returns-then-not-self-clause-ended
returns-then-not-self-clause-ended c =
    let ended = none_told c.self.inside.beyond c.is_none.result c.is_none.ensures in
    let passes = rw ended at c.pass_skipped.ensures.passes in
    rw (← c.self.view_is) (has_ended _ c.pass_skipped.result c.pass_skipped.new.self passes)
