use Rattle.std.proofs.Common.{◌∙◌, ap, subst, sym}
use Rattle.trace_reader.specs.inner.Reader.{AwaitsMore, Reader}
use Rattle.trace_reader.proofs.AnyLemmas.{has_fed}
use Rattle.trace_reader.proofs.SoundLemmas.{sound_fed}
use Rattle.trace_reader.proofs.StepLemmas.{reads_fed_on}
use Rattle.trace_reader.proofs.reader.TraceReader.feed.Goals as goal

pub invariant_of-self-2 : goal.invariant_of-self-2
invariant_of-self-2 c =
    let awaits = subst (λ (r : Reader). AwaitsMore r) (sym c.self.view_is) c.requires.awaits in
    sound_fed _ c.self.invariant awaits c.args.piece.now c.append.new.self c.pass_skipped.new.self c.min-fits.result c.pass_skipped.result c.byte_at-self-inside.result
    c.min-fits.ensures c.in_ok-append.ensures.ok c.byte_at-self-inside.ensures c.pass_skipped.ensures.passes c.pass_skipped.ensures.stops

pub returns-clause-reads : goal.returns-clause-reads
returns-clause-reads c =
    let accepted = ap (λ (r : Reader). r.refused) c.self.view_is ∙ c.requires.awaits.accepted in
    let within = ap (λ (r : Reader). r.beyond) c.self.view_is ∙ c.requires.awaits.within in
    let unended = ap (λ (r : Reader). r.ended) c.self.view_is ∙ c.requires.awaits.unended in
    rw (← c.self.view_is) (λ s strict limit fed given reads.
    reads_fed_on _ s strict limit fed given c.args.piece.now c.append.new.self c.min-fits.result c.byte_at-self-inside.result c.pass_skipped.result c.pass_skipped.new.self
    accepted unended within c.min-fits.ensures c.in_ok-append.ensures.ok c.byte_at-self-inside.ensures c.pass_skipped.ensures.passes reads)

pub returns-clause-fed : goal.returns-clause-fed
returns-clause-fed c =
    rw (← c.self.view_is) (has_fed _ c.args.piece.now c.append.new.self c.pass_skipped.new.self c.min-fits.result c.pass_skipped.result c.byte_at-self-inside.result
    c.min-fits.ensures c.in_ok-append.ensures.ok c.byte_at-self-inside.ensures c.pass_skipped.ensures.passes)
