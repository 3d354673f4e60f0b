use Rattle.trace_reader.proofs.SavedLemmas.{resumed_reads}
use Rattle.trace_reader.proofs.SoundLemmas.{sound_resumed}
use Rattle.trace_reader.proofs.reader.TraceReader.from_state.Goals as goal

pub invariant_of-result : goal.invariant_of-result
invariant_of-result c =
    rw (c.in_ok-new.ensures, c.from_bytes.ensures, c.from_option.ensures, c.in_ok-listed.ensures) (sound_resumed c.args.flat.now c.args.strict c.args.limit c.args.state c.requires.few c.requires.fits)

pub returns-clause-reads : goal.returns-clause-reads
returns-clause-reads c =
    rw (c.in_ok-new.ensures, c.from_bytes.ensures, c.from_option.ensures, c.in_ok-listed.ensures) (λ fed given it. resumed_reads c.args.flat.now c.args.strict c.args.limit c.args.state c.requires.fits fed given it)
