use Rattle.std.proofs.Common.{subst, sym}
use Rattle.trace_reader.specs.inner.LastTime.{last_of}
use Rattle.trace_reader.specs.inner.Reader.{HasLine, Reader}
use Rattle.trace_reader.proofs.SoundLemmas.{sound_past}
use Rattle.trace_reader.proofs.StepLemmas.{past_is}
use Rattle.trace_reader.proofs.reader.TraceReader.pass_line.Goals as goal

pub invariant_of-self-2 : goal.invariant_of-self-2
invariant_of-self-2 c =
    let has = subst (λ (r : Reader). HasLine r c.args.len) (sym c.self.view_is) c.requires.line in
    let passes = rw (c.last_counts-last_counts.ensures, ← c.self.view_is, c.skip_line.ensures) at c.pass_skipped.ensures.passes in
    let stops = rw (c.last_counts-last_counts.ensures, ← c.self.view_is) at c.pass_skipped.ensures.stops in
    sound_past _ c.self.invariant c.args.len has c.pass_skipped.new.self c.pass_skipped.result (last_of c.of-self-inside.result.number) c.note_event.new.seen.items passes stops

pub returns-clause-ok : goal.returns-clause-ok
returns-clause-ok c =
    let passes = rw (c.last_counts-last_counts.ensures, ← c.self.view_is, c.skip_line.ensures) at c.pass_skipped.ensures.passes in
    rw (← c.self.view_is) (past_is _ c.args.len c.pass_skipped.result c.args.line.now c.pass_skipped.new.self c.note_event.new.seen.items (last_of c.of-self-inside.result.number) c.in_ok-note_event.ensures.ok c.of-self-inside.ensures passes)
