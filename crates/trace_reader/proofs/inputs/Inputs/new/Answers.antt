use Rattle.std.proofs.Common.{◌∙◌, sym}
use Rattle.trace_reader.specs.inner.Places.{place_in}
use Rattle.trace_reader.proofs.PlacesLemmas.{table_next}
use Rattle.trace_reader.proofs.inputs.Inputs.new.Goals as goal

pub loop-number-preserved : goal.loop-number-preserved
loop-number-preserved c = λ name.
    let here = rw c.new-id.ensures at c.equation.ensures in
    let next = rw c.new-id.ensures at (c.in_ok-note_input.ensures name) in
    sym (table_next c.args.flat.now name c.loop-number.number c.equation.result.now (place_in c.loop-number.places name) (place_in c.note_input.new.self name) here next)
    ∙ c.loop-number.invariant name
