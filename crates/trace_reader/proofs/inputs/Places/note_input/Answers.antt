use Rattle.std.proofs.Common.{ap, ◌∙◌, Some, sym}
use Rattle.trace_reader.proofs.PlacesLemmas.{input_noted, on_ok}
use Rattle.trace_reader.proofs.inputs.Places.note_input.Goals as goal

pub returns-in-Input-Some : goal.returns-in-Input-Some
returns-in-Input-Some c =
    let named = c.in-Input-Some.is-1 ∙ ap (λ bs. Some bs) (sym c.as_str.ensures) in
    on_ok c.note.result (λ is. input_noted c.args.self.now c.note.new.self c.as_str.result.now c.args.id c.args.equation.now c.in-Input-Some.is-0 named is) c.note.ensures.ok
