use Rattle.std.proofs.Common.{◌∙◌, ap, sym}
use Rattle.std.specs.Str.{bytes_eq}
use Rattle.trace_reader.proofs.PlacesLemmas.{first_is}
use Rattle.trace_reader.proofs.inputs.Places.first_called.Goals as goal

pub returns-then-eq : goal.returns-then-eq
returns-then-eq c =
    first_is c.args.self.now c.args.name.now c.self.inside.entries.entries c.in_ok-first.first.now c.in_ok-first.input.now c.self.view_is (sym c.in_ok-first.ensures.entry)
    (sym (c.if-eq.ensures ∙ ap (bytes_eq c.args.name.now) c.as_str.ensures.value))
