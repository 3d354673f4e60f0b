use Rattle.std.proofs.Common.{◌∙◌}
use Rattle.trace_reader.proofs.PlacesLemmas.{found_in}
use Rattle.trace_reader.proofs.inputs.Places.find.Goals as goal

pub returns-in-None : goal.returns-in-None
returns-in-None c = found_in c.args.self.now c.args.name.now c.self.inside.entries.entries c.copied.result c.self.view_is (c.copied.ensures ∙ c.get.ensures.value)
