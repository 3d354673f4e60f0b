use Rattle.std.proofs.Common.{◌∙◌}
use Rattle.name_check.proofs.TableLemmas.{found_in}
use Rattle.name_check.proofs.names.Names.find.Goals as goal

pub returns : goal.returns
returns c = found_in c.args.self.now c.args.name.now c.self.inside.entries.entries c.copied.result c.self.view_is (c.copied.ensures ∙ c.get.ensures.value)
