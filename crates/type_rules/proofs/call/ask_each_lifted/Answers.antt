use Rattle.std.proofs.Common.{sym, ◌∙◌}
use Rattle.std.proofs.lemmas.Slice.Zip.{either_empty_from_Zip}
use Rattle.type_rules.proofs.Ends.{mapped_ends}
use Rattle.type_rules.specs.Rules.{lifted_type}
use Rattle.type_rules.proofs.call.ask_each_lifted.Goals as goal

-- the end of the loop
pub returns : goal.returns
returns c = sym (mapped_ends (lifted_type c.args.at) _ _ (either_empty_from_Zip c.loop-param.param-iterator c.next.new.self _ c.in-None.is c.next.ensures.steps)) ∙ c.loop-param.invariant
