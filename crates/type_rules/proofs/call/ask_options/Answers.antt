use Rattle.std.proofs.Common.{sym, ◌∙◌}
use Rattle.std.proofs.lemmas.Slice.Zip.{either_empty_from_Zip}
use Rattle.type_rules.proofs.Ends.{ask_options_ends}
use Rattle.type_rules.proofs.call.ask_options.Goals as goal

-- the end of the loop
pub returns : goal.returns
returns c = sym (ask_options_ends _ _ (either_empty_from_Zip c.loop-stream.stream-iterator c.next.new.self _ c.in-None.is c.next.ensures.steps)) ∙ c.loop-stream.invariant
