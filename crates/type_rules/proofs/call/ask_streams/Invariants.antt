use Rattle.std.proofs.Common.{◌≡◌, drop}
use Rattle.type_rules.specs.Rules.{ask_streams}
use Rattle.type_rules.proofs.call.ask_streams.Given as goal

abbrev pub invariant-loop-part : goal.invariant-loop-part
invariant-loop-part l = ask_streams (drop l.part-index l.parts) ≡ ask_streams l.parts
