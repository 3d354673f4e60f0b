use Rattle.std.proofs.Common.{◌≡◌}
use Rattle.type_rules.specs.Rules.{ask_options}
use Rattle.type_rules.proofs.call.ask_options.Given as goal

abbrev pub invariant-loop-stream : goal.invariant-loop-stream
invariant-loop-stream l = ask_options l.stream-iterator.a.rest.now l.stream-iterator.b.rest.now ≡ ask_options l.streams l.params
