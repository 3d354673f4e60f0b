use Rattle.std.proofs.Common.{◌≡◌}
use Rattle.type_rules.specs.Rules.{ask_each}
use Rattle.type_rules.proofs.call.ask_each.Given as goal

abbrev pub invariant-loop-param : goal.invariant-loop-param
invariant-loop-param l = ask_each l.param-iterator.a.rest.now l.param-iterator.b.rest.now ≡ ask_each l.params l.args
