use Rattle.std.proofs.Common.{◌≡◌, map}
use Rattle.type_rules.specs.Rules.{ask_each, lifted_type}
use Rattle.type_rules.proofs.call.ask_each_lifted.Given as goal

abbrev pub invariant-loop-param : goal.invariant-loop-param
invariant-loop-param l =
    ask_each (map (lifted_type l.at) l.param-iterator.a.rest.now) l.param-iterator.b.rest.now ≡ ask_each (map (lifted_type l.at) l.params) l.args
