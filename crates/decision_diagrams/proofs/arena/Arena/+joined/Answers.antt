use Rattle.std.proofs.Common.{sym, ap, ◌∙◌}
use Rattle.std.specs.Option.{option_copied}
use Rattle.decision_diagrams.proofs.Nodes.{grows_on, grows_same}
use Rattle.decision_diagrams.proofs.Joining.{settled_is, join_after, joined_is, known_more, nodes_on}
use Rattle.decision_diagrams.proofs.arena.Arena.+joined.Goals as goal

pub returns-in-Some-clause-exact : goal.returns-in-Some-clause-exact
returns-in-Some-clause-exact t c = settled_is c.args.self.now c.args.pair c.requires.there c.args.connective c.in-Some.node (sym c.settled.ensures ∙ c.in-Some.is)

pub returns-in-Some-get-clause-exact : goal.returns-in-Some-get-clause-exact
returns-in-Some-get-clause-exact t c = (c.requires.known c.args.pair c.in-Some-get.node.now (sym c.get.ensures.value ∙ ap option_copied c.in-Some-get.is)).1

pub fork-requires-clause-low_after : goal.fork-requires-clause-low_after
fork-requires-clause-low_after t c =
    let s = c.split-split.ensures in
    join_after c.args.connective c.args.self.now c.joined.new.self c.joined-2.new.self c.split-split.result.variable c.split-split.result.low c.in_ok-low.low c.joined.ensures.grows c.joined-2.ensures.grows s.low s.low_after c.in_ok-low.ensures.exact

pub fork-requires-clause-high_after : goal.fork-requires-clause-high_after
fork-requires-clause-high_after t c =
    let s = c.split-split.ensures in
    join_after c.args.connective c.args.self.now c.joined-2.new.self c.joined-2.new.self c.split-split.result.variable c.split-split.result.high c.in_ok-high.high (grows_on c.args.self.now c.joined.new.self c.joined-2.new.self c.joined.ensures.grows c.joined-2.ensures.grows) (grows_same c.joined-2.new.self) s.high s.high_after c.in_ok-high.ensures.exact

pub returns-clause-exact : goal.returns-clause-exact
returns-clause-exact t c =
    joined_is c.args.connective c.args.self.now c.joined.new.self c.joined-2.new.self c.fork.new.self c.args.pair c.split-split.result c.in_ok-low.low c.in_ok-high.high c.in_ok-node.node c.requires.there c.split-split.ensures c.joined.ensures.grows c.joined-2.ensures.grows c.fork.ensures.grows
    c.in_ok-low.ensures.exact c.in_ok-high.ensures.exact c.in_ok-node.ensures.there c.in_ok-node.ensures.exact c.in_ok-node.ensures.deeper

pub returns-clause-known : goal.returns-clause-known
returns-clause-known t c =
    let all = grows_on c.args.self.now c.joined.new.self c.fork.new.self c.joined.ensures.grows (grows_on c.joined.new.self c.joined-2.new.self c.fork.new.self c.joined-2.ensures.grows c.fork.ensures.grows) in
    known_more c.args.connective c.joined-2.new.self c.fork.new.self c.joined-2.new.known c.insert.new.self c.args.pair c.in_ok-node.node c.fork.ensures.grows c.in_ok-high.ensures.known (nodes_on c.args.self.now c.fork.new.self c.args.pair all c.requires.there) (returns-clause-exact t c) c.in_ok-insert.ensures.updates.0
