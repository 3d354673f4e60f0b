use Rattle.std.proofs.Common.{ℕ, ◌<◌, length, refl, sym, subst}
use Rattle.std.proofs.lemmas.Option.{slice_get_read}
use Rattle.trigger_starts.specs.inner.Truth.{value_by}
use Rattle.trigger_diagram.specs.inner.Made.{value_at}
use Rattle.trigger_diagram.specs.inner.Truth.{Tells}
use Rattle.trigger_diagram.proofs.Making.{nodes_kept, nodes_more}
use Rattle.trigger_diagram.proofs.made.make.Goals as goal

pub returns-in_err-node-clause-nodes : goal.returns-in_err-node-clause-nodes
returns-in_err-node-clause-nodes c = nodes_kept c.args.rules.now c.args.starts.now c.args.arena.now c.formula.new.arena c.args.nodes.now c.formula.ensures.grows c.requires.nodes

pub returns-clause-nodes : goal.returns-clause-nodes
returns-clause-nodes c =
    let low : c.args.step < length c.args.nodes.now = subst (λ n. c.args.step < n) (sym c.requires.many) c.requires.below in
    let is = slice_get_read c.args.rules.now (length c.args.rules.now) c.args.step c.index-rules-index.result refl c.requires.below c.index-rules-index.is in
    nodes_more c.args.rules.now c.args.starts.now c.args.arena.now c.formula.new.arena c.args.nodes.now c.args.step c.in_ok-node.node c.index-rules-index.result low is c.requires.used c.requires.nodes c.formula.ensures.grows
    (subst (λ (own : ℕ). Tells c.formula.new.arena c.in_ok-node.node (λ h. value_by c.index-rules-index.result own c.args.starts.now (value_at c.args.arena.now c.args.nodes.now h) h)) c.new.ensures c.in_ok-node.ensures.exact)
