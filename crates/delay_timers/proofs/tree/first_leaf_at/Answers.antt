use Rattle.std.proofs.Common.{sym, ◌∙◌}
use Rattle.std.proofs.lemmas.Bool.{eqb-true}
use Rattle.delay_timers.proofs.TournamentLemmas.{leaf_read, leaf_found}
use Rattle.delay_timers.proofs.tree.first_leaf_at.Goals as goal

pub returns-in-Some : goal.returns-in-Some
returns-in-Some c =
    let read = leaf_read c.args.nodes.now c.args.delays c.loop-leaf.leaf-index c.leaf-item.result c.requires.room c.loop-leaf-test.true c.leaf-item.is in
    leaf_found _ _ _ _ _ c.requires read.0 (sym c.in-Some.is ∙ read.1) (eqb-true _ _ (sym c.eq.ensures ∙ c.if-eq.true)) c.loop-leaf.invariant
