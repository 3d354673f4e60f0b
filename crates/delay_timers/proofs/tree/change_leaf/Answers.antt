use Rattle.delay_timers.proofs.TournamentLemmas.{leaf_changed, ends_changed}
use Rattle.delay_timers.proofs.tree.change_leaf.Goals as goal

pub mend-requires-clause-tree : goal.mend-requires-clause-tree
mend-requires-clause-tree c = leaf_changed _ _ _ _ c.requires.tree c.requires.there c.requires.own

pub returns-clause-leaves : goal.returns-clause-leaves
returns-clause-leaves c = ends_changed _ _ _ _ _ c.requires.tree.room c.requires.there c.mend.ensures.leaves
