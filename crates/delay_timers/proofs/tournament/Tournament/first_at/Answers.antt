use Rattle.std.proofs.Common.{List, Option, sym, subst}
use Rattle.std.specs.Prelude.{MatchOption}
use Rattle.delay_timers.specs.declared.tree.Due.{Due}
use Rattle.delay_timers.specs.inner.Pending.{Pending, NoneIsDueAt, IsLeastDueAt}
use Rattle.delay_timers.specs.inner.Tournament.{NoLeafAt, IsFirstLeafAt}
use Rattle.delay_timers.proofs.TimesLemmas.{none_due_of_none, leaf_is_due}
use Rattle.delay_timers.proofs.tournament.Tournament.first_at.Goals as goal

pub returns-in_err-first-clause-due : goal.returns-in_err-first-clause-due
returns-in_err-first-clause-due c =
    subst (λ r. MatchOption r (NoneIsDueAt c.args.self.now.times c.args.at) (IsLeastDueAt c.args.self.now.times c.args.at)) (sym c.from_residual.ensures)
    (none_due_of_none c.args.self.now.times c.args.at c.in_err-first.ensures.first)

pub returns-in-Less-clause-due : goal.returns-in-Less-clause-due
returns-in-Less-clause-due c =
    let delays = c.self.inside.delays in
    let P : Pending → Type 0 = λ p. MatchOption c.first_leaf_at.result (NoneIsDueAt p.times c.args.at) (IsLeastDueAt p.times c.args.at) in
    let Q : List (Option Due) → Type 0 = λ nodes. MatchOption c.first_leaf_at.result (NoLeafAt nodes delays c.args.at) (IsFirstLeafAt nodes delays c.args.at) in
    subst P c.self.view_is (leaf_is_due c.self.inside.nodes.items delays c.args.at c.first_leaf_at.result (subst Q c.as_slice.ensures.value c.first_leaf_at.ensures))
