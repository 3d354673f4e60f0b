use Rattle.std.proofs.Common.{◌≡◌, ◌<◌, None, drop, length, sym, subst, arith}
use Rattle.std.proofs.lemmas.List.{get_or_read}
use Rattle.std.specs.Prelude.{MatchOption}
use Rattle.std.specs.FinMap as map
use Rattle.delay_timers.specs.inner.Pending.{Pending, AreBelowCapacity}
use Rattle.delay_timers.specs.inner.Tournament.{times_of, IsFirstDue}
use Rattle.delay_timers.proofs.TimesLemmas.{root_is_first, all_below}
use Rattle.delay_timers.proofs.tournament.Tournament.first.Goals as goal

pub returns-else-self-eq0-clause-first : goal.returns-else-self-eq0-clause-first
returns-else-self-eq0-clause-first c =
    let nodes = c.self.inside.nodes.items in
    let delays = c.self.inside.delays in
    let some : 0 < delays = omega (arith, c.if-self-eq0.false) in
    let inside : 1 < length nodes = omega (arith, c.self.invariant.room) in
    let P : Pending → Type 0 = λ p. MatchOption c.index.result.now (p.times ≡ map.empty) (IsFirstDue p.times) in
    subst P c.self.view_is
    (subst (λ r. MatchOption r (times_of (drop delays nodes) ≡ map.empty) (IsFirstDue (times_of (drop delays nodes)))) (sym (get_or_read nodes 1 c.index.result.now inside c.index.ensures None)) (root_is_first nodes delays c.self.invariant some))

pub returns-then-self-eq0-clause-bounded : goal.returns-then-self-eq0-clause-bounded
returns-then-self-eq0-clause-bounded c = subst AreBelowCapacity c.self.view_is (all_below c.self.inside.nodes.items c.self.inside.delays c.self.invariant)

pub returns-else-self-eq0-clause-bounded : goal.returns-else-self-eq0-clause-bounded
returns-else-self-eq0-clause-bounded c = subst AreBelowCapacity c.self.view_is (all_below c.self.inside.nodes.items c.self.inside.delays c.self.invariant)
