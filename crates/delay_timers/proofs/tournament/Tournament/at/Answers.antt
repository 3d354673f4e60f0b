use Rattle.std.proofs.Common.{◌≡◌, ◌<◌, Some, None, sym, subst, ap, ◌∙◌, arith}
use Rattle.std.specs.Option.{option_map}
use Rattle.std.specs.FinMap as map
use Rattle.delay_timers.specs.declared.tree.Due.{Due}
use Rattle.delay_timers.specs.inner.Pending.{Pending}
use Rattle.delay_timers.proofs.TimesLemmas.{read_time}
use Rattle.delay_timers.proofs.tournament.Tournament.at.Goals as goal

-- the leaf is inside: there are twice as many slots as delays
pub index-requires : goal.index-requires
index-requires c =
    let below : c.args.delay < c.self.inside.delays = subst (λ (p : Pending). c.args.delay < p.capacity) (sym c.self.view_is) c.requires in
    omega (arith, c.self.invariant.room, c.self.inside.nodes.ok.0, below)

pub returns-in-Some : goal.returns-in-Some
returns-in-Some c =
    let P : Pending → Type 0 = λ p. Some c.in-Some.due.time ≡ map.get p.times c.args.delay in
    let below : c.args.delay < c.self.inside.delays = subst (λ (p : Pending). c.args.delay < p.capacity) (sym c.self.view_is) c.requires in
    subst P c.self.view_is
    (ap (option_map (λ (due : Due). due.time)) (sym c.in-Some.is)
    ∙ read_time c.self.inside.nodes.items c.self.inside.delays c.args.delay c.index.result.now c.self.invariant below c.index.ensures)

pub returns-in-None : goal.returns-in-None
returns-in-None c =
    let P : Pending → Type 0 = λ p. None ≡ map.get p.times c.args.delay in
    let below : c.args.delay < c.self.inside.delays = subst (λ (p : Pending). c.args.delay < p.capacity) (sym c.self.view_is) c.requires in
    subst P c.self.view_is
    (ap (option_map (λ (due : Due). due.time)) (sym c.in-None.is)
    ∙ read_time c.self.inside.nodes.items c.self.inside.delays c.args.delay c.index.result.now c.self.invariant below c.index.ensures)
