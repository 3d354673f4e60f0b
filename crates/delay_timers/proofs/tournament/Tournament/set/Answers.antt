use Rattle.std.proofs.Common.{◌≡◌, List, Option, Some, drop, length, ap, subst, sym, ◌∙◌}
use Rattle.std.proofs.lemmas.List.{with_items_is}
use Rattle.std.specs.FinMap as map
use Rattle.delay_timers.specs.declared.tree.Due.{Due}
use Rattle.delay_timers.specs.inner.Pending.{Pending}
use Rattle.delay_timers.specs.inner.Tournament.{ChangesLeaf, times_of}
use Rattle.delay_timers.proofs.TimesLemmas.{is_set}
use Rattle.delay_timers.proofs.tournament.Tournament.set.Goals as goal

pub returns : goal.returns
returns c =
    let delays = c.self.inside.delays in
    let nodes = c.self.inside.nodes in
    let new = c.change_leaf.new.nodes in
    let due : Due = record { time = c.args.at; delay = c.args.delay } in
    let shown : List (Option Due) → Pending = λ ns. record { capacity = delays; times = times_of (drop delays ns) } in
    let P : Pending → Type 0 = λ p.
    let want : Pending = record { capacity = p.capacity; times = map.insert p.times c.args.delay c.args.at } in
    shown new ≡ want in
    let Q : List (Option Due) → Type 0 = λ ns. ChangesLeaf ns new delays c.args.delay (Some due) in
    let room : length new ≡ nodes.len = c.change_leaf.ensures.tree.room ∙ sym c.self.invariant.room ∙ sym nodes.ok.0 in
    ap shown (with_items_is nodes new room)
    ∙ subst P c.self.view_is
    (ap (λ times. let p : Pending = record { capacity = delays; times = times } in p)
    (is_set nodes.items new delays c.args.delay due (subst Q c.as_mut_slice.ensures.value c.change_leaf.ensures.leaves)))
