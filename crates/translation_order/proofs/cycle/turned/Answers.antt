use Rattle.std.proofs.Common.{◌++◌, nat_lt, length, reverse, sym, ap, subst, ◌∙◌}
use Rattle.std.specs.List.{IsFirstBest}
use Rattle.translation_order.proofs.Turned.{turned_from}
use Rattle.translation_order.proofs.cycle.turned.Goals as goal

pub returns : goal.returns
returns c =
    let read = c.as_slice.result.now in
    let same = c.as_slice-2.ensures.value ∙ sym c.as_slice.ensures.value in
    let best = subst (λ v. IsFirstBest nat_lt v (length v) c.place_of_least.result) same c.place_of_least.ensures in
    turned_from c.args.steps.now read c.split_at.result.0.now c.split_at.result.1.now c.push_all.new.list c.push_all-2.new.list c.place_of_least.result
    (c.as_slice.ensures.value ∙ c.reverse.ensures.items ∙ ap reverse c.in_ok-backward.ensures.items)
    best c.split_at.ensures.front c.split_at.ensures.back
    (c.in_ok-push_all.ensures ∙ ap (λ v. v ++ c.split_at.result.1.now) c.new-cycle.ensures)
    c.in_ok-push_all-2.ensures
