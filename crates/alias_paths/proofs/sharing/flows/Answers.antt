use Rattle.std.proofs.Common.{◌++◌, length, sym, ap, subst, ◌∙◌}
use Rattle.translation_order.specs.Order.{AreOfSteps}
use Rattle.alias_rules.specs.Uses.{last_of, IsLast}
use Rattle.alias_paths.specs.inner.Pairs.{ArePairs}
use Rattle.alias_paths.proofs.Sharers.{flows_are}
use Rattle.alias_paths.proofs.Using.{uses_of_steps}
use Rattle.alias_paths.proofs.sharing.flows.Goals as goal

pub push_stores-requires-clause-lasts : goal.push_stores-requires-clause-lasts
push_stores-requires-clause-lasts c =
    let s = c.args.flat.now in
    subst (λ m. AreOfSteps m c.as_slice.result.now) (sym c.count.ensures.count) (subst (AreOfSteps (length s.equations)) (sym c.as_slice.ensures) (uses_of_steps s last_of c.args.uses.now.lasts c.requires.lasts))

pub returns : goal.returns
returns c set are =
    let s = c.args.flat.now in
    let carriers = c.args.carriers.now in
    flows_are s set carriers c.as_slice.result.now c.push_all.new.pairs c.push_stores.new.pairs c.count.result c.count.ensures.count are (subst (ArePairs (IsLast s)) (sym c.as_slice.ensures) c.requires.lasts) (c.in_ok-push_all.ensures ∙ ap (λ l. l ++ carriers) c.new-flows.ensures) c.in_ok-push_stores.ensures
