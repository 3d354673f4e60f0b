use Rattle.std.proofs.Common.{length, sym, subst}
use Rattle.translation_order.specs.Order.{AreOfSteps}
use Rattle.alias_rules.specs.Uses.{last_of, IsLast}
use Rattle.alias_paths.specs.inner.Pairs.{ArePairs}
use Rattle.alias_nears.proofs.Bypassing.{all_stored, last_sharers_are}
use Rattle.alias_paths.proofs.Using.{uses_of_steps}
use Rattle.alias_nears.proofs.begins.last_sharers.Goals as goal

pub firsts-requires : goal.firsts-requires
firsts-requires c =
    let s = c.args.flat.now in
    subst (λ m. AreOfSteps m c.as_slice.result.now) (sym c.requires.roots.one_each) (subst (AreOfSteps (length s.equations)) (sym c.as_slice.ensures) (uses_of_steps s last_of c.args.uses.now.lasts c.requires.uses.lasts))

pub sharers_of-requires-clause-stored : goal.sharers_of-requires-clause-stored
sharers_of-requires-clause-stored c =
    let s = c.args.flat.now in
    let are = subst (ArePairs (IsLast s)) (sym c.as_slice.ensures) c.requires.uses.lasts in
    all_stored s c.args.set.now c.args.update c.as_slice.result.now are c.args.roots.now c.in_ok-stored.stored c.requires.roots c.in_ok-stored.ensures

pub returns : goal.returns
returns c =
    let s = c.args.flat.now in
    let set = c.args.set.now in
    let y = c.args.update in
    let are = subst (ArePairs (IsLast s)) (sym c.as_slice.ensures) c.requires.uses.lasts in
    let stored = c.in_ok-stored.stored in
    let all = c.in_ok-all.ensures in
    record { shared = all; of_source = last_sharers_are s set y c.as_slice.result.now are c.args.roots.now stored c.requires.roots c.in_ok-stored.ensures c.in_ok-all.all all }
