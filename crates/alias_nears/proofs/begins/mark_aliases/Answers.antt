use Rattle.std.proofs.Common.{length, sym, subst}
use Rattle.translation_order.specs.Order.{AreOfSteps}
use Rattle.alias_rules.specs.Uses.{last_of, IsLast}
use Rattle.alias_paths.specs.inner.Pairs.{ArePairs}
use Rattle.alias_nears.proofs.Bypassing.{aliased_by}
use Rattle.alias_paths.proofs.Using.{uses_of_steps}
use Rattle.alias_nears.proofs.begins.mark_aliases.Goals as goal

pub mark_seconds-requires-clause-pairs : goal.mark_seconds-requires-clause-pairs
mark_seconds-requires-clause-pairs c =
    let s = c.args.flat.now in
    subst (λ m. AreOfSteps m c.as_slice.result.now) (sym c.requires.one_each) (subst (AreOfSteps (length s.equations)) (sym c.as_slice.ensures) (uses_of_steps s last_of c.args.uses.now.lasts c.requires.uses.lasts))

pub returns : goal.returns
returns c =
    let s = c.args.flat.now in
    aliased_by s c.as_slice.result.now c.args.sharers.now c.args.roots.now c.mark_seconds.new.marked (subst (ArePairs (IsLast s)) (sym c.as_slice.ensures) c.requires.uses.lasts) c.in_ok-mark_seconds.ensures
