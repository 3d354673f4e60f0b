use Rattle.std.proofs.Common.{length, sym, subst, ◌∙◌}
use Rattle.translation_order.specs.Order.{AreOfSteps}
use Rattle.alias_rules.specs.Uses.{passed_of}
use Rattle.alias_paths.proofs.Using.{uses_of_steps}
use Rattle.alias_nears.proofs.asked.asked_implied.Goals as goal

pub mark_merged-requires-clause-there : goal.mark_merged-requires-clause-there
mark_merged-requires-clause-there c =
    let s = c.args.flat.now in
    subst (AreOfSteps (length s.equations)) (sym c.as_slice.ensures) (uses_of_steps s passed_of c.args.uses.now.passed c.requires.passed)
