use Rattle.std.proofs.Common.{◌<◌, ◌↔◌, not, ◌||◌, List, length, sym, subst, ◌∙◌}
use Rattle.std.specs.Prelude.{IsTrue}
use Rattle.trigger_rules.specs.Question.{Together}
use Rattle.trigger_starts.specs.declared.rules.Rule.{Rule}
use Rattle.trigger_formulas.proofs.Answering.{few_told, together_by}
use Rattle.trigger_formulas.proofs.triggers.Triggers.together.Goals as goal

pub returns-else-are_met : goal.returns-else-are_met
returns-else-are_met c s are =
    let k = c.self.inside in
    let a_low = subst (λ (l : List Rule). c.args.a < length l) (sym c.self.view_is) c.requires.first in
    let b_low = subst (λ (l : List Rule). c.args.b < length l) (sym c.self.view_is) c.requires.second in
    let few = few_told k.rules.items k.starts.items k.atoms.items k.at_zero k.later c.self.invariant.0 c.args.a c.args.b a_low b_low c.deref.result.now c.deref.ensures.value c.are_few.result c.are_few.ensures s (c.self.view_is ∙ are) in
    subst (λ b. IsTrue (b || not c.are_few.result) ↔ Together s c.args.a c.args.b) c.if-are_met.false (together_by s c.args.a c.args.b c.are_met.result c.are_few.result (c.are_met.ensures s are) few)
