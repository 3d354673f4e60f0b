use Rattle.std.proofs.Common.{◌&&◌, ◌<◌, Bool, List, length, sym, subst, ◌∙◌}
use Rattle.trigger_rules.specs.Question.{AreMet}
use Rattle.trigger_starts.specs.declared.rules.Rule.{Rule}
use Rattle.trigger_starts.specs.inner.Rules.{is_marked}
use Rattle.trigger_formulas.proofs.Answering.{or_else, or_then, pair_met}
use Rattle.trigger_formulas.proofs.triggers.Triggers.are_met.Goals as goal

pub returns-then-are_met : goal.returns-then-are_met
returns-then-are_met c s are =
    let k = c.self.inside in
    let a_low = subst (λ (l : List Rule). c.args.a < length l) (sym c.self.view_is) c.requires.first in
    let b_low = subst (λ (l : List Rule). c.args.b < length l) (sym c.self.view_is) c.requires.second in
    let both : List Bool → Bool = λ l. is_marked l c.args.a && is_marked l c.args.b in
    or_then (AreMet s c.args.a c.args.b) (both k.at_zero.met.items) (both k.later.met.items) c.are_met.result c.are_met.ensures c.if-are_met.true (pair_met k.rules.items k.starts.items k.atoms.items k.at_zero k.later c.self.invariant.0 c.args.a c.args.b a_low b_low s (c.self.view_is ∙ are))

pub returns-else-are_met : goal.returns-else-are_met
returns-else-are_met c s are =
    let k = c.self.inside in
    let a_low = subst (λ (l : List Rule). c.args.a < length l) (sym c.self.view_is) c.requires.first in
    let b_low = subst (λ (l : List Rule). c.args.b < length l) (sym c.self.view_is) c.requires.second in
    let both : List Bool → Bool = λ l. is_marked l c.args.a && is_marked l c.args.b in
    or_else (AreMet s c.args.a c.args.b) (both k.at_zero.met.items) (both k.later.met.items) c.are_met.result c.are_met-else-are_met.result c.are_met.ensures c.if-are_met.false c.are_met-else-are_met.ensures
    (pair_met k.rules.items k.starts.items k.atoms.items k.at_zero k.later c.self.invariant.0 c.args.a c.args.b a_low b_low s (c.self.view_is ∙ are))
