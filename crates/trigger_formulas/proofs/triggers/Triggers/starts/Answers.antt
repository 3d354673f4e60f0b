use Rattle.std.proofs.Common.{◌<◌, ◌↔◌, false, List, length, sym, subst, ◌∙◌}
use Rattle.std.specs.Prelude.{IsTrue}
use Rattle.trigger_rules.specs.Question.{Starts}
use Rattle.trigger_starts.specs.declared.rules.Rule.{Rule}
use Rattle.trigger_starts.proofs.Systems.{read_as}
use Rattle.trigger_formulas.proofs.triggers.Triggers.starts.Goals as goal

pub returns : goal.returns
returns c s are =
    let k = c.self.inside in
    let a_low = subst (λ (l : List Rule). c.args.a < length l) (sym c.self.view_is) c.requires in
    let low : c.args.a < length k.starts.items = subst (λ n. c.args.a < n) (sym c.self.invariant.0.starts_each) a_low in
    subst (λ b. IsTrue b ↔ Starts s c.args.a) (sym (read_as k.starts.items c.get.result c.args.a c.index.result.now false c.get.ensures low c.index.ensures)) (c.self.invariant.0.starts_are s (c.self.view_is ∙ are) c.args.a)
