use Rattle.std.proofs.Common.{◌<◌, ◌↔◌, false, length, sym, ap, subst, ◌∙◌}
use Rattle.std.specs.Prelude.{IsTrue}
use Rattle.trigger_rules.specs.Question.{Starts}
use Rattle.trigger_starts.proofs.Systems.{read_as}
use Rattle.trigger_diagram.specs.inner.Kept.{Kept}
use Rattle.trigger_diagram.proofs.diagrams.Diagrams.starts.Goals as goal

pub returns : goal.returns
returns c s are =
    let rules_are = ap (λ (k : Kept). k.rules) c.self.view_is in
    let low : c.args.a < length c.self.inside.starts.items = subst (λ n. c.args.a < n) (sym (c.self.invariant.starts_each ∙ ap length rules_are)) c.requires in
    subst (λ b. IsTrue b ↔ Starts s c.args.a) (sym (read_as c.self.inside.starts.items c.get.result c.args.a c.index.result.now false c.get.ensures low c.index.ensures)) (c.self.invariant.starts_are s (rules_are ∙ are) c.args.a)
