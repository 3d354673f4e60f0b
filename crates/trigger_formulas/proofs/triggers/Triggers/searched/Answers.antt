use Rattle.std.proofs.Common.{◌<◌, ◌↔◌, List, length, sym, subst, ◌∙◌}
use Rattle.std.specs.Prelude.{IsTrue}
use Rattle.std.proofs.lemmas.Bool.{false≢true, true≢false}
use Rattle.std.proofs.lemmas.Result.{IfOk-weaker}
use Rattle.flat_core.specs.System.{System}
use Rattle.gate_circuits.specs.Circuit.{Implies}
use Rattle.trigger_starts.specs.declared.rules.Rule.{Rule}
use Rattle.trigger_circuits.specs.inner.Circuits.{gate_at}
use Rattle.trigger_formulas.specs.inner.Kept.{AreTriggersOf, Follows}
use Rattle.trigger_formulas.proofs.Answering.{pair_follows}
use Rattle.trigger_formulas.proofs.triggers.Triggers.searched.Goals as goal

pub returns-then-not-later : goal.returns-then-not-later
returns-then-not-later c s are =
    let k = c.self.inside in
    let a_low = subst (λ (l : List Rule). c.args.a < length l) (sym c.self.view_is) c.requires.first in
    let b_low = subst (λ (l : List Rule). c.args.b < length l) (sym c.self.view_is) c.requires.second in
    let follows = pair_follows k.rules.items k.starts.items k.atoms.items k.at_zero k.later c.self.invariant.0 c.args.a c.args.b a_low b_low s (c.self.view_is ∙ are) in
    (λ h. absurd (false≢true h), λ fires. absurd (true≢false (sym (c.in_ok-later.ensures.1 (follows.1 fires).1) ∙ c.if-not-later.true)))

pub returns : goal.returns
returns c =
    let k = c.self.inside in
    let a_low = subst (λ (l : List Rule). c.args.a < length l) (sym c.self.view_is) c.requires.first in
    let b_low = subst (λ (l : List Rule). c.args.b < length l) (sym c.self.view_is) c.requires.second in
    IfOk-weaker c.implies-3.result (λ r. IsTrue r ↔ Implies k.at_zero.implied (gate_at k.at_zero.gates.items c.args.a) (gate_at k.at_zero.gates.items c.args.b)) (λ r. (s : System) → AreTriggersOf c.args.self.now s → IsTrue r ↔ Follows s c.args.a c.args.b)
    (λ r exact s are.
    let follows = pair_follows k.rules.items k.starts.items k.atoms.items k.at_zero k.later c.self.invariant.0 c.args.a c.args.b a_low b_low s (c.self.view_is ∙ are) in
    (λ h. follows.0 (exact.0 h, c.in_ok-later.ensures.0 c.if-not-later.false), λ fires. exact.1 (follows.1 fires).0))
    c.implies-3.ensures
