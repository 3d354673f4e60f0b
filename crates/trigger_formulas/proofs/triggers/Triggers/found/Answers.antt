use Rattle.std.proofs.Common.{◌<◌, ◌↔◌, Bool, List, Option, Some, None, true, false, length, sym, ap, subst, ◌∙◌}
use Rattle.std.specs.Prelude.{IfSome, IsTrue}
use Rattle.flat_core.specs.System.{System}
use Rattle.gate_circuits.specs.Circuit.{Implies}
use Rattle.trigger_starts.specs.declared.rules.Rule.{Rule}
use Rattle.trigger_circuits.specs.inner.Circuits.{gate_at}
use Rattle.trigger_formulas.specs.inner.Kept.{AreTriggersOf, Follows}
use Rattle.trigger_formulas.proofs.Answering.{pair_found}
use Rattle.trigger_formulas.proofs.triggers.Triggers.found.Goals as goal

pub returns-in-Some-true : goal.returns-in-Some-true
returns-in-Some-true c =
    let k = c.self.inside in
    let a_low = subst (λ (l : List Rule). c.args.a < length l) (sym c.self.view_is) c.requires.first in
    let b_low = subst (λ (l : List Rule). c.args.b < length l) (sym c.self.view_is) c.requires.second in
    let P = Implies k.later.implied (gate_at k.later.gates.items c.args.a) (gate_at k.later.gates.items c.args.b) in
    let later : IfSome (Some true) (λ r. IsTrue r ↔ P) = subst (λ (o : Option Bool). IfSome o (λ r. IsTrue r ↔ P)) (c.in-Some-true.is ∙ ap Some c.in-Some-true.field-0-test) c.found.ensures in
    pair_found k.rules.items k.starts.items k.atoms.items k.at_zero k.later c.self.invariant.0 c.args.a c.args.b a_low b_low (Some true) c.found-in-Some-true.result later c.found-in-Some-true.ensures c.args.self.now c.self.view_is

pub returns-in-Some-false : goal.returns-in-Some-false
returns-in-Some-false c =
    let k = c.self.inside in
    let a_low = subst (λ (l : List Rule). c.args.a < length l) (sym c.self.view_is) c.requires.first in
    let b_low = subst (λ (l : List Rule). c.args.b < length l) (sym c.self.view_is) c.requires.second in
    let P = Implies k.later.implied (gate_at k.later.gates.items c.args.a) (gate_at k.later.gates.items c.args.b) in
    let later : IfSome (Some false) (λ r. IsTrue r ↔ P) = subst (λ (o : Option Bool). IfSome o (λ r. IsTrue r ↔ P)) (c.in-Some-false.is ∙ ap Some c.in-Some-false.field-0-test) c.found.ensures in
    pair_found k.rules.items k.starts.items k.atoms.items k.at_zero k.later c.self.invariant.0 c.args.a c.args.b a_low b_low (Some false) None later tt c.args.self.now c.self.view_is

pub returns-in-None : goal.returns-in-None
returns-in-None c =
    let k = c.self.inside in
    let a_low = subst (λ (l : List Rule). c.args.a < length l) (sym c.self.view_is) c.requires.first in
    let b_low = subst (λ (l : List Rule). c.args.b < length l) (sym c.self.view_is) c.requires.second in
    subst (λ (o : Option Bool). IfSome o (λ r. (s : System) → AreTriggersOf c.args.self.now s → IsTrue r ↔ Follows s c.args.a c.args.b)) (sym c.if_refuted.ensures)
    (pair_found k.rules.items k.starts.items k.atoms.items k.at_zero k.later c.self.invariant.0 c.args.a c.args.b a_low b_low None c.found-in-None.result tt c.found-in-None.ensures c.args.self.now c.self.view_is)
