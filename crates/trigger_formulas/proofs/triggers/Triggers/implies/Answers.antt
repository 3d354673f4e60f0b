use Rattle.std.proofs.Common.{rules, ◌<◌, ◌↔◌, Bool, true, List, length, sym, subst, ◌∙◌}
use Rattle.std.specs.Prelude.{IsTrue}
use Rattle.std.proofs.lemmas.Bool.{true≢false}
use Rattle.std.proofs.lemmas.Result.{IfOk-weaker}
use Rattle.flat_core.specs.System.{System}
use Rattle.trigger_rules.specs.Question.{Implies}
use Rattle.trigger_starts.specs.declared.rules.Rule.{Rule}
use Rattle.trigger_formulas.specs.inner.Kept.{AreTriggersOf, Follows}
use Rattle.trigger_formulas.proofs.Answering.{each_told, few_told, implies_by, implies_few, implies_not}
use Rattle.trigger_formulas.proofs.triggers.Triggers.implies.Goals as goal

pub returns-then-not-are_few_each : goal.returns-then-not-are_few_each
returns-then-not-are_few_each c s are =
    let k = c.self.inside in
    let a_low = subst (λ (l : List Rule). c.args.a < length l) (sym c.self.view_is) c.requires.first in
    let b_low = subst (λ (l : List Rule). c.args.b < length l) (sym c.self.view_is) c.requires.second in
    implies_not s c.args.a c.args.b (λ few fires. each_told k.rules.items k.starts.items k.atoms.items k.at_zero k.later c.self.invariant.0 c.args.a c.args.b a_low b_low c.deref.result.now c.deref.ensures.value c.are_few_each.result c.are_few_each.ensures c.if-not-are_few_each.true s (c.self.view_is ∙ are) few) (search rules)

pub returns-then-found : goal.returns-then-found
returns-then-found c s are =
    let k = c.self.inside in
    let a_low = subst (λ (l : List Rule). c.args.a < length l) (sym c.self.view_is) c.requires.first in
    let b_low = subst (λ (l : List Rule). c.args.b < length l) (sym c.self.view_is) c.requires.second in
    let few = few_told k.rules.items k.starts.items k.atoms.items k.at_zero k.later c.self.invariant.0 c.args.a c.args.b a_low b_low c.deref-then-found.result.now c.deref-then-found.ensures.value c.are_few.result c.are_few.ensures s (c.self.view_is ∙ are) in
    let follows : IsTrue true ↔ Follows s c.args.a c.args.b = subst (λ (b : Bool). IsTrue b ↔ Follows s c.args.a c.args.b) c.if-found.true (c.in-Some.ensures s are) in
    implies_by s c.args.a c.args.b (search rules) true c.are_few.result follows few

pub returns-then-not-are_few : goal.returns-then-not-are_few
returns-then-not-are_few c s are =
    let k = c.self.inside in
    let a_low = subst (λ (l : List Rule). c.args.a < length l) (sym c.self.view_is) c.requires.first in
    let b_low = subst (λ (l : List Rule). c.args.b < length l) (sym c.self.view_is) c.requires.second in
    let few = few_told k.rules.items k.starts.items k.atoms.items k.at_zero k.later c.self.invariant.0 c.args.a c.args.b a_low b_low c.deref-2.result.now c.deref-2.ensures.value c.are_few-2.result c.are_few-2.ensures s (c.self.view_is ∙ are) in
    implies_not s c.args.a c.args.b (λ is_few fires. true≢false (sym (few.1 is_few) ∙ c.if-not-are_few.true)) (search rules)

pub returns : goal.returns
returns c =
    let k = c.self.inside in
    let a_low = subst (λ (l : List Rule). c.args.a < length l) (sym c.self.view_is) c.requires.first in
    let b_low = subst (λ (l : List Rule). c.args.b < length l) (sym c.self.view_is) c.requires.second in
    IfOk-weaker c.searched.result (λ r. (s : System) → AreTriggersOf c.args.self.now s → IsTrue r ↔ Follows s c.args.a c.args.b) (λ r. (s : System) → AreTriggersOf c.args.self.now s → IsTrue r ↔ Implies s c.args.a c.args.b)
    (λ r exact s are.
    let few = few_told k.rules.items k.starts.items k.atoms.items k.at_zero k.later c.self.invariant.0 c.args.a c.args.b a_low b_low c.deref-2.result.now c.deref-2.ensures.value c.are_few-2.result c.are_few-2.ensures s (c.self.view_is ∙ are) in
    implies_few s c.args.a c.args.b (search rules) r c.are_few-2.result c.if-not-are_few.false (exact s are) few)
    c.searched.ensures
