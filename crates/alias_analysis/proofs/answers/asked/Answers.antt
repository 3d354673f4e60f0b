use Rattle.std.proofs.Common.{◌↔◌, sym, subst}
use Rattle.std.specs.Prelude.{IfOk, IsTrue}
use Rattle.std.proofs.lemmas.Result.{IfOk-weaker}
use Rattle.flat_core.specs.System.{System}
use Rattle.trigger_rules.specs.Question.{Implies}
use Rattle.trigger_formulas.specs.inner.Kept.{AreTriggersOf}
use Rattle.alias_analysis.specs.inner.Answers.{Holds}
use Rattle.alias_analysis.proofs.answers.asked.Goals as goal

pub returns-in-Implied : goal.returns-in-Implied
returns-in-Implied c =
    let s = c.args.flat.now in
    let y = c.args.update in
    let x = c.args.id in
    subst (λ q. IfOk c.implies.result (λ r. IsTrue r ↔ Holds q s y x)) (sym c.in-Implied.is) (
    IfOk-weaker c.implies.result (λ r. (t : System) → AreTriggersOf c.args.triggers.now t → IsTrue r ↔ Implies t y x) (λ r. IsTrue r ↔ Implies s y x) (λ r h. h s c.requires.triggers) c.implies.ensures
    )

pub returns-in-Beside : goal.returns-in-Beside
returns-in-Beside c = subst (λ q. IfOk c.is_beside.result (λ r. IsTrue r ↔ Holds q c.args.flat.now c.args.update c.args.id)) (sym c.in-Beside.is) c.is_beside.ensures
