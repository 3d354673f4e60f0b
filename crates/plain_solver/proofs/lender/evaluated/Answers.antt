use Rattle.std.proofs.Common.{ℕ, List, subst, sym, ◌∙◌}
use Rattle.body_eval.specs.declared.register.Register.{Register}
use Rattle.body_eval.specs.inner.Answered.{IsValue}
use Rattle.lift_func.specs.Apply.{apply}
use Rattle.body_eval.specs.inner.Registers.{arguments}
use Rattle.body_eval.specs.inner.Evaluable.{IsEvaluable}
use Rattle.plain_solver.specs.inner.Lent.{cells_of, registers_from}
use Rattle.plain_solver.proofs.LentLemmas.{evaluable, lent_arguments}
use Rattle.plain_solver.proofs.lender.evaluated.Goals as goal

pub eval-requires : goal.eval-requires
eval-requires c =
    let values = c.args.values.now in
    let P : List Register → List ℕ → Type 0 = λ registers args. IsEvaluable (cells_of values) registers args c.args.body.now in
    subst (λ registers. P registers c.deref-2.result.now) (sym (c.deref.ensures.value ∙ c.in_ok-registers.ensures))
    (subst (P (registers_from 0 values)) (sym (c.deref-2.ensures.value ∙ c.in_ok-arguments.ensures)) (evaluable c.args.body.now values c.requires))

pub returns : goal.returns
returns c =
    let values = c.args.values.now in
    let registers_are = c.deref.ensures.value ∙ c.in_ok-registers.ensures in
    let numbers_are = c.deref-2.ensures.value ∙ c.in_ok-arguments.ensures in
    subst (λ xs. IsValue c.eval.result (apply c.args.body.now xs)) ((λ k. arguments (cells_of values) (registers_are k) (numbers_are k)) ∙ lent_arguments values) c.eval.ensures.value
