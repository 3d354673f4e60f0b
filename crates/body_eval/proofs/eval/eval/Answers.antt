use Rattle.std.proofs.Common.{Ok, sym, ◌∙◌}
use Rattle.std.specs.Option.{option_map}
use Rattle.tsl_value.specs.View.{Plain}
use Rattle.std.proofs.lemmas.Result.{err_from_is_err_and}
use Rattle.body_eval.proofs.Evaluation.{value_is}
use Rattle.body_eval.proofs.Textless.{same_answered}
use Rattle.body_eval.proofs.eval.eval.Goals as goal

pub returns-clause-value : goal.returns-clause-value
returns-clause-value g c =
    value_is (g.R.Reader.cells c.args.reader.now) c.args.registers.now c.args.args.now c.args.body.now c.requires c.in_ok-eval_register.field-0 c.in_ok-eval_register.ensures.value
    ∙ (λ k. Ok (option_map Plain (sym c.scalar_of.ensures k)))

pub returns-in_err-eval_register-clause-spare : goal.returns-in_err-eval_register-clause-spare
returns-in_err-eval_register-clause-spare g c = λ none.
    let p = err_from_is_err_and c.from_residual.result c.from_residual.ensures.1 in
    same_answered c.from_residual.result p.0 c.in_err-eval_register.field-0.0 p.1 p.2 (c.in_err-eval_register.ensures.spare none)
