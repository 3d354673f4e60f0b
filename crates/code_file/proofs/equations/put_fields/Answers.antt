use Rattle.std.proofs.lemmas.Result.{on_ok_weaker}
use Rattle.code_file.proofs.equations.put_fields.Goals as goal

pub returns-clause-form : goal.returns-clause-form
returns-clause-form c =
    on_ok_weaker c.put_lift.result
    (λ form. record { place = c.in_ok-put_head.ensures.form; few_args = c.requires.few_args; args = c.requires.args; operation = form }) c.put_lift.ensures.form
