use Rattle.std.proofs.Common.{subst, sym}
use Rattle.std.specs.Option.{option_map}
use Rattle.tsl_value.specs.View.{Plain}
use Rattle.lift_func.specs.Apply.{found}
use Rattle.body_eval.specs.inner.Textless.{IsNoText}
use Rattle.body_eval.proofs.Textless.{text_type}
use Rattle.body_eval.proofs.read.value_at_key.Goals as goal

pub returns-in_err-copy-in-Some-clause-spare : goal.returns-in_err-copy-in-Some-clause-spare
returns-in_err-copy-in-Some-clause-spare g c = λ none.
    absurd (subst (λ v. IsNoText (found (option_map Plain v))) (sym c.in-Some.ensures) none (text_type c.in-Some.value.now c.in_err-copy-in-Some.ensures.text))
