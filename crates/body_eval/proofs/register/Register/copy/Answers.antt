use Rattle.std.proofs.Common.{subst, sym}
use Rattle.tsl_value.proofs.Results.{on_err}
use Rattle.cell_reader.specs.inner.Cells.{Cells}
use Rattle.body_eval.specs.inner.Registers.{held}
use Rattle.body_eval.specs.inner.Textless.{IsText}
use Rattle.body_eval.proofs.Textless.{text_type}
use Rattle.body_eval.proofs.register.Register.copy.Goals as goal

pub returns-in_err-copy-in-Scalar-clause-text : goal.returns-in_err-copy-in-Scalar-clause-text
returns-in_err-copy-in-Scalar-clause-text c =
    let text : (cells : Cells) → IsText (held cells c.args.self.now) =
    λ cells. subst (λ r. IsText (held cells r)) (sym c.in-Scalar.is) (text_type c.in-Scalar.value c.in_err-copy-in-Scalar.ensures.text) in
    on_err _ text
