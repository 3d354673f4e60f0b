use Rattle.std.proofs.Common.{◌++◌, sym, ap, ◌∙◌, arith}
use Rattle.register_code.specs.Text.{code_text}
use Rattle.state_snapshot.proofs.Answered.{apart, is_other}
use Rattle.state_snapshot.proofs.read.after_program.Goals as goal

pub returns : goal.returns
returns c =
    let text = c.as_slice.ensures ∙ c.in_ok-print_code.ensures.ok ∙ ap (λ t. t ++ code_text c.args.code.now) c.new-text.ensures in
    is_other c.args.code.now c.args.bytes.now c.in_ok-program.program.now c.in_ok-program.rest.now (λ i. omega (arith, c.type_inv.bytes i)) c.in_ok-program.ensures
    (λ same. apart c.as_slice.result.now c.in_ok-program.program.now (sym c.eq.ensures ∙ c.if-eq.false) (text ∙ sym same))
