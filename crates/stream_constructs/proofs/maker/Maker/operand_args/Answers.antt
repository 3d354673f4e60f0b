use Rattle.std.proofs.Common.{◌+◌, ◌<◌, [], ◌∷◌, ◌∙◌, length, drop, refl, sym, ap, arith}
use Rattle.std.proofs.lemmas.Grind.{common_steps}
use Rattle.std.proofs.lemmas.Result.{err_from_is_err_and}
use Rattle.tsl_value.proofs.Results.{on_err}
use Rattle.stream_constructs.specs.Equations.{literal_over, literal_equations}
use Rattle.stream_constructs.specs.Made.{operands_of}
use Rattle.tsl_value.proofs.Lists.{left_at}
use Rattle.stream_constructs.proofs.Steps.{refused_later}
use Rattle.stream_constructs.proofs.Partly.{has_later, has_made, has_same}
use Rattle.stream_constructs.proofs.maker.Maker.operand_args.Goals as goal
use Rattle.stream_constructs.proofs.maker.Maker.operand_args.Goals.{in-Fixed+in_ok-copy-in-Fixed+in_ok-literal-in-Fixed+in_ok-push-in-Fixed, in-Varying+in_ok-push-in-Varying}

pub returns-in_err-literal-in-Fixed-clause-refused : goal.returns-in_err-literal-in-Fixed-clause-refused
returns-in_err-literal-in-Fixed-clause-refused c =
    let p = err_from_is_err_and c.from_residual-in_err-literal-in-Fixed.result c.from_residual-in_err-literal-in-Fixed.ensures.1 in
    let operands = c.args.operands.now in
    let i = c.loop-operand.operand-index in
    let lt : i < length operands = omega arith in
    let here = left_at operands i c.operand-item.result lt c.operand-item.is ∙ ap (λ o. o ∷ drop (i + 1) operands) c.in-Fixed.is in
    let own = literal_equations c.args.place c.args.first (operands_of (drop (i + 1) operands)) in
    refused_later c.from_residual-in_err-literal-in-Fixed.result p.0 _ c.loop-operand.self c.args.self.now (literal_over c.args.place c.in_ok-copy-in-Fixed.field-0 c.args.first ∷ []) own (literal_equations c.args.place c.args.first (operands_of (drop i operands))) _ p.1 p.2
    (ap (λ s. literal_over c.args.place s c.args.first ∷ own) c.in_ok-copy-in-Fixed.ensures.equal ∙ ap (λ os. literal_equations c.args.place c.args.first (operands_of os)) (sym here)) c.loop-operand.invariant.made c.in_err-literal-in-Fixed.ensures.refused

pub returns-in_err-copy-in-Fixed-clause-partly : goal.returns-in_err-copy-in-Fixed-clause-partly
returns-in_err-copy-in-Fixed-clause-partly c = on_err _ c.loop-operand.invariant.begun

pub returns-in_err-literal-in-Fixed-clause-partly : goal.returns-in_err-literal-in-Fixed-clause-partly
returns-in_err-literal-in-Fixed-clause-partly c = on_err _ (has_same c.args.self.now c.loop-operand.self c.literal_over.new.self _ c.in_err-literal-in-Fixed.ensures.err c.loop-operand.invariant.begun)

pub returns-in_err-push-in-Fixed-clause-partly : goal.returns-in_err-push-in-Fixed-clause-partly
returns-in_err-push-in-Fixed-clause-partly c =
    let operands = c.args.operands.now in
    let i = c.loop-operand.operand-index in
    let lt : i < length operands = omega arith in
    let here = left_at operands i c.operand-item.result lt c.operand-item.is ∙ ap (λ o. o ∷ drop (i + 1) operands) c.in-Fixed.is in
    let own = literal_equations c.args.place c.args.first (operands_of (drop (i + 1) operands)) in
    let literal = literal_over c.args.place c.in_ok-copy-in-Fixed.field-0 c.args.first in
    on_err _ (has_later c.args.self.now c.loop-operand.self c.literal_over.new.self (literal ∷ []) own (literal_equations c.args.place c.args.first (operands_of (drop i operands))) _ c.loop-operand.invariant.begun
    (ap (λ s. literal_over c.args.place s c.args.first ∷ own) c.in_ok-copy-in-Fixed.ensures.equal ∙ ap (λ os. literal_equations c.args.place c.args.first (operands_of os)) (sym here)) c.loop-operand.invariant.made
    (has_made c.loop-operand.self c.literal_over.new.self (literal ∷ []) [] (literal ∷ []) refl c.in_ok-literal-in-Fixed.ensures.made))

pub returns-in_err-push-in-Varying-clause-partly : goal.returns-in_err-push-in-Varying-clause-partly
returns-in_err-push-in-Varying-clause-partly c = on_err _ c.loop-operand.invariant.begun

pub loop-operand-preserved : goal.loop-operand-preserved
loop-operand-preserved c = elim c.match-operand.branch [
  | in-Fixed+in_ok-copy-in-Fixed+in_ok-literal-in-Fixed+in_ok-push-in-Fixed w ↦
      let operands = c.args.operands.now in
      let i = c.loop-operand.operand-index in
      let lt : i < length operands = omega arith in
      let here = left_at operands i c.operand-item.result lt c.operand-item.is ∙ ap (λ o. o ∷ drop (i + 1) operands) w.in-Fixed.is in
      let own = literal_equations c.args.place c.args.first (operands_of (drop (i + 1) operands)) in
      let literal = literal_over c.args.place w.in_ok-copy-in-Fixed.field-0 c.args.first in
      let s = c.args.self.now in
      let new = w.literal_over.new.self in record {
        made = grind (arith, common_steps);
        begun = has_same s new c.match-operand.self _ w.self-is (has_later s c.loop-operand.self new (literal ∷ []) own (literal_equations c.args.place c.args.first (operands_of (drop i operands))) _ c.loop-operand.invariant.begun
            (ap (λ s. literal_over c.args.place s c.args.first ∷ own) w.in_ok-copy-in-Fixed.ensures.equal ∙ ap (λ os. literal_equations c.args.place c.args.first (operands_of os)) (sym here)) c.loop-operand.invariant.made
            (has_made c.loop-operand.self new (literal ∷ []) [] (literal ∷ []) refl w.in_ok-literal-in-Fixed.ensures.made));
        args = grind (arith, common_steps);
        count = grind (arith, common_steps);
      }
  | in-Varying+in_ok-push-in-Varying w ↦ record {
    made = grind (arith, common_steps);
    begun = has_same c.args.self.now c.loop-operand.self c.match-operand.self _ w.self-is c.loop-operand.invariant.begun;
    args = grind (arith, common_steps);
    count = grind (arith, common_steps);
  }
]
