use Rattle.std.proofs.Common.{length, sym, ap, subst, arith}
use Rattle.std.proofs.lemmas.Result.{IfOk-weaker, IfOk-from_err, err_from_is_err_and}
use Rattle.spec_lexer.specs.Source.{IsText, IfFault, HasFault, Fails, too_long, fails}
use Rattle.spec_lexer.proofs.Steps.{if_fault_weaker}
use Rattle.spec_lexer.proofs.SourceLaws.{few_tokens, only_tokens, only_fault}
use Rattle.spec_lexer.proofs.Utf8.{text_length, text_lexed}
use Rattle.spec_lexer.proofs.lex.lex.Goals as goal

pub returns-then-source-gt-MOST_SOURCE_BYTES-clause-fault : goal.returns-then-source-gt-MOST_SOURCE_BYTES-clause-fault
returns-then-source-gt-MOST_SOURCE_BYTES-clause-fault c = too_long c.if-source-gt-MOST_SOURCE_BYTES.true

pub returns-in_err-characters-clause-tokens_exactly : goal.returns-in_err-characters-clause-tokens_exactly
returns-in_err-characters-clause-tokens_exactly c =
    let p = err_from_is_err_and c.from_residual.result c.from_residual.ensures.1 in
    let fault : IfFault c.from_residual.result (HasFault c.args.source.now) = rw (p.1, p.2) c.in_err-characters.ensures.fault in
    only_tokens c.args.source.now c.from_residual.result (IfOk-from_err c.from_residual.result _ c.from_residual.ensures.0) fault

pub returns-in_err-characters-clause-fault_exactly : goal.returns-in_err-characters-clause-fault_exactly
returns-in_err-characters-clause-fault_exactly c =
    let p = err_from_is_err_and c.from_residual.result c.from_residual.ensures.1 in
    let fault : IfFault c.from_residual.result (HasFault c.args.source.now) = rw (p.1, p.2) c.in_err-characters.ensures.fault in
    only_fault c.args.source.now c.from_residual.result (IfOk-from_err c.from_residual.result _ c.from_residual.ensures.0) fault

pub lex_characters-requires : goal.lex_characters-requires
lex_characters-requires c =
    let short = text_length _ _ c.in_ok-characters.ensures.text in
    let held = ap length c.as_slice.ensures.value in
    omega arith

pub returns-clause-tokens : goal.returns-clause-tokens
returns-clause-tokens c =
    let text = subst (λ cs. IsText cs c.args.source.now) (sym c.as_slice.ensures.value) c.in_ok-characters.ensures.text in
    text_lexed c.args.source.now c.as_slice.result.now c.lex_characters.result c.if-source-gt-MOST_SOURCE_BYTES.false text c.lex_characters.ensures.tokens c.lex_characters.ensures.end

pub returns-clause-few : goal.returns-clause-few
returns-clause-few c =
    let text = subst (λ cs. IsText cs c.args.source.now) (sym c.as_slice.ensures.value) c.in_ok-characters.ensures.text in
    IfOk-weaker c.lex_characters.result _ _ (few_tokens c.args.source.now)
    (text_lexed c.args.source.now c.as_slice.result.now c.lex_characters.result c.if-source-gt-MOST_SOURCE_BYTES.false text c.lex_characters.ensures.tokens c.lex_characters.ensures.end)

pub returns-clause-fault : goal.returns-clause-fault
returns-clause-fault c =
    let text = subst (λ cs. IsText cs c.args.source.now) (sym c.as_slice.ensures.value) c.in_ok-characters.ensures.text in
    if_fault_weaker c.lex_characters.result (Fails _ c.as_slice.result.now) _ (λ e f. fails c.if-source-gt-MOST_SOURCE_BYTES.false text f) c.lex_characters.ensures.fault

pub returns-clause-tokens_exactly : goal.returns-clause-tokens_exactly
returns-clause-tokens_exactly c =
    let text = subst (λ cs. IsText cs c.args.source.now) (sym c.as_slice.ensures.value) c.in_ok-characters.ensures.text in
    only_tokens c.args.source.now c.lex_characters.result
    (text_lexed c.args.source.now c.as_slice.result.now c.lex_characters.result c.if-source-gt-MOST_SOURCE_BYTES.false text c.lex_characters.ensures.tokens c.lex_characters.ensures.end)
    (if_fault_weaker c.lex_characters.result (Fails _ c.as_slice.result.now) _ (λ e f. fails c.if-source-gt-MOST_SOURCE_BYTES.false text f) c.lex_characters.ensures.fault)

pub returns-clause-fault_exactly : goal.returns-clause-fault_exactly
returns-clause-fault_exactly c =
    let text = subst (λ cs. IsText cs c.args.source.now) (sym c.as_slice.ensures.value) c.in_ok-characters.ensures.text in
    only_fault c.args.source.now c.lex_characters.result
    (text_lexed c.args.source.now c.as_slice.result.now c.lex_characters.result c.if-source-gt-MOST_SOURCE_BYTES.false text c.lex_characters.ensures.tokens c.lex_characters.ensures.end)
    (if_fault_weaker c.lex_characters.result (Fails _ c.as_slice.result.now) _ (λ e f. fails c.if-source-gt-MOST_SOURCE_BYTES.false text f) c.lex_characters.ensures.fault)
