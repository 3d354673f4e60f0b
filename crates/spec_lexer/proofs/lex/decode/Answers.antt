use Rattle.std.proofs.Common.{length, take, sym, ap, subst, arith}
use Rattle.std.proofs.lemmas.List.{length-take}
use Rattle.std.specs.Str.{IsValidUpTo}
use Rattle.spec_lexer.specs.declared.fault.LexFault.TheVariants.{BadUtf8}
use Rattle.spec_lexer.specs.Source.{IsText, HasFault}
use Rattle.spec_lexer.proofs.Utf8.{text_length, no_text}
use Rattle.spec_lexer.proofs.lex.decode.Goals as goal

pub place_following-requires : goal.place_following-requires
place_following-requires c =
    let short = text_length _ _ c.in_ok-front-in-Err.ensures in
    let same = ap length c.valid_front.ensures in
    let held = ap length c.as_slice.ensures.value in
    let front = length-take c.valid_up_to.result c.args.source.now in
    omega arith

pub returns-in_ok-front-in-Err-clause-fault : goal.returns-in_ok-front-in-Err-clause-fault
returns-in_ok-front-in-Err-clause-fault c =
    let text = subst (λ cs. IsText cs (take c.valid_up_to.result c.args.source.now)) (sym c.as_slice.ensures.value) (subst (IsText c.in_ok-front-in-Err.front.items) c.valid_front.ensures c.in_ok-front-in-Err.ensures) in
    subst (λ p. HasFault c.args.source.now (BadUtf8 p)) (sym c.place_following.ensures)
    (no_text c.args.source.now c.as_slice.result.now c.valid_up_to.result c.requires text (subst (IsValidUpTo c.args.source.now) (sym c.valid_up_to.ensures) c.in-Err.ensures.cases.1))
