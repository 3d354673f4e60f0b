use Rattle.std.proofs.Common.{◌∷◌, [], ◌++◌, take, sym, ap, ◌∙◌}
use Rattle.std.proofs.lemmas.List.{take_more}
use Rattle.std.specs.Prelude.{encode_utf8_all}
use Rattle.spec_lexer.proofs.Utf8.{encode-snoc}
use Rattle.spec_lexer.proofs.characters.text_of.Goals as goal

pub loop-c-preserved : goal.loop-c-preserved
loop-c-preserved c =
    let front = take c.loop-c.c-index c.args.characters.now in
    c.in_ok-push.ensures.ok ∙ encode-snoc front c.c-item.result c.loop-c.text c.loop-c.invariant
    ∙ ap encode_utf8_all (ap (λ d. front ++ d ∷ []) c.c-item.is ∙ sym (take_more c.args.characters.now c.loop-c.c-index c.c-item.result c.loop-c-test.true))
