use Rattle.std.proofs.Common.{◌∙◌, ap}
use Rattle.std.proofs.lemmas.Iterator.{items_from_collect, YieldsList-from_chars}
use Rattle.std.proofs.lemmas.Result.{IfOk-weaker}
use Rattle.std.proofs.lemmas.Str.{scalars-chars, encodes-chars}
use Rattle.std.specs.Str.{encode_utf8_all, all_scalars}
use Rattle.spec_lexer.proofs.characters.characters_of.Goals as goal

pub returns : goal.returns
returns c = IfOk-weaker c.collect.result _ _
    (λ v is. record {
      scalars = ap all_scalars is ∙ scalars-chars c.args.text.now c.utf8.text;
      encoded = ap encode_utf8_all is ∙ encodes-chars c.args.text.now c.utf8.text;
    })
    (items_from_collect c.collect.result c.collect.ensures.ran (YieldsList-from_chars c.args.text.now c.utf8.text c.chars.ensures.rest))
