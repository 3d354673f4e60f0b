use Rattle.std.proofs.Common.{◌≡◌, true}
use Rattle.std.specs.Str.{is_utf8}
use Rattle.std.proofs.lemmas.Str.{IsUtf8-from_is_utf8}
use Rattle.tsl_value.proofs.Quotes.{IsUtf8-unquoted}
use Rattle.tsl_value.proofs.literal.read_text.Goals as goal

pub short_text_of-requires : goal.short_text_of-requires
short_text_of-requires c =
    let text : is_utf8 c.args.bytes.now ≡ true = cc in
    IsUtf8-unquoted c.args.bytes.now c.in_ok-content.content (IsUtf8-from_is_utf8 c.args.bytes.now text) c.in_ok-content.ensures
