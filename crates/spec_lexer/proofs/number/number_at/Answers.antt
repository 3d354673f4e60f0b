use Rattle.std.proofs.Common.{◌≡◌, ◌+◌, ◌<◌, ℕ, Ok, take, ap, ◌∙◌, subst}
use Rattle.std.specs.List.{prefix_len}
use Rattle.std.specs.Char.{is_ascii_digit}
use Rattle.std.specs.Prelude.{encode_utf8_all}
use Rattle.std.specs.Str.Parse.{ParsesUnsigned}
use Rattle.spec_lexer.specs.Found.{number_found}
use Rattle.spec_lexer.specs.declared.piece.Piece.TheVariants.{Made}
use Rattle.spec_lexer.specs.declared.token.TokenKind.TheVariants.{Number}
use Rattle.spec_lexer.proofs.Digits.{encode-digits, front_of_digits, number_read, number_refused}
use Rattle.spec_lexer.proofs.number.number_at.Goals as goal
use Rattle.spec_lexer.proofs.number.number_at.Goals.{in_default-via-in-Ok+else-number-le-MAX_NUMBER, in_default-via-in_default}

pub returns-in-Ok-clause-ok : goal.returns-in-Ok-clause-ok
unfolding number_found
returns-in-Ok-clause-ok c =
    let count = 1 + prefix_len is_ascii_digit c.args.after.now in
    let digits = front_of_digits c.args.c c.args.after.now c.args.characters.now c.requires.characters c.requires.digit in
    let text = c.as_str.ensures ∙ c.in_ok-digits.ensures ∙ ap (λ n. encode_utf8_all (take (1 + n) c.args.characters.now)) c.digits-count.ensures.length ∙ encode-digits (take count c.args.characters.now) digits.0 in
    let parsed = subst (λ t. ParsesUnsigned 64 10 t c.parse.result) text c.parse.ensures.value.0 in
    ap (λ m. Ok (Made (Number m) (1 + c.digits-count.result))) c.new.ensures
    ∙ ap (λ n. Ok (Made (Number c.in-Ok.number) (1 + n))) c.digits-count.ensures.length
    ∙ number_read c.args.at (take count c.args.characters.now) c.parse.result c.in-Ok.number count digits.0 parsed c.in-Ok.is c.if-number-le-MAX_NUMBER.true

pub returns-clause-fault : goal.returns-clause-fault
unfolding number_found
returns-clause-fault c =
    let count = 1 + prefix_len is_ascii_digit c.args.after.now in
    let digits = front_of_digits c.args.c c.args.after.now c.args.characters.now c.requires.characters c.requires.digit in
    let text = c.as_str.ensures ∙ c.in_ok-digits.ensures ∙ ap (λ n. encode_utf8_all (take (1 + n) c.args.characters.now)) c.digits-count.ensures.length ∙ encode-digits (take count c.args.characters.now) digits.0 in
    let parsed = subst (λ t. ParsesUnsigned 64 10 t c.parse.result) text c.parse.ensures.value.0 in
    let large : (n : ℕ) → c.parse.result ≡ Ok n → 9223372036854775807 < n = λ n is. elim c.in_default.branch [
      | in_default-via-in-Ok+else-number-le-MAX_NUMBER w ↦ let same : w.in-Ok.number ≡ n = cc in subst (λ m. 9223372036854775807 < m) same w.if-number-le-MAX_NUMBER.false
      | in_default-via-in_default w ↦ absurd (w.in_default.not-Ok n is)
    ] in
    number_refused c.args.at (take count c.args.characters.now) c.parse.result count digits.0 digits.1 parsed large
