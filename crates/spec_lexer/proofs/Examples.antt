-- Worked rows.
use Rattle.std.proofs.Common.{◌≡◌, [], ◌∷◌, refl, true, false, Ok, Err}
use Rattle.std.specs.Prelude.{codes}
use Rattle.std.specs.Char.{encode_utf8}
use Rattle.unicode_ident.proofs.Computing.{unicode_ident}
use Rattle.spec_lexer.specs.declared.fault.LexFault.TheVariants.{BadCharacter, OpenText, BadEscape, LiteralTooWide}
use Rattle.spec_lexer.specs.declared.piece.Piece.TheVariants.{Blank, Made}
use Rattle.spec_lexer.specs.declared.token.TokenKind.TheVariants as kind
use Rattle.spec_lexer.specs.declared.token.Word.TheVariants as word
use Rattle.spec_lexer.specs.declared.token.Symbol.TheVariants as symbol
use Rattle.spec_lexer.specs.Pieces.{place_after}
use Rattle.spec_lexer.specs.Source.{start, Lexes, Fails}
use Rattle.spec_lexer.proofs.Steps.{moved, lex_made, lex_line, lex_end, fail_made, fail_blank, fail_here}
use Rattle.spec_lexer.specs.Found.{found, name_found, number_found, text_found, symbol_found, pair_of, single_of}

-- LF begins a line, and each character takes one column
second_line : place_after start (codes "ab\nc") ≡ record { line = 2; column = 2 }
second_line = refl

word_found : found start 100 (codes "ef") ≡ Ok (Made (kind.Word word.Def) 3)
unfolding found name_found encode_utf8 unicode_ident
word_found = refl

number : found start 49 (codes "2x") ≡ Ok (Made (kind.Number 12) 2)
unfolding found number_found unicode_ident
number = refl

too_wide : found start 57 (codes "223372036854775808") ≡ Err (LiteralTooWide start)
unfolding found number_found unicode_ident
too_wide = refl

widest : found start 57 (codes "223372036854775807") ≡ Ok (Made (kind.Number 9223372036854775807) 19)
unfolding found number_found unicode_ident
widest = refl

text : found start 34 (codes "a\\n\" ") ≡ Ok (Made (kind.Text (codes "a\n")) 5)
unfolding found text_found encode_utf8 unicode_ident
text = refl

unclosed : found start 34 (codes "ab") ≡ Err (OpenText start)
unfolding found text_found encode_utf8 unicode_ident
unclosed = refl

bad_escape : found start 34 (codes "a\\q") ≡ Err (BadEscape (record { line = 1; column = 3 }))
unfolding found text_found encode_utf8 unicode_ident
bad_escape = refl

longest : found start 58 (codes "= 1") ≡ Ok (Made (kind.Symbol symbol.Define) 2)
unfolding found symbol_found pair_of single_of unicode_ident
longest = refl

bad_character : found start 63 [] ≡ Err (BadCharacter start)
unfolding found symbol_found pair_of single_of unicode_ident
bad_character = refl

comment : found start 45 (codes "- x\n") ≡ Ok (Blank 4)
unfolding found
comment = refl

-- a character that begins nothing, after a number
fault : Fails start (codes "1 ? 2") (BadCharacter (record { line = 1; column = 3 }))
unfolding found number_found symbol_found pair_of single_of unicode_ident
fault =
    fail_made start 49 (codes " ? 2") (codes "1 ? 2") refl 1 (kind.Number 1) _ refl
    (fail_blank (moved start 1) 32 (codes "? 2") (codes " ? 2") refl 1 _ refl
    (fail_here (moved (moved start 1) 1) 63 (codes " 2") (codes "? 2") refl _ refl))

-- a line with two tokens, and one with one
two_lines :
    Lexes start 0 (codes "7:=\n.") (record { kind = kind.Number 7; place = start; first = true } ∷ record { kind = kind.Symbol symbol.Define; place = record { line = 1; column = 2 }; first = false } ∷ record { kind = kind.Symbol symbol.Dot; place = record { line = 2; column = 1 }; first = true } ∷ [])
unfolding found number_found symbol_found pair_of single_of unicode_ident
two_lines =
    lex_made start 55 (codes ":=\n.") (codes "7:=\n.") refl 1 (kind.Number 7) 0 _ refl
    (lex_made (moved start 1) 58 (codes "=\n.") (codes ":=\n.") refl 2 (kind.Symbol symbol.Define) 1 _ refl
    (lex_line (moved (moved start 1) 2) 10 (codes ".") (codes "\n.") refl 1 _ refl
    (lex_made (record { line = 2; column = 1 }) 46 [] (codes ".") refl 1 (kind.Symbol symbol.Dot) 1 _ refl
    (lex_end (record { line = 2; column = 2 }) 2 [] refl))))
