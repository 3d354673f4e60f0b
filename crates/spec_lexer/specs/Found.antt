-- What the search for the piece in front finds, by computation. Contracts of private functions alone cite it. That it
-- finds what the relations of `Pieces` allow, and all of it, is proved in proofs/Sound.antt and proofs/Complete.antt.
use Rattle.std.specs.Prelude.{◌+◌, ◌^◌, ◌==◌, ◌||◌, ◌&&◌, ℕ, Bool, true, false, nat_lt, if◌then◌else◌, List, [], ◌∷◌, ◌++◌, length, take}
use Rattle.std.specs.Prelude.{codes, encode_utf8, encode_utf8_all, Option, Some, None, Result, Ok, Err}
use Rattle.std.specs.Option.{option_map_or}
use Rattle.std.specs.List.{prefix_len}
use Rattle.std.specs.Str.{bytes_eq}
use Rattle.std.specs.Char.{is_ascii_digit}
use Rattle.std.specs.Str.Parse.{digits_value}
use Rattle.unicode_ident.specs.Ident.{is_xid_continue}
use Rattle.tsl_value.specs.declared.place.Place.{Place}
use Rattle.tsl_value.specs.declared.limits.TheConstants.{MOST_TEXT_BYTES}
use Rattle.spec_lexer.specs.declared.token.Word.{Word}
use Rattle.spec_lexer.specs.declared.token.Word.TheVariants as word
use Rattle.spec_lexer.specs.declared.token.Symbol.{Symbol}
use Rattle.spec_lexer.specs.declared.token.Symbol.TheVariants as symbol
use Rattle.spec_lexer.specs.declared.token.TokenKind.TheVariants as kind
use Rattle.spec_lexer.specs.declared.fault.LexFault.{LexFault}
use Rattle.spec_lexer.specs.declared.fault.LexFault.TheVariants.{BadCharacter, OpenText, BadEscape, LiteralTooWide, TextTooLong}
use Rattle.spec_lexer.specs.declared.fault.LexFault.TheVariants.{NameTooLong}
use Rattle.spec_lexer.specs.declared.piece.Piece.{Piece}
use Rattle.spec_lexer.specs.declared.piece.Piece.TheVariants.{Blank, LineEnd, Made}
use Rattle.spec_lexer.specs.Spelling.{is_blank, is_within_line, begins_name, escaped}
use Rattle.spec_lexer.specs.declared.limits.TheConstants.{MOST_NAME_BYTES}

abbrev pub word_of : List ℕ → Option Word
word_of name =
    if bytes_eq name (codes "in") then Some word.In
    else if bytes_eq name (codes "def") then Some word.Def
    else if bytes_eq name (codes "out") then Some word.Out
    else if bytes_eq name (codes "as") then Some word.As
    else if bytes_eq name (codes "if") then Some word.If
    else if bytes_eq name (codes "then") then Some word.Then
    else if bytes_eq name (codes "else") then Some word.Else
    else if bytes_eq name (codes "true") then Some word.True
    else if bytes_eq name (codes "false") then Some word.False
    else None

abbrev pub name_as : Place → Option Word → List ℕ → ℕ → Result Piece LexFault
name_as at (Some w) name count = Ok (Made (kind.Word w) count)
name_as at None name count = if nat_lt MOST_NAME_BYTES (length name) then Err (NameTooLong at) else Ok (Made (kind.Name name) count)

-- a name or a word of so many characters
unfoldable pub name_found : Place → List ℕ → ℕ → Result Piece LexFault
name_found at characters count =
    name_as at (word_of (encode_utf8_all (take count characters))) (encode_utf8_all (take count characters)) count

-- a number of so many digits
abbrev pub number_as : Place → ℕ → ℕ → Result Piece LexFault
number_as at value count = if nat_lt value (2 ^ 63) then Ok (Made (kind.Number value) count) else Err (LiteralTooWide at)

unfoldable pub number_found : Place → List ℕ → ℕ → Result Piece LexFault
number_found at characters count = number_as at (digits_value 10 (take count characters)) count

-- a text whose bytes are read, of so many characters
abbrev pub text_as : Place → List ℕ → ℕ → Result Piece LexFault
text_as at bytes count = if nat_lt MOST_TEXT_BYTES (length bytes) then Err (TextTooLong at) else Ok (Made (kind.Text bytes) count)

-- the rest of a text, after so many characters, which mean the bytes, and perhaps a backslash
unfoldable pub text_found : Place → ℕ → List ℕ → Bool → List ℕ → Result Piece LexFault
text_found at count bytes backslash [] = Err (OpenText at)
text_found at count bytes true (c ∷ cs) =
    option_map_or (λ d. text_found at (count + 2) (bytes ++ encode_utf8 d) false cs) (escaped c)
    (Err (BadEscape (record at { column = at.column + count })))
text_found at count bytes false (c ∷ cs) =
    if c == 34 then text_as at bytes (count + 1)
    else if c == 10 then Err (OpenText at)
    else if c == 92 then text_found at count bytes true cs
    else text_found at (count + 1) (bytes ++ encode_utf8 c) false cs

-- the symbol that two characters spell
unfoldable pub pair_of : ℕ → ℕ → Option Symbol
pair_of c d =
    if c == 58 && d == 61 then Some symbol.Define
    else if c == 124 && d == 124 then Some symbol.Or
    else if c == 38 && d == 38 then Some symbol.And
    else if c == 61 && d == 61 then Some symbol.Same
    else if c == 33 && d == 61 then Some symbol.Differs
    else if c == 60 && d == 61 then Some symbol.AtMost
    else if c == 62 && d == 61 then Some symbol.AtLeast
    else None

-- the symbol that one character spells
unfoldable pub single_of : ℕ → Option Symbol
single_of c =
    if c == 61 then Some symbol.Equals
    else if c == 58 then Some symbol.Colon
    else if c == 44 then Some symbol.Comma
    else if c == 46 then Some symbol.Dot
    else if c == 40 then Some symbol.Open
    else if c == 41 then Some symbol.Close
    else if c == 91 then Some symbol.OpenBracket
    else if c == 93 then Some symbol.CloseBracket
    else if c == 123 then Some symbol.OpenBrace
    else if c == 125 then Some symbol.CloseBrace
    else if c == 60 then Some symbol.Below
    else if c == 62 then Some symbol.Above
    else if c == 43 then Some symbol.Plus
    else if c == 45 then Some symbol.Minus
    else if c == 42 then Some symbol.Times
    else if c == 47 then Some symbol.Divide
    else if c == 37 then Some symbol.Remainder
    else if c == 33 then Some symbol.Not
    else None

abbrev pub symbol_as : Place → Option Symbol → Option Symbol → Result Piece LexFault
symbol_as at (Some s) single = Ok (Made (kind.Symbol s) 2)
symbol_as at None (Some s) = Ok (Made (kind.Symbol s) 1)
symbol_as at None None = Err (BadCharacter at)

unfoldable pub symbol_found : Place → ℕ → ℕ → Result Piece LexFault
symbol_found at c d = symbol_as at (pair_of c d) (single_of c)

-- the second character, or 0
abbrev pub next_of : List ℕ → ℕ
next_of [] = 0
next_of (d ∷ ds) = d

abbrev pub begins_comment : ℕ → ℕ → Bool
begins_comment c d = c == 35 || (c == 45 && d == 45)

-- the piece in front of a character and those after it
unfoldable pub found : Place → ℕ → List ℕ → Result Piece LexFault
found at c cs =
    if c == 10 then Ok LineEnd
    else if is_blank c then Ok (Blank 1)
    else if begins_comment c (next_of cs) then Ok (Blank (1 + prefix_len is_within_line cs))
    else if begins_name c then name_found at (c ∷ cs) (1 + prefix_len is_xid_continue cs)
    else if is_ascii_digit c then number_found at (c ∷ cs) (1 + prefix_len is_ascii_digit cs)
    else if c == 34 then text_found at 1 [] false cs
    else symbol_found at c (next_of cs)
