-- The classes of characters, and how words, symbols and escapes are written.
use Rattle.std.specs.Prelude.{ℕ, Bool, ◌&&◌, ◌||◌, ◌==◌, not, if◌then◌else◌, List, codes, Option, Some, None}
use Rattle.unicode_ident.specs.Ident.{is_xid_start}
use Rattle.spec_lexer.specs.declared.token.Word.{Word}
use Rattle.spec_lexer.specs.declared.token.Word.TheVariants as word
use Rattle.spec_lexer.specs.declared.token.Symbol.{Symbol}
use Rattle.spec_lexer.specs.declared.token.Symbol.TheVariants as symbol

-- space, tab and CR
abbrev pub is_blank : ℕ → Bool
is_blank c = (c == 32 || c == 9) || c == 13

-- all but LF, which ends a line
abbrev pub is_within_line : ℕ → Bool
is_within_line c = not (c == 10)

abbrev pub begins_name : ℕ → Bool
begins_name c = is_xid_start c || c == 95

abbrev pub word_spelling : Word → List ℕ
word_spelling word.In = codes "in"
word_spelling word.Def = codes "def"
word_spelling word.Out = codes "out"
word_spelling word.As = codes "as"
word_spelling word.If = codes "if"
word_spelling word.Then = codes "then"
word_spelling word.Else = codes "else"
word_spelling word.True = codes "true"
word_spelling word.False = codes "false"

abbrev pub symbol_spelling : Symbol → List ℕ
symbol_spelling symbol.Define = codes ":="
symbol_spelling symbol.Equals = codes "="
symbol_spelling symbol.Colon = codes ":"
symbol_spelling symbol.Comma = codes ","
symbol_spelling symbol.Dot = codes "."
symbol_spelling symbol.Open = codes "("
symbol_spelling symbol.Close = codes ")"
symbol_spelling symbol.OpenBracket = codes "["
symbol_spelling symbol.CloseBracket = codes "]"
symbol_spelling symbol.OpenBrace = codes "{"
symbol_spelling symbol.CloseBrace = codes "}"
symbol_spelling symbol.Or = codes "||"
symbol_spelling symbol.And = codes "&&"
symbol_spelling symbol.Same = codes "=="
symbol_spelling symbol.Differs = codes "!="
symbol_spelling symbol.AtMost = codes "<="
symbol_spelling symbol.AtLeast = codes ">="
symbol_spelling symbol.Below = codes "<"
symbol_spelling symbol.Above = codes ">"
symbol_spelling symbol.Plus = codes "+"
symbol_spelling symbol.Minus = codes "-"
symbol_spelling symbol.Times = codes "*"
symbol_spelling symbol.Divide = codes "/"
symbol_spelling symbol.Remainder = codes "%"
symbol_spelling symbol.Not = codes "!"

-- all but the quote, the backslash and LF: what stands for itself in a text
abbrev pub is_plain : ℕ → Bool
is_plain c = not (c == 34) && (not (c == 92) && not (c == 10))

-- the character that a backslash and this one stand for: a quote, a backslash, LF, tab or CR
abbrev pub escaped : ℕ → Option ℕ
escaped c =
    if c == 34 then Some 34
    else if c == 92 then Some 92
    else if c == 110 then Some 10
    else if c == 116 then Some 9
    else if c == 114 then Some 13
    else None
