-- What is printed: tokens, each with a blank after it, and ends of lines.
use Rattle.std.specs.Prelude.{ℕ, List, ◌++◌, codes}
use Rattle.std.specs.Fmt.{decimal}
use Rattle.std.specs.List.{flat_map}
use Rattle.tsl_value.specs.Print.{quoted_text}
use Rattle.spec_lexer.specs.declared.token.TokenKind.{TokenKind}
use Rattle.spec_lexer.specs.declared.token.TokenKind.TheVariants as kind
use Rattle.spec_lexer.specs.declared.token.Word.{Word}
use Rattle.spec_lexer.specs.declared.token.Symbol.{Symbol}
use Rattle.spec_lexer.specs.Spelling.{word_spelling, symbol_spelling}

pub data Mark : Type 0 where
  token : TokenKind → Mark
  line_end : Mark

abbrev pub word : Word → Mark
word w = token (kind.Word w)

abbrev pub symbol : Symbol → Mark
symbol s = token (kind.Symbol s)

abbrev pub named : List ℕ → Mark
named n = token (kind.Name n)

-- how a token is written
abbrev pub kind_text : TokenKind → List ℕ
kind_text (kind.Name n) = n
kind_text (kind.Number n) = decimal n
kind_text (kind.Text t) = quoted_text t
kind_text (kind.Word w) = word_spelling w
kind_text (kind.Symbol s) = symbol_spelling s

abbrev pub mark_text : Mark → List ℕ
mark_text (token k) = kind_text k ++ codes " "
mark_text line_end = codes "\n"

abbrev pub text_of : List Mark → List ℕ
text_of ms = flat_map mark_text ms
