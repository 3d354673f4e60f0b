-- Tokens that follow marks.
use Rattle.std.specs.Prelude.{◌≡◌, Bool, true, false, List, [], ◌∷◌}
use Rattle.spec_lexer.specs.declared.token.Token.{Token}
use Rattle.spec_lexer.specs.declared.token.TokenKind.{TokenKind}
use Rattle.spec_printer.specs.inner.Marks.{Mark, token, line_end}

-- These kinds, and the first of its line where a line ends before it. The flag says whether the next token is that.
pub data Follow : Bool → List Mark → List Token → Type 0 where
  nothing : {first : Bool} → Follow first [] []
  next_line : {first : Bool} {ms : List Mark} {ts : List Token} → Follow true ms ts → Follow first (line_end ∷ ms) ts
  -- a token of kind k , and the tokens of the marks after it
  next_token :
      {first : Bool} {k : TokenKind} {ms : List Mark} {t : Token} {ts : List Token} →
      t.kind ≡ k →
      t.first ≡ first →
      Follow false ms ts →
      Follow first (token k ∷ ms) (t ∷ ts)
