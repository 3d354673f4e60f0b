-- The tokens of a source have short texts, and so have the items that they spell.
use Rattle.std.proofs.Common.{◌≡◌, ℕ, ◌≤◌, true, List, length, subst}
use Rattle.std.specs.List.{AllByRecursion}
use Rattle.std.proofs.lemmas.Bool.{false≢true}
use Rattle.tsl_value.specs.declared.place.Place.{Place}
use Rattle.tsl_value.specs.declared.limits.TheConstants.{MOST_TEXT_BYTES}
use Rattle.spec_lexer.specs.declared.token.TokenKind.{TokenKind}
use Rattle.spec_lexer.specs.declared.token.TokenKind.TheVariants as kind
use Rattle.spec_lexer.specs.declared.token.Token.{Token}
use Rattle.spec_lexer.specs.Pieces.{Makes}
use Rattle.spec_lexer.specs.Pieces as pieces
use Rattle.spec_lexer.specs.Source.{Lexes, HasTokens}
use Rattle.spec_lexer.specs.Source as source
use Rattle.spec_lexer.specs.Tokens.{Spelled}
use Rattle.syntax_tree.specs.Tree as tree
use Rattle.syntax_tree.specs.Tree.{Expr}
use Rattle.parsed_spec.specs.inner.TextLaws.{SpelledHaveShortTexts}
use Rattle.parsed_spec.proofs.SpelledParts.{is_other, FromTokens, spelled_parts}

-- ---- tokens
abbrev ShortToken : Token → Type 0
ShortToken t = (n : List ℕ) → t.kind ≡ kind.Text n → length n ≤ MOST_TEXT_BYTES

made_short : {front rest : List ℕ} {k : TokenKind} → Makes front rest k → (n : List ℕ) → k ≡ kind.Text n → length n ≤ MOST_TEXT_BYTES
made_short (pieces.Makes.word name spelled) n is = cc
made_short (pieces.Makes.name name no_word few) n is = cc
made_short (pieces.Makes.number number fits) n is = cc
made_short (pieces.Makes.text {meant = meant} means few) n is = subst (λ m. length m ≤ MOST_TEXT_BYTES) (same_text is) few
  where
    same_text : {m : List ℕ} → kind.Text m ≡ kind.Text n → m ≡ n
    same_text h = cc
made_short (pieces.Makes.symbol symbol) n is = cc

lexed_short : {at : Place} {last : ℕ} {characters : List ℕ} {tokens : List Token} → Lexes at last characters tokens → AllByRecursion ShortToken tokens
lexed_short source.Lexes.end = tt
lexed_short (source.Lexes.skip is skipped more) = lexed_short more
lexed_short (source.Lexes.token is makes more) = (λ n same. made_short makes n same, lexed_short more)

tokens_short : {bytes : List ℕ} {spelled : Spelled} → HasTokens bytes spelled → AllByRecursion ShortToken spelled.tokens
tokens_short (source.HasTokens.lexed few text lexes end) = lexed_short lexes

-- ---- expressions
abbrev ShortText : Expr → Type 0
ShortText (tree.Text p n) = length n ≤ MOST_TEXT_BYTES
ShortText e = Unit {0}

short_texts : FromTokens ShortToken ShortText
short_texts = record {
  text = λ t n short is. short n is;
  chain = λ p l e ls at. tt;
  other = other;
}
  where
    other : (e : Expr) → is_other e ≡ true → ShortText e
    other (tree.Text p n) is = absurd (false≢true is)
    other e is = tt

pub spelled_have_short_texts : SpelledHaveShortTexts
spelled_have_short_texts bytes spelled items has spells =
    record { each = λ item seen p text in_items in_item in_body. spelled_parts ShortToken ShortText short_texts (tokens_short has) spells item seen (tree.Text p text) in_items in_item in_body }
