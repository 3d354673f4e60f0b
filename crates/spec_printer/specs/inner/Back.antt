-- A tree comes back from what is printed of it.
use Rattle.std.specs.Prelude.{ℕ, ◌≤◌, true, List, length}
use Rattle.spec_lexer.specs.declared.token.Token.{Token}
use Rattle.spec_lexer.specs.Tokens.{Spelled}
use Rattle.spec_lexer.specs.Source.{start, IsText, Lexes, HasTokens}
use Rattle.spec_lexer.specs.declared.limits.TheConstants.{MOST_SOURCE_BYTES}
use Rattle.syntax_tree.specs.Tree.{Item}
use Rattle.spec_parser.specs.Grammar.{Spells}
use Rattle.spec_parser.specs.declared.limits.TheConstants.{MOST_LEVELS}
use Rattle.spec_printer.specs.inner.Print.{items_marks, source_of}
use Rattle.spec_printer.specs.inner.Follow.{Follow}
use Rattle.spec_printer.specs.inner.Same.{AreSame}

-- the characters that are printed make tokens, and these spell the same tree, places aside; the limit on the length of a
-- source is aside too
pub record ComesBack (items : List Item) : Type 0 where
  pub characters : List ℕ
  pub text : IsText characters (source_of items)
  pub tokens : List Token
  pub lexed : Lexes start 0 characters tokens
  pub again : List Item
  pub spelled : Spells MOST_LEVELS tokens again
  pub same : AreSame again items

-- the characters that are printed make just the tokens that were to be printed
pub record IsLexedAgain (items : List Item) : Type 0 where
  pub characters : List ℕ
  pub text : IsText characters (source_of items)
  pub tokens : List Token
  pub lexed : Lexes start 0 characters tokens
  pub follow : Follow true (items_marks items) tokens

abbrev pub EachIsLexedAgain : Type 0
EachIsLexedAgain =
    (source : List ℕ) (found : Spelled) (items : List Item) →
    HasTokens source found →
    Spells MOST_LEVELS found.tokens items →
    IsLexedAgain items

-- within that limit, the source that is printed has tokens, and these spell the same tree
pub record IsReadAgain (items : List Item) : Type 0 where
  pub found : Spelled
  pub has : HasTokens (source_of items) found
  pub again : List Item
  pub spelled : Spells MOST_LEVELS found.tokens again
  pub same : AreSame again items

-- each tree that the tokens of some source spell comes back
abbrev pub EachComesBack : Type 0
EachComesBack =
    (source : List ℕ) (found : Spelled) (items : List Item) →
    HasTokens source found →
    Spells MOST_LEVELS found.tokens items →
    ComesBack items

abbrev pub EachIsReadAgain : Type 0
EachIsReadAgain =
    (source : List ℕ) (found : Spelled) (items : List Item) →
    HasTokens source found →
    Spells MOST_LEVELS found.tokens items →
    length (source_of items) ≤ MOST_SOURCE_BYTES →
    IsReadAgain items
