-- What the lexer says of the texts of a specification.
use Rattle.std.specs.Prelude.{ℕ, List}
use Rattle.spec_lexer.specs.Source.{HasTokens}
use Rattle.spec_lexer.specs.Tokens.{Spelled}
use Rattle.syntax_tree.specs.Tree as tree
use Rattle.spec_parser.specs.Grammar.{Spells}
use Rattle.spec_parser.specs.declared.limits.TheConstants.{MOST_LEVELS}
use Rattle.parsed_spec.specs.inner.Short.{HaveShortTexts}

-- the texts of items that the tokens of a source spell are short
abbrev pub SpelledHaveShortTexts : Type 0
SpelledHaveShortTexts =
    (source : List ℕ) (spelled : Spelled) (items : List tree.Item) →
    HasTokens source spelled →
    Spells MOST_LEVELS spelled.tokens items →
    HaveShortTexts items
