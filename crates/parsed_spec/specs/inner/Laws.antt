-- What the grammar says of the operators of a specification.
use Rattle.std.specs.Prelude.{List}
use Rattle.spec_lexer.specs.declared.token.Token.{Token}
use Rattle.syntax_tree.specs.Tree as tree
use Rattle.spec_parser.specs.Grammar.{Spells}
use Rattle.spec_parser.specs.declared.limits.TheConstants.{MOST_LEVELS}
use Rattle.checked_spec.specs.inner.Formed.{HaveTheirOperators}

-- the chains of items that tokens spell have operators of their level
abbrev pub SpelledHaveOperators : Type 0
SpelledHaveOperators = (tokens : List Token) (items : List tree.Item) → Spells MOST_LEVELS tokens items → HaveTheirOperators items
