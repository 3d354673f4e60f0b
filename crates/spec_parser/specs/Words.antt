-- Which tokens are which.
use Rattle.std.specs.Prelude.{ℕ, Bool, true, false, not, ◌&&◌, if◌then◌else◌, List, [], ◌∷◌, Option, Some, None, is_some, codes}
use Rattle.std.specs.Option.{option_map}
use Rattle.std.specs.Str.{bytes_eq}
use Rattle.spec_lexer.specs.declared.token.Token.{Token}
use Rattle.spec_lexer.specs.declared.token.TokenKind.{TokenKind}
use Rattle.spec_lexer.specs.declared.token.TokenKind.TheVariants as kind
use Rattle.spec_lexer.specs.declared.token.Word.TheVariants as word
use Rattle.spec_lexer.specs.declared.token.Symbol.{Symbol}
use Rattle.spec_lexer.specs.declared.token.Symbol.TheVariants as symbol
use Rattle.vocabulary.specs.Kinds.{kind_named}
use Rattle.vocabulary.specs.Table.{family_of}
use Rattle.syntax_tree.specs.declared.tree.Level.{Level}
use Rattle.syntax_tree.specs.declared.tree.Level.TheVariants as level
use Rattle.syntax_tree.specs.declared.tree.Operator.{Operator}
use Rattle.syntax_tree.specs.declared.tree.Operator.TheVariants as operator
use Rattle.syntax_tree.specs.declared.tree.Comparison.{Comparison}
use Rattle.syntax_tree.specs.declared.tree.Comparison.TheVariants as comparison
use Rattle.spec_parser.specs.declared.words.TypeWord.{TypeWord}
use Rattle.spec_parser.specs.declared.words.TypeWord.TheVariants as type_word
use Rattle.spec_parser.specs.declared.words.TypedWord.{TypedWord}
use Rattle.spec_parser.specs.declared.words.TypedWord.TheVariants as typed_word

-- the binary operators of each level; a minus that is the first of its line is none
abbrev pub symbol_at : Level → Symbol → Bool → Option Operator
symbol_at level.Disjunction symbol.Or first = Some operator.Or
symbol_at level.Conjunction symbol.And first = Some operator.And
symbol_at level.Sum symbol.Plus first = Some operator.Add
symbol_at level.Sum symbol.Minus false = Some operator.Subtract
symbol_at level.Product symbol.Times first = Some operator.Multiply
symbol_at level.Product symbol.Divide first = Some operator.Divide
symbol_at level.Product symbol.Remainder first = Some operator.Remainder
symbol_at _ _ first = None

abbrev pub operator_at : Level → TokenKind → Bool → Option Operator
operator_at l (kind.Symbol s) first = symbol_at l s first
operator_at l _ first = None

abbrev pub compares : Symbol → Option Comparison
compares symbol.Same = Some comparison.Same
compares symbol.Differs = Some comparison.Differs
compares symbol.AtMost = Some comparison.AtMost
compares symbol.AtLeast = Some comparison.AtLeast
compares symbol.Below = Some comparison.Below
compares symbol.Above = Some comparison.Above
compares _ = None

abbrev pub comparison_at : TokenKind → Option Comparison
comparison_at (kind.Symbol s) = compares s
comparison_at _ = None

-- an opening parenthesis that is not the first of its line
abbrev pub opens_call : TokenKind → Bool → Bool
opens_call (kind.Symbol symbol.Open) first = not first
opens_call _ first = false

abbrev pub is_number : TokenKind → Bool
is_number (kind.Number n) = true
is_number _ = false

abbrev pub is_open : TokenKind → Bool
is_open (kind.Symbol symbol.Open) = true
is_open _ = false

abbrev pub is_close : TokenKind → Bool
is_close (kind.Symbol symbol.Close) = true
is_close _ = false

abbrev pub is_open_bracket : TokenKind → Bool
is_open_bracket (kind.Symbol symbol.OpenBracket) = true
is_open_bracket _ = false

abbrev pub is_close_bracket : TokenKind → Bool
is_close_bracket (kind.Symbol symbol.CloseBracket) = true
is_close_bracket _ = false

abbrev pub is_open_brace : TokenKind → Bool
is_open_brace (kind.Symbol symbol.OpenBrace) = true
is_open_brace _ = false

abbrev pub is_close_brace : TokenKind → Bool
is_close_brace (kind.Symbol symbol.CloseBrace) = true
is_close_brace _ = false

abbrev pub is_comma : TokenKind → Bool
is_comma (kind.Symbol symbol.Comma) = true
is_comma _ = false

abbrev pub is_colon : TokenKind → Bool
is_colon (kind.Symbol symbol.Colon) = true
is_colon _ = false

-- what stands between the head of a definition and its body
abbrev pub defines : TokenKind → Bool
defines (kind.Symbol symbol.Define) = true
defines (kind.Symbol symbol.Equals) = true
defines _ = false

abbrev pub is_if : TokenKind → Bool
is_if (kind.Word word.If) = true
is_if _ = false

abbrev pub is_then : TokenKind → Bool
is_then (kind.Word word.Then) = true
is_then _ = false

abbrev pub is_else : TokenKind → Bool
is_else (kind.Word word.Else) = true
is_else _ = false

abbrev pub is_as : TokenKind → Bool
is_as (kind.Word word.As) = true
is_as _ = false

abbrev pub is_def : TokenKind → Bool
is_def (kind.Word word.Def) = true
is_def _ = false

abbrev pub type_word_of : List ℕ → Option TypeWord
type_word_of n =
    if bytes_eq n (codes "Unit") then Some type_word.Unit
    else if bytes_eq n (codes "Int") then Some type_word.Int
    else if bytes_eq n (codes "Bool") then Some type_word.Bool
    else if bytes_eq n (codes "String") then Some type_word.Text
    else if bytes_eq n (codes "Option") then Some type_word.Option
    else if bytes_eq n (codes "Events") then Some type_word.Events
    else option_map type_word.Of (kind_named n)

-- the names after which a type may stand in brackets
abbrev pub typed_word_of : List ℕ → Option TypedWord
typed_word_of n =
    if bytes_eq n (codes "nil") then Some typed_word.Nil
    else if bytes_eq n (codes "None") then Some typed_word.None
    else None

-- the token goes on with a name before it
abbrev pub goes_on : List ℕ → TokenKind → Bool → Bool
goes_on n (kind.Symbol symbol.Open) first = not first
goes_on n (kind.Symbol symbol.OpenBracket) first = is_some (typed_word_of n)
goes_on n (kind.Symbol symbol.Dot) first = is_some (family_of n)
goes_on n _ first = false

-- what may open a level: a minus opens none before a number, and where it stands between operands
abbrev pub may_open : TokenKind → Bool
may_open (kind.Symbol symbol.Open) = true
may_open (kind.Symbol symbol.OpenBracket) = true
may_open (kind.Symbol symbol.OpenBrace) = true
may_open (kind.Symbol symbol.Minus) = true
may_open (kind.Symbol symbol.Not) = true
may_open (kind.Word word.If) = true
may_open _ = false

abbrev pub is_minus : TokenKind → Bool
is_minus (kind.Symbol symbol.Minus) = true
is_minus _ = false

abbrev pub is_number_next : List Token → Bool
is_number_next [] = false
is_number_next (t ∷ ts) = is_number t.kind

-- the token opens a level, before these tokens, where it opens one at all: a minus before a number opens none
abbrev pub opens_level : Token → List Token → Bool
opens_level t more = may_open t.kind && not (is_minus t.kind && is_number_next more)
