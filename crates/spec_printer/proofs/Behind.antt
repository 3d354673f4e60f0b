-- How strongly a token goes on with what stands before it: 0 where it does not, the strength of its level where it is an
-- operator, and 8 where it goes on with a name.
use Rattle.std.proofs.Common.{◌≡◌, ℕ, ◌<◌, Bool, true, false, List, [], ◌∷◌, Option, Some, None, refl, arith}
use Rattle.spec_lexer.specs.declared.token.Token.{Token}
use Rattle.spec_lexer.specs.declared.token.TokenKind.{TokenKind}
use Rattle.spec_lexer.specs.declared.token.TokenKind.TheVariants as kind
use Rattle.spec_lexer.specs.declared.token.Symbol.{Symbol}
use Rattle.spec_lexer.specs.declared.token.Symbol.TheVariants as symbol
use Rattle.syntax_tree.specs.declared.tree.Level.{Level}
use Rattle.syntax_tree.specs.declared.tree.Level.TheVariants as level
use Rattle.syntax_tree.specs.declared.tree.Operator.{Operator}
use Rattle.syntax_tree.specs.declared.tree.Operator.TheVariants as operator
use Rattle.syntax_tree.specs.declared.tree.Comparison.{Comparison}
use Rattle.syntax_tree.specs.declared.tree.Comparison.TheVariants as comparison
use Rattle.spec_parser.specs.Words.{operator_at, symbol_at, comparison_at, compares, goes_on}
use Rattle.syntax_tree.specs.Levels.{level_of}
use Rattle.spec_parser.specs.Grammar.{IsPastLevel, IsPastComparison, IsPastName}
use Rattle.spec_printer.specs.inner.Marks.{Mark, token, line_end}
use Rattle.spec_printer.specs.inner.Follow.{Follow, nothing, next_line, next_token}
use Rattle.spec_printer.specs.inner.Print.{level_strength, operator_symbol, comparison_symbol}

abbrev pub symbol_strength : Symbol → Bool → ℕ
symbol_strength symbol.Or first = 1
symbol_strength symbol.And first = 2
symbol_strength symbol.Same first = 3
symbol_strength symbol.Differs first = 3
symbol_strength symbol.AtMost first = 3
symbol_strength symbol.AtLeast first = 3
symbol_strength symbol.Below first = 3
symbol_strength symbol.Above first = 3
symbol_strength symbol.Plus first = 4
symbol_strength symbol.Minus true = 0
symbol_strength symbol.Minus false = 4
symbol_strength symbol.Times first = 5
symbol_strength symbol.Divide first = 5
symbol_strength symbol.Remainder first = 5
symbol_strength symbol.Open true = 0
symbol_strength symbol.Open false = 8
symbol_strength symbol.OpenBracket first = 8
symbol_strength symbol.Dot first = 8
symbol_strength _ first = 0

abbrev pub kind_strength : TokenKind → Bool → ℕ
kind_strength (kind.Symbol s) first = symbol_strength s first
kind_strength _ first = 0

abbrev pub strength_after : Bool → List Mark → ℕ
strength_after first [] = 0
strength_after first (line_end ∷ ms) = strength_after true ms
strength_after first (token k ∷ ms) = kind_strength k first

abbrev pub next_strength : List Token → ℕ
next_strength [] = 0
next_strength (t ∷ ts) = kind_strength t.kind t.first

pub follow_strength : {first : Bool} {ms : List Mark} {ts : List Token} → Follow first ms ts → next_strength ts ≡ strength_after first ms
follow_strength nothing = refl
follow_strength (next_line h) = follow_strength h
follow_strength (next_token is first h) = λ i. kind_strength (is i) (first i)

symbol_at_strength : (l : Level) (s : Symbol) (first : Bool) (o : Operator) → symbol_at l s first ≡ Some o → symbol_strength s first ≡ level_strength l
symbol_at_strength level.Disjunction symbol.Or first o h = refl
symbol_at_strength level.Conjunction symbol.And first o h = refl
symbol_at_strength level.Sum symbol.Plus first o h = refl
symbol_at_strength level.Sum symbol.Minus false o h = refl
symbol_at_strength level.Sum symbol.Minus true o h = cc
symbol_at_strength level.Product symbol.Times first o h = refl
symbol_at_strength level.Product symbol.Divide first o h = refl
symbol_at_strength level.Product symbol.Remainder first o h = refl
symbol_at_strength _ _ first o h = cc

operator_strength : (l : Level) (k : TokenKind) (first : Bool) (o : Operator) → operator_at l k first ≡ Some o → kind_strength k first ≡ level_strength l
operator_strength l (kind.Symbol s) first o h = symbol_at_strength l s first o h
operator_strength l (kind.Word w) first o h = cc
operator_strength l (kind.Name n) first o h = cc
operator_strength l (kind.Number n) first o h = cc
operator_strength l (kind.Text t) first o h = cc

pub past_level : (l : Level) (ts : List Token) → next_strength ts < level_strength l → IsPastLevel l ts
past_level l [] h = tt
past_level l (t ∷ ts) h = none (operator_at l t.kind t.first) refl
  where
    none : (o : Option Operator) → operator_at l t.kind t.first ≡ o → operator_at l t.kind t.first ≡ None
    none None is = is
    none (Some o) is = let same = operator_strength l t.kind t.first o is in absurd (omega arith)

compares_strength : (s : Symbol) (first : Bool) (o : Comparison) → compares s ≡ Some o → symbol_strength s first ≡ 3
compares_strength symbol.Same first o h = refl
compares_strength symbol.Differs first o h = refl
compares_strength symbol.AtMost first o h = refl
compares_strength symbol.AtLeast first o h = refl
compares_strength symbol.Below first o h = refl
compares_strength symbol.Above first o h = refl
compares_strength _ first o h = cc

comparison_strength : (k : TokenKind) (first : Bool) (o : Comparison) → comparison_at k ≡ Some o → kind_strength k first ≡ 3
comparison_strength (kind.Symbol s) first o h = compares_strength s first o h
comparison_strength (kind.Word w) first o h = cc
comparison_strength (kind.Name n) first o h = cc
comparison_strength (kind.Number n) first o h = cc
comparison_strength (kind.Text t) first o h = cc

pub past_comparison : (ts : List Token) → next_strength ts < 3 → IsPastComparison ts
past_comparison [] h = tt
past_comparison (t ∷ ts) h = none (comparison_at t.kind) refl
  where
    none : (o : Option Comparison) → comparison_at t.kind ≡ o → comparison_at t.kind ≡ None
    none None is = is
    none (Some o) is = let same = comparison_strength t.kind t.first o is in absurd (omega arith)

goes_on_strength : (n : List ℕ) (k : TokenKind) (first : Bool) → goes_on n k first ≡ true → kind_strength k first ≡ 8
goes_on_strength n (kind.Symbol symbol.Open) true h = cc
goes_on_strength n (kind.Symbol symbol.Open) false h = refl
goes_on_strength n (kind.Symbol symbol.OpenBracket) first h = refl
goes_on_strength n (kind.Symbol symbol.Dot) first h = refl
goes_on_strength n (kind.Symbol _) first h = cc
goes_on_strength n (kind.Word w) first h = cc
goes_on_strength n (kind.Name m) first h = cc
goes_on_strength n (kind.Number m) first h = cc
goes_on_strength n (kind.Text t) first h = cc

pub past_name : (n : List ℕ) (ts : List Token) → next_strength ts < 8 → IsPastName n ts
past_name n [] h = tt
past_name n (t ∷ ts) h = stops (goes_on n t.kind t.first) refl
  where
    stops : (b : Bool) → goes_on n t.kind t.first ≡ b → goes_on n t.kind t.first ≡ false
    stops false is = is
    stops true is = let same = goes_on_strength n t.kind t.first is in absurd (omega arith)

-- ---- the symbols that are printed
pub operator_again : (o : Operator) → operator_at (level_of o) (kind.Symbol (operator_symbol o)) false ≡ Some o
operator_again operator.Or = refl
operator_again operator.And = refl
operator_again operator.Add = refl
operator_again operator.Subtract = refl
operator_again operator.Multiply = refl
operator_again operator.Divide = refl
operator_again operator.Remainder = refl

pub operator_symbol_strength : (o : Operator) → symbol_strength (operator_symbol o) false ≡ level_strength (level_of o)
operator_symbol_strength operator.Or = refl
operator_symbol_strength operator.And = refl
operator_symbol_strength operator.Add = refl
operator_symbol_strength operator.Subtract = refl
operator_symbol_strength operator.Multiply = refl
operator_symbol_strength operator.Divide = refl
operator_symbol_strength operator.Remainder = refl

pub comparison_again : (o : Comparison) → comparison_at (kind.Symbol (comparison_symbol o)) ≡ Some o
comparison_again comparison.Same = refl
comparison_again comparison.Differs = refl
comparison_again comparison.AtMost = refl
comparison_again comparison.AtLeast = refl
comparison_again comparison.Below = refl
comparison_again comparison.Above = refl

pub comparison_symbol_strength : (o : Comparison) → symbol_strength (comparison_symbol o) false ≡ 3
comparison_symbol_strength comparison.Same = refl
comparison_symbol_strength comparison.Differs = refl
comparison_symbol_strength comparison.AtMost = refl
comparison_symbol_strength comparison.AtLeast = refl
comparison_symbol_strength comparison.Below = refl
comparison_symbol_strength comparison.Above = refl
