-- The operators that the grammar takes at a level are of this level.
use Rattle.std.proofs.Common.{◌≡◌, Bool, true, false, Some, sym, ap}
use Rattle.spec_lexer.specs.declared.token.TokenKind.{TokenKind}
use Rattle.spec_lexer.specs.declared.token.TokenKind.TheVariants as kind
use Rattle.spec_lexer.specs.declared.token.Symbol.{Symbol}
use Rattle.spec_lexer.specs.declared.token.Symbol.TheVariants as symbol
use Rattle.syntax_tree.specs.declared.tree.Level.{Level}
use Rattle.syntax_tree.specs.declared.tree.Level.TheVariants as level
use Rattle.syntax_tree.specs.declared.tree.Operator.{Operator}
use Rattle.syntax_tree.specs.declared.tree.Operator.TheVariants as operator
use Rattle.spec_parser.specs.Words.{operator_at, symbol_at}
use Rattle.syntax_tree.specs.Levels.{level_of}

level_as : {o : Operator} (x : Operator) → Some x ≡ Some o → level_of o ≡ level_of x
level_as {o = o} x h = let same : x ≡ o = cc in sym (ap level_of same)

symbol_level : (l : Level) (s : Symbol) (first : Bool) (o : Operator) → symbol_at l s first ≡ Some o → level_of o ≡ l
symbol_level level.Disjunction symbol.Or first o h = level_as operator.Or h
symbol_level level.Conjunction symbol.And first o h = level_as operator.And h
symbol_level level.Sum symbol.Plus first o h = level_as operator.Add h
symbol_level level.Sum symbol.Minus false o h = level_as operator.Subtract h
symbol_level level.Sum symbol.Minus true o h = cc
symbol_level level.Product symbol.Times first o h = level_as operator.Multiply h
symbol_level level.Product symbol.Divide first o h = level_as operator.Divide h
symbol_level level.Product symbol.Remainder first o h = level_as operator.Remainder h
symbol_level _ _ first o h = cc

pub operator_level : (l : Level) (k : TokenKind) (first : Bool) (o : Operator) → operator_at l k first ≡ Some o → level_of o ≡ l
operator_level l (kind.Symbol s) first o h = symbol_level l s first o h
operator_level l (kind.Word w) first o h = cc
operator_level l (kind.Name n) first o h = cc
operator_level l (kind.Number n) first o h = cc
operator_level l (kind.Text t) first o h = cc
