-- The marks that each tree is printed as. Parentheses stand around an operand that holds less together than its place asks
-- for, and around a number after a prefix minus, which would make one literal with it. Each item, each definition of a
-- block and the result of a block begins a line, so that a parenthesis or a minus there begins an expression.
use Rattle.std.specs.Prelude.{ℕ, suc, Bool, true, false, nat_le, List, [], ◌∷◌, ◌++◌, Option, Some, None, codes}
use Rattle.std.specs.List.{flat_map}
use Rattle.spec_lexer.specs.declared.token.TokenKind.TheVariants as kind
use Rattle.spec_lexer.specs.declared.token.Word.{Word}
use Rattle.spec_lexer.specs.declared.token.Word.TheVariants as word
use Rattle.spec_lexer.specs.declared.token.Symbol.{Symbol}
use Rattle.spec_lexer.specs.declared.token.Symbol.TheVariants as symbol
use Rattle.syntax_tree.specs.declared.tree.Level.{Level}
use Rattle.syntax_tree.specs.declared.tree.Level.TheVariants as level
use Rattle.syntax_tree.specs.declared.tree.Operator.{Operator}
use Rattle.syntax_tree.specs.declared.tree.Operator.TheVariants as operator
use Rattle.syntax_tree.specs.declared.tree.Comparison.{Comparison}
use Rattle.syntax_tree.specs.declared.tree.Comparison.TheVariants as comparison
use Rattle.syntax_tree.specs.Tree as tree
use Rattle.syntax_tree.specs.Tree.{TypeName, Aggregate, kind_in, Expr, Exprs, no_exprs, more_exprs, Links, no_links, more_links, Param}
use Rattle.syntax_tree.specs.Tree.{Body, Definition}
use Rattle.syntax_tree.specs.Tree.{Definitions, no_definitions, more_definitions, Item}
use Rattle.vocabulary.specs.Kinds.{kind_name}
use Rattle.vocabulary.specs.Table.{family_name, family_in, member_name}
use Rattle.syntax_tree.specs.declared.tree.TypeShape.{TypeShape}
use Rattle.syntax_tree.specs.declared.tree.Node.{Node}
use Rattle.syntax_tree.specs.inner.OneLevel.{type_of, expr_of}
use Rattle.spec_printer.specs.inner.Same.{nowhere}
use Rattle.spec_printer.specs.inner.Marks as mark
use Rattle.spec_printer.specs.inner.Marks.{Mark, token, line_end, named, text_of}

abbrev pub operator_symbol : Operator → Symbol
operator_symbol operator.Or = symbol.Or
operator_symbol operator.And = symbol.And
operator_symbol operator.Add = symbol.Plus
operator_symbol operator.Subtract = symbol.Minus
operator_symbol operator.Multiply = symbol.Times
operator_symbol operator.Divide = symbol.Divide
operator_symbol operator.Remainder = symbol.Remainder

abbrev pub comparison_symbol : Comparison → Symbol
comparison_symbol comparison.Same = symbol.Same
comparison_symbol comparison.Differs = symbol.Differs
comparison_symbol comparison.AtMost = symbol.AtMost
comparison_symbol comparison.AtLeast = symbol.AtLeast
comparison_symbol comparison.Below = symbol.Below
comparison_symbol comparison.Above = symbol.Above

abbrev pub truth_word : Bool → Word
truth_word true = word.True
truth_word false = word.False

abbrev mutual
  pub type_marks : TypeName → List Mark
  type_marks (tree.UnitType p) = named (codes "Unit") ∷ []
  type_marks (tree.IntType p) = named (codes "Int") ∷ []
  type_marks (tree.BoolType p) = named (codes "Bool") ∷ []
  type_marks (tree.TextType p) = named (codes "String") ∷ []
  type_marks (tree.AggregateType p a) = named (kind_name (kind_in a)) ∷ aggregate_marks a
  type_marks (tree.OptionType p y) =
      named (codes "Option") ∷ (mark.symbol symbol.OpenBracket ∷ (type_marks y ++ (mark.symbol symbol.CloseBracket ∷ [])))
  type_marks (tree.EventsType p y) =
      named (codes "Events") ∷ (mark.symbol symbol.OpenBracket ∷ (type_marks y ++ (mark.symbol symbol.CloseBracket ∷ [])))

  -- the types in the brackets of an aggregate
  pub aggregate_marks : Aggregate → List Mark
  aggregate_marks (tree.SetOf y) = mark.symbol symbol.OpenBracket ∷ (type_marks y ++ (mark.symbol symbol.CloseBracket ∷ []))
  aggregate_marks (tree.MapOf x y) =
      mark.symbol symbol.OpenBracket
      ∷ (type_marks x ++ (mark.symbol symbol.Comma ∷ (type_marks y ++ (mark.symbol symbol.CloseBracket ∷ []))))
  aggregate_marks (tree.QueueOf y) = mark.symbol symbol.OpenBracket ∷ (type_marks y ++ (mark.symbol symbol.CloseBracket ∷ []))

-- a type in brackets, and two of them
abbrev pub bracketed : TypeName → List Mark
bracketed y = mark.symbol symbol.OpenBracket ∷ (type_marks y ++ (mark.symbol symbol.CloseBracket ∷ []))

abbrev pub second_bracketed : TypeName → List Mark
second_bracketed y = mark.symbol symbol.Comma ∷ (type_marks y ++ (mark.symbol symbol.CloseBracket ∷ []))

abbrev pub both_bracketed : TypeName → TypeName → List Mark
both_bracketed x y = mark.symbol symbol.OpenBracket ∷ (type_marks x ++ second_bracketed y)

-- how strongly an expression holds together: 0 for a choice, 1 to 5 for chains, with 3 for comparisons, 6 for prefix
-- operators and negative numbers, and 7 for what stands alone
abbrev pub level_strength : Level → ℕ
level_strength level.Disjunction = 1
level_strength level.Conjunction = 2
level_strength level.Sum = 4
level_strength level.Product = 5

abbrev pub strength : Expr → ℕ
strength (tree.If p c a b) = 0
strength (tree.Chain p l e ls) = level_strength l
strength (tree.Compare p o a b) = 3
strength (tree.Negate p e) = 6
strength (tree.Not p e) = 6
strength (tree.Negative p n) = 6
strength (tree.Number p n) = 7
strength (tree.Text p t) = 7
strength (tree.Boolean p b) = 7
strength (tree.Unit p) = 7
strength (tree.Name p n) = 7
strength (tree.Call p n es) = 7
strength (tree.CallDotted p d es) = 7
strength (tree.Nil p y) = 7
strength (tree.None p y) = 7
strength (tree.Empty p a) = 7

-- the least strength of an operand of a level, and of what a prefix minus may stand before
abbrev pub least_operand : Level → ℕ
least_operand l = suc (level_strength l)

abbrev pub least_negated : Expr → ℕ
least_negated (tree.Number p n) = 8
least_negated _ = 6

-- in parentheses, unless it holds so strongly together
abbrev pub enclosed : Bool → List Mark → List Mark
enclosed true ms = ms
enclosed false ms = mark.symbol symbol.Open ∷ (ms ++ (mark.symbol symbol.Close ∷ []))

abbrev pub holds : ℕ → Expr → Bool
holds least e = nat_le least (strength e)

abbrev mutual
  pub expr_marks : Expr → List Mark
  expr_marks (tree.If p c a b) =
      mark.word word.If ∷ (expr_marks c ++ (mark.word word.Then ∷ (expr_marks a ++ (mark.word word.Else ∷ expr_marks b))))
  expr_marks (tree.Chain p l e ls) = enclosed (holds (least_operand l) e) (expr_marks e) ++ link_marks (least_operand l) ls
  expr_marks (tree.Compare p o a b) =
      enclosed (holds 4 a) (expr_marks a) ++ (mark.symbol (comparison_symbol o) ∷ enclosed (holds 4 b) (expr_marks b))
  expr_marks (tree.Negate p e) = mark.symbol symbol.Minus ∷ enclosed (holds (least_negated e) e) (expr_marks e)
  expr_marks (tree.Not p e) = mark.symbol symbol.Not ∷ enclosed (holds 6 e) (expr_marks e)
  expr_marks (tree.Number p n) = token (kind.Number n) ∷ []
  expr_marks (tree.Negative p n) = mark.symbol symbol.Minus ∷ (token (kind.Number n) ∷ [])
  expr_marks (tree.Text p t) = token (kind.Text t) ∷ []
  expr_marks (tree.Boolean p b) = mark.word (truth_word b) ∷ []
  expr_marks (tree.Unit p) = mark.symbol symbol.Open ∷ (mark.symbol symbol.Close ∷ [])
  expr_marks (tree.Name p n) = named n ∷ []
  expr_marks (tree.Call p n es) = named n ∷ (expr_marks_after symbol.Open es ++ (mark.symbol symbol.Close ∷ []))
  expr_marks (tree.CallDotted p d es) =
      named (family_name (family_in d))
      ∷ (mark.symbol symbol.Dot ∷ (named (member_name d) ∷ (expr_marks_after symbol.Open es ++ (mark.symbol symbol.Close ∷ []))))
  expr_marks (tree.Nil p y) = named (codes "nil") ∷ bracketed y
  expr_marks (tree.None p y) = named (codes "None") ∷ bracketed y
  expr_marks (tree.Empty p a) =
      named (kind_name (kind_in a)) ∷ (mark.symbol symbol.Dot ∷ (named (codes "empty") ∷ aggregate_marks a))

  -- each with a symbol before it: this one before the first, and commas before the others
  pub expr_marks_after : Symbol → Exprs → List Mark
  expr_marks_after s no_exprs = []
  expr_marks_after s (more_exprs e es) = mark.symbol s ∷ (expr_marks e ++ expr_marks_after symbol.Comma es)

  pub link_marks : ℕ → Links → List Mark
  link_marks least no_links = []
  link_marks least (more_links o e ls) = mark.symbol (operator_symbol o) ∷ (enclosed (holds least e) (expr_marks e) ++ link_marks least ls)

abbrev pub operand_marks : ℕ → Expr → List Mark
operand_marks least e = enclosed (holds least e) (expr_marks e)

abbrev pub argument_marks : Exprs → List Mark
argument_marks es = expr_marks_after symbol.Open es ++ (mark.symbol symbol.Close ∷ [])

abbrev pub param_marks : Param → List Mark
param_marks p = named p.name ∷ (mark.symbol symbol.Colon ∷ type_marks p.of)

abbrev pub param_marks_after : Symbol → List Param → List Mark
param_marks_after s [] = []
param_marks_after s (p ∷ ps) = mark.symbol s ∷ (param_marks p ++ param_marks_after symbol.Comma ps)

abbrev pub params_marks : List Param → List Mark
params_marks [] = []
params_marks (p ∷ ps) = param_marks_after symbol.Open (p ∷ ps) ++ (mark.symbol symbol.Close ∷ [])

abbrev pub written_marks : Option TypeName → List Mark
written_marks None = []
written_marks (Some y) = mark.symbol symbol.Colon ∷ type_marks y

-- what stands before the body of a definition
abbrev pub head_marks : List ℕ → List Param → Option TypeName → List Mark
head_marks n ps w = mark.word word.Def ∷ (named n ∷ (params_marks ps ++ (written_marks w ++ (mark.symbol symbol.Define ∷ []))))

abbrev mutual
  pub body_marks : Body → List Mark
  body_marks (tree.Plain e) = expr_marks e
  body_marks (tree.Block ds e) =
      mark.symbol symbol.OpenBrace ∷ (line_end ∷ (definitions_marks ds ++ (expr_marks e ++ (mark.symbol symbol.CloseBrace ∷ []))))

  pub definition_marks : Definition → List Mark
  definition_marks (tree.Define p n ps w b) = head_marks n ps w ++ body_marks b

  pub definitions_marks : Definitions → List Mark
  definitions_marks no_definitions = []
  definitions_marks (more_definitions d ds) = definition_marks d ++ (line_end ∷ definitions_marks ds)

abbrev pub item_marks : Item → List Mark
item_marks (tree.Input p q n y) = mark.word word.In ∷ (named n ∷ (mark.symbol symbol.Colon ∷ type_marks y))
item_marks (tree.Defined p d) = definition_marks d
item_marks (tree.Output p q n) = mark.word word.Out ∷ (named n ∷ [])
item_marks (tree.OutputAs p e q n) = mark.word word.Out ∷ (expr_marks e ++ (mark.word word.As ∷ (named n ∷ [])))

abbrev pub line_marks : Item → List Mark
line_marks i = item_marks i ++ (line_end ∷ [])

abbrev pub items_marks : List Item → List Mark
items_marks items = flat_map line_marks items

-- what is printed of a part of the code's tree, wherever it stands
abbrev pub shape_marks : TypeShape → List Mark
shape_marks s = type_marks (type_of nowhere s)

abbrev pub node_marks : Node → List Mark
node_marks n = expr_marks (expr_of nowhere n)

-- the source that is printed
abbrev pub source_of : List Item → List ℕ
source_of items = text_of (items_marks items)
