-- Reading a specification, construct by construct.
use Rattle.std.specs.Prelude.{ℕ, zero, suc, Bool, true, false, not, List, [], ◌∷◌, Option, Some, None, codes, if◌then◌else◌}
use Rattle.std.specs.Option.{option_map}
use Rattle.std.specs.Str.{bytes_eq}
use Rattle.tsl_value.specs.declared.place.Place.{Place}
use Rattle.spec_lexer.specs.declared.token.Token.{Token}
use Rattle.spec_lexer.specs.declared.token.TokenKind.{TokenKind}
use Rattle.spec_lexer.specs.declared.token.TokenKind.TheVariants as kind
use Rattle.spec_lexer.specs.declared.token.Word.TheVariants as word
use Rattle.spec_lexer.specs.declared.token.Symbol.TheVariants as symbol
use Rattle.token_reader.specs.inner.Reader as reader
use Rattle.token_reader.specs.inner.Reader.{Unexpected, TooDeep, Read, Stopped, Lister, give, refuse, ◌>>=◌, when, take_by, expect, if_next}
use Rattle.token_reader.specs.inner.Reader.{or_else, or_given, alone, opened, many}
use Rattle.syntax_tree.specs.declared.tree.Level.{Level}
use Rattle.syntax_tree.specs.declared.tree.Level.TheVariants as level
use Rattle.syntax_tree.specs.declared.tree.Operator.{Operator}
use Rattle.syntax_tree.specs.declared.tree.Comparison.{Comparison}
use Rattle.vocabulary.specs.declared.kind.Kind.{Kind}
use Rattle.vocabulary.specs.declared.kind.Kind.TheVariants as aggregate_kind
use Rattle.vocabulary.specs.declared.dotted.Dotted.{Dotted}
use Rattle.spec_parser.specs.declared.words.TypeWord.{TypeWord}
use Rattle.spec_parser.specs.declared.words.TypeWord.TheVariants as type_word
use Rattle.spec_parser.specs.declared.words.TypedWord.{TypedWord}
use Rattle.spec_parser.specs.declared.words.TypedWord.TheVariants as typed_word
use Rattle.vocabulary.specs.declared.dotted.Family.{Family}
use Rattle.vocabulary.specs.declared.dotted.Family.TheVariants as family
use Rattle.spec_parser.specs.declared.words.Wrapper.{Wrapper}
use Rattle.spec_parser.specs.declared.words.Wrapper.TheVariants as wrapper
use Rattle.spec_parser.specs.declared.words.Callee.{Callee}
use Rattle.spec_parser.specs.declared.words.Callee.TheVariants as callee
use Rattle.spec_parser.specs.declared.words.Member.{Member}
use Rattle.spec_parser.specs.declared.words.Member.TheVariants as member
use Rattle.syntax_tree.specs.Tree as tree
use Rattle.syntax_tree.specs.Tree.{TypeName, Aggregate, Expr, Exprs, no_exprs, more_exprs, Links, no_links, more_links, place_of, Param}
use Rattle.syntax_tree.specs.Tree.{Body}
use Rattle.syntax_tree.specs.Tree.{Definition, Definitions, no_definitions, more_definitions, Item}
use Rattle.spec_parser.specs.Words.{operator_at, comparison_at, opens_call, is_open, is_close, is_open_bracket, is_close_bracket}
use Rattle.spec_parser.specs.Words.{is_open_brace, is_close_brace, is_comma, is_colon, defines, is_if, is_then, is_else, is_as, is_def}
use Rattle.vocabulary.specs.Table.{family_of, dotted_of}
use Rattle.spec_parser.specs.Words.{type_word_of, typed_word_of}
use Rattle.spec_parser.specs.Grammar.{chained}

abbrev pub Reader : Type 0 → Type 0
Reader A = reader.Reader Token A

-- a token of a kind that has to come
abbrev pub must : {A : Type 0} → (TokenKind → Bool) → Reader A → Reader A
must test p = expect (λ t. test t.kind) p

abbrev pub at_name : {A : Type 0} → (List ℕ → Reader A) → TokenKind → Option (Reader A)
at_name f (kind.Name n) = Some (f n)
at_name f _ = None

-- a name that has to come
abbrev pub named : {A : Type 0} → (Place → List ℕ → Reader A) → Reader A
named f = take_by (λ t. at_name (f t.place) t.kind)

-- types
abbrev pub in_brackets : {A : Type 0} → Reader TypeName → (TypeName → A) → Reader A
in_brackets inner f = inner >>= λ y. must is_close_bracket (give (f y))

abbrev pub two_in_brackets : {A : Type 0} → Reader TypeName → (TypeName → TypeName → A) → Reader A
two_in_brackets inner f = inner >>= λ x. must is_comma (in_brackets inner (f x))

-- what stands in the brackets of an aggregate of a kind
abbrev pub aggregate_of : Reader TypeName → Kind → Reader Aggregate
aggregate_of inner aggregate_kind.Set = in_brackets inner tree.SetOf
aggregate_of inner aggregate_kind.Map = two_in_brackets inner tree.MapOf
aggregate_of inner aggregate_kind.Queue = in_brackets inner tree.QueueOf

abbrev pub an_aggregate : ℕ → Reader TypeName → Kind → Reader Aggregate
an_aggregate room inner g = must is_open_bracket (opened room (aggregate_of inner g))

abbrev pub type_after : ℕ → Reader TypeName → Place → TypeWord → Reader TypeName
type_after room inner place type_word.Unit = give (tree.UnitType place)
type_after room inner place type_word.Int = give (tree.IntType place)
type_after room inner place type_word.Bool = give (tree.BoolType place)
type_after room inner place type_word.Text = give (tree.TextType place)
type_after room inner place (type_word.Of g) = an_aggregate room inner g >>= λ a. give (tree.AggregateType place a)
type_after room inner place type_word.Option = must is_open_bracket (opened room (in_brackets inner (tree.OptionType place)))
type_after room inner place type_word.Events = must is_open_bracket (opened room (in_brackets inner (tree.EventsType place)))

-- the type of one type in brackets
abbrev pub wrapped : Place → Wrapper → TypeName → TypeName
wrapped place wrapper.Option = tree.OptionType place
wrapped place wrapper.Events = tree.EventsType place

abbrev pub at_type : ℕ → Reader TypeName → Place → TokenKind → Option (Reader TypeName)
at_type room inner place (kind.Name n) = option_map (type_after room inner place) (type_word_of n)
at_type room inner place _ = None

abbrev pub a_type : ℕ → Reader TypeName → Reader TypeName
a_type room inner = take_by (λ t. at_type room inner t.place t.kind)

-- what stands in a level that was opened, where so many levels may be open at it and in it
unfoldable pub type_in : ℕ → Reader TypeName
type_in zero = refuse TooDeep
type_in (suc room) = a_type room (type_in room)

-- expressions
abbrev pub link : Reader Expr → Operator → Reader (Operator × Expr)
link operand o = operand >>= λ e. give (o, e)

abbrev pub links_of : Level → Reader Expr → Lister Token (Operator × Expr) Links
links_of l operand =
    record { turn = λ t. option_map (link operand) (operator_at l t.kind t.first); none = no_links; more = λ a ls. more_links a.0 a.1 ls }

abbrev pub after_operand : Level → Reader Expr → Expr → Reader Expr
after_operand l operand e = many (links_of l operand) >>= λ ls. give (chained l e ls)

abbrev pub chain : Level → Reader Expr → Reader Expr
chain l operand = operand >>= after_operand l operand

abbrev pub others_of : Reader Expr → Lister Token Expr Exprs
others_of inner = record { turn = λ t. when (is_comma t.kind) inner; none = no_exprs; more = more_exprs }

abbrev pub after_argument : {A : Type 0} → Reader Expr → (Exprs → A) → Expr → Reader A
after_argument inner f e = many (others_of inner) >>= λ es. must is_close (give (f (more_exprs e es)))

-- the arguments of a call and its closing parenthesis
abbrev pub arguments : {A : Type 0} → Reader Expr → (Exprs → A) → Reader A
arguments inner f = inner >>= after_argument inner f

abbrev pub typed_as : Place → TypedWord → TypeName → Expr
typed_as place typed_word.Nil = tree.Nil place
typed_as place typed_word.None = tree.None place

-- a call of a function
abbrev pub called_as : Place → Callee → Exprs → Expr
called_as place (callee.Name n) = tree.Call place n
called_as place (callee.Dotted o) = tree.CallDotted place o

abbrev pub typed : ℕ → Reader TypeName → Place → TypedWord → Reader Expr
typed room types place typed_word.Nil = opened room (in_brackets types (tree.Nil place))
typed room types place typed_word.None = opened room (in_brackets types (tree.None place))

-- after the dot stands the word for an empty aggregate, or the name of a function
abbrev pub empty_of : Family → Option Member
empty_of (family.Of g) = Some (member.Empty g)
empty_of family.Text = None

abbrev pub empty_member : Family → List ℕ → Option Member
empty_member f n = if bytes_eq n (codes "empty") then empty_of f else None

abbrev pub called_or : Option Member → Option Dotted → Option Member
called_or other (Some d) = Some (member.Called d)
called_or other None = other

unfoldable pub member_of : Family → List ℕ → Option Member
member_of f n = called_or (empty_member f n) (dotted_of f n)

abbrev pub empty_after : ℕ → Reader TypeName → Place → Kind → Reader Expr
empty_after room types place g = an_aggregate room types g >>= λ a. give (tree.Empty place a)

abbrev pub must_call : {A : Type 0} → Reader A → Reader A
must_call p = take_by (λ t. when (opens_call t.kind t.first) p)

abbrev pub member_after : ℕ → Reader TypeName → Reader Expr → Place → Member → Reader Expr
member_after room types inner place (member.Called o) = must_call (opened room (arguments inner (tree.CallDotted place o)))
member_after room types inner place (member.Empty g) = empty_after room types place g

abbrev pub at_member : ℕ → Reader TypeName → Reader Expr → Place → Family → TokenKind → Option (Reader Expr)
at_member room types inner place f (kind.Name n) = option_map (member_after room types inner place) (member_of f n)
at_member room types inner place f _ = None

abbrev pub a_member : ℕ → Reader TypeName → Reader Expr → Place → Family → Reader Expr
a_member room types inner place f = take_by (λ t. at_member room types inner place f t.kind)

-- what goes on with a name
abbrev pub after_name : ℕ → Reader TypeName → Reader Expr → Place → List ℕ → TokenKind → Bool → Option (Reader Expr)
after_name room types inner place n (kind.Symbol symbol.Open) first = when (not first) (opened room (arguments inner (tree.Call place n)))
after_name room types inner place n (kind.Symbol symbol.OpenBracket) first = option_map (typed room types place) (typed_word_of n)
after_name room types inner place n (kind.Symbol symbol.Dot) first = option_map (a_member room types inner place) (family_of n)
after_name room types inner place n _ first = None

abbrev pub name_or_call : ℕ → Reader TypeName → Reader Expr → Place → List ℕ → Reader Expr
name_or_call room types inner place n = if_next (λ t. after_name room types inner place n t.kind t.first) (tree.Name place n)

abbrev pub at_number : Place → TokenKind → Option (Reader Expr)
at_number place (kind.Number n) = Some (give (tree.Negative place n))
at_number place _ = None

-- what stands after a prefix minus
abbrev pub negated : ℕ → Reader Expr → Place → Reader Expr
negated room operand place = or_else (λ t. at_number place t.kind) (opened room (operand >>= λ e. give (tree.Negate place e)))

-- what stands after a minus that opens a level
abbrev pub opposed : ℕ → Reader Expr → Place → Reader Expr
opposed room operand place = opened room (operand >>= λ e. give (tree.Negate place e))

-- what stands after the operator `!`
abbrev pub denied : ℕ → Reader Expr → Place → Reader Expr
denied room operand place = opened room (operand >>= λ e. give (tree.Not place e))

-- an expression and the closing parenthesis
abbrev pub closed : Reader Expr → Reader Expr
closed inner = inner >>= λ e. must is_close (give e)

-- what stands after a parenthesis that begins an expression
abbrev pub in_parens : Reader Expr → Place → Reader Expr
in_parens inner place = or_else (λ t. when (is_close t.kind) (give (tree.Unit place))) (inner >>= λ e. must is_close (give e))

abbrev pub at_unary : ℕ → Reader TypeName → Reader Expr → Reader Expr → TokenKind → Place → Option (Reader Expr)
at_unary room types inner operand (kind.Number n) place = Some (give (tree.Number place n))
at_unary room types inner operand (kind.Text n) place = Some (give (tree.Text place n))
at_unary room types inner operand (kind.Word word.True) place = Some (give (tree.Boolean place true))
at_unary room types inner operand (kind.Word word.False) place = Some (give (tree.Boolean place false))
at_unary room types inner operand (kind.Name n) place = Some (name_or_call room types inner place n)
at_unary room types inner operand (kind.Symbol symbol.Open) place = Some (opened room (in_parens inner place))
at_unary room types inner operand (kind.Symbol symbol.Minus) place = Some (negated room operand place)
at_unary room types inner operand (kind.Symbol symbol.Not) place = Some (opened room (operand >>= λ e. give (tree.Not place e)))
at_unary room types inner operand _ place = None

abbrev pub unary : ℕ → Reader TypeName → Reader Expr → Reader Expr → Reader Expr
unary room types inner operand = take_by (λ t. at_unary room types inner operand t.kind t.place)

abbrev pub second_sum : Reader Expr → Expr → Comparison → Reader Expr
second_sum sum a o = sum >>= λ b. give (tree.Compare (place_of a) o a b)

abbrev pub after_sum : Reader Expr → Expr → Reader Expr
after_sum sum a = if_next (λ t. option_map (second_sum sum a) (comparison_at t.kind)) a

-- a sum, or two with a comparison between them
abbrev pub compared : Reader Expr → Reader Expr
compared sum = sum >>= after_sum sum

abbrev pub if_false : Reader Expr → Place → Expr → Expr → Reader Expr
if_false inner place c a = must is_else (inner >>= λ b. give (tree.If place c a b))

abbrev pub if_true : Reader Expr → Place → Expr → Reader Expr
if_true inner place c = must is_then (inner >>= if_false inner place c)

abbrev pub choice : Reader Expr → Place → Reader Expr
choice inner place = inner >>= if_true inner place

abbrev pub all_levels : Reader Expr → Reader Expr
all_levels operand = chain level.Disjunction (chain level.Conjunction (compared (chain level.Sum (chain level.Product operand))))

abbrev pub expression : ℕ → Reader TypeName → Reader Expr → Reader Expr → Reader Expr
expression room types inner operand =
    or_else (λ t. when (is_if t.kind) (opened room (choice inner t.place))) (all_levels (unary room types inner operand))

-- what stands in a level that was opened, and what a prefix operator opens
unfoldable mutual
  pub within : ℕ → Reader Expr
  within zero = refuse TooDeep
  within (suc room) = expression room (type_in room) (within room) (prefixed room)

  pub prefixed : ℕ → Reader Expr
  prefixed zero = refuse TooDeep
  prefixed (suc room) = unary room (type_in room) (within room) (prefixed room)

-- the readers of each level, where so many levels may be open in it
abbrev pub unary_at : ℕ → Reader Expr
unary_at room = unary room (type_in room) (within room) (prefixed room)

-- what stands between the operators of a level
abbrev pub operand_at : Level → ℕ → Reader Expr
operand_at level.Product room = unary_at room
operand_at level.Sum room = chain level.Product (unary_at room)
operand_at level.Conjunction room = compared (chain level.Sum (chain level.Product (unary_at room)))
operand_at level.Disjunction room = chain level.Conjunction (compared (chain level.Sum (chain level.Product (unary_at room))))

-- definitions: a colon and a type
abbrev pub typed_by : {A : Type 0} → Reader TypeName → (TypeName → A) → Reader A
typed_by types f = must is_colon (types >>= λ y. give (f y))

abbrev pub param_by : Place → List ℕ → TypeName → Param
param_by place n y = record { place = place; name = n; of = y }

abbrev pub a_param : Reader TypeName → Reader Param
a_param types = named (λ place n. typed_by types (param_by place n))

abbrev pub other_params_of : Reader TypeName → Lister Token Param (List Param)
other_params_of types = record { turn = λ t. when (is_comma t.kind) (a_param types); none = []; more = λ p ps. p ∷ ps }

abbrev pub after_param : Reader TypeName → Param → Reader (List Param)
after_param types p = many (other_params_of types) >>= λ ps. must is_close (give (p ∷ ps))

abbrev pub params : Reader TypeName → Reader (List Param)
params types = a_param types >>= after_param types

abbrev pub may_have_params : ℕ → Reader TypeName → Reader (List Param)
may_have_params room types = if_next (λ t. when (is_open t.kind) (opened room (params types))) []

abbrev pub may_have_type : Reader TypeName → Reader (Option TypeName)
may_have_type types = if_next (λ t. when (is_colon t.kind) (types >>= λ y. give (Some y))) None

-- from the written type on
abbrev pub defined_as : Reader Body → (Body → Definition) → Reader Definition
defined_as body f = must defines (body >>= λ b. give (f b))

abbrev pub after_params : Reader TypeName → Reader Body → Place → List ℕ → List Param → Reader Definition
after_params types body place n ps = may_have_type types >>= λ w. defined_as body (tree.Define place n ps w)

-- a definition of a block, after the word `def`
abbrev pub inner_definition : Reader TypeName → Reader Body → Reader Definition
inner_definition types body = named (λ place n. after_params types body place n [])

abbrev pub definitions_of : Reader TypeName → Reader Body → Lister Token Definition Definitions
definitions_of types body =
    record { turn = λ t. when (is_def t.kind) (inner_definition types body); none = no_definitions; more = more_definitions }

abbrev pub after_definitions : Reader Expr → Definitions → Reader Body
after_definitions inner ds = inner >>= λ e. must is_close_brace (give (tree.Block ds e))

abbrev pub a_body : Reader Body → Reader Expr → Reader Body
a_body block inner = or_else (λ t. when (is_open_brace t.kind) block) (inner >>= λ e. give (tree.Plain e))

abbrev pub a_block : ℕ → Reader Body → Reader Body
a_block room inner =
    many (definitions_of (type_in (suc room)) (a_body inner (within (suc room)))) >>= after_definitions (within (suc room))

-- what stands in a brace that was opened
unfoldable pub block : ℕ → Reader Body
block zero = refuse TooDeep
block (suc room) = a_block room (block room)

-- items, where so many levels may be open
abbrev pub input_after : ℕ → Place → Reader Item
input_after room at = named (λ place n. typed_by (type_in (suc room)) (tree.Input at place n))

abbrev pub whole_definition : ℕ → Reader Definition
whole_definition room =
    named (λ place n. may_have_params room (type_in room)
    >>= after_params (type_in (suc room)) (a_body (block room) (within (suc room))) place n)

abbrev pub definition_after : ℕ → Place → Reader Item
definition_after room at = whole_definition room >>= λ d. give (tree.Defined at d)

abbrev pub plain_output : Place → Expr × Bool → Option Item
plain_output place (tree.Name p n, true) = Some (tree.Output place p n)
plain_output place _ = None

abbrev pub printed_as : Place → Expr → Reader Item
printed_as place e = named (λ p n. give (tree.OutputAs place e p n))

abbrev pub after_output : Place → Expr × Bool → Reader Item
after_output place x = or_given (λ t. when (is_as t.kind) (printed_as place x.0)) (plain_output place x)

abbrev pub output_after : ℕ → Place → Reader Item
output_after room place = alone (within (suc room)) >>= after_output place

abbrev pub at_item : ℕ → Place → TokenKind → Option (Reader Item)
at_item room place (kind.Word word.In) = Some (input_after room place)
at_item room place (kind.Word word.Def) = Some (definition_after room place)
at_item room place (kind.Word word.Out) = Some (output_after room place)
at_item room place _ = None

abbrev pub items_at : ℕ → Lister Token Item (List Item)
items_at room = record { turn = λ t. at_item room t.place t.kind; none = []; more = λ i items. i ∷ items }

abbrev pub ended : {A : Type 0} → A → Reader A
ended a [] = Read a []
ended a (t ∷ ts) = Stopped Unexpected (t ∷ ts)

abbrev pub specification : ℕ → Reader (List Item)
specification room = many (items_at room) >>= ended
