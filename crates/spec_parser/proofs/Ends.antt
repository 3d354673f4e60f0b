-- Tokens at which constructs end, at which they begin, and at which they do not go on.
use Rattle.std.proofs.Common.{◌≡◌, Bool, true, false, not, ◌&&◌, List, None, refl, ◌∙◌}
use Rattle.std.specs.Prelude.{codes}
use Rattle.tsl_value.specs.declared.place.Place.{Place}
use Rattle.spec_lexer.specs.declared.token.Token.{Token}
use Rattle.spec_lexer.specs.declared.token.TokenKind.{TokenKind}
use Rattle.spec_lexer.specs.declared.token.TokenKind.TheVariants as kind
use Rattle.spec_lexer.specs.declared.token.Word.{Word}
use Rattle.spec_lexer.specs.declared.token.Word.TheVariants as word
use Rattle.spec_lexer.specs.declared.token.Symbol.{Symbol}
use Rattle.spec_lexer.specs.declared.token.Symbol.TheVariants as symbol
use Rattle.token_reader.specs.inner.Reader.{Signs}
use Rattle.syntax_tree.specs.declared.tree.Level.{Level}
use Rattle.syntax_tree.specs.declared.tree.Level.TheVariants as level
use Rattle.spec_parser.specs.Words.{operator_at, comparison_at, opens_call, is_number, is_open, is_close, is_open_bracket, is_close_bracket, is_open_brace, is_close_brace, is_comma, is_colon, is_if, is_then, is_else, is_as, is_def, may_open, opens_level, is_minus, is_number_next}

abbrev pub ends_symbol : Symbol → Bool
ends_symbol symbol.Close = true
ends_symbol symbol.CloseBracket = true
ends_symbol symbol.CloseBrace = true
ends_symbol symbol.Define = true
ends_symbol _ = false

abbrev pub ends_word : Word → Bool
ends_word word.Then = true
ends_word word.Else = true
ends_word word.As = true
ends_word word.True = true
ends_word _ = false

-- no construct goes on with such a token; lists go on at a comma
abbrev pub ends : TokenKind → Bool
ends (kind.Symbol s) = ends_symbol s
ends (kind.Word w) = ends_word w
ends _ = false

-- no type goes on with such a token
abbrev pub ends_type : TokenKind → Bool
ends_type (kind.Symbol symbol.Comma) = true
ends_type k = ends k

pub ends_fewer : (k : TokenKind) → ends k ≡ true → ends_type k ≡ true
ends_fewer (kind.Symbol symbol.Comma) h = refl
ends_fewer (kind.Symbol symbol.Close) h = h
ends_fewer (kind.Symbol symbol.CloseBracket) h = h
ends_fewer (kind.Symbol symbol.CloseBrace) h = h
ends_fewer (kind.Symbol symbol.Define) h = h
ends_fewer (kind.Symbol _) h = cc
ends_fewer (kind.Word w) h = h
ends_fewer (kind.Name n) h = h
ends_fewer (kind.Number n) h = h
ends_fewer (kind.Text n) h = h

-- no number ends anything
pub ends_quiet : (k : TokenKind) → ends k ≡ true → is_number k ≡ false
ends_quiet (kind.Number n) h = cc
ends_quiet (kind.Symbol s) h = refl
ends_quiet (kind.Word w) h = refl
ends_quiet (kind.Name n) h = refl
ends_quiet (kind.Text n) h = refl

pub type_quiet : (k : TokenKind) → ends_type k ≡ true → is_number k ≡ false
type_quiet (kind.Number n) h = cc
type_quiet (kind.Symbol s) h = refl
type_quiet (kind.Word w) h = refl
type_quiet (kind.Name n) h = refl
type_quiet (kind.Text n) h = refl

abbrev pub signs_by : (test : TokenKind → Bool) → ((k : TokenKind) → test k ≡ true → is_number k ≡ false) → Signs Token
signs_by test quiet = record { ends = λ t. test t.kind; opens = λ t. may_open t.kind; calms = λ t. is_number t.kind; bars = opens_level; quiet = λ t. quiet t.kind }

abbrev pub signs : Signs Token
signs = signs_by ends ends_quiet

abbrev pub type_signs : Signs Token
type_signs = signs_by ends_type type_quiet

-- a token to complete with
abbrev pub start : Place
start = record { line = 1; column = 1 }

abbrev pub sample : TokenKind → Token
sample k = record { kind = k; place = start; first = false }

abbrev pub a_name : Token
a_name = sample (kind.Name (codes "Int"))

abbrev pub a_truth : Token
a_truth = sample (kind.Word word.True)

-- at an ending token nothing goes on
abbrev pub IsNoEnd : (TokenKind → Bool) → Type 0
IsNoEnd test = (k : TokenKind) → ends k ≡ true → test k ≡ false

pub comma_goes_on : IsNoEnd is_comma
comma_goes_on (kind.Symbol symbol.Comma) h = cc
comma_goes_on (kind.Symbol _) h = refl
comma_goes_on (kind.Word w) h = refl
comma_goes_on (kind.Name n) h = refl
comma_goes_on (kind.Number n) h = refl
comma_goes_on (kind.Text n) h = refl

pub open_goes_on : IsNoEnd is_open
open_goes_on (kind.Symbol symbol.Open) h = cc
open_goes_on (kind.Symbol _) h = refl
open_goes_on (kind.Word w) h = refl
open_goes_on (kind.Name n) h = refl
open_goes_on (kind.Number n) h = refl
open_goes_on (kind.Text n) h = refl

pub colon_goes_on : IsNoEnd is_colon
colon_goes_on (kind.Symbol symbol.Colon) h = cc
colon_goes_on (kind.Symbol _) h = refl
colon_goes_on (kind.Word w) h = refl
colon_goes_on (kind.Name n) h = refl
colon_goes_on (kind.Number n) h = refl
colon_goes_on (kind.Text n) h = refl

pub open_brace_goes_on : IsNoEnd is_open_brace
open_brace_goes_on (kind.Symbol symbol.OpenBrace) h = cc
open_brace_goes_on (kind.Symbol _) h = refl
open_brace_goes_on (kind.Word w) h = refl
open_brace_goes_on (kind.Name n) h = refl
open_brace_goes_on (kind.Number n) h = refl
open_brace_goes_on (kind.Text n) h = refl

pub if_goes_on : IsNoEnd is_if
if_goes_on (kind.Word word.If) h = cc
if_goes_on (kind.Word _) h = refl
if_goes_on (kind.Symbol s) h = refl
if_goes_on (kind.Name n) h = refl
if_goes_on (kind.Number n) h = refl
if_goes_on (kind.Text n) h = refl

pub def_goes_on : IsNoEnd is_def
def_goes_on (kind.Word word.Def) h = cc
def_goes_on (kind.Word _) h = refl
def_goes_on (kind.Symbol s) h = refl
def_goes_on (kind.Name n) h = refl
def_goes_on (kind.Number n) h = refl
def_goes_on (kind.Text n) h = refl

pub operator_goes_on : (l : Level) (k : TokenKind) (first : Bool) → ends k ≡ true → operator_at l k first ≡ None
operator_goes_on level.Disjunction (kind.Symbol symbol.Or) first h = cc
operator_goes_on level.Disjunction (kind.Symbol _) first h = refl
operator_goes_on level.Conjunction (kind.Symbol symbol.And) first h = cc
operator_goes_on level.Conjunction (kind.Symbol _) first h = refl
operator_goes_on level.Sum (kind.Symbol symbol.Plus) first h = cc
operator_goes_on level.Sum (kind.Symbol symbol.Minus) first h = cc
operator_goes_on level.Sum (kind.Symbol _) first h = refl
operator_goes_on level.Product (kind.Symbol symbol.Times) first h = cc
operator_goes_on level.Product (kind.Symbol symbol.Divide) first h = cc
operator_goes_on level.Product (kind.Symbol symbol.Remainder) first h = cc
operator_goes_on level.Product (kind.Symbol _) first h = refl
operator_goes_on l (kind.Word w) first h = refl
operator_goes_on l (kind.Name n) first h = refl
operator_goes_on l (kind.Number n) first h = refl
operator_goes_on l (kind.Text n) first h = refl

pub comparison_goes_on : (k : TokenKind) → ends k ≡ true → comparison_at k ≡ None
comparison_goes_on (kind.Symbol symbol.Same) h = cc
comparison_goes_on (kind.Symbol symbol.Differs) h = cc
comparison_goes_on (kind.Symbol symbol.AtMost) h = cc
comparison_goes_on (kind.Symbol symbol.AtLeast) h = cc
comparison_goes_on (kind.Symbol symbol.Below) h = cc
comparison_goes_on (kind.Symbol symbol.Above) h = cc
comparison_goes_on (kind.Symbol _) h = refl
comparison_goes_on (kind.Word w) h = refl
comparison_goes_on (kind.Name n) h = refl
comparison_goes_on (kind.Number n) h = refl
comparison_goes_on (kind.Text n) h = refl

-- which kind a test is of
pub open_is : (k : TokenKind) → is_open k ≡ true → k ≡ kind.Symbol symbol.Open
open_is (kind.Symbol symbol.Open) h = refl
open_is _ h = cc

pub close_is : (k : TokenKind) → is_close k ≡ true → k ≡ kind.Symbol symbol.Close
close_is (kind.Symbol symbol.Close) h = refl
close_is _ h = cc

pub open_bracket_is : (k : TokenKind) → is_open_bracket k ≡ true → k ≡ kind.Symbol symbol.OpenBracket
open_bracket_is (kind.Symbol symbol.OpenBracket) h = refl
open_bracket_is _ h = cc

pub close_bracket_is : (k : TokenKind) → is_close_bracket k ≡ true → k ≡ kind.Symbol symbol.CloseBracket
close_bracket_is (kind.Symbol symbol.CloseBracket) h = refl
close_bracket_is _ h = cc

pub open_brace_is : (k : TokenKind) → is_open_brace k ≡ true → k ≡ kind.Symbol symbol.OpenBrace
open_brace_is (kind.Symbol symbol.OpenBrace) h = refl
open_brace_is _ h = cc

pub comma_is : (k : TokenKind) → is_comma k ≡ true → k ≡ kind.Symbol symbol.Comma
comma_is (kind.Symbol symbol.Comma) h = refl
comma_is _ h = cc

pub colon_is : (k : TokenKind) → is_colon k ≡ true → k ≡ kind.Symbol symbol.Colon
colon_is (kind.Symbol symbol.Colon) h = refl
colon_is _ h = cc

pub if_is : (k : TokenKind) → is_if k ≡ true → k ≡ kind.Word word.If
if_is (kind.Word word.If) h = refl
if_is _ h = cc

pub def_is : (k : TokenKind) → is_def k ≡ true → k ≡ kind.Word word.Def
def_is (kind.Word word.Def) h = refl
def_is _ h = cc

pub call_is : (k : TokenKind) (first : Bool) → opens_call k first ≡ true → (k ≡ kind.Symbol symbol.Open) × (first ≡ false)
call_is (kind.Symbol symbol.Open) false h = (refl, refl)
call_is (kind.Symbol symbol.Open) true h = cc
call_is _ first h = cc

pub then_is : (k : TokenKind) → is_then k ≡ true → k ≡ kind.Word word.Then
then_is (kind.Word word.Then) h = refl
then_is _ h = cc

pub else_is : (k : TokenKind) → is_else k ≡ true → k ≡ kind.Word word.Else
else_is (kind.Word word.Else) h = refl
else_is _ h = cc

pub close_brace_is : (k : TokenKind) → is_close_brace k ≡ true → k ≡ kind.Symbol symbol.CloseBrace
close_brace_is (kind.Symbol symbol.CloseBrace) h = refl
close_brace_is _ h = cc

pub as_is : (k : TokenKind) → is_as k ≡ true → k ≡ kind.Word word.As
as_is (kind.Word word.As) h = refl
as_is _ h = cc

pub minus_is : (k : TokenKind) → is_minus k ≡ true → k ≡ kind.Symbol symbol.Minus
minus_is (kind.Symbol symbol.Minus) h = refl
minus_is _ h = cc

-- what may open a level and is no minus opens one
pub opens_by : (k j : TokenKind) → k ≡ j → may_open j ≡ true → is_minus j ≡ false → (t : Token) → t.kind ≡ k → (more : List Token) → opens_level t more ≡ true
opens_by k j e o m t is more = (λ i. may_open (is i) && not (is_minus (is i) && is_number_next more)) ∙ (λ i. may_open (e i) && not (is_minus (e i) && is_number_next more)) ∙ (λ i. o i && not (m i && is_number_next more))
