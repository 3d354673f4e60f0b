-- What is spelled so is read: types and expressions.
use Rattle.std.proofs.Common.{◌≡◌, ℕ, suc, Bool, true, false, List, [], ◌∷◌, Option, Some, None, is_some, refl, sym, ap, ◌∙◌}
use Rattle.std.specs.Prelude.{codes}
use Rattle.std.specs.Option.{option_map}
use Rattle.tsl_value.specs.declared.place.Place.{Place}
use Rattle.spec_lexer.specs.declared.token.Token.{Token}
use Rattle.spec_lexer.specs.declared.token.TokenKind.{TokenKind}
use Rattle.spec_lexer.specs.declared.token.TokenKind.TheVariants as kind
use Rattle.spec_lexer.specs.declared.token.Word.TheVariants as word
use Rattle.spec_lexer.specs.declared.token.Symbol.TheVariants as symbol
use Rattle.token_reader.specs.inner.Reader.{Unexpected, Outcome, Read, Stopped, give, and_then, ◌>>=◌, when, taken, if_next, chosen, opened, many}
use Rattle.token_reader.proofs.ManyLaws.{many_none}
use Rattle.token_reader.proofs.Meets.{expect_is, passes_by, taken_by, tried_by, not_tried, many_stop, many_go}
use Rattle.syntax_tree.specs.declared.tree.Level.{Level}
use Rattle.syntax_tree.specs.declared.tree.Level.TheVariants as level
use Rattle.syntax_tree.specs.declared.tree.Operator.{Operator}
use Rattle.spec_parser.specs.declared.words.TypedWord.{TypedWord}
use Rattle.vocabulary.specs.declared.dotted.Family.{Family}
use Rattle.spec_parser.specs.declared.words.Member.{Member}
use Rattle.spec_parser.specs.declared.words.Member.TheVariants as member
use Rattle.vocabulary.specs.declared.dotted.Family.TheVariants as family
use Rattle.syntax_tree.specs.Tree as tree
use Rattle.syntax_tree.specs.Tree.{TypeName, Aggregate, kind_in, Expr, Exprs, no_exprs, more_exprs, Links, no_links, more_links, place_of}
use Rattle.vocabulary.specs.Kinds.{kind_name}
use Rattle.vocabulary.specs.Table.{family_of, family_name, family_in, member_name}
use Rattle.spec_parser.specs.Words.{operator_at, comparison_at, opens_call, is_number, is_close, is_open_bracket, is_close_bracket, is_open_brace, is_comma, is_if, is_then, is_else, typed_word_of, goes_on}
use Rattle.spec_parser.specs.Grammar.{Is, IsNamed, IsPast, IsPastLevel, IsPastComparison, IsPastName, IsType, unit, int, bool, string, aggregate, option, events, IsAggregate, set, map, queue, chained, IsExpr, choice, chain, IsLevel, operands, AreLinks, no_link, one_link, IsOperand, conjunction, no_comparison, comparison, product, unary, IsUnary, negative, negate, negation, primary, IsPrimary, number, text, truth, falsity, parens, nothing, name, call, call_dotted, nil, none, empty_aggregate, AreOthers, no_other, one_other}
use Rattle.spec_parser.specs.inner.Reading as read
use Rattle.spec_parser.specs.inner.Reading.{Reader, must, in_brackets, two_in_brackets, an_aggregate, type_after, at_type, a_type, type_in, link, links_of, after_operand, others_of, after_argument, arguments, typed, member_of, must_call, member_after, at_member, a_member, after_name, name_or_call, at_number, negated, in_parens, at_unary, second_sum, compared, if_false, if_true, all_levels, expression, within, prefixed, unary_at, operand_at}
use Rattle.spec_parser.proofs.Ends.{signs, if_is, close_is, open_brace_is}
use Rattle.spec_parser.proofs.Names.{type_again, family_again, member_again, empty_again}
use Rattle.spec_parser.proofs.Levels.{links_local, others_local}

-- a token of a kind that has to come
pub must_is : {A : Type 0} (test : TokenKind → Bool) (p : Reader A) (k : TokenKind) (v : Token) (ts : List Token) → v.kind ≡ k → test k ≡ true → must test p (v ∷ ts) ≡ p ts
must_is test p k v ts is fits = expect_is (λ t. test t.kind) p v ts (ap test is ∙ fits)

module _ {A : Type 0} (i : Reader TypeName) where
  in_brackets_is : (f : TypeName → A) (ts rest : List Token) (v : Token) (y : TypeName) → i ts ≡ Read y (v ∷ rest) → Is v symbol.CloseBracket → in_brackets i f ts ≡ Read (f y) rest
  in_brackets_is f ts rest v y h closes = passes_by i (λ y. must is_close_bracket (give (f y))) ts (v ∷ rest) y h ∙ must_is is_close_bracket (give (f y)) (kind.Symbol symbol.CloseBracket) v rest closes refl

  two_is : (f : TypeName → TypeName → A) (ts us rest : List Token) (v w : Token) (x y : TypeName) → i ts ≡ Read x (v ∷ us) → Is v symbol.Comma → i us ≡ Read y (w ∷ rest) → Is w symbol.CloseBracket → two_in_brackets i f ts ≡ Read (f x y) rest
  two_is f ts us rest v w x y h comma k closes = passes_by i (λ x. must is_comma (in_brackets i (f x))) ts (v ∷ us) x h ∙ must_is is_comma (in_brackets i (f x)) (kind.Symbol symbol.Comma) v us comma refl ∙ in_brackets_is (f x) us rest w y k closes

  bracketed_is : (room : ℕ) (f : TypeName → A) (u : Token) (ts rest : List Token) (v : Token) (y : TypeName) → Is u symbol.OpenBracket → i ts ≡ Read y (v ∷ rest) → Is v symbol.CloseBracket → must is_open_bracket (opened (suc room) (in_brackets i f)) (u ∷ ts) ≡ Read (f y) rest
  bracketed_is room f u ts rest v y opens h closes = must_is is_open_bracket (in_brackets i f) (kind.Symbol symbol.OpenBracket) u ts opens refl ∙ in_brackets_is f ts rest v y h closes

  bracketed_two_is : (room : ℕ) (f : TypeName → TypeName → A) (u : Token) (ts us rest : List Token) (v w : Token) (x y : TypeName) → Is u symbol.OpenBracket → i ts ≡ Read x (v ∷ us) → Is v symbol.Comma → i us ≡ Read y (w ∷ rest) → Is w symbol.CloseBracket → must is_open_bracket (opened (suc room) (two_in_brackets i f)) (u ∷ ts) ≡ Read (f x y) rest
  bracketed_two_is room f u ts us rest v w x y opens h comma k closes = must_is is_open_bracket (two_in_brackets i f) (kind.Symbol symbol.OpenBracket) u ts opens refl ∙ two_is f ts us rest v w x y h comma k closes

-- a type by its first token
type_at : (room : ℕ) (i : Reader TypeName) (t : Token) (n : List ℕ) (ts : List Token) → IsNamed t n → a_type room i (t ∷ ts) ≡ taken (at_type room i t.place (kind.Name n)) t ts
type_at room i t n ts is = λ k. taken (at_type room i t.place (is k)) t ts

mutual
  unfolding type_in

  pub type_complete : {room : ℕ} {ts rest : List Token} {y : TypeName} → IsType room ts y rest → type_in (suc room) ts ≡ Read y rest
  type_complete {room} (unit {t = t} {ts = ts} is) = type_at room (type_in room) t (codes "Unit") ts is
  type_complete {room} (int {t = t} {ts = ts} is) = type_at room (type_in room) t (codes "Int") ts is
  type_complete {room} (bool {t = t} {ts = ts} is) = type_at room (type_in room) t (codes "Bool") ts is
  type_complete {room} (string {t = t} {ts = ts} is) = type_at room (type_in room) t (codes "String") ts is
  type_complete {room} (aggregate {t = t} {ts = ts} {rest = rest} {a = a} is d) =
      type_at room (type_in room) t (kind_name (kind_in a)) ts is
      ∙ ap (λ o. taken (option_map (type_after room (type_in room) t.place) o) t ts) (type_again (kind_in a))
      ∙ passes_by (an_aggregate room (type_in room) (kind_in a)) (λ a. give (tree.AggregateType t.place a)) ts rest a (aggregate_complete d)
  type_complete (option {room = room} {t = t} {u = u} {v = v} {ts = ts} {rest = rest} {y = y} is opens d closes) = type_at (suc room) (type_in (suc room)) t (codes "Option") (u ∷ ts) is ∙ bracketed_is (type_in (suc room)) room (tree.OptionType t.place) u ts rest v y opens (type_complete d) closes
  type_complete (events {room = room} {t = t} {u = u} {v = v} {ts = ts} {rest = rest} {y = y} is opens d closes) = type_at (suc room) (type_in (suc room)) t (codes "Events") (u ∷ ts) is ∙ bracketed_is (type_in (suc room)) room (tree.EventsType t.place) u ts rest v y opens (type_complete d) closes

  pub aggregate_complete : {room : ℕ} {ts rest : List Token} {a : Aggregate} → IsAggregate room ts a rest → an_aggregate room (type_in room) (kind_in a) ts ≡ Read a rest
  aggregate_complete (set {room = room} {u = u} {v = v} {ts = ts} {rest = rest} {y = y} opens d closes) = bracketed_is (type_in (suc room)) room tree.SetOf u ts rest v y opens (type_complete d) closes
  aggregate_complete (queue {room = room} {u = u} {v = v} {ts = ts} {rest = rest} {y = y} opens d closes) = bracketed_is (type_in (suc room)) room tree.QueueOf u ts rest v y opens (type_complete d) closes
  aggregate_complete (map {room = room} {u = u} {v = v} {w = w} {ts = ts} {us = us} {rest = rest} {x = x} {y = y} opens d comma e closes) = bracketed_two_is (type_in (suc room)) room tree.MapOf u ts us rest v w x y opens (type_complete d) comma (type_complete e) closes

-- arguments
others_stop : (room : ℕ) (ts : List Token) → IsPast is_comma ts → many (others_of (within room)) ts ≡ Read no_exprs ts
others_stop room [] h = many_none signs (others_of (within room)) (others_local room)
others_stop room (t ∷ ts) h = many_stop signs (others_of (within room)) (others_local room) t ts (λ k. when (h k) (within room))

arguments_is : {A : Type 0} (room : ℕ) (f : Exprs → A) (ts us rest : List Token) (v : Token) (e : Expr) (es : Exprs) → within room ts ≡ Read e us → many (others_of (within room)) us ≡ Read es (v ∷ rest) → Is v symbol.Close → arguments (within room) f ts ≡ Read (f (more_exprs e es)) rest
arguments_is room f ts us rest v e es h k closes =
    passes_by (within room) (after_argument (within room) f) ts us e h
    ∙ passes_by (many (others_of (within room))) (λ es. must is_close (give (f (more_exprs e es)))) us (v ∷ rest) es k
    ∙ must_is is_close (give (f (more_exprs e es))) (kind.Symbol symbol.Close) v rest closes refl

-- names
unary_name : (room : ℕ) (t : Token) (n : List ℕ) (ts : List Token) → IsNamed t n → unary_at room (t ∷ ts) ≡ name_or_call room (type_in room) (within room) t.place n ts
unary_name room t n ts is = λ k. taken (at_unary room (type_in room) (within room) (prefixed room) (is k) t.place) t ts

some_none : {A : Type 0} (o : Option A) → is_some o ≡ false → o ≡ None
some_none None h = refl
some_none (Some a) h = cc

nothing_on : (room : ℕ) (place : Place) (n : List ℕ) (k : TokenKind) (first : Bool) → goes_on n k first ≡ false → after_name room (type_in room) (within room) place n k first ≡ None
nothing_on room place n (kind.Symbol symbol.Open) first h = λ i. when (h i) (opened room (arguments (within room) (tree.Call place n)))
nothing_on room place n (kind.Symbol symbol.OpenBracket) first h = ap (option_map (typed room (type_in room) place)) (some_none (typed_word_of n) h)
nothing_on room place n (kind.Symbol symbol.Dot) first h = ap (option_map (a_member room (type_in room) (within room) place)) (some_none (family_of n) h)
nothing_on room place n (kind.Symbol _) first h = refl
nothing_on room place n (kind.Word w) first h = refl
nothing_on room place n (kind.Name m) first h = refl
nothing_on room place n (kind.Number m) first h = refl
nothing_on room place n (kind.Text m) first h = refl

name_alone : (room : ℕ) (place : Place) (n : List ℕ) (ts : List Token) → IsPastName n ts → name_or_call room (type_in room) (within room) place n ts ≡ Read (tree.Name place n) ts
name_alone room place n [] h = refl
name_alone room place n (u ∷ ts) h = not_tried (λ t. after_name room (type_in room) (within room) place n t.kind t.first) (tree.Name place n) u ts (nothing_on room place n u.kind u.first h)

call_turn : (room : ℕ) (place : Place) (n : List ℕ) (k : TokenKind) (first : Bool) → opens_call k first ≡ true → after_name room (type_in room) (within room) place n k first ≡ Some (opened room (arguments (within room) (tree.Call place n)))
call_turn room place n (kind.Symbol symbol.Open) first h = λ i. when (h i) (opened room (arguments (within room) (tree.Call place n)))
call_turn room place n (kind.Symbol _) first h = cc
call_turn room place n (kind.Word w) first h = cc
call_turn room place n (kind.Name m) first h = cc
call_turn room place n (kind.Number m) first h = cc
call_turn room place n (kind.Text m) first h = cc

-- a dot after the name of a family, and the name after it
dot_is : (room : ℕ) (t d m : Token) (f : Family) (n : List ℕ) (w : Member) (us : List Token) → IsNamed t (family_name f) → Is d symbol.Dot → IsNamed m n → member_of f n ≡ Some w → unary_at room (t ∷ d ∷ m ∷ us) ≡ member_after room (type_in room) (within room) t.place w us
dot_is room t d m f n w us is dot named h =
    unary_name room t (family_name f) (d ∷ m ∷ us) is
    ∙ tried_by (λ u. after_name room (type_in room) (within room) t.place (family_name f) u.kind u.first) (tree.Name t.place (family_name f)) (a_member room (type_in room) (within room) t.place f) d (m ∷ us) (ap (λ k. after_name room (type_in room) (within room) t.place (family_name f) k d.first) dot ∙ ap (option_map (a_member room (type_in room) (within room) t.place)) (family_again f))
    ∙ taken_by (λ u. at_member room (type_in room) (within room) t.place f u.kind) (member_after room (type_in room) (within room) t.place w) m us (ap (at_member room (type_in room) (within room) t.place f) named ∙ ap (option_map (member_after room (type_in room) (within room) t.place)) h)

typed_turn : (room : ℕ) (t u : Token) (n : List ℕ) (w : TypedWord) (ts : List Token) → IsNamed t n → Is u symbol.OpenBracket → typed_word_of n ≡ Some w → unary_at room (t ∷ u ∷ ts) ≡ typed room (type_in room) t.place w ts
typed_turn room t u n w ts is opens h =
    unary_name room t n (u ∷ ts) is
    ∙ tried_by (λ u. after_name room (type_in room) (within room) t.place n u.kind u.first) (tree.Name t.place n) (typed room (type_in room) t.place w) u ts (ap (λ k. after_name room (type_in room) (within room) t.place n k u.first) opens ∙ ap (option_map (typed room (type_in room) t.place)) h)

unary_open : (room : ℕ) (t : Token) (ts : List Token) → Is t symbol.Open → unary_at room (t ∷ ts) ≡ opened room (in_parens (within room) t.place) ts
unary_open room t ts is = λ k. taken (at_unary room (type_in room) (within room) (prefixed room) (is k) t.place) t ts

-- a level stops where its first operand does
abbrev levels_of : ℕ → Outcome Token Expr → Outcome Token Expr
levels_of room o =
    and_then (and_then (and_then (and_then (and_then o (after_operand level.Product (operand_at level.Product room))) (after_operand level.Sum (operand_at level.Sum room))) (λ a. if_next (λ t. option_map (second_sum (read.chain level.Sum (operand_at level.Sum room)) a) (comparison_at t.kind)) a)) (after_operand level.Conjunction (operand_at level.Conjunction room))) (after_operand level.Disjunction (operand_at level.Disjunction room))

levels_stop : (room : ℕ) (t : Token) (ts : List Token) → unary_at room (t ∷ ts) ≡ Stopped Unexpected (t ∷ ts) → all_levels (unary_at room) (t ∷ ts) ≡ Stopped Unexpected (t ∷ ts)
levels_stop room t ts h = ap (levels_of room) h

closes_nothing : (room : ℕ) (u : Token) (ts : List Token) → is_close u.kind ≡ true → within (suc room) (u ∷ ts) ≡ Stopped Unexpected (u ∷ ts)
unfolding within prefixed
closes_nothing room u ts k =
    (λ i. chosen (when (is_if (close_is u.kind k i)) (opened room (read.choice (within room) u.place))) (all_levels (unary_at room)) u ts)
    ∙ levels_stop room u ts (λ i. taken (at_unary room (type_in room) (within room) (prefixed room) (close_is u.kind k i) u.place) u ts)

pub brace_nothing : (room : ℕ) (u : Token) (ts : List Token) → is_open_brace u.kind ≡ true → within (suc room) (u ∷ ts) ≡ Stopped Unexpected (u ∷ ts)
unfolding within prefixed
brace_nothing room u ts k =
    (λ i. chosen (when (is_if (open_brace_is u.kind k i)) (opened room (read.choice (within room) u.place))) (all_levels (unary_at room)) u ts)
    ∙ levels_stop room u ts (λ i. taken (at_unary room (type_in room) (within room) (prefixed room) (open_brace_is u.kind k i) u.place) u ts)

-- an expression in parentheses does not begin with the closing one
parens_is : (room : ℕ) (place : Place) (ts rest : List Token) (v : Token) (e : Expr) → within (suc room) ts ≡ Read e (v ∷ rest) → Is v symbol.Close → in_parens (within (suc room)) place ts ≡ Read e rest
parens_is room place [] rest v e h closes = passes_by (within (suc room)) (λ e. must is_close (give e)) [] (v ∷ rest) e h ∙ must_is is_close (give e) (kind.Symbol symbol.Close) v rest closes refl
parens_is room place (u ∷ ts) rest v e h closes = by (is_close u.kind) refl
  where
    after : and_then (within (suc room) (u ∷ ts)) (λ e. must is_close (give e)) ≡ Read e rest
    after = passes_by (within (suc room)) (λ e. must is_close (give e)) (u ∷ ts) (v ∷ rest) e h ∙ must_is is_close (give e) (kind.Symbol symbol.Close) v rest closes refl

    by : (b : Bool) → is_close u.kind ≡ b → chosen (when b (give (tree.Unit place))) (within (suc room) >>= λ e. must is_close (give e)) u ts ≡ Read e rest
    by false k = after
    by true k = absurd (no_close k)
      where
        clash : Stopped Unexpected (u ∷ ts) ≡ Read e (v ∷ rest) → ⊥
        clash h = cc

        no_close : is_close u.kind ≡ true → ⊥
        no_close k = clash (sym (closes_nothing room u ts k) ∙ h)

minus_other : (room : ℕ) (place : Place) (ts rest : List Token) (e : Expr) → IsPast is_number ts → prefixed (suc room) ts ≡ Read e rest → negated (suc room) (prefixed (suc room)) place ts ≡ Read (tree.Negate place e) rest
minus_other room place [] rest e h is = ap (λ q. and_then q (λ e. give (tree.Negate place e))) is
minus_other room place (u ∷ ts) rest e h is = by u.kind h ∙ ap (λ q. and_then q (λ e. give (tree.Negate place e))) is
  where
    by : (k : TokenKind) → is_number k ≡ false → chosen (at_number place k) (prefixed (suc room) >>= λ e. give (tree.Negate place e)) u ts ≡ and_then (prefixed (suc room) (u ∷ ts)) (λ e. give (tree.Negate place e))
    by (kind.Number n) h = cc
    by (kind.Name n) h = refl
    by (kind.Text n) h = refl
    by (kind.Word w) h = refl
    by (kind.Symbol s) h = refl

-- levels
links_stop : (l : Level) (room : ℕ) (ts : List Token) → IsPastLevel l ts → many (links_of l (operand_at l room)) ts ≡ Read no_links ts
links_stop l room [] h = many_none signs (links_of l (operand_at l room)) (links_local l room)
links_stop l room (t ∷ ts) h = many_stop signs (links_of l (operand_at l room)) (links_local l room) t ts (ap (option_map (link (operand_at l room))) h)

links_go : (l : Level) (room : ℕ) (t : Token) (o : Operator) (ts us rest : List Token) (e : Expr) (ls : Links) → operator_at l t.kind t.first ≡ Some o → operand_at l room ts ≡ Read e us → many (links_of l (operand_at l room)) us ≡ Read ls rest → many (links_of l (operand_at l room)) (t ∷ ts) ≡ Read (more_links o e ls) rest
links_go l room t o ts us rest e ls is a b = many_go signs (links_of l (operand_at l room)) (links_local l room) t (link (operand_at l room) o) ts us rest (o, e) ls (ap (option_map (link (operand_at l room))) is) (ap (λ (q : Outcome Token Expr). and_then {T = Token} {A = Expr} {B = Operator × Expr} q (λ e. give (o, e))) a) b

level_is : (l : Level) (room : ℕ) (ts us rest : List Token) (e : Expr) (ls : Links) → operand_at l room ts ≡ Read e us → many (links_of l (operand_at l room)) us ≡ Read ls rest → read.chain l (operand_at l room) ts ≡ Read (chained l e ls) rest
level_is l room ts us rest e ls a b = passes_by (operand_at l room) (after_operand l (operand_at l room)) ts us e a ∙ passes_by (many (links_of l (operand_at l room))) (λ ls. give (chained l e ls)) us rest ls b

abbrev sums : ℕ → Reader Expr
sums room = read.chain level.Sum (operand_at level.Sum room)

abbrev compare_by : ℕ → Expr → Token → Option (Reader Expr)
compare_by room a t = option_map (second_sum (sums room) a) (comparison_at t.kind)

past_comparison : (room : ℕ) (a : Expr) (ts : List Token) → IsPastComparison ts → if_next (compare_by room a) a ts ≡ Read a ts
past_comparison room a [] h = refl
past_comparison room a (t ∷ ts) h = not_tried (compare_by room a) a t ts (ap (option_map (second_sum (sums room) a)) h)

if_is_chosen : (room : ℕ) (t : Token) (ts : List Token) → t.kind ≡ kind.Word word.If → expression room (type_in room) (within room) (prefixed room) (t ∷ ts) ≡ opened room (read.choice (within room) t.place) ts
if_is_chosen room t ts is = λ k. chosen (when (is_if (is k)) (opened room (read.choice (within room) t.place))) (all_levels (unary_at room)) t ts

choice_is : (i : Reader Expr) (place : Place) (u v : Token) (ts us vs rest : List Token) (c a b : Expr) → i ts ≡ Read c (u ∷ us) → u.kind ≡ kind.Word word.Then → i us ≡ Read a (v ∷ vs) → v.kind ≡ kind.Word word.Else → i vs ≡ Read b rest → read.choice i place ts ≡ Read (tree.If place c a b) rest
choice_is i place u v ts us vs rest c a b hc then ha otherwise hb =
    passes_by i (if_true i place) ts (u ∷ us) c hc
    ∙ must_is is_then (i >>= if_false i place c) (kind.Word word.Then) u us then refl
    ∙ passes_by i (if_false i place c) us (v ∷ vs) a ha
    ∙ must_is is_else (i >>= λ b. give (tree.If place c a b)) (kind.Word word.Else) v vs otherwise refl
    ∙ passes_by i (λ b. give (tree.If place c a b)) vs rest b hb

-- chains do not begin with `if`
chain_is : (room : ℕ) (ts rest : List Token) (e : Expr) → all_levels (unary_at room) ts ≡ Read e rest → expression room (type_in room) (within room) (prefixed room) ts ≡ Read e rest
chain_is room [] rest e h = h
chain_is room (t ∷ ts) rest e h = by (is_if t.kind) refl
  where
    clash : Stopped Unexpected (t ∷ ts) ≡ Read e rest → ⊥
    clash h = cc

    by : (b : Bool) → is_if t.kind ≡ b → chosen (when b (opened room (read.choice (within room) t.place))) (all_levels (unary_at room)) t ts ≡ Read e rest
    by false k = h
    by true k = absurd (clash (sym (levels_stop room t ts (λ i. taken (at_unary room (type_in room) (within room) (prefixed room) (if_is t.kind k i) t.place) t ts)) ∙ h))

mutual
  unfolding within prefixed

  pub expr_complete : {room : ℕ} {ts rest : List Token} {e : Expr} → IsExpr room ts e rest → within (suc room) ts ≡ Read e rest
  expr_complete (choice {room = room} {t = t} {u = u} {v = v} {ts = ts} {us = us} {vs = vs} {rest = rest} {c = c} {a = a} {b = b} is dc then da otherwise db) = if_is_chosen (suc room) t ts is ∙ choice_is (within (suc room)) t.place u v ts us vs rest c a b (expr_complete dc) then (expr_complete da) otherwise (expr_complete db)
  expr_complete {room} (chain {ts = ts} {rest = rest} {e = e} d) = chain_is room ts rest e (level_complete d)

  level_complete : {l : Level} {room : ℕ} {ts rest : List Token} {e : Expr} → IsLevel l room ts e rest → read.chain l (operand_at l room) ts ≡ Read e rest
  level_complete {l} {room} (operands {ts = ts} {us = us} {rest = rest} {e = e} {ls = ls} d links) = level_is l room ts us rest e ls (operand_complete d) (links_complete links)

  links_complete : {l : Level} {room : ℕ} {ts rest : List Token} {ls : Links} → AreLinks l room ts ls rest → many (links_of l (operand_at l room)) ts ≡ Read ls rest
  links_complete {l} {room} (no_link {ts = ts} h) = links_stop l room ts h
  links_complete {l} {room} (one_link {t = t} {ts = ts} {us = us} {rest = rest} {o = o} {e = e} {ls = ls} is d links) = links_go l room t o ts us rest e ls is (operand_complete d) (links_complete links)

  operand_complete : {l : Level} {room : ℕ} {ts rest : List Token} {e : Expr} → IsOperand l room ts e rest → operand_at l room ts ≡ Read e rest
  operand_complete (conjunction d) = level_complete d
  operand_complete (no_comparison {room = room} {ts = ts} {rest = rest} {e = e} d h) = passes_by (sums room) (λ a. if_next (compare_by room a) a) ts rest e (level_complete d) ∙ past_comparison room e rest h
  operand_complete (comparison {room = room} {t = t} {ts = ts} {us = us} {rest = rest} {o = o} {a = a} {b = b} d is e) =
      passes_by (sums room) (λ a. if_next (compare_by room a) a) ts (t ∷ us) a (level_complete d)
      ∙ tried_by (compare_by room a) a (second_sum (sums room) a o) t us (ap (option_map (second_sum (sums room) a)) is)
      ∙ passes_by (sums room) (λ b. give (tree.Compare (place_of a) o a b)) us rest b (level_complete e)
  operand_complete (product d) = level_complete d
  operand_complete (unary d) = unary_complete d

  unary_complete : {room : ℕ} {ts rest : List Token} {e : Expr} → IsUnary room ts e rest → unary_at room ts ≡ Read e rest
  unary_complete {room} (negative {t = t} {u = u} {ts = ts} is digits) =
      (λ k. taken (at_unary room (type_in room) (within room) (prefixed room) (is k) t.place) t (u ∷ ts))
      ∙ (λ k. chosen (at_number t.place (digits k)) (opened room (prefixed room >>= λ e. give (tree.Negate t.place e))) u ts)
  unary_complete (negate {room = room} {t = t} {ts = ts} {rest = rest} {e = e} is h d) =
      (λ k. taken (at_unary (suc room) (type_in (suc room)) (within (suc room)) (prefixed (suc room)) (is k) t.place) t ts)
      ∙ minus_other room t.place ts rest e h (unary_complete d)
  unary_complete (negation {room = room} {t = t} {ts = ts} {rest = rest} {e = e} is d) =
      (λ k. taken (at_unary (suc room) (type_in (suc room)) (within (suc room)) (prefixed (suc room)) (is k) t.place) t ts)
      ∙ passes_by (prefixed (suc room)) (λ e. give (tree.Not t.place e)) ts rest e (unary_complete d)
  unary_complete (primary d) = primary_complete d

  primary_complete : {room : ℕ} {ts rest : List Token} {e : Expr} → IsPrimary room ts e rest → unary_at room ts ≡ Read e rest
  primary_complete {room} (number {t = t} {ts = ts} is) = λ k. taken (at_unary room (type_in room) (within room) (prefixed room) (is k) t.place) t ts
  primary_complete {room} (text {t = t} {ts = ts} is) = λ k. taken (at_unary room (type_in room) (within room) (prefixed room) (is k) t.place) t ts
  primary_complete {room} (truth {t = t} {ts = ts} is) = λ k. taken (at_unary room (type_in room) (within room) (prefixed room) (is k) t.place) t ts
  primary_complete {room} (falsity {t = t} {ts = ts} is) = λ k. taken (at_unary room (type_in room) (within room) (prefixed room) (is k) t.place) t ts
  primary_complete (parens {room = room} {t = t} {v = v} {ts = ts} {rest = rest} {e = e} is d closes) = unary_open (suc room) t ts is ∙ parens_is room t.place ts rest v e (expr_complete d) closes
  primary_complete (nothing {room = room} {t = t} {v = v} {rest = rest} is closes) = unary_open (suc room) t (v ∷ rest) is ∙ (λ k. chosen (when (is_close (closes k)) (give (tree.Unit t.place))) (within (suc room) >>= λ e. must is_close (give e)) v rest)
  primary_complete {room} (name {t = t} {ts = ts} {n = n} is h) = unary_name room t n ts is ∙ name_alone room t.place n ts h
  primary_complete (call {room = room} {t = t} {u = u} {v = v} {ts = ts} {us = us} {rest = rest} {n = n} {e = e} {es = es} is opens d others closes) =
      unary_name (suc room) t n (u ∷ ts) is
      ∙ tried_by (λ u. after_name (suc room) (type_in (suc room)) (within (suc room)) t.place n u.kind u.first) (tree.Name t.place n) (arguments (within (suc room)) (tree.Call t.place n)) u ts (call_turn (suc room) t.place n u.kind u.first opens)
      ∙ arguments_is (suc room) (tree.Call t.place n) ts us rest v e es (expr_complete d) (others_complete others) closes
  primary_complete (call_dotted {room = room} {t = t} {d = d} {m = m} {u = u} {v = v} {ts = ts} {us = us} {rest = rest} {o = o} {e = e} {es = es} is dot named opens x others closes) =
      dot_is (suc room) t d m (family_in o) (member_name o) (member.Called o) (u ∷ ts) is dot named (member_again o)
      ∙ expect_is (λ t. opens_call t.kind t.first) (arguments (within (suc room)) (tree.CallDotted t.place o)) u ts opens
      ∙ arguments_is (suc room) (tree.CallDotted t.place o) ts us rest v e es (expr_complete x) (others_complete others) closes
  primary_complete (nil {room = room} {t = t} {u = u} {v = v} {ts = ts} {rest = rest} {y = y} is opens d closes) = typed_turn (suc room) t u (codes "nil") _ ts is opens refl ∙ in_brackets_is (type_in (suc room)) (tree.Nil t.place) ts rest v y (type_complete d) closes
  primary_complete (none {room = room} {t = t} {u = u} {v = v} {ts = ts} {rest = rest} {y = y} is opens d closes) = typed_turn (suc room) t u (codes "None") _ ts is opens refl ∙ in_brackets_is (type_in (suc room)) (tree.None t.place) ts rest v y (type_complete d) closes
  primary_complete {room} (empty_aggregate {t = t} {d = d} {m = m} {ts = ts} {rest = rest} {a = a} is dot named x) =
      dot_is room t d m (family.Of (kind_in a)) (codes "empty") (member.Empty (kind_in a)) ts is dot named (empty_again (kind_in a))
      ∙ passes_by (an_aggregate room (type_in room) (kind_in a)) (λ a. give (tree.Empty t.place a)) ts rest a (aggregate_complete x)

  others_complete : {room : ℕ} {ts rest : List Token} {es : Exprs} → AreOthers room ts es rest → many (others_of (within (suc room))) ts ≡ Read es rest
  others_complete {room} (no_other {ts = ts} h) = others_stop (suc room) ts h
  others_complete {room} (one_other {t = t} {ts = ts} {us = us} {rest = rest} {e = e} {es = es} is d others) = many_go signs (others_of (within (suc room))) (others_local (suc room)) t (within (suc room)) ts us rest e es (λ k. when (is_comma (is k)) (within (suc room))) (expr_complete d) (others_complete others)
