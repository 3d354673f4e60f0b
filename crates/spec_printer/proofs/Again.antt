-- The tokens that follow the marks of what fits spell it again, places aside.
use Rattle.std.proofs.Common.{◌≡◌, ℕ, zero, suc, ◌<◌, ◌≤◌, Bool, true, false, List, [], ◌∷◌, ◌++◌, Some, refl, sym, ap, subst, ◌∙◌, append_assoc, inl, inr, arith}
use Rattle.std.proofs.lemmas.Bool.{cases_lt, leb-true}
use Rattle.spec_lexer.specs.declared.token.Token.{Token}
use Rattle.spec_lexer.specs.declared.token.TokenKind.{TokenKind}
use Rattle.spec_lexer.specs.declared.token.TokenKind.TheVariants as kind
use Rattle.spec_lexer.specs.declared.token.Word.TheVariants as word
use Rattle.spec_lexer.specs.declared.token.Symbol.TheVariants as symbol
use Rattle.syntax_tree.specs.declared.tree.Level.{Level}
use Rattle.syntax_tree.specs.declared.tree.Level.TheVariants as level
use Rattle.syntax_tree.specs.declared.tree.Operator.{Operator}
use Rattle.syntax_tree.specs.declared.tree.Comparison.{Comparison}
use Rattle.vocabulary.specs.Kinds.{kind_name}
use Rattle.syntax_tree.specs.Tree as tree
use Rattle.syntax_tree.specs.Tree.{TypeName, Aggregate, kind_in, Expr, Exprs, no_exprs, more_exprs, Links, no_links, more_links, place_of}
use Rattle.spec_parser.specs.Words.{operator_at, comparison_at, opens_call, is_number, is_comma}
use Rattle.syntax_tree.specs.Levels.{level_of}
use Rattle.spec_parser.specs.Grammar as grammar
use Rattle.spec_parser.specs.Grammar.{Is, IsPast, IsType, IsAggregate, IsExpr, IsLevel, AreLinks, IsOperand, IsUnary, IsPrimary, AreOthers}
use Rattle.spec_printer.specs.inner.Same.{nowhere, bare_type, bare_aggregate, bare, bare_exprs, bare_links}
use Rattle.spec_printer.specs.inner.Marks as mark
use Rattle.spec_printer.specs.inner.Marks.{Mark, token, line_end}
use Rattle.spec_printer.specs.inner.Follow.{Follow, next_token, next_line}
use Rattle.spec_printer.specs.inner.Print.{type_marks, aggregate_marks, bracketed, both_bracketed, level_strength, strength, least_operand, least_negated, operator_symbol, comparison_symbol, holds, enclosed, operand_marks, expr_marks, expr_marks_after, link_marks}
use Rattle.spec_printer.proofs.Fits as fits
use Rattle.spec_printer.proofs.Fits.{FitsType, FitsAggregate, Fits, FitsAt, FitExprs, FitLinks}
use Rattle.spec_printer.proofs.Behind.{strength_after, next_strength, follow_strength, past_level, past_comparison, past_name, operator_again, operator_symbol_strength, comparison_again, comparison_symbol_strength}

pub regroup : {first : Bool} (a b c : List Mark) {ts : List Token} → Follow first ((a ++ b) ++ c) ts → Follow first (a ++ (b ++ c)) ts
regroup {first = first} a b c {ts = ts} h = subst (λ m. Follow first m ts) (append_assoc a b c) h

-- the next token, where one follows
pub with_token : {k : TokenKind} {first : Bool} {ms : List Mark} (P : List Token → Type 0) → ((t : Token) (rest : List Token) → t.kind ≡ k → t.first ≡ first → Follow false ms rest → P (t ∷ rest)) → (ts : List Token) → Follow first (token k ∷ ms) ts → P ts
with_token P f ts (next_token {t = t} {ts = rest} is first h) = f t rest is first h

-- the tokens after an end of a line
pub past_line : {first : Bool} {ms : List Mark} {ts : List Token} → Follow first (line_end ∷ ms) ts → Follow true ms ts
past_line (next_line h) = h

-- ---- types
abbrev pub TypeComes : ℕ → List Token → TypeName → List Mark → Type 0
TypeComes room ts y ms = (again : TypeName) × (rest : List Token) × IsType room ts again rest × (bare_type again ≡ bare_type y) × Follow false ms rest

abbrev TypeReturns : ℕ → TypeName → Type 0
TypeReturns room y = (ms : List Mark) (ts : List Token) → Follow false (type_marks y ++ ms) ts → TypeComes room ts y ms

with_bracketed :
    {room : ℕ} (y : TypeName) → TypeReturns room y → (ms : List Mark) (P : List Token → Type 0) →
    ((u v : Token) (ts rest : List Token) (again : TypeName) → Is u symbol.OpenBracket → IsType room ts again (v ∷ rest) → Is v symbol.CloseBracket → bare_type again ≡ bare_type y → Follow false ms rest → P (u ∷ ts)) →
    (ts : List Token) → Follow false (bracketed y ++ ms) ts → P ts
with_bracketed {room = room} y back ms P f = with_token P (λ u ts opening first h.
    let c = back (mark.symbol symbol.CloseBracket ∷ ms) ts (regroup (type_marks y) (mark.symbol symbol.CloseBracket ∷ []) ms h) in
    with_token (λ rest. IsType room ts c.0 rest → P (u ∷ ts)) (λ v rest close first h reads. f u v ts rest c.0 opening reads close c.3 h) c.1 c.4 c.2)

with_both :
    {room : ℕ} (x y : TypeName) → TypeReturns room x → TypeReturns room y → (ms : List Mark) (P : List Token → Type 0) →
    ((u v w : Token) (ts us rest : List Token) (a b : TypeName) → Is u symbol.OpenBracket → IsType room ts a (v ∷ us) → Is v symbol.Comma → IsType room us b (w ∷ rest) → Is w symbol.CloseBracket → bare_type a ≡ bare_type x → bare_type b ≡ bare_type y → Follow false ms rest → P (u ∷ ts)) →
    (ts : List Token) → Follow false (both_bracketed x y ++ ms) ts → P ts
with_both {room = room} x y left right ms P f = with_token P (λ u ts opening first h.
    let c = left (mark.symbol symbol.Comma ∷ ((type_marks y ++ (mark.symbol symbol.CloseBracket ∷ [])) ++ ms)) ts (regroup (type_marks x) (mark.symbol symbol.Comma ∷ (type_marks y ++ (mark.symbol symbol.CloseBracket ∷ []))) ms h) in
    with_token (λ us. IsType room ts c.0 us → P (u ∷ ts)) (λ v us comma first h reads.
    let d = right (mark.symbol symbol.CloseBracket ∷ ms) us (regroup (type_marks y) (mark.symbol symbol.CloseBracket ∷ []) ms h) in
    with_token (λ rest. IsType room us d.0 rest → P (u ∷ ts)) (λ w rest close first h more. f u v w ts us rest c.0 d.0 opening reads comma more close c.3 d.3 h) d.1 d.4 d.2)
    c.1 c.4 c.2)

abbrev AggregateComes : ℕ → List Token → Aggregate → List Mark → Type 0
AggregateComes room ts a ms = (again : Aggregate) × (rest : List Token) × IsAggregate room ts again rest × (bare_aggregate again ≡ bare_aggregate a) × Follow false ms rest

abbrev AggregateReturns : ℕ → Aggregate → Type 0
AggregateReturns room a = (ms : List Mark) (ts : List Token) → Follow false (aggregate_marks a ++ ms) ts → AggregateComes room ts a ms

-- a place changes no kind
bare_kind : (a : Aggregate) → kind_in (bare_aggregate a) ≡ kind_in a
bare_kind (tree.SetOf y) = refl
bare_kind a = refl

named_again : (a again : Aggregate) → bare_aggregate again ≡ bare_aggregate a → kind.Name (kind_name (kind_in a)) ≡ kind.Name (kind_name (kind_in again))
named_again a again same = ap (λ g. kind.Name (kind_name g)) (sym (bare_kind a) ∙ ap kind_in (sym same) ∙ bare_kind again)

mutual
  pub type_again : {room : ℕ} {y : TypeName} → FitsType room y → TypeReturns room y
  type_again {room = room} {y = y} fits.unit ms = with_token (λ ts. TypeComes room ts y ms) (λ t rest is first h. (tree.UnitType t.place, rest, grammar.unit is, refl, h))
  type_again {room = room} {y = y} fits.int ms = with_token (λ ts. TypeComes room ts y ms) (λ t rest is first h. (tree.IntType t.place, rest, grammar.int is, refl, h))
  type_again {room = room} {y = y} fits.bool ms = with_token (λ ts. TypeComes room ts y ms) (λ t rest is first h. (tree.BoolType t.place, rest, grammar.bool is, refl, h))
  type_again {room = room} {y = y} fits.string ms = with_token (λ ts. TypeComes room ts y ms) (λ t rest is first h. (tree.TextType t.place, rest, grammar.string is, refl, h))
  type_again (fits.aggregate {room = room} {p = p} {a = a} f) ms =
      with_token (λ ts. TypeComes room ts (tree.AggregateType p a) ms) (λ t ts is first h.
      let c = aggregate_again f ms ts h in
      (tree.AggregateType t.place c.0, c.1, grammar.aggregate (is ∙ named_again a c.0 c.3) c.2, ap (tree.AggregateType nowhere) c.3, c.4))
  type_again (fits.option {room = room} {p = p} {y = y} f) ms =
      with_token (λ ts. TypeComes (suc room) ts (tree.OptionType p y) ms) (λ t ts is first.
      with_bracketed y (type_again f) ms (λ ts. TypeComes (suc room) (t ∷ ts) (tree.OptionType p y) ms) (λ u v ts rest again opening reads close same h.
      (tree.OptionType t.place again, rest, grammar.option is opening reads close, ap (tree.OptionType nowhere) same, h)) ts)
  type_again (fits.events {room = room} {p = p} {y = y} f) ms =
      with_token (λ ts. TypeComes (suc room) ts (tree.EventsType p y) ms) (λ t ts is first.
      with_bracketed y (type_again f) ms (λ ts. TypeComes (suc room) (t ∷ ts) (tree.EventsType p y) ms) (λ u v ts rest again opening reads close same h.
      (tree.EventsType t.place again, rest, grammar.events is opening reads close, ap (tree.EventsType nowhere) same, h)) ts)

  aggregate_again : {room : ℕ} {a : Aggregate} → FitsAggregate room a → AggregateReturns room a
  aggregate_again (fits.set {room = room} {y = y} f) ms =
      with_bracketed y (type_again f) ms (λ ts. AggregateComes (suc room) ts (tree.SetOf y) ms) (λ u v ts rest again opening reads close same h.
      (tree.SetOf again, rest, grammar.set opening reads close, ap tree.SetOf same, h))
  aggregate_again (fits.queue {room = room} {y = y} f) ms =
      with_bracketed y (type_again f) ms (λ ts. AggregateComes (suc room) ts (tree.QueueOf y) ms) (λ u v ts rest again opening reads close same h.
      (tree.QueueOf again, rest, grammar.queue opening reads close, ap tree.QueueOf same, h))
  aggregate_again (fits.map {room = room} {x = x} {y = y} f g) ms =
      with_both x y (type_again f) (type_again g) ms (λ ts. AggregateComes (suc room) ts (tree.MapOf x y) ms) (λ u v w ts us rest a b opening reads comma more close left right h.
      (tree.MapOf a b, rest, grammar.map opening reads comma more close, (λ i. tree.MapOf (left i) (right i)), h))

-- ---- places of expressions, by strength
abbrev pub Reads : ℕ → ℕ → List Token → Expr → List Token → Type 0
Reads zero = IsExpr
Reads (suc zero) = IsLevel level.Disjunction
Reads (suc (suc zero)) = IsOperand level.Disjunction
Reads (suc (suc (suc zero))) = IsOperand level.Conjunction
Reads (suc (suc (suc (suc zero)))) = IsLevel level.Sum
Reads (suc (suc (suc (suc (suc zero))))) = IsOperand level.Sum
Reads (suc (suc (suc (suc (suc (suc zero)))))) = IsUnary
Reads (suc (suc (suc (suc (suc (suc (suc n))))))) = IsPrimary

-- what may stand after an expression of a place: nothing that goes on with it
abbrev pub limit : ℕ → ℕ
limit zero = 1
limit (suc n) = suc n

limit-le : (n : ℕ) → n ≤ limit n
limit-le zero = omega arith
limit-le (suc n) = omega arith

limit-more : (a b : ℕ) → a ≤ b → limit a ≤ limit b
limit-more zero zero h = omega arith
limit-more zero (suc b) h = omega arith
limit-more (suc a) zero h = absurd (omega arith)
limit-more (suc a) (suc b) h = omega arith

weaker_by_one : (n room : ℕ) (ts rest : List Token) (e : Expr) → next_strength rest < limit n → Reads (suc n) room ts e rest → Reads n room ts e rest
weaker_by_one zero room ts rest e h r = grammar.chain r
weaker_by_one (suc zero) room ts rest e h r = grammar.operands r (grammar.no_link (past_level level.Disjunction rest h))
weaker_by_one (suc (suc zero)) room ts rest e h r = grammar.conjunction (grammar.operands r (grammar.no_link (past_level level.Conjunction rest h)))
weaker_by_one (suc (suc (suc zero))) room ts rest e h r = grammar.no_comparison r (past_comparison rest h)
weaker_by_one (suc (suc (suc (suc zero)))) room ts rest e h r = grammar.operands r (grammar.no_link (past_level level.Sum rest h))
weaker_by_one (suc (suc (suc (suc (suc zero))))) room ts rest e h r = grammar.product (grammar.operands (grammar.unary r) (grammar.no_link (past_level level.Product rest h)))
weaker_by_one (suc (suc (suc (suc (suc (suc zero)))))) room ts rest e h r = grammar.primary r
weaker_by_one (suc (suc (suc (suc (suc (suc (suc n))))))) room ts rest e h r = r

pub weaker_by : (least strong room : ℕ) (ts rest : List Token) (e : Expr) → least ≤ strong → next_strength rest < limit least → Reads strong room ts e rest → Reads least room ts e rest
weaker_by least zero room ts rest e h k r = let same : zero ≡ least = omega arith in subst (λ n. Reads n room ts e rest) same r
weaker_by least (suc strong) room ts rest e h k r = elim (cases_lt strong least) [
  | inl top ↦ let same : suc strong ≡ least = omega arith in subst (λ n. Reads n room ts e rest) same r
  | inr low ↦ let wide = limit-more least strong low in weaker_by least strong room ts rest e low k (weaker_by_one strong room ts rest e (omega arith) r)
]

-- ---- expressions
abbrev pub Comes : (List Token → Expr → List Token → Type 0) → List Token → Expr → List Mark → Type 0
Comes R ts e ms = (again : Expr) × (rest : List Token) × R ts again rest × (bare again ≡ bare e) × Follow false ms rest

-- marks of an expression, at a place of this strength, come back
abbrev pub Returns : ℕ → ℕ → List Mark → Expr → Type 0
Returns least room marks e = (first : Bool) (ms : List Mark) (ts : List Token) → strength_after false ms < limit least → Follow first (marks ++ ms) ts → Comes (Reads least room) ts e ms

comes_weaker : (least strong room : ℕ) (ts : List Token) (e : Expr) (ms : List Mark) → least ≤ strong → strength_after false ms < limit least → Comes (Reads strong room) ts e ms → Comes (Reads least room) ts e ms
comes_weaker least strong room ts e ms h k c =
    let after = follow_strength c.4 in
    (c.0, c.1, weaker_by least strong room ts c.1 c.0 h (omega arith) c.2, c.3, c.4)

returns_weaker : (least strong room : ℕ) (marks : List Mark) (e : Expr) → least ≤ strong → Returns strong room marks e → Returns least room marks e
returns_weaker least strong room marks e h back first ms ts k f =
    let wide = limit-more least strong h in
    comes_weaker least strong room ts e ms h k (back first ms ts (omega arith) f)

in_parens : (least : ℕ) {room : ℕ} (e : Expr) → least ≤ 8 → Returns 0 room (expr_marks e) e → Returns least (suc room) (mark.symbol symbol.Open ∷ (expr_marks e ++ (mark.symbol symbol.Close ∷ []))) e
in_parens least {room = room} e small back first ms ts k f =
    comes_weaker least 8 (suc room) ts e ms small k
    (with_token (λ ts. Comes (IsPrimary (suc room)) ts e ms) (λ t ts opening first h.
    let c = back false (mark.symbol symbol.Close ∷ ms) ts (omega arith) (regroup (expr_marks e) (mark.symbol symbol.Close ∷ []) ms h) in
    with_token (λ rest. IsExpr room ts c.0 rest → Comes (IsPrimary (suc room)) (t ∷ ts) e ms) (λ v rest close first h reads. (c.0, rest, grammar.parens opening reads close, c.3, h)) c.1 c.4 c.2)
    ts f)

choice_again : {room : ℕ} (p : _) (c a b : Expr) → Returns 0 room (expr_marks c) c → Returns 0 room (expr_marks a) a → Returns 0 room (expr_marks b) b → Returns 0 (suc room) (expr_marks (tree.If p c a b)) (tree.If p c a b)
choice_again {room = room} p c a b back_c back_a back_b first ms ts k f = with_token (λ ts. Comes (IsExpr (suc room)) ts (tree.If p c a b) ms) (λ t ts is first h.
    let x = back_c false (mark.word word.Then ∷ ((expr_marks a ++ (mark.word word.Else ∷ expr_marks b)) ++ ms)) ts (omega arith) (regroup (expr_marks c) (mark.word word.Then ∷ (expr_marks a ++ (mark.word word.Else ∷ expr_marks b))) ms h) in
    with_token (λ us. IsExpr room ts x.0 us → Comes (IsExpr (suc room)) (t ∷ ts) (tree.If p c a b) ms) (λ u us u_is first h reads_c.
    let y = back_a false (mark.word word.Else ∷ (expr_marks b ++ ms)) us (omega arith) (regroup (expr_marks a) (mark.word word.Else ∷ expr_marks b) ms h) in
    with_token (λ vs. IsExpr room us y.0 vs → Comes (IsExpr (suc room)) (t ∷ ts) (tree.If p c a b) ms) (λ v vs v_is first h reads_a.
    let z = back_b false ms vs k h in
    (tree.If t.place x.0 y.0 z.0, z.1, grammar.choice is reads_c u_is reads_a v_is z.2, (λ i. tree.If nowhere (x.3 i) (y.3 i) (z.3 i)), z.4))
    y.1 y.4 y.2)
    x.1 x.4 x.2) ts f

-- ---- chains
limit_level : (l : Level) → limit (level_strength l) ≡ level_strength l
limit_level level.Disjunction = refl
limit_level level.Conjunction = refl
limit_level level.Sum = refl
limit_level level.Product = refl

operand_read : (l : Level) {room : ℕ} {ts rest : List Token} {e : Expr} → Reads (least_operand l) room ts e rest → IsOperand l room ts e rest
operand_read level.Disjunction r = r
operand_read level.Conjunction r = r
operand_read level.Sum r = r
operand_read level.Product r = grammar.unary r

level_read : (l : Level) {room : ℕ} {ts rest : List Token} {e : Expr} → IsLevel l room ts e rest → Reads (level_strength l) room ts e rest
level_read level.Disjunction r = r
level_read level.Conjunction r = grammar.conjunction r
level_read level.Sum r = r
level_read level.Product r = grammar.product r

abbrev LinksCome : Level → ℕ → List Token → Links → List Mark → Type 0
LinksCome l room ts ls ms = (again : Links) × (rest : List Token) × AreLinks l room ts again rest × (bare_links again ≡ bare_links ls) × Follow false ms rest

abbrev LinksReturn : Level → ℕ → Links → Type 0
LinksReturn l room ls = (ms : List Mark) (ts : List Token) → strength_after false ms < level_strength l → Follow false (link_marks (least_operand l) ls ++ ms) ts → LinksCome l room ts ls ms

no_link_again : (l : Level) {room : ℕ} → LinksReturn l room no_links
no_link_again l ms ts k h =
    let after = follow_strength h in
    (no_links, ts, grammar.no_link (past_level l ts (omega arith)), refl, h)

operator_strength_is : (o : Operator) (l : Level) → level_of o ≡ l → strength_after false (mark.symbol (operator_symbol o) ∷ []) ≡ level_strength l
operator_strength_is o l is = operator_symbol_strength o ∙ ap level_strength is

after_links : (l : Level) {room : ℕ} (ls : Links) (ms : List Mark) → FitLinks l room ls → strength_after false ms < level_strength l → strength_after false (link_marks (least_operand l) ls ++ ms) < limit (least_operand l)
after_links l no_links ms fits.no_link k = omega arith
after_links l (more_links o e ls) ms (fits.one_link is f g) k = let strong = operator_strength_is o l is in omega arith

one_link_again : (l : Level) {room : ℕ} (o : Operator) (e : Expr) (ls : Links) → level_of o ≡ l → Returns (least_operand l) room (operand_marks (least_operand l) e) e → FitLinks l room ls → LinksReturn l room ls → LinksReturn l room (more_links o e ls)
one_link_again l {room = room} o e ls is back links back_links ms ts k h = with_token (λ ts. LinksCome l room ts (more_links o e ls) ms) (λ t ts kind_is first h.
    let x = back false (link_marks (least_operand l) ls ++ ms) ts (after_links l ls ms links k) (regroup (operand_marks (least_operand l) e) (link_marks (least_operand l) ls) ms h) in
    let y = back_links ms x.1 k x.4 in
    let op : operator_at l t.kind t.first ≡ Some o = (λ i. operator_at (sym is i) (kind_is i) (first i)) ∙ operator_again o in
    (more_links o x.0 y.0, y.1, grammar.one_link op (operand_read l x.2) y.2, (λ i. more_links o (x.3 i) (y.3 i)), y.4)) ts h

chained_bare : (l : Level) (x : Expr) (y : Links) (e : Expr) (o : Operator) (f : Expr) (ls : Links) → bare x ≡ bare e → bare_links y ≡ bare_links (more_links o f ls) → bare (grammar.chained l x y) ≡ tree.Chain nowhere l (bare e) (bare_links (more_links o f ls))
chained_bare l x no_links e o f ls h k = cc
chained_bare l x (more_links a b y) e o f ls h k = λ i. tree.Chain nowhere l (h i) (k i)

chain_again : {room : ℕ} (p : _) (l : Level) (e : Expr) (o : Operator) (f : Expr) (ls : Links) → Returns (least_operand l) room (operand_marks (least_operand l) e) e → FitLinks l room (more_links o f ls) → LinksReturn l room (more_links o f ls) → Returns (level_strength l) room (expr_marks (tree.Chain p l e (more_links o f ls))) (tree.Chain p l e (more_links o f ls))
chain_again {room = room} p l e o f ls back links back_links first ms ts k h =
    let same_limit = limit_level l in
    let small : strength_after false ms < level_strength l = omega arith in
    let x = back first (link_marks (least_operand l) (more_links o f ls) ++ ms) ts (after_links l (more_links o f ls) ms links small) (regroup (operand_marks (least_operand l) e) (link_marks (least_operand l) (more_links o f ls)) ms h) in
    let y = back_links ms x.1 small x.4 in
    (grammar.chained l x.0 y.0, y.1, level_read l (grammar.operands (operand_read l x.2) y.2), chained_bare l x.0 y.0 e o f ls x.3 y.3, y.4)

comparison_back : {room : ℕ} (p : _) (o : Comparison) (a b : Expr) → Returns 4 room (operand_marks 4 a) a → Returns 4 room (operand_marks 4 b) b → Returns 3 room (expr_marks (tree.Compare p o a b)) (tree.Compare p o a b)
comparison_back {room = room} p o a b back_a back_b first ms ts k h =
    let strong = comparison_symbol_strength o in
    let x = back_a first (mark.symbol (comparison_symbol o) ∷ (operand_marks 4 b ++ ms)) ts (omega arith) (regroup (operand_marks 4 a) (mark.symbol (comparison_symbol o) ∷ operand_marks 4 b) ms h) in
    with_token (λ us. IsLevel level.Sum room ts x.0 us → Comes (IsOperand level.Conjunction room) ts (tree.Compare p o a b) ms) (λ t us is first h reads.
    let y = back_b false ms us (omega arith) h in
    (tree.Compare (place_of x.0) o x.0 y.0, y.1, grammar.comparison reads (ap comparison_at is ∙ comparison_again o) y.2, (λ i. tree.Compare nowhere o (x.3 i) (y.3 i)), y.4))
    x.1 x.4 x.2

-- ---- prefix operators
begins_otherwise : {k : TokenKind} {first : Bool} {ms : List Mark} → is_number k ≡ false → (ts : List Token) → Follow first (token k ∷ ms) ts → IsPast is_number ts
begins_otherwise q = with_token (IsPast is_number) (λ t rest is first h. ap is_number is ∙ q)

no_number : (e : Expr) (b : Bool) → holds (least_negated e) e ≡ b → (ms : List Mark) (ts : List Token) → Follow false (enclosed b (expr_marks e) ++ ms) ts → IsPast is_number ts
no_number e false is ms ts h = begins_otherwise refl ts h
no_number (tree.If p c a b) true is ms ts h = cc
no_number (tree.Chain p level.Disjunction e ls) true is ms ts h = cc
no_number (tree.Chain p level.Conjunction e ls) true is ms ts h = cc
no_number (tree.Chain p level.Sum e ls) true is ms ts h = cc
no_number (tree.Chain p level.Product e ls) true is ms ts h = cc
no_number (tree.Compare p o a b) true is ms ts h = cc
no_number (tree.Number p n) true is ms ts h = cc
no_number (tree.Negate p e) true is ms ts h = begins_otherwise refl ts h
no_number (tree.Not p e) true is ms ts h = begins_otherwise refl ts h
no_number (tree.Negative p n) true is ms ts h = begins_otherwise refl ts h
no_number (tree.Text p t) true is ms ts h = begins_otherwise refl ts h
no_number (tree.Boolean p b) true is ms ts h = begins_otherwise refl ts h
no_number (tree.Unit p) true is ms ts h = begins_otherwise refl ts h
no_number (tree.Name p n) true is ms ts h = begins_otherwise refl ts h
no_number (tree.Call p n es) true is ms ts h = begins_otherwise refl ts h
no_number (tree.CallDotted p d es) true is ms ts h = begins_otherwise refl ts h
no_number (tree.Nil p y) true is ms ts h = begins_otherwise refl ts h
no_number (tree.None p y) true is ms ts h = begins_otherwise refl ts h
no_number (tree.Empty p a) true is ms ts h = begins_otherwise refl ts h

negated_strong : (e : Expr) → (6 ≤ least_negated e) × (least_negated e ≤ 8)
negated_strong (tree.Number p n) = (omega arith, omega arith)
negated_strong (tree.If p c a b) = (omega arith, omega arith)
negated_strong (tree.Chain p l e ls) = (omega arith, omega arith)
negated_strong (tree.Compare p o a b) = (omega arith, omega arith)
negated_strong (tree.Negate p e) = (omega arith, omega arith)
negated_strong (tree.Not p e) = (omega arith, omega arith)
negated_strong (tree.Negative p n) = (omega arith, omega arith)
negated_strong (tree.Text p t) = (omega arith, omega arith)
negated_strong (tree.Boolean p b) = (omega arith, omega arith)
negated_strong (tree.Unit p) = (omega arith, omega arith)
negated_strong (tree.Name p n) = (omega arith, omega arith)
negated_strong (tree.Call p n es) = (omega arith, omega arith)
negated_strong (tree.CallDotted p d es) = (omega arith, omega arith)
negated_strong (tree.Nil p y) = (omega arith, omega arith)
negated_strong (tree.None p y) = (omega arith, omega arith)
negated_strong (tree.Empty p a) = (omega arith, omega arith)

negate_again : {room : ℕ} (p : _) (e : Expr) → Returns (least_negated e) room (operand_marks (least_negated e) e) e → Returns 6 (suc room) (expr_marks (tree.Negate p e)) (tree.Negate p e)
negate_again {room = room} p e back first ms ts k h = with_token (λ ts. Comes (IsUnary (suc room)) ts (tree.Negate p e) ms) (λ t ts is first h.
    let x = returns_weaker 6 (least_negated e) room (operand_marks (least_negated e) e) e (negated_strong e).0 back false ms ts k h in
    (tree.Negate t.place x.0, x.1, grammar.negate is (no_number e (holds (least_negated e) e) refl ms ts h) x.2, ap (tree.Negate nowhere) x.3, x.4)) ts h

negation_again : {room : ℕ} (p : _) (e : Expr) → Returns 6 room (operand_marks 6 e) e → Returns 6 (suc room) (expr_marks (tree.Not p e)) (tree.Not p e)
negation_again {room = room} p e back first ms ts k h = with_token (λ ts. Comes (IsUnary (suc room)) ts (tree.Not p e) ms) (λ t ts is first h.
    let x = back false ms ts k h in
    (tree.Not t.place x.0, x.1, grammar.negation is x.2, ap (tree.Not nowhere) x.3, x.4)) ts h

negative_again : {room : ℕ} (p : _) (n : ℕ) → Returns 6 room (expr_marks (tree.Negative p n)) (tree.Negative p n)
negative_again {room = room} p n first ms ts k h =
    with_token (λ ts. Comes (IsUnary room) ts (tree.Negative p n) ms) (λ t ts is first h.
    with_token (λ ts. Comes (IsUnary room) (t ∷ ts) (tree.Negative p n) ms) (λ u rest number first h.
    (tree.Negative t.place n, rest, grammar.negative is number, refl, h)) ts h) ts h

-- ---- what stands alone
one_token : {room : ℕ} (k : TokenKind) (e : Expr) (made : Token → Expr) → ((t : Token) (ts : List Token) → t.kind ≡ k → IsPrimary room (t ∷ ts) (made t) ts) → ((t : Token) → bare (made t) ≡ bare e) → Returns 7 room (token k ∷ []) e
one_token {room = room} k e made reads same first ms ts h = with_token (λ ts. Comes (IsPrimary room) ts e ms) (λ t rest is first h. (made t, rest, reads t rest is, same t, h)) ts

number_again : {room : ℕ} (p : _) (n : ℕ) → Returns 7 room (expr_marks (tree.Number p n)) (tree.Number p n)
number_again p n = one_token (kind.Number n) (tree.Number p n) (λ t. tree.Number t.place n) (λ t ts is. grammar.number is) (λ t. refl)

text_again : {room : ℕ} (p : _) (n : List ℕ) → Returns 7 room (expr_marks (tree.Text p n)) (tree.Text p n)
text_again p n = one_token (kind.Text n) (tree.Text p n) (λ t. tree.Text t.place n) (λ t ts is. grammar.text is) (λ t. refl)

boolean_again : {room : ℕ} (p : _) (b : Bool) → Returns 7 room (expr_marks (tree.Boolean p b)) (tree.Boolean p b)
boolean_again p true = one_token (kind.Word word.True) (tree.Boolean p true) (λ t. tree.Boolean t.place true) (λ t ts is. grammar.truth is) (λ t. refl)
boolean_again p false = one_token (kind.Word word.False) (tree.Boolean p false) (λ t. tree.Boolean t.place false) (λ t ts is. grammar.falsity is) (λ t. refl)

nothing_again : {room : ℕ} (p : _) → Returns 7 (suc room) (expr_marks (tree.Unit p)) (tree.Unit p)
nothing_again {room = room} p first ms ts k h =
    with_token (λ ts. Comes (IsPrimary (suc room)) ts (tree.Unit p) ms) (λ t ts opening first h.
    with_token (λ ts. Comes (IsPrimary (suc room)) (t ∷ ts) (tree.Unit p) ms) (λ v rest close first h.
    (tree.Unit t.place, rest, grammar.nothing opening close, refl, h)) ts h) ts h

name_again : {room : ℕ} (p : _) (n : List ℕ) → Returns 7 room (expr_marks (tree.Name p n)) (tree.Name p n)
name_again {room = room} p n first ms ts k h = with_token (λ ts. Comes (IsPrimary room) ts (tree.Name p n) ms) (λ t rest is first h.
    let after = follow_strength h in
    (tree.Name t.place n, rest, grammar.name is (past_name n rest (omega arith)), refl, h)) ts h

nil_again : {room : ℕ} (p : _) (y : TypeName) → FitsType room y → Returns 7 (suc room) (expr_marks (tree.Nil p y)) (tree.Nil p y)
nil_again {room = room} p y f first ms ts k h =
    with_token (λ ts. Comes (IsPrimary (suc room)) ts (tree.Nil p y) ms) (λ t ts is first.
    with_bracketed y (type_again f) ms (λ ts. Comes (IsPrimary (suc room)) (t ∷ ts) (tree.Nil p y) ms) (λ u v ts rest again opening reads close same h.
    (tree.Nil t.place again, rest, grammar.nil is opening reads close, ap (tree.Nil nowhere) same, h)) ts) ts h

none_again : {room : ℕ} (p : _) (y : TypeName) → FitsType room y → Returns 7 (suc room) (expr_marks (tree.None p y)) (tree.None p y)
none_again {room = room} p y f first ms ts k h =
    with_token (λ ts. Comes (IsPrimary (suc room)) ts (tree.None p y) ms) (λ t ts is first.
    with_bracketed y (type_again f) ms (λ ts. Comes (IsPrimary (suc room)) (t ∷ ts) (tree.None p y) ms) (λ u v ts rest again opening reads close same h.
    (tree.None t.place again, rest, grammar.none is opening reads close, ap (tree.None nowhere) same, h)) ts) ts h

empty_again : {room : ℕ} (p : _) (a : Aggregate) → FitsAggregate room a → Returns 7 room (expr_marks (tree.Empty p a)) (tree.Empty p a)
empty_again {room = room} p a f first ms ts k h =
    with_token (λ ts. Comes (IsPrimary room) ts (tree.Empty p a) ms) (λ t ts is first h.
    with_token (λ ts. Comes (IsPrimary room) (t ∷ ts) (tree.Empty p a) ms) (λ d ts dot first h.
    with_token (λ ts. Comes (IsPrimary room) (t ∷ d ∷ ts) (tree.Empty p a) ms) (λ m ts member first h.
    let c = aggregate_again f ms ts h in
    (tree.Empty t.place c.0, c.1, grammar.empty_aggregate (is ∙ named_again a c.0 c.3) dot member c.2, ap (tree.Empty nowhere) c.3, c.4)) ts h) ts h) ts h

-- ---- arguments
abbrev OthersCome : ℕ → List Token → Exprs → List Mark → Type 0
OthersCome room ts es ms = (again : Exprs) × (rest : List Token) × AreOthers room ts again rest × (bare_exprs again ≡ bare_exprs es) × Follow false ms rest

-- before a closing parenthesis
abbrev OthersReturn : ℕ → Exprs → Type 0
OthersReturn room es = (ms : List Mark) (ts : List Token) → Follow false (expr_marks_after symbol.Comma es ++ (mark.symbol symbol.Close ∷ ms)) ts → OthersCome room ts es (mark.symbol symbol.Close ∷ ms)

no_other_again : {room : ℕ} → OthersReturn room no_exprs
no_other_again ms ts h = (no_exprs, ts, grammar.no_other (with_token (IsPast is_comma) (λ t rest is first h. ap is_comma is) ts h), refl, h)

after_others : (es : Exprs) (ms : List Mark) → strength_after false (expr_marks_after symbol.Comma es ++ (mark.symbol symbol.Close ∷ ms)) < 1
after_others no_exprs ms = omega arith
after_others (more_exprs e es) ms = omega arith

one_other_again : {room : ℕ} (e : Expr) (es : Exprs) → Returns 0 room (expr_marks e) e → OthersReturn room es → OthersReturn room (more_exprs e es)
one_other_again {room = room} e es back others ms ts h = with_token (λ ts. OthersCome room ts (more_exprs e es) (mark.symbol symbol.Close ∷ ms)) (λ t ts is first h.
    let x = back false (expr_marks_after symbol.Comma es ++ (mark.symbol symbol.Close ∷ ms)) ts (after_others es ms) (regroup (expr_marks e) (expr_marks_after symbol.Comma es) (mark.symbol symbol.Close ∷ ms) h) in
    let y = others ms x.1 x.4 in
    (more_exprs x.0 y.0, y.1, grammar.one_other is x.2 y.2, (λ i. more_exprs (x.3 i) (y.3 i)), y.4)) ts h

-- the arguments of a call, from their opening parenthesis on
with_arguments :
    {room : ℕ} (e : Expr) (es : Exprs) → Returns 0 room (expr_marks e) e → OthersReturn room es → (ms : List Mark) (P : List Token → Type 0) →
    ((u v : Token) (ts us rest : List Token) (a : Expr) (bs : Exprs) → opens_call u.kind u.first ≡ true → IsExpr room ts a us → AreOthers room us bs (v ∷ rest) → Is v symbol.Close → bare a ≡ bare e → bare_exprs bs ≡ bare_exprs es → Follow false ms rest → P (u ∷ ts)) →
    (ts : List Token) → Follow false ((expr_marks_after symbol.Open (more_exprs e es) ++ (mark.symbol symbol.Close ∷ [])) ++ ms) ts → P ts
with_arguments {room = room} e es back others ms P f = with_token P (λ u ts opening first h.
    let grouped = regroup (expr_marks e) (expr_marks_after symbol.Comma es) (mark.symbol symbol.Close ∷ ms) (regroup (expr_marks e ++ expr_marks_after symbol.Comma es) (mark.symbol symbol.Close ∷ []) ms h) in
    let x = back false (expr_marks_after symbol.Comma es ++ (mark.symbol symbol.Close ∷ ms)) ts (after_others es ms) grouped in
    let y = others ms x.1 x.4 in
    with_token (λ rest. AreOthers room x.1 y.0 rest → P (u ∷ ts)) (λ v rest close q h reads.
    f u v ts x.1 rest x.0 y.0 (λ i. opens_call (opening i) (first i)) x.2 reads close x.3 y.3 h)
    y.1 y.4 y.2)

call_again : {room : ℕ} (p : _) (n : List ℕ) (e : Expr) (es : Exprs) → Returns 0 room (expr_marks e) e → OthersReturn room es → Returns 7 (suc room) (expr_marks (tree.Call p n (more_exprs e es))) (tree.Call p n (more_exprs e es))
call_again {room = room} p n e es back others first ms ts k h =
    with_token (λ ts. Comes (IsPrimary (suc room)) ts (tree.Call p n (more_exprs e es)) ms) (λ t ts is first.
    with_arguments e es back others ms (λ ts. Comes (IsPrimary (suc room)) (t ∷ ts) (tree.Call p n (more_exprs e es)) ms) (λ u v ts us rest a bs opens reads more close same others_same h.
    (tree.Call t.place n (more_exprs a bs), rest, grammar.call is opens reads more close, (λ i. tree.Call nowhere n (more_exprs (same i) (others_same i))), h)) ts) ts h

call_dotted_again : {room : ℕ} (p : _) (d : _) (e : Expr) (es : Exprs) → Returns 0 room (expr_marks e) e → OthersReturn room es → Returns 7 (suc room) (expr_marks (tree.CallDotted p d (more_exprs e es))) (tree.CallDotted p d (more_exprs e es))
call_dotted_again {room = room} p d e es back others first ms ts k h =
    with_token (λ ts. Comes (IsPrimary (suc room)) ts (tree.CallDotted p d (more_exprs e es)) ms) (λ t ts is first h.
    with_token (λ ts. Comes (IsPrimary (suc room)) (t ∷ ts) (tree.CallDotted p d (more_exprs e es)) ms) (λ dot ts dot_is first h.
    with_token (λ ts. Comes (IsPrimary (suc room)) (t ∷ dot ∷ ts) (tree.CallDotted p d (more_exprs e es)) ms) (λ m ts member first.
    with_arguments e es back others ms (λ ts. Comes (IsPrimary (suc room)) (t ∷ dot ∷ m ∷ ts) (tree.CallDotted p d (more_exprs e es)) ms) (λ u v ts us rest a bs opens reads more close same others_same h.
    (tree.CallDotted t.place d (more_exprs a bs), rest, grammar.call_dotted is dot_is member opens reads more close, (λ i. tree.CallDotted nowhere d (more_exprs (same i) (others_same i))), h)) ts) ts h) ts h) ts h

-- ---- all of them
alone : {room : ℕ} (e : Expr) → Returns (strength e) room (expr_marks e) e → Returns 0 room (expr_marks e) e
alone {room = room} e back = returns_weaker 0 (strength e) room (expr_marks e) e (omega arith) back

least_small : (l : Level) → least_operand l ≤ 8
least_small level.Disjunction = omega arith
least_small level.Conjunction = omega arith
least_small level.Sum = omega arith
least_small level.Product = omega arith

mutual
  node_again : {room : ℕ} {e : Expr} → Fits room e → Returns (strength e) room (expr_marks e) e
  node_again (fits.choice {p = p} {c = c} {a = a} {b = b} f g h) = choice_again p c a b (alone c (node_again f)) (alone a (node_again g)) (alone b (node_again h))
  node_again (fits.chain {p = p} {l = l} {e = e} {f = f} {o = o} {ls = ls} h links) = chain_again p l e o f ls (operand_again (least_operand l) (least_small l) h) links (links_again links)
  node_again (fits.comparison {p = p} {o = o} {a = a} {b = b} f g) = comparison_back p o a b (operand_again 4 (omega arith) f) (operand_again 4 (omega arith) g)
  node_again (fits.negate {p = p} {e = e} f) = negate_again p e (operand_again (least_negated e) (negated_strong e).1 f)
  node_again (fits.negation {p = p} {e = e} f) = negation_again p e (operand_again 6 (omega arith) f)
  node_again (fits.number {p = p} {n = n} h) = number_again p n
  node_again (fits.negative {p = p} {n = n} h) = negative_again p n
  node_again (fits.text {p = p} {t = t} h) = text_again p t
  node_again (fits.boolean {p = p} {b = b}) = boolean_again p b
  node_again (fits.nothing {p = p}) = nothing_again p
  node_again (fits.name {p = p} {n = n} h) = name_again p n
  node_again (fits.call {p = p} {n = n} {e = e} {es = es} h f g) = call_again p n e es (alone e (node_again f)) (others_again g)
  node_again (fits.call_dotted {p = p} {d = d} {e = e} {es = es} f g) = call_dotted_again p d e es (alone e (node_again f)) (others_again g)
  node_again (fits.nil {p = p} {y = y} f) = nil_again p y f
  node_again (fits.none {p = p} {y = y} f) = none_again p y f
  node_again (fits.empty {p = p} {a = a} f) = empty_again p a f

  operand_again : (least : ℕ) → least ≤ 8 → {room : ℕ} {e : Expr} → FitsAt least room e → Returns least room (operand_marks least e) e
  operand_again least small (fits.as_it_is {room = room} {e = e} h f) =
      let strong = leb-true least (strength e) h in
      subst (λ b. Returns least room (enclosed b (expr_marks e)) e) (sym h) (returns_weaker least (strength e) room (expr_marks e) e strong (node_again f))
  operand_again least small (fits.enclosed {room = room} {e = e} h f) =
      subst (λ b. Returns least (suc room) (enclosed b (expr_marks e)) e) (sym h) (in_parens least e small (alone e (node_again f)))

  others_again : {room : ℕ} {es : Exprs} → FitExprs room es → OthersReturn room es
  others_again fits.no_expr = no_other_again
  others_again (fits.one_expr {e = e} {es = es} f g) = one_other_again e es (alone e (node_again f)) (others_again g)

  links_again : {l : Level} {room : ℕ} {ls : Links} → FitLinks l room ls → LinksReturn l room ls
  links_again (fits.no_link {l = l}) = no_link_again l
  links_again (fits.one_link {l = l} {o = o} {e = e} {ls = ls} is f g) = one_link_again l o e ls is (operand_again (least_operand l) (least_small l) f) g (links_again g)

pub expr_again : {room : ℕ} {e : Expr} → Fits room e → Returns 0 room (expr_marks e) e
expr_again {e = e} f = alone e (node_again f)
