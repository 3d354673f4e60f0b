-- Each chain that tokens spell has operators of its level.
use Rattle.std.proofs.Common.{ℕ, suc, ◌+◌, Bool, true, false, if◌then◌else◌, List, [], ◌∷◌, ◌++◌}
use Rattle.std.specs.List.{All, Contains}
use Rattle.std.proofs.lemmas.List.Elements.{All-nil, All-cons, All-append, All-contains}
use Rattle.spec_lexer.specs.declared.token.Token.{Token}
use Rattle.syntax_tree.specs.declared.tree.Level.{Level}
use Rattle.syntax_tree.specs.Tree as tree
use Rattle.syntax_tree.specs.Tree.{Expr, Exprs, no_exprs, more_exprs, Links, no_links, more_links, place_of, Body, Definitions, Item}
use Rattle.spec_parser.specs.Grammar as grammar
use Rattle.spec_parser.specs.Grammar.{chained, IsExpr, IsLevel, AreLinks, IsOperand, IsUnary, IsPrimary, AreOthers, IsBody, AreDefinitions, IsItem, Spells}
use Rattle.spec_parser.proofs.Operators.{operator_level}
use Rattle.spec_parser.specs.declared.limits.TheConstants.{MOST_LEVELS}
use Rattle.name_check.specs.Builtin.{is_lift}
use Rattle.name_check.specs.Scope.{Scope, count_in, inside, in_block, top}
use Rattle.name_check.specs.Parts.{Part, Operand, Function, parts, argument_parts, lift_parts, link_parts}
use Rattle.name_check.specs.Bodies.{Seen, bodies, block_bodies, item_bodies}
use Rattle.checked_spec.specs.inner.Formed.{AreOfLevel, HasItsOperators, HaveTheirOperators}

-- ---- what stands in an expression has operators of its level
abbrev PartHas : Part → Type 0
PartHas (Operand e) = HasItsOperators e
PartHas (Function e) = Unit {0}

abbrev Has : Expr → Type 0
Has e = All PartHas (parts e)

abbrev AllHave : Exprs → Type 0
AllHave no_exprs = Unit {0}
AllHave (more_exprs e es) = Has e × AllHave es

abbrev LinksHave : Links → Type 0
LinksHave ls = All PartHas (link_parts ls)

-- it does where it has them itself, and all other parts have theirs
has : (e : Expr) (inner : List Part) → HasItsOperators e → All PartHas inner → All PartHas (Operand e ∷ inner)
has e inner own others = All-cons PartHas (Operand e) inner own others

alone : (e : Expr) → HasItsOperators e → All PartHas (Operand e ∷ [])
alone e own = has e [] own (All-nil PartHas)

both : (xs ys : List Part) → All PartHas xs → All PartHas ys → All PartHas (xs ++ ys)
both xs ys h k = All-append PartHas xs ys h k

-- ---- arguments
arguments_have : (es : Exprs) → AllHave es → All PartHas (argument_parts es)
arguments_have no_exprs h = All-nil PartHas
arguments_have (more_exprs e es) h = both (parts e) (argument_parts es) h.0 (arguments_have es h.1)

lifted_have : (es : Exprs) → AllHave es → All PartHas (lift_parts es)
lifted_have no_exprs h = All-nil PartHas
lifted_have (more_exprs e no_exprs) h = All-cons PartHas (Function e) [] tt (All-nil PartHas)
lifted_have (more_exprs e (more_exprs f es)) h = both (parts e) (lift_parts (more_exprs f es)) h.0 (lifted_have (more_exprs f es) h.1)

one_have : (b : Bool) (es : Exprs) → AllHave es → All PartHas (if b then lift_parts es else argument_parts es)
one_have true es h = lifted_have es h
one_have false es h = arguments_have es h

-- ---- chains
chain_has : (l : Level) (e : Expr) (ls : Links) → Has e → AreOfLevel l ls → LinksHave ls → Has (chained l e ls)
chain_has l e no_links first own others = first
chain_has l e (more_links o f ls) first own others =
    has (tree.Chain (place_of e) l e (more_links o f ls)) (parts e ++ link_parts (more_links o f ls)) own (both (parts e) (link_parts (more_links o f ls)) first others)

-- ---- expressions
mutual
  expr_has : {room : ℕ} {ts rest : List Token} {e : Expr} → IsExpr room ts e rest → Has e
  expr_has (grammar.choice {t = t} {c = c} {a = a} {b = b} is condition is_then first is_else second) =
      has (tree.If t.place c a b) (parts c ++ parts a ++ parts b) tt (both (parts c ++ parts a) (parts b) (both (parts c) (parts a) (expr_has condition) (expr_has first)) (expr_has second))
  expr_has (grammar.chain l) = level_has l

  level_has : {l : Level} {room : ℕ} {ts rest : List Token} {e : Expr} → IsLevel l room ts e rest → Has e
  level_has (grammar.operands {l = l} {e = e} {ls = ls} first links) =
      let others = links_have links in chain_has l e ls (operand_has first) others.0 others.1

  links_have : {l : Level} {room : ℕ} {ts rest : List Token} {ls : Links} → AreLinks l room ts ls rest → AreOfLevel l ls × LinksHave ls
  links_have (grammar.no_link past) = (tt, All-nil PartHas)
  links_have (grammar.one_link {l = l} {t = t} {o = o} {e = e} {ls = ls} is operand links) =
      let others = links_have links in
      ((operator_level l t.kind t.first o is, others.0), both (parts e) (link_parts ls) (operand_has operand) others.1)

  operand_has : {l : Level} {room : ℕ} {ts rest : List Token} {e : Expr} → IsOperand l room ts e rest → Has e
  operand_has (grammar.conjunction l) = level_has l
  operand_has (grammar.no_comparison l past) = level_has l
  operand_has (grammar.comparison {o = o} {a = a} {b = b} left is right) =
      has (tree.Compare (place_of a) o a b) (parts a ++ parts b) tt (both (parts a) (parts b) (level_has left) (level_has right))
  operand_has (grammar.product l) = level_has l
  operand_has (grammar.unary u) = unary_has u

  unary_has : {room : ℕ} {ts rest : List Token} {e : Expr} → IsUnary room ts e rest → Has e
  unary_has (grammar.negative {t = t} {n = n} minus is) = alone (tree.Negative t.place n) tt
  unary_has (grammar.negate {t = t} {e = e} minus past u) = has (tree.Negate t.place e) (parts e) tt (unary_has u)
  unary_has (grammar.negation {t = t} {e = e} is u) = has (tree.Not t.place e) (parts e) tt (unary_has u)
  unary_has (grammar.primary p) = primary_has p

  primary_has : {room : ℕ} {ts rest : List Token} {e : Expr} → IsPrimary room ts e rest → Has e
  primary_has (grammar.number {t = t} {n = n} is) = alone (tree.Number t.place n) tt
  primary_has (grammar.text {t = t} {n = n} is) = alone (tree.Text t.place n) tt
  primary_has (grammar.truth {t = t} is) = alone (tree.Boolean t.place true) tt
  primary_has (grammar.falsity {t = t} is) = alone (tree.Boolean t.place false) tt
  primary_has (grammar.parens opens inner closes) = expr_has inner
  primary_has (grammar.nothing {t = t} opens closes) = alone (tree.Unit t.place) tt
  primary_has (grammar.name {t = t} {n = n} is past) = alone (tree.Name t.place n) tt
  primary_has (grammar.call {t = t} {n = n} {e = e} {es = es} is opens first others closes) =
      let all : AllHave (more_exprs e es) = (expr_has first, others_have others) in
      has (tree.Call t.place n (more_exprs e es)) (if is_lift n then lift_parts (more_exprs e es) else argument_parts (more_exprs e es)) tt (one_have (is_lift n) (more_exprs e es) all)
  primary_has (grammar.call_dotted {t = t} {o = o} {e = e} {es = es} is dot member opens first others closes) =
      let all : AllHave (more_exprs e es) = (expr_has first, others_have others) in
      has (tree.CallDotted t.place o (more_exprs e es)) (argument_parts (more_exprs e es)) tt (arguments_have (more_exprs e es) all)
  primary_has (grammar.nil {t = t} {y = y} is opens of closes) = alone (tree.Nil t.place y) tt
  primary_has (grammar.none {t = t} {y = y} is opens of closes) = alone (tree.None t.place y) tt
  primary_has (grammar.empty_aggregate {t = t} {a = a} is dot member of) = alone (tree.Empty t.place a) tt

  others_have : {room : ℕ} {ts rest : List Token} {es : Exprs} → AreOthers room ts es rest → AllHave es
  others_have (grammar.no_other past) = tt
  others_have (grammar.one_other comma e es) = (expr_has e, others_have es)

-- ---- bodies
abbrev SeenHas : Seen → Type 0
SeenHas seen = Has seen.expr

one_body : (scope : Scope) (e : Expr) → Has e → All SeenHas (record { scope = scope; expr = e } ∷ [])
one_body scope e h = All-cons SeenHas (record { scope = scope; expr = e }) [] h (All-nil SeenHas)

mutual
  body_has : {room : ℕ} {ts rest : List Token} {b : Body} → IsBody room ts b rest → (k : ℕ) (scope : Scope) → All SeenHas (bodies k scope b)
  body_has (grammar.plain {e = e} d) k scope = one_body scope e (expr_has d)
  body_has (grammar.block {ds = ds} {e = e} opens definitions result closes) k scope =
      let inner = in_block k scope ds in
      All-append SeenHas (block_bodies k inner ds) (record { scope = inner; expr = e } ∷ []) (definitions_have definitions k inner) (one_body inner e (expr_has result))

  definitions_have : {room : ℕ} {ts rest : List Token} {ds : Definitions} → AreDefinitions room ts ds rest → (k : ℕ) (scope : Scope) → All SeenHas (block_bodies k scope ds)
  definitions_have (grammar.no_definition past) k scope = All-nil SeenHas
  definitions_have (grammar.one_definition {b = b} {ds = ds} is name written defines body definitions) k scope =
      All-append SeenHas (bodies (suc k) scope b) (block_bodies (suc k + count_in b) scope ds) (body_has body (suc k) scope) (definitions_have definitions (suc k + count_in b) scope)

-- ---- items, whatever is seen at the top
abbrev ItemHas : Item → Type 0
ItemHas item = (scope : Scope) → All SeenHas (item_bodies scope item)

item_has : {room : ℕ} {ts rest : List Token} {i : Item} → IsItem room ts i rest → ItemHas i
item_has (grammar.input is name colon of) scope = All-nil SeenHas
item_has (grammar.definition {ps = ps} is name params written defines body) scope = body_has body 0 (inside scope ps)
item_has (grammar.output {p = p} {n = n} is name past) scope = one_body scope (tree.Name p n) (alone (tree.Name p n) tt)
item_has (grammar.output_as {e = e} is d as_word name) scope = one_body scope e (expr_has d)

items_have : {room : ℕ} {ts : List Token} {items : List Item} → Spells room ts items → All ItemHas items
items_have grammar.empty = All-nil ItemHas
items_have (grammar.item {i = i} {items = items} first others) = All-cons ItemHas i items (item_has first) (items_have others)

pub spelled_have_operators : (tokens : List Token) (items : List Item) → Spells MOST_LEVELS tokens items → HaveTheirOperators items
spelled_have_operators tokens items spelled = record { each = each }
  where
    each : (item : Item) (seen : Seen) (e : Expr) → Contains items item → Contains (item_bodies (top items) item) seen → Contains (parts seen.expr) (Operand e) → HasItsOperators e
    each item seen e in_items in_item in_body =
        let item_all : ItemHas item = All-contains ItemHas items item (items_have spelled) in_items in
        let seen_all : Has seen.expr = All-contains SeenHas (item_bodies (top items) item) seen (item_all (top items)) in_item in
        All-contains PartHas (parts seen.expr) (Operand e) seen_all in_body
