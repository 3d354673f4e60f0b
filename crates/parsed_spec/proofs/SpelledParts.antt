-- What holds of each expression in the bodies of items that tokens spell, where something holds of the tokens.
use Rattle.std.proofs.Common.{◌≡◌, ℕ, suc, ◌+◌, Bool, true, false, if◌then◌else◌, List, [], ◌∷◌, ◌++◌, Option, Some, refl}
use Rattle.std.specs.List.{All, AllByRecursion, Contains}
use Rattle.std.proofs.lemmas.List.Elements.{All-nil, All-cons, All-append, All-contains}
use Rattle.tsl_value.specs.declared.place.Place.{Place}
use Rattle.spec_lexer.specs.declared.token.Token.{Token}
use Rattle.spec_lexer.specs.declared.token.TokenKind.TheVariants as kind
use Rattle.syntax_tree.specs.declared.tree.Level.{Level}
use Rattle.syntax_tree.specs.Tree as tree
use Rattle.syntax_tree.specs.Tree.{TypeName, Aggregate, Expr, Exprs, no_exprs, more_exprs, Links, no_links, more_links, place_of, Param, Body, Definitions, Item}
use Rattle.spec_parser.specs.Words.{operator_at}
use Rattle.spec_parser.specs.Grammar as grammar
use Rattle.spec_parser.specs.Grammar.{chained, IsType, IsAggregate, IsExpr, IsLevel, AreLinks, IsOperand, IsUnary, IsPrimary, AreOthers, IsParam, AreOtherParams, MayHaveParams, MayHaveType, IsBody, AreDefinitions, IsItem, Spells}
use Rattle.name_check.specs.Builtin.{is_lift}
use Rattle.name_check.specs.Scope.{Scope, count_in, inside, in_block, top}
use Rattle.name_check.specs.Parts.{Part, Operand, Function, parts, argument_parts, lift_parts, link_parts}
use Rattle.name_check.specs.Bodies.{Seen, bodies, block_bodies, item_bodies}

-- each operator is that of a token at the level
abbrev pub AreAtLevel : Level → Links → Type 0
AreAtLevel l no_links = Unit {0}
AreAtLevel l (more_links o e ls) = ((t : Token) × (operator_at l t.kind t.first ≡ Some o)) × AreAtLevel l ls

-- neither a text nor a chain
abbrev pub is_other : Expr → Bool
is_other (tree.Text p t) = false
is_other (tree.Chain p l e ls) = false
is_other e = true

-- P holds of an expression itself, where Q holds of its tokens
pub record FromTokens (Q : Token → Type 0) (P : Expr → Type 0) : Type 0 where
  pub text : (t : Token) (n : List ℕ) → Q t → t.kind ≡ kind.Text n → P (tree.Text t.place n)
  pub chain : (p : Place) (l : Level) (e : Expr) (ls : Links) → AreAtLevel l ls → P (tree.Chain p l e ls)
  pub other : (e : Expr) → is_other e ≡ true → P e

module _ (Q : Token → Type 0) (P : Expr → Type 0) (from : FromTokens Q P) where
  abbrev AllTokens : List Token → Type 0
  AllTokens ts = AllByRecursion Q ts

  abbrev PartHas : Part → Type 0
  PartHas (Operand e) = P e
  PartHas (Function e) = Unit {0}

  abbrev Has : List Part → Type 0
  Has ps = All PartHas ps

  -- the expressions of these parts have it, and the tokens after them are some of the others
  abbrev Reads : List Part → List Token → Type 0
  Reads ps rest = Has ps × AllTokens rest

  both : (xs ys : List Part) → Has xs → Has ys → Has (xs ++ ys)
  both xs ys h k = All-append PartHas xs ys h k

  made : (e : Expr) (inner : List Part) → is_other e ≡ true → Has inner → Has (Operand e ∷ inner)
  made e inner other h = All-cons PartHas (Operand e) inner (from.other e other) h

  alone : (e : Expr) → is_other e ≡ true → Has (Operand e ∷ [])
  alone e other = made e [] other (All-nil PartHas)

  -- ---- written types and parameters
  mutual
    type_rest : {room : ℕ} {ts rest : List Token} {y : TypeName} → AllTokens ts → IsType room ts y rest → AllTokens rest
    type_rest all (grammar.unit is) = all.1
    type_rest all (grammar.int is) = all.1
    type_rest all (grammar.bool is) = all.1
    type_rest all (grammar.string is) = all.1
    type_rest all (grammar.aggregate is of) = aggregate_rest all.1 of
    type_rest all (grammar.option is opens inner closes) = (type_rest all.1.1 inner).1
    type_rest all (grammar.events is opens inner closes) = (type_rest all.1.1 inner).1

    aggregate_rest : {room : ℕ} {ts rest : List Token} {a : Aggregate} → AllTokens ts → IsAggregate room ts a rest → AllTokens rest
    aggregate_rest all (grammar.set opens key closes) = (type_rest all.1 key).1
    aggregate_rest all (grammar.queue opens of closes) = (type_rest all.1 of).1
    aggregate_rest all (grammar.map opens key comma value closes) = (type_rest (type_rest all.1 key).1 value).1

  param_rest : {room : ℕ} {ts rest : List Token} {p : Param} → AllTokens ts → IsParam room ts p rest → AllTokens rest
  param_rest all (grammar.param is colon of) = type_rest all.1.1 of

  other_params_rest : {room : ℕ} {ts rest : List Token} {ps : List Param} → AllTokens ts → AreOtherParams room ts ps rest → AllTokens rest
  other_params_rest all (grammar.no_param past) = all
  other_params_rest all (grammar.one_param comma first more) = other_params_rest (param_rest all.1 first) more

  params_rest : {room : ℕ} {ts rest : List Token} {ps : List Param} → AllTokens ts → MayHaveParams room ts ps rest → AllTokens rest
  params_rest all (grammar.without_params past) = all
  params_rest all (grammar.with_params opens first more closes) = (other_params_rest (param_rest all.1 first) more).1

  written_rest : {room : ℕ} {ts rest : List Token} {w : Option TypeName} → AllTokens ts → MayHaveType room ts w rest → AllTokens rest
  written_rest all (grammar.without_type past) = all
  written_rest all (grammar.with_type colon of) = type_rest all.1 of

  -- ---- expressions
  abbrev AllHave : Exprs → Type 0
  AllHave no_exprs = Unit {0}
  AllHave (more_exprs e es) = Has (parts e) × AllHave es

  arguments_have : (es : Exprs) → AllHave es → Has (argument_parts es)
  arguments_have no_exprs h = All-nil PartHas
  arguments_have (more_exprs e es) h = both (parts e) (argument_parts es) h.0 (arguments_have es h.1)

  front_has : (es : Exprs) → AllHave es → Has (lift_parts es)
  front_has no_exprs h = All-nil PartHas
  front_has (more_exprs e no_exprs) h = All-cons PartHas (Function e) [] tt (All-nil PartHas)
  front_has (more_exprs e (more_exprs f es)) h = both (parts e) (lift_parts (more_exprs f es)) h.0 (front_has (more_exprs f es) h.1)

  called_have : (b : Bool) (es : Exprs) → AllHave es → Has (if b then lift_parts es else argument_parts es)
  called_have true es h = front_has es h
  called_have false es h = arguments_have es h

  chain_has : (l : Level) (e : Expr) (ls : Links) → Has (parts e) → AreAtLevel l ls → Has (link_parts ls) → Has (parts (chained l e ls))
  chain_has l e no_links first at others = first
  chain_has l e (more_links o f ls) first at others =
      All-cons PartHas (Operand (tree.Chain (place_of e) l e (more_links o f ls))) (parts e ++ link_parts (more_links o f ls)) (from.chain (place_of e) l e (more_links o f ls) at)
      (both (parts e) (link_parts (more_links o f ls)) first others)

  mutual
    expr_has : {room : ℕ} {ts rest : List Token} {e : Expr} → AllTokens ts → IsExpr room ts e rest → Reads (parts e) rest
    expr_has all (grammar.choice {t = t} {c = c} {a = a} {b = b} is condition is_then first is_else second) =
        let one = expr_has all.1 condition in
        let two = expr_has one.1.1 first in
        let three = expr_has two.1.1 second in
        (made (tree.If t.place c a b) (parts c ++ parts a ++ parts b) refl (both (parts c ++ parts a) (parts b) (both (parts c) (parts a) one.0 two.0) three.0), three.1)
    expr_has all (grammar.chain level) = level_has all level

    level_has : {l : Level} {room : ℕ} {ts rest : List Token} {e : Expr} → AllTokens ts → IsLevel l room ts e rest → Reads (parts e) rest
    level_has all (grammar.operands {l = l} {e = e} {ls = ls} first links) =
        let one = operand_has all first in
        let others = links_have one.1 links in
        (chain_has l e ls one.0 others.0 others.1.0, others.1.1)

    links_have : {l : Level} {room : ℕ} {ts rest : List Token} {ls : Links} → AllTokens ts → AreLinks l room ts ls rest → AreAtLevel l ls × (Reads (link_parts ls) rest)
    links_have all (grammar.no_link past) = (tt, (All-nil PartHas, all))
    links_have all (grammar.one_link {t = t} {e = e} {ls = ls} is operand links) =
        let one = operand_has all.1 operand in
        let others = links_have one.1 links in
        (((t, is), others.0), (both (parts e) (link_parts ls) one.0 others.1.0, others.1.1))

    operand_has : {l : Level} {room : ℕ} {ts rest : List Token} {e : Expr} → AllTokens ts → IsOperand l room ts e rest → Reads (parts e) rest
    operand_has all (grammar.conjunction level) = level_has all level
    operand_has all (grammar.no_comparison level past) = level_has all level
    operand_has all (grammar.comparison {o = o} {a = a} {b = b} left is right) =
        let one = level_has all left in
        let two = level_has one.1.1 right in
        (made (tree.Compare (place_of a) o a b) (parts a ++ parts b) refl (both (parts a) (parts b) one.0 two.0), two.1)
    operand_has all (grammar.product level) = level_has all level
    operand_has all (grammar.unary u) = unary_has all u

    unary_has : {room : ℕ} {ts rest : List Token} {e : Expr} → AllTokens ts → IsUnary room ts e rest → Reads (parts e) rest
    unary_has all (grammar.negative {t = t} {n = n} minus is) = (alone (tree.Negative t.place n) refl, all.1.1)
    unary_has all (grammar.negate {t = t} {e = e} minus past u) = let one = unary_has all.1 u in (made (tree.Negate t.place e) (parts e) refl one.0, one.1)
    unary_has all (grammar.negation {t = t} {e = e} is u) = let one = unary_has all.1 u in (made (tree.Not t.place e) (parts e) refl one.0, one.1)
    unary_has all (grammar.primary p) = primary_has all p

    primary_has : {room : ℕ} {ts rest : List Token} {e : Expr} → AllTokens ts → IsPrimary room ts e rest → Reads (parts e) rest
    primary_has all (grammar.number {t = t} {n = n} is) = (alone (tree.Number t.place n) refl, all.1)
    primary_has all (grammar.text {t = t} {n = n} is) = (All-cons PartHas (Operand (tree.Text t.place n)) [] (from.text t n all.0 is) (All-nil PartHas), all.1)
    primary_has all (grammar.truth {t = t} is) = (alone (tree.Boolean t.place true) refl, all.1)
    primary_has all (grammar.falsity {t = t} is) = (alone (tree.Boolean t.place false) refl, all.1)
    primary_has all (grammar.parens opens inner closes) = let one = expr_has all.1 inner in (one.0, one.1.1)
    primary_has all (grammar.nothing {t = t} opens closes) = (alone (tree.Unit t.place) refl, all.1.1)
    primary_has all (grammar.name {t = t} {n = n} is past) = (alone (tree.Name t.place n) refl, all.1)
    primary_has all (grammar.call {t = t} {n = n} {e = e} {es = es} is opens first others closes) =
        let one = expr_has all.1.1 first in
        let more = others_have one.1 others in
        (made (tree.Call t.place n (more_exprs e es)) (if is_lift n then lift_parts (more_exprs e es) else argument_parts (more_exprs e es)) refl (called_have (is_lift n) (more_exprs e es) (one.0, more.0)), more.1.1)
    primary_has all (grammar.call_dotted {t = t} {o = o} {e = e} {es = es} is dot member opens first others closes) =
        let one = expr_has all.1.1.1.1 first in
        let more = others_have one.1 others in
        (made (tree.CallDotted t.place o (more_exprs e es)) (argument_parts (more_exprs e es)) refl (arguments_have (more_exprs e es) (one.0, more.0)), more.1.1)
    primary_has all (grammar.nil {t = t} {y = y} is opens of closes) = (alone (tree.Nil t.place y) refl, (type_rest all.1.1 of).1)
    primary_has all (grammar.none {t = t} {y = y} is opens of closes) = (alone (tree.None t.place y) refl, (type_rest all.1.1 of).1)
    primary_has all (grammar.empty_aggregate {t = t} {a = a} is dot member of) = (alone (tree.Empty t.place a) refl, aggregate_rest all.1.1.1 of)

    others_have : {room : ℕ} {ts rest : List Token} {es : Exprs} → AllTokens ts → AreOthers room ts es rest → AllHave es × AllTokens rest
    others_have all (grammar.no_other past) = (tt, all)
    others_have all (grammar.one_other comma e es) =
        let one = expr_has all.1 e in
        let more = others_have one.1 es in
        ((one.0, more.0), more.1)

  -- ---- bodies
  abbrev SeenHas : Seen → Type 0
  SeenHas seen = Has (parts seen.expr)

  one_body : (scope : Scope) (e : Expr) → Has (parts e) → All SeenHas (record { scope = scope; expr = e } ∷ [])
  one_body scope e h = All-cons SeenHas (record { scope = scope; expr = e }) [] h (All-nil SeenHas)

  mutual
    body_has : {room : ℕ} {ts rest : List Token} {b : Body} → AllTokens ts → IsBody room ts b rest → ((k : ℕ) (scope : Scope) → All SeenHas (bodies k scope b)) × AllTokens rest
    body_has all (grammar.plain {e = e} d) = let one = expr_has all d in (λ k scope. one_body scope e one.0, one.1)
    body_has all (grammar.block {ds = ds} {e = e} opens definitions result closes) =
        let front = definitions_have all.1 definitions in
        let last = expr_has front.1 result in (
          λ k scope. All-append SeenHas (block_bodies k (in_block k scope ds) ds) (record { scope = in_block k scope ds; expr = e } ∷ []) (front.0 k (in_block k scope ds)) (one_body (in_block k scope ds) e last.0),
          last.1.1,
        )

    definitions_have : {room : ℕ} {ts rest : List Token} {ds : Definitions} → AllTokens ts → AreDefinitions room ts ds rest → ((k : ℕ) (scope : Scope) → All SeenHas (block_bodies k scope ds)) × AllTokens rest
    definitions_have all (grammar.no_definition past) = (λ k scope. All-nil SeenHas, all)
    definitions_have all (grammar.one_definition {b = b} {ds = ds} is name written defines body definitions) =
        let first = body_has (written_rest all.1.1 written).1 body in
        let more = definitions_have first.1 definitions in
        (λ k scope. All-append SeenHas (bodies (suc k) scope b) (block_bodies (suc k + count_in b) scope ds) (first.0 (suc k) scope) (more.0 (suc k + count_in b) scope), more.1)

  -- ---- items, whatever is seen at the top
  abbrev ItemHas : Item → Type 0
  ItemHas item = (scope : Scope) → All SeenHas (item_bodies scope item)

  item_has : {room : ℕ} {ts rest : List Token} {i : Item} → AllTokens ts → IsItem room ts i rest → ItemHas i × AllTokens rest
  item_has all (grammar.input is name colon of) = (λ scope. All-nil SeenHas, type_rest all.1.1.1 of)
  item_has all (grammar.definition {ps = ps} is name params written defines body) =
      let one = body_has (written_rest (params_rest all.1.1 params) written).1 body in
      (λ scope. one.0 0 (inside scope ps), one.1)
  item_has all (grammar.output {p = p} {n = n} is name past) = (λ scope. one_body scope (tree.Name p n) (alone (tree.Name p n) refl), all.1.1)
  item_has all (grammar.output_as {e = e} is d as_word name) = let one = expr_has all.1 d in (λ scope. one_body scope e one.0, one.1.1.1)

  items_have : {room : ℕ} {ts : List Token} {items : List Item} → AllTokens ts → Spells room ts items → All ItemHas items
  items_have all grammar.empty = All-nil ItemHas
  items_have all (grammar.item {i = i} {items = items} first others) = let one = item_has all first in All-cons ItemHas i items one.0 (items_have one.1 others)

  pub spelled_parts : {room : ℕ} {tokens : List Token} {items : List Item} → AllByRecursion Q tokens → Spells room tokens items → (item : Item) (seen : Seen) (e : Expr) → Contains items item → Contains (item_bodies (top items) item) seen → Contains (parts seen.expr) (Operand e) → P e
  spelled_parts {items = items} all spelled item seen e in_items in_item in_body =
      let item_all : ItemHas item = All-contains ItemHas items item (items_have all spelled) in_items in
      let seen_all : Has (parts seen.expr) = All-contains SeenHas (item_bodies (top items) item) seen (item_all (top items)) in_item in
      All-contains PartHas (parts seen.expr) (Operand e) seen_all in_body
