-- Names of items are names of their tokens.
use Rattle.std.proofs.Common.{◌≡◌, ℕ, suc, List, [], ◌∷◌, ◌++◌, Option, subst}
use Rattle.std.specs.List.{AllByRecursion}
use Rattle.spec_lexer.specs.declared.token.Token.{Token}
use Rattle.spec_lexer.specs.declared.token.TokenKind.TheVariants as kind
use Rattle.token_reader.specs.inner.Reader.{Read}
use Rattle.token_reader.proofs.LocalLaws.{Leads}
use Rattle.syntax_tree.specs.declared.tree.Level.{Level}
use Rattle.syntax_tree.specs.Tree as tree
use Rattle.syntax_tree.specs.Tree.{TypeName, Expr, Links, no_links, more_links, Param, Body, Definitions, Item}
use Rattle.spec_parser.specs.Grammar as grammar
use Rattle.spec_parser.specs.Grammar.{chained, IsType, IsExpr, IsLevel, IsOperand, IsUnary, IsPrimary, IsParam, AreOtherParams, MayHaveParams, MayHaveType, IsBody, AreDefinitions, IsItem, Spells}
use Rattle.spec_parser.specs.inner.Reading.{type_in, within}
use Rattle.spec_parser.proofs.Ends.{signs}
use Rattle.spec_parser.proofs.TypeLaws.{type_fine}
use Rattle.spec_parser.proofs.LevelLaws.{within_known}
use Rattle.spec_parser.proofs.Complete.{type_complete, expr_complete}

-- ---- what is read is a front of the tokens
record Ends (ts rest : List Token) : Type 0 where
  front : List Token
  whole : ts ≡ front ++ rest

type_ends : {room : ℕ} {ts rest : List Token} {y : TypeName} → IsType room ts y rest → Ends ts rest
type_ends {room} {ts} {rest} {y} d =
    let leads : Leads signs (type_in (suc room)) ts (Read y rest) = subst (Leads signs (type_in (suc room)) ts) (type_complete d) ((type_fine (suc room)).local ts) in
    record { front = leads.front; whole = leads.whole }

expr_ends : {room : ℕ} {ts rest : List Token} {e : Expr} → IsExpr room ts e rest → Ends ts rest
expr_ends {room} {ts} {rest} {e} d =
    let leads : Leads signs (within (suc room)) ts (Read e rest) = subst (Leads signs (within (suc room)) ts) (expr_complete d) ((within_known (suc room)).fine.local ts) in
    record { front = leads.front; whole = leads.whole }

-- Q holds of tokens by their names
module _ (Q : List ℕ → Type 0) where
  abbrev NamedToken : Token → Type 0
  NamedToken t = (n : List ℕ) → t.kind ≡ kind.Name n → Q n

  abbrev AllNamed : List Token → Type 0
  AllNamed ts = AllByRecursion NamedToken ts

  all_after : (front rest : List Token) → AllNamed (front ++ rest) → AllNamed rest
  all_after [] rest all = all
  all_after (t ∷ front) rest all = all_after front rest all.1

  past : {ts rest : List Token} → Ends ts rest → AllNamed ts → AllNamed rest
  past {ts} {rest} ends all = all_after ends.front rest (subst AllNamed ends.whole all)

  param_past : {room : ℕ} {ts rest : List Token} {p : Param} → IsParam room ts p rest → AllNamed ts → AllNamed rest
  param_past (grammar.param is colon of) all = past (type_ends of) all.1.1

  others_past : {room : ℕ} {ts rest : List Token} {ps : List Param} → AreOtherParams room ts ps rest → AllNamed ts → AllNamed rest
  others_past (grammar.no_param next) all = all
  others_past (grammar.one_param comma first others) all = others_past others (param_past first all.1)

  params_past : {room : ℕ} {ts rest : List Token} {ps : List Param} → MayHaveParams room ts ps rest → AllNamed ts → AllNamed rest
  params_past (grammar.without_params next) all = all
  params_past (grammar.with_params opens first others closes) all = (others_past others (param_past first all.1)).1

  written_past : {room : ℕ} {ts rest : List Token} {w : Option TypeName} → MayHaveType room ts w rest → AllNamed ts → AllNamed rest
  written_past (grammar.without_type next) all = all
  written_past (grammar.with_type colon of) all = past (type_ends of) all.1

  mutual
    body_past : {room : ℕ} {ts rest : List Token} {b : Body} → IsBody room ts b rest → AllNamed ts → AllNamed rest
    body_past (grammar.plain e) all = past (expr_ends e) all
    body_past (grammar.block opens inner result closes) all = (past (expr_ends result) (definitions_past inner all.1)).1

    definitions_past : {room : ℕ} {ts rest : List Token} {ds : Definitions} → AreDefinitions room ts ds rest → AllNamed ts → AllNamed rest
    definitions_past (grammar.no_definition next) all = all
    definitions_past (grammar.one_definition is name written defines body others) all =
        definitions_past others (body_past body (written_past written all.1.1).1)

  -- ---- an expression that is only a name
  abbrev NamedExpr : Expr → Type 0
  NamedExpr (tree.Name p n) = Q n
  NamedExpr e = Unit {0}

  chain_named : (l : Level) (e : Expr) (ls : Links) → NamedExpr e → NamedExpr (chained l e ls)
  chain_named l e no_links h = h
  chain_named l e (more_links o f ls) h = tt

  mutual
    expr_named : {room : ℕ} {ts rest : List Token} {e : Expr} → IsExpr room ts e rest → AllNamed ts → NamedExpr e
    expr_named (grammar.choice is condition is_then first is_else second) all = tt
    expr_named (grammar.chain level) all = level_named level all

    level_named : {l : Level} {room : ℕ} {ts rest : List Token} {e : Expr} → IsLevel l room ts e rest → AllNamed ts → NamedExpr e
    level_named (grammar.operands {l = l} {e = e} {ls = ls} first links) all = chain_named l e ls (operand_named first all)

    operand_named : {l : Level} {room : ℕ} {ts rest : List Token} {e : Expr} → IsOperand l room ts e rest → AllNamed ts → NamedExpr e
    operand_named (grammar.conjunction level) all = level_named level all
    operand_named (grammar.no_comparison level next) all = level_named level all
    operand_named (grammar.comparison left is right) all = tt
    operand_named (grammar.product level) all = level_named level all
    operand_named (grammar.unary u) all = unary_named u all

    unary_named : {room : ℕ} {ts rest : List Token} {e : Expr} → IsUnary room ts e rest → AllNamed ts → NamedExpr e
    unary_named (grammar.negative minus is) all = tt
    unary_named (grammar.negate minus next u) all = tt
    unary_named (grammar.negation is u) all = tt
    unary_named (grammar.primary p) all = primary_named p all

    primary_named : {room : ℕ} {ts rest : List Token} {e : Expr} → IsPrimary room ts e rest → AllNamed ts → NamedExpr e
    primary_named (grammar.number is) all = tt
    primary_named (grammar.text is) all = tt
    primary_named (grammar.truth is) all = tt
    primary_named (grammar.falsity is) all = tt
    primary_named (grammar.parens opens inner closes) all = expr_named inner all.1
    primary_named (grammar.nothing opens closes) all = tt
    primary_named (grammar.name {n = n} is next) all = all.0 n is
    primary_named (grammar.call is opens first others closes) all = tt
    primary_named (grammar.call_dotted is dot member opens first others closes) all = tt
    primary_named (grammar.nil is opens of closes) all = tt
    primary_named (grammar.none is opens of closes) all = tt
    primary_named (grammar.empty_aggregate is dot member of) all = tt

  -- ---- items: the name that each declares, or under which it prints
  abbrev pub NamedItem : Item → Type 0
  NamedItem (tree.Input p q n y) = Q n
  NamedItem (tree.Defined p (tree.Define q n ps w b)) = Q n
  NamedItem (tree.Output p q n) = Q n
  NamedItem (tree.OutputAs p e q n) = Q n

  item_named : {room : ℕ} {ts rest : List Token} {i : Item} → IsItem room ts i rest → AllNamed ts → NamedItem i × AllNamed rest
  item_named (grammar.input {n = n} is name colon of) all = (all.1.0 n name, past (type_ends of) all.1.1.1)
  item_named (grammar.definition {n = n} is name params written defines body) all =
      (all.1.0 n name, body_past body (written_past written (params_past params all.1.1)).1)
  item_named (grammar.output is name next) all = (expr_named name all.1, all.1.1)
  item_named (grammar.output_as {n = n} is e as_word name) all = let after = past (expr_ends e) all.1 in (after.1.0 n name, after.1.1)

  pub items_named : {room : ℕ} {ts : List Token} {items : List Item} → Spells room ts items → AllNamed ts → AllByRecursion NamedItem items
  items_named grammar.empty all = tt
  items_named (grammar.item first others) all = let one = item_named first all in (one.0, items_named others one.1)
