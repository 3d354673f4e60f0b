-- What printable tokens spell fits.
use Rattle.std.proofs.Common.{ℕ, suc, ◌≤◌, List, Option, refl, sym, ap, subst, ◌∙◌, inl, inr, arith}
use Rattle.std.proofs.lemmas.Bool.{cases_Bool, le-leb, leb-true}
use Rattle.spec_lexer.specs.declared.token.Token.{Token}
use Rattle.spec_lexer.specs.declared.token.TokenKind.TheVariants as kind
use Rattle.syntax_tree.specs.declared.tree.Level.{Level}
use Rattle.syntax_tree.specs.Tree as tree
use Rattle.syntax_tree.specs.Tree.{TypeName, Aggregate, Expr, Exprs, Links, no_links, more_links, Param, Body, Definitions, Item}
use Rattle.spec_parser.specs.Words.{is_number}
use Rattle.spec_parser.specs.Grammar as grammar
use Rattle.spec_parser.specs.Grammar.{IsPast, IsType, IsAggregate, chained, IsExpr, IsLevel, AreLinks, IsOperand, IsUnary, IsPrimary, AreOthers, IsParam, AreOtherParams, MayHaveParams, MayHaveType, IsBody, AreDefinitions, IsItem, Spells}
use Rattle.spec_parser.proofs.Operators.{operator_level}
use Rattle.spec_printer.specs.inner.Print.{level_strength, strength, least_operand, least_negated, holds}
use Rattle.spec_printer.proofs.Printable.{Printable}
use Rattle.spec_printer.proofs.Lexing.{TokensPrintable}
use Rattle.spec_printer.proofs.Fits as fits
use Rattle.spec_printer.proofs.Fits.{FitsType, FitsAggregate, Fits, FitsAt, FitExprs, FitLinks, FitsParam, FitParams, MayFitParams, MayFitType, FitsBody, FitDefinitions, FitsItem, FitItems}

-- ---- more levels
mutual
  more_room_type : {room : ℕ} {y : TypeName} → FitsType room y → FitsType (suc room) y
  more_room_type fits.unit = fits.unit
  more_room_type fits.int = fits.int
  more_room_type fits.bool = fits.bool
  more_room_type fits.string = fits.string
  more_room_type (fits.aggregate a) = fits.aggregate (more_room_aggregate a)
  more_room_type (fits.option y) = fits.option (more_room_type y)
  more_room_type (fits.events y) = fits.events (more_room_type y)

  more_room_aggregate : {room : ℕ} {a : Aggregate} → FitsAggregate room a → FitsAggregate (suc room) a
  more_room_aggregate (fits.set y) = fits.set (more_room_type y)
  more_room_aggregate (fits.map x y) = fits.map (more_room_type x) (more_room_type y)
  more_room_aggregate (fits.queue y) = fits.queue (more_room_type y)

mutual
  more_room : {room : ℕ} {e : Expr} → Fits room e → Fits (suc room) e
  more_room (fits.choice c a b) = fits.choice (more_room c) (more_room a) (more_room b)
  more_room (fits.chain e ls) = fits.chain (more_room_at e) (more_room_links ls)
  more_room (fits.comparison a b) = fits.comparison (more_room_at a) (more_room_at b)
  more_room (fits.negate e) = fits.negate (more_room_at e)
  more_room (fits.negation e) = fits.negation (more_room_at e)
  more_room (fits.number p) = fits.number p
  more_room (fits.negative p) = fits.negative p
  more_room (fits.text p) = fits.text p
  more_room fits.boolean = fits.boolean
  more_room fits.nothing = fits.nothing
  more_room (fits.name p) = fits.name p
  more_room (fits.call p e es) = fits.call p (more_room e) (more_room_exprs es)
  more_room (fits.call_dotted e es) = fits.call_dotted (more_room e) (more_room_exprs es)
  more_room (fits.nil y) = fits.nil (more_room_type y)
  more_room (fits.none y) = fits.none (more_room_type y)
  more_room (fits.empty a) = fits.empty (more_room_aggregate a)

  more_room_at : {least room : ℕ} {e : Expr} → FitsAt least room e → FitsAt least (suc room) e
  more_room_at (fits.as_it_is h e) = fits.as_it_is h (more_room e)
  more_room_at (fits.enclosed h e) = fits.enclosed h (more_room e)

  more_room_exprs : {room : ℕ} {es : Exprs} → FitExprs room es → FitExprs (suc room) es
  more_room_exprs fits.no_expr = fits.no_expr
  more_room_exprs (fits.one_expr e es) = fits.one_expr (more_room e) (more_room_exprs es)

  more_room_links : {l : Level} {room : ℕ} {ls : Links} → FitLinks l room ls → FitLinks l (suc room) ls
  more_room_links fits.no_link = fits.no_link
  more_room_links (fits.one_link is e ls) = fits.one_link is (more_room_at e) (more_room_links ls)

-- where a level more may be open, it is an operand of any place
at_any : (least : ℕ) {room : ℕ} (e : Expr) → Fits room e → FitsAt least (suc room) e
at_any least e f = elim (cases_Bool (holds least e)) [
  | inl h ↦ fits.as_it_is h (more_room f)
  | inr h ↦ fits.enclosed h f
]

weaker : (least other : ℕ) {room : ℕ} (e : Expr) → other ≤ least → FitsAt least room e → FitsAt other room e
weaker least other e within (fits.as_it_is h f) =
    let strong = leb-true least (strength e) h in
    fits.as_it_is (le-leb other (strength e) (omega arith)) f
weaker least other e within (fits.enclosed h f) = at_any other e f

alone : {least room : ℕ} {e : Expr} → FitsAt least room e → Fits room e
alone (fits.as_it_is h f) = f
alone (fits.enclosed h f) = more_room f

-- ---- chains
chained_fits : (l : Level) {room : ℕ} (e : Expr) (ls : Links) → FitsAt (least_operand l) room e → FitLinks l room ls → FitsAt (level_strength l) room (chained l e ls)
chained_fits l e no_links f links = weaker (least_operand l) (level_strength l) e (omega arith) f
chained_fits l e (more_links o g ls) f links = fits.as_it_is (le-leb (level_strength l) (level_strength l) (omega arith)) (fits.chain f links)

-- ---- types and expressions
mutual
  type_fits : {room : ℕ} {ts rest : List Token} {y : TypeName} → IsType room ts y rest → TokensPrintable ts → FitsType room y × TokensPrintable rest
  type_fits (grammar.unit is) h = (fits.unit, h.1)
  type_fits (grammar.int is) h = (fits.int, h.1)
  type_fits (grammar.bool is) h = (fits.bool, h.1)
  type_fits (grammar.string is) h = (fits.string, h.1)
  type_fits (grammar.aggregate t a) h = let f = aggregate_fits a h.1 in (fits.aggregate f.0, f.1)
  type_fits (grammar.option t u y v) h = let f = type_fits y h.1.1 in (fits.option f.0, f.1.1)
  type_fits (grammar.events t u y v) h = let f = type_fits y h.1.1 in (fits.events f.0, f.1.1)

  aggregate_fits : {room : ℕ} {ts rest : List Token} {a : Aggregate} → IsAggregate room ts a rest → TokensPrintable ts → FitsAggregate room a × TokensPrintable rest
  aggregate_fits (grammar.set u y v) h = let f = type_fits y h.1 in (fits.set f.0, f.1.1)
  aggregate_fits (grammar.queue u y v) h = let f = type_fits y h.1 in (fits.queue f.0, f.1.1)
  aggregate_fits (grammar.map u x c y v) h = let f = type_fits x h.1 in let g = type_fits y f.1.1 in (fits.map f.0 g.0, g.1.1)

mutual
  expr_fits : {room : ℕ} {ts rest : List Token} {e : Expr} → IsExpr room ts e rest → TokensPrintable ts → Fits room e × TokensPrintable rest
  expr_fits (grammar.choice t c u a v b) h =
      let f = expr_fits c h.1 in
      let g = expr_fits a f.1.1 in
      let k = expr_fits b g.1.1 in
      (fits.choice f.0 g.0 k.0, k.1)
  expr_fits (grammar.chain l) h = let f = level_fits l h in (alone f.0, f.1)

  level_fits : {l : Level} {room : ℕ} {ts rest : List Token} {e : Expr} → IsLevel l room ts e rest → TokensPrintable ts → FitsAt (level_strength l) room e × TokensPrintable rest
  level_fits (grammar.operands {l = l} {e = e} {ls = ls} o links) h =
      let f = operand_fits o h in
      let g = links_fit links f.1 in
      (chained_fits l e ls f.0 g.0, g.1)

  links_fit : {l : Level} {room : ℕ} {ts rest : List Token} {ls : Links} → AreLinks l room ts ls rest → TokensPrintable ts → FitLinks l room ls × TokensPrintable rest
  links_fit (grammar.no_link past) h = (fits.no_link, h)
  links_fit (grammar.one_link {l = l} {t = t} {o = o} is e links) h =
      let f = operand_fits e h.1 in
      let g = links_fit links f.1 in
      (fits.one_link (operator_level l t.kind t.first o is) f.0 g.0, g.1)

  operand_fits : {l : Level} {room : ℕ} {ts rest : List Token} {e : Expr} → IsOperand l room ts e rest → TokensPrintable ts → FitsAt (least_operand l) room e × TokensPrintable rest
  operand_fits (grammar.conjunction l) h = level_fits l h
  operand_fits (grammar.no_comparison {e = e} l past) h = let f = level_fits l h in (weaker 4 3 e (omega arith) f.0, f.1)
  operand_fits (grammar.comparison a is b) h =
      let f = level_fits a h in
      let g = level_fits b f.1.1 in
      (fits.as_it_is refl (fits.comparison f.0 g.0), g.1)
  operand_fits (grammar.product l) h = level_fits l h
  operand_fits (grammar.unary u) h = unary_fits u h

  unary_fits : {room : ℕ} {ts rest : List Token} {e : Expr} → IsUnary room ts e rest → TokensPrintable ts → FitsAt 6 room e × TokensPrintable rest
  unary_fits (grammar.negative t is) h = (fits.as_it_is refl (fits.negative (subst Printable is h.1.0)), h.1.1)
  unary_fits (grammar.negate t past u) h = let f = unary_fits u h.1 in (fits.as_it_is refl (fits.negate (negated_fits u past h.1 f.0)), f.1)
  unary_fits (grammar.negation t u) h = let f = unary_fits u h.1 in (fits.as_it_is refl (fits.negation f.0), f.1)
  unary_fits (grammar.primary {e = e} p) h = let f = primary_fits p h in (weaker 7 6 e (omega arith) f.0, f.1)

  -- a number after a prefix minus stands in parentheses
  negated_fits : {room : ℕ} {ts rest : List Token} {e : Expr} → IsUnary room ts e rest → IsPast is_number ts → TokensPrintable ts → FitsAt 6 room e → FitsAt (least_negated e) room e
  negated_fits (grammar.negative t is) past h f = f
  negated_fits (grammar.negate t q u) past h f = f
  negated_fits (grammar.negation t u) past h f = f
  negated_fits (grammar.primary p) past h f = negated_primary p past h f

  negated_primary : {room : ℕ} {ts rest : List Token} {e : Expr} → IsPrimary room ts e rest → IsPast is_number ts → TokensPrintable ts → FitsAt 6 room e → FitsAt (least_negated e) room e
  negated_primary (grammar.number is) past h f = let clash = sym past ∙ ap is_number is in cc
  negated_primary (grammar.parens {e = e} t x v) past h f = at_any (least_negated e) e (expr_fits x h.1).0
  negated_primary (grammar.text is) past h f = f
  negated_primary (grammar.truth is) past h f = f
  negated_primary (grammar.falsity is) past h f = f
  negated_primary (grammar.nothing t v) past h f = f
  negated_primary (grammar.name is q) past h f = f
  negated_primary (grammar.call is o e es v) past h f = f
  negated_primary (grammar.call_dotted t d m o e es v) past h f = f
  negated_primary (grammar.nil t u y v) past h f = f
  negated_primary (grammar.none t u y v) past h f = f
  negated_primary (grammar.empty_aggregate t d m a) past h f = f

  primary_fits : {room : ℕ} {ts rest : List Token} {e : Expr} → IsPrimary room ts e rest → TokensPrintable ts → FitsAt 7 room e × TokensPrintable rest
  primary_fits (grammar.number is) h = (fits.as_it_is refl (fits.number (subst Printable is h.0)), h.1)
  primary_fits (grammar.text is) h = (fits.as_it_is refl (fits.text (subst Printable is h.0)), h.1)
  primary_fits (grammar.truth is) h = (fits.as_it_is refl fits.boolean, h.1)
  primary_fits (grammar.falsity is) h = (fits.as_it_is refl fits.boolean, h.1)
  primary_fits (grammar.parens {e = e} t x v) h = let f = expr_fits x h.1 in (at_any 7 e f.0, f.1.1)
  primary_fits (grammar.nothing t v) h = (fits.as_it_is refl fits.nothing, h.1.1)
  primary_fits (grammar.name is past) h = (fits.as_it_is refl (fits.name (subst Printable is h.0)), h.1)
  primary_fits (grammar.call is o e es v) h =
      let f = expr_fits e h.1.1 in
      let g = others_fit es f.1 in
      (fits.as_it_is refl (fits.call (subst Printable is h.0) f.0 g.0), g.1.1)
  primary_fits (grammar.call_dotted t d m o e es v) h =
      let f = expr_fits e h.1.1.1.1 in
      let g = others_fit es f.1 in
      (fits.as_it_is refl (fits.call_dotted f.0 g.0), g.1.1)
  primary_fits (grammar.nil t u y v) h = let f = type_fits y h.1.1 in (fits.as_it_is refl (fits.nil f.0), f.1.1)
  primary_fits (grammar.none t u y v) h = let f = type_fits y h.1.1 in (fits.as_it_is refl (fits.none f.0), f.1.1)
  primary_fits (grammar.empty_aggregate t d m a) h = let f = aggregate_fits a h.1.1.1 in (fits.as_it_is refl (fits.empty f.0), f.1)

  others_fit : {room : ℕ} {ts rest : List Token} {es : Exprs} → AreOthers room ts es rest → TokensPrintable ts → FitExprs room es × TokensPrintable rest
  others_fit (grammar.no_other past) h = (fits.no_expr, h)
  others_fit (grammar.one_other t e es) h =
      let f = expr_fits e h.1 in
      let g = others_fit es f.1 in
      (fits.one_expr f.0 g.0, g.1)

-- ---- definitions and items
param_fits : {room : ℕ} {ts rest : List Token} {p : Param} → IsParam room ts p rest → TokensPrintable ts → FitsParam room p × TokensPrintable rest
param_fits (grammar.param is c y) h = let f = type_fits y h.1.1 in (fits.param (subst Printable is h.0) f.0, f.1)

other_params_fit : {room : ℕ} {ts rest : List Token} {ps : List Param} → AreOtherParams room ts ps rest → TokensPrintable ts → FitParams room ps × TokensPrintable rest
other_params_fit (grammar.no_param past) h = (fits.no_param, h)
other_params_fit (grammar.one_param t p ps) h =
    let f = param_fits p h.1 in
    let g = other_params_fit ps f.1 in
    (fits.one_param f.0 g.0, g.1)

params_fit : {room : ℕ} {ts rest : List Token} {ps : List Param} → MayHaveParams room ts ps rest → TokensPrintable ts → MayFitParams room ps × TokensPrintable rest
params_fit (grammar.without_params past) h = (fits.without_params, h)
params_fit (grammar.with_params t p ps v) h =
    let f = param_fits p h.1 in
    let g = other_params_fit ps f.1 in
    (fits.with_params f.0 g.0, g.1.1)

written_fits : {room : ℕ} {ts rest : List Token} {w : Option TypeName} → MayHaveType room ts w rest → TokensPrintable ts → MayFitType room w × TokensPrintable rest
written_fits (grammar.without_type past) h = (fits.without_type, h)
written_fits (grammar.with_type t y) h = let f = type_fits y h.1 in (fits.with_type f.0, f.1)

mutual
  body_fits : {room : ℕ} {ts rest : List Token} {b : Body} → IsBody room ts b rest → TokensPrintable ts → FitsBody room b × TokensPrintable rest
  body_fits (grammar.plain e) h = let f = expr_fits e h in (fits.plain f.0, f.1)
  body_fits (grammar.block t ds e v) h =
      let f = definitions_fit ds h.1 in
      let g = expr_fits e f.1 in
      (fits.block f.0 g.0, g.1.1)

  definitions_fit : {room : ℕ} {ts rest : List Token} {ds : Definitions} → AreDefinitions room ts ds rest → TokensPrintable ts → FitDefinitions room ds × TokensPrintable rest
  definitions_fit (grammar.no_definition past) h = (fits.no_definition, h)
  definitions_fit (grammar.one_definition d is w a b ds) h =
      let f = written_fits w h.1.1 in
      let g = body_fits b f.1.1 in
      let k = definitions_fit ds g.1 in
      (fits.one_definition (subst Printable is h.1.0) f.0 g.0 k.0, k.1)

name_within : {room : ℕ} {n : List ℕ} {p : _} → Fits room (tree.Name p n) → Printable (kind.Name n)
name_within (fits.name h) = h

item_fits : {room : ℕ} {ts rest : List Token} {i : Item} → IsItem room ts i rest → TokensPrintable ts → FitsItem room i × TokensPrintable rest
item_fits (grammar.input t is c y) h = let f = type_fits y h.1.1.1 in (fits.input (subst Printable is h.1.0) f.0, f.1)
item_fits (grammar.definition d is ps w a b) h =
    let f = params_fit ps h.1.1 in
    let g = written_fits w f.1 in
    let k = body_fits b g.1.1 in
    (fits.definition (subst Printable is h.1.0) f.0 g.0 k.0, k.1)
item_fits (grammar.output t e past) h = let f = expr_fits e h.1 in (fits.output (name_within f.0), f.1)
item_fits (grammar.output_as t e a is) h = let f = expr_fits e h.1 in (fits.output_as (subst Printable is f.1.1.0) f.0, f.1.1.1)

pub items_fit : {room : ℕ} {ts : List Token} {items : List Item} → Spells room ts items → TokensPrintable ts → FitItems room items
items_fit grammar.empty h = fits.no_item
items_fit (grammar.item i is) h = let f = item_fits i h in fits.one_item f.0 (items_fit is f.1)
