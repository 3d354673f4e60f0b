-- The tokens that follow the marks of definitions and items spell them again, places aside.
use Rattle.std.proofs.Common.{◌≡◌, ℕ, suc, ◌<◌, true, false, List, [], ◌∷◌, ◌++◌, map, Option, Some, None, refl, ap, arith}
use Rattle.spec_lexer.specs.declared.token.Token.{Token}
use Rattle.spec_lexer.specs.declared.token.Word.TheVariants as word
use Rattle.spec_lexer.specs.declared.token.Symbol.TheVariants as symbol
use Rattle.syntax_tree.specs.Tree as tree
use Rattle.syntax_tree.specs.Tree.{TypeName, Expr, Param, Body, Definition, Definitions, no_definitions, more_definitions, Item}
use Rattle.spec_parser.specs.Words.{is_open, is_colon, is_comma, is_def, is_as, defines}
use Rattle.spec_parser.specs.Grammar as grammar
use Rattle.spec_parser.specs.Grammar.{IsPast, IsExpr, IsParam, AreOtherParams, MayHaveParams, MayHaveType, IsBody, AreDefinitions, IsItem, Spells}
use Rattle.spec_printer.specs.inner.Same.{nowhere, bare_param, bare_written, bare_body, bare_definitions, bare_item}
use Rattle.spec_printer.specs.inner.Marks as mark
use Rattle.spec_printer.specs.inner.Marks.{Mark, line_end}
use Rattle.spec_printer.specs.inner.Follow.{Follow, nothing}
use Rattle.spec_printer.specs.inner.Print.{expr_marks, param_marks, param_marks_after, params_marks, written_marks, body_marks, definition_marks, definitions_marks, item_marks, items_marks}
use Rattle.spec_printer.proofs.Fits as fits
use Rattle.spec_printer.proofs.Fits.{Fits, FitsParam, FitParams, MayFitParams, MayFitType, FitsBody, FitDefinitions, FitsItem, FitItems}
use Rattle.spec_printer.proofs.Behind.{strength_after, follow_strength, past_name}
use Rattle.spec_printer.proofs.Again.{regroup, with_token, past_line, type_again, expr_again, weaker_by}
use Rattle.spec_printer.proofs.Begins.{begins, begins_append, begins_weak, begins_no_def}

-- ---- parameters and written types
abbrev ParamComes : ℕ → List Token → Param → List Mark → Type 0
ParamComes room ts p ms = (again : Param) × (rest : List Token) × IsParam room ts again rest × (bare_param again ≡ bare_param p) × Follow false ms rest

param_again : {room : ℕ} (p : Param) → FitsParam room p → (ms : List Mark) (ts : List Token) → Follow false (param_marks p ++ ms) ts → ParamComes room ts p ms
param_again {room = room} p (fits.param n f) ms ts h =
    with_token (λ ts. ParamComes room ts p ms) (λ t ts is first h.
    with_token (λ ts. ParamComes room (t ∷ ts) p ms) (λ c ts colon first h.
    let x = type_again f ms ts h in
    (record { place = t.place; name = p.name; of = x.0 }, x.1, grammar.param is colon x.2, (λ i. record { place = nowhere; name = p.name; of = x.3 i }), x.4)) ts h) ts h

abbrev OtherParamsCome : ℕ → List Token → List Param → List Mark → Type 0
OtherParamsCome room ts ps ms = (again : List Param) × (rest : List Token) × AreOtherParams room ts again rest × (map bare_param again ≡ map bare_param ps) × Follow false ms rest

other_params_again : {room : ℕ} {ps : List Param} → FitParams room ps → (ms : List Mark) (ts : List Token) → Follow false (param_marks_after symbol.Comma ps ++ (mark.symbol symbol.Close ∷ ms)) ts → OtherParamsCome room ts ps (mark.symbol symbol.Close ∷ ms)
other_params_again fits.no_param ms ts h = ([], ts, grammar.no_param (with_token (IsPast is_comma) (λ t rest is first h. ap is_comma is) ts h), refl, h)
other_params_again (fits.one_param {room = room} {p = p} {ps = ps} f g) ms ts h =
    with_token (λ ts. OtherParamsCome room ts (p ∷ ps) (mark.symbol symbol.Close ∷ ms)) (λ t ts is first h.
    let x = param_again p f (param_marks_after symbol.Comma ps ++ (mark.symbol symbol.Close ∷ ms)) ts (regroup (param_marks p) (param_marks_after symbol.Comma ps) (mark.symbol symbol.Close ∷ ms) h) in
    let y = other_params_again g ms x.1 x.4 in
    (x.0 ∷ y.0, y.1, grammar.one_param is x.2 y.2, (λ i. x.3 i ∷ y.3 i), y.4)) ts h

abbrev ParamsCome : ℕ → List Token → List Param → List Mark → Type 0
ParamsCome room ts ps ms = (again : List Param) × (rest : List Token) × MayHaveParams room ts again rest × (map bare_param again ≡ map bare_param ps) × Follow false ms rest

params_again : {room : ℕ} {ps : List Param} → MayFitParams room ps → (ms : List Mark) → ((ts : List Token) → Follow false ms ts → IsPast is_open ts) → (ts : List Token) → Follow false (params_marks ps ++ ms) ts → ParamsCome room ts ps ms
params_again fits.without_params ms past ts h = ([], ts, grammar.without_params (past ts h), refl, h)
params_again (fits.with_params {room = room} {p = p} {ps = ps} f g) ms past ts h =
    with_token (λ ts. ParamsCome (suc room) ts (p ∷ ps) ms) (λ t ts is first h.
    let grouped = regroup (param_marks p) (param_marks_after symbol.Comma ps) (mark.symbol symbol.Close ∷ ms) (regroup (param_marks p ++ param_marks_after symbol.Comma ps) (mark.symbol symbol.Close ∷ []) ms h) in
    let x = param_again p f (param_marks_after symbol.Comma ps ++ (mark.symbol symbol.Close ∷ ms)) ts grouped in
    let y = other_params_again g ms x.1 x.4 in
    with_token (λ rest. AreOtherParams room x.1 y.0 rest → ParamsCome (suc room) (t ∷ ts) (p ∷ ps) ms) (λ v rest close first h reads.
    (x.0 ∷ y.0, rest, grammar.with_params is x.2 reads close, (λ i. x.3 i ∷ y.3 i), h))
    y.1 y.4 y.2) ts h

abbrev WrittenComes : ℕ → List Token → Option TypeName → List Mark → Type 0
WrittenComes room ts w ms = (again : Option TypeName) × (rest : List Token) × MayHaveType room ts again rest × (bare_written again ≡ bare_written w) × Follow false ms rest

written_again : {room : ℕ} {w : Option TypeName} → MayFitType room w → (ms : List Mark) → ((ts : List Token) → Follow false ms ts → IsPast is_colon ts) → (ts : List Token) → Follow false (written_marks w ++ ms) ts → WrittenComes room ts w ms
written_again fits.without_type ms past ts h = (None, ts, grammar.without_type (past ts h), refl, h)
written_again (fits.with_type {room = room} {y = y} f) ms past ts h =
    with_token (λ ts. WrittenComes room ts (Some y) ms) (λ t ts is first h.
    let x = type_again f ms ts h in
    (Some x.0, x.1, grammar.with_type is x.2, ap Some x.3, x.4)) ts h

no_colon : (ms : List Mark) (ts : List Token) → Follow false (mark.symbol symbol.Define ∷ ms) ts → IsPast is_colon ts
no_colon ms = with_token (IsPast is_colon) (λ t rest is first h. ap is_colon is)

no_open : (w : Option TypeName) (ms : List Mark) (ts : List Token) → Follow false (written_marks w ++ (mark.symbol symbol.Define ∷ ms)) ts → IsPast is_open ts
no_open None ms = with_token (IsPast is_open) (λ t rest is first h. ap is_open is)
no_open (Some y) ms = with_token (IsPast is_open) (λ t rest is first h. ap is_open is)

-- ---- definitions
abbrev BodyComes : ℕ → List Token → Body → List Mark → Type 0
BodyComes room ts b ms = (again : Body) × (rest : List Token) × IsBody room ts again rest × (bare_body again ≡ bare_body b) × Follow false ms rest

abbrev BodyReturns : ℕ → Body → Type 0
BodyReturns room b = (ms : List Mark) (ts : List Token) → strength_after false ms < 1 → Follow false (body_marks b ++ ms) ts → BodyComes room ts b ms

-- a written type or none, and the body
abbrev TypedComes : ℕ → List Token → Option TypeName → Body → List Mark → Type 0
TypedComes room ts w b ms =
    (written : Option TypeName) × (a : Token) × (vs : List Token) × (body : Body) × (rest : List Token) × MayHaveType room ts written (a ∷ vs) × (defines a.kind ≡ true) × IsBody room vs body rest ×
    (bare_written written ≡ bare_written w) × (bare_body body ≡ bare_body b) × Follow false ms rest

typed_again : {room : ℕ} (w : Option TypeName) (b : Body) → MayFitType room w → BodyReturns room b → (ms : List Mark) (ts : List Token) → strength_after false ms < 1 → Follow false (written_marks w ++ (mark.symbol symbol.Define ∷ (body_marks b ++ ms))) ts → TypedComes room ts w b ms
typed_again {room = room} w b g back ms ts k h =
    let y = written_again g (mark.symbol symbol.Define ∷ (body_marks b ++ ms)) (no_colon (body_marks b ++ ms)) ts h in
    with_token (λ us. MayHaveType room ts y.0 us → TypedComes room ts w b ms) (λ a vs is first h reads.
    let z = back ms vs k h in
    (y.0, a, vs, z.0, z.1, reads, ap defines is, z.2, y.3, z.3, z.4))
    y.1 y.4 y.2

abbrev DefinitionsCome : ℕ → List Token → Definitions → List Mark → Type 0
DefinitionsCome room ts ds ms = (again : Definitions) × (rest : List Token) × AreDefinitions room ts again rest × (bare_definitions again ≡ bare_definitions ds) × Follow true ms rest

abbrev DefinitionsReturn : ℕ → Definitions → Type 0
DefinitionsReturn room ds = (ms : List Mark) (ts : List Token) → strength_after true ms < 1 → ((ts : List Token) → Follow true ms ts → IsPast is_def ts) → Follow true (definitions_marks ds ++ ms) ts → DefinitionsCome room ts ds ms

definitions_weak : (ds : Definitions) (ms : List Mark) → strength_after true ms < 1 → strength_after true (definitions_marks ds ++ ms) < 1
definitions_weak no_definitions ms k = k
definitions_weak (more_definitions (tree.Define p n ps w b) ds) ms k = omega arith

one_definition_again : {room : ℕ} (p : _) (n : List ℕ) (w : Option TypeName) (b : Body) (ds : Definitions) → MayFitType room w → BodyReturns room b → DefinitionsReturn room ds → DefinitionsReturn room (more_definitions (tree.Define p n [] w b) ds)
one_definition_again {room = room} p n w b ds g back others ms ts k past h =
    let d = tree.Define p n [] w b in
    let after = line_end ∷ (definitions_marks ds ++ ms) in
    with_token (λ ts. DefinitionsCome room ts (more_definitions d ds) ms) (λ t ts is first h.
    with_token (λ ts. DefinitionsCome room (t ∷ ts) (more_definitions d ds) ms) (λ u ts u_is first h.
    let grouped = regroup (written_marks w) (mark.symbol symbol.Define ∷ []) (body_marks b ++ after) (regroup (written_marks w ++ (mark.symbol symbol.Define ∷ [])) (body_marks b) after h) in
    let x = typed_again w b g back after ts (definitions_weak ds ms k) grouped in
    let y = others ms x.4 k past (past_line x.10) in
    (more_definitions (tree.Define u.place n [] x.0 x.3) y.0, y.1, grammar.one_definition is u_is x.5 x.6 x.7 y.2, (λ i. more_definitions (tree.Define nowhere n [] (x.8 i) (x.9 i)) (y.3 i)), y.4)) ts h) ts (regroup (definition_marks d) (line_end ∷ definitions_marks ds) ms h)

block_again : {room : ℕ} (ds : Definitions) (e : Expr) → DefinitionsReturn room ds → Fits room e → BodyReturns (suc room) (tree.Block ds e)
block_again {room = room} ds e back f ms ts k h =
    with_token (λ ts. BodyComes (suc room) ts (tree.Block ds e) ms) (λ t ts is first h.
    let after = (expr_marks e ++ (mark.symbol symbol.CloseBrace ∷ [])) ++ ms in
    let starts = begins_append (expr_marks e) (mark.symbol symbol.CloseBrace ∷ []) (begins e) in
    let x = back after ts (begins_weak (expr_marks e ++ (mark.symbol symbol.CloseBrace ∷ [])) ms starts) (λ ts h. begins_no_def (expr_marks e ++ (mark.symbol symbol.CloseBrace ∷ [])) ms starts ts h) (regroup (definitions_marks ds) (expr_marks e ++ (mark.symbol symbol.CloseBrace ∷ [])) ms (past_line h)) in
    let y = expr_again f true (mark.symbol symbol.CloseBrace ∷ ms) x.1 (omega arith) (regroup (expr_marks e) (mark.symbol symbol.CloseBrace ∷ []) ms x.4) in
    with_token (λ rest. IsExpr room x.1 y.0 rest → BodyComes (suc room) (t ∷ ts) (tree.Block ds e) ms) (λ v rest close first h reads.
    (tree.Block x.0 y.0, rest, grammar.block is x.2 reads close, (λ i. tree.Block (x.3 i) (y.3 i)), h))
    y.1 y.4 y.2) ts h

mutual
  body_again : {room : ℕ} {b : Body} → FitsBody room b → BodyReturns room b
  body_again (fits.plain f) ms ts k h = let x = expr_again f false ms ts k h in (tree.Plain x.0, x.1, grammar.plain x.2, ap tree.Plain x.3, x.4)
  body_again (fits.block {ds = ds} {e = e} fs f) ms ts k h = block_again ds e (definitions_again fs) f ms ts k h

  definitions_again : {room : ℕ} {ds : Definitions} → FitDefinitions room ds → DefinitionsReturn room ds
  definitions_again fits.no_definition ms ts k past h = (no_definitions, ts, grammar.no_definition (past ts h), refl, h)
  definitions_again (fits.one_definition {p = p} {n = n} {w = w} {b = b} {ds = ds} named g f fs) ms ts k past h = one_definition_again p n w b ds g (body_again f) (definitions_again fs) ms ts k past h

-- ---- items
abbrev ItemComes : ℕ → List Token → Item → List Mark → Type 0
ItemComes room ts i ms = (again : Item) × (rest : List Token) × IsItem room ts again rest × (bare_item again ≡ bare_item i) × Follow true ms rest

item_again : {room : ℕ} {i : Item} → FitsItem room i → (ms : List Mark) (ts : List Token) → strength_after true ms < 1 → ((ts : List Token) → Follow true ms ts → IsPast is_as ts) → Follow true (item_marks i ++ (line_end ∷ ms)) ts → ItemComes room ts i ms
item_again (fits.input {room = room} {p = p} {q = q} {n = n} {y = y} named f) ms ts k past h =
    with_token (λ ts. ItemComes room ts (tree.Input p q n y) ms) (λ t ts is first h.
    with_token (λ ts. ItemComes room (t ∷ ts) (tree.Input p q n y) ms) (λ u ts u_is first h.
    with_token (λ ts. ItemComes room (t ∷ u ∷ ts) (tree.Input p q n y) ms) (λ v ts v_is first h.
    let x = type_again f (line_end ∷ ms) ts h in
    (tree.Input t.place u.place n x.0, x.1, grammar.input is u_is v_is x.2, ap (tree.Input nowhere nowhere n) x.3, past_line x.4)) ts h) ts h) ts h
item_again (fits.definition {room = room} {p = p} {q = q} {n = n} {ps = ps} {w = w} {b = b} named g t f) ms ts k past h =
    let i = tree.Defined p (tree.Define q n ps w b) in
    let after = line_end ∷ ms in
    with_token (λ ts. ItemComes room ts i ms) (λ d ts is first h.
    with_token (λ ts. ItemComes room (d ∷ ts) i ms) (λ u ts u_is first h.
    let outer = regroup (params_marks ps ++ (written_marks w ++ (mark.symbol symbol.Define ∷ []))) (body_marks b) after h in
    let middle = regroup (params_marks ps) (written_marks w ++ (mark.symbol symbol.Define ∷ [])) (body_marks b ++ after) outer in
    let x = params_again g ((written_marks w ++ (mark.symbol symbol.Define ∷ [])) ++ (body_marks b ++ after)) (λ ts h. no_open w (body_marks b ++ after) ts (regroup (written_marks w) (mark.symbol symbol.Define ∷ []) (body_marks b ++ after) h)) ts middle in
    let y = typed_again w b t (body_again f) after x.1 k (regroup (written_marks w) (mark.symbol symbol.Define ∷ []) (body_marks b ++ after) x.4) in
    (tree.Defined d.place (tree.Define u.place n x.0 y.0 y.3), y.4, grammar.definition is u_is x.2 y.5 y.6 y.7, (λ i. tree.Defined nowhere (tree.Define nowhere n (x.3 i) (y.8 i) (y.9 i))), past_line y.10)) ts h) ts h
item_again (fits.output {room = room} {p = p} {q = q} {n = n} named) ms ts k past h =
    with_token (λ ts. ItemComes room ts (tree.Output p q n) ms) (λ t ts is first h.
    with_token (λ ts. ItemComes room (t ∷ ts) (tree.Output p q n) ms) (λ u rest u_is first h.
    let after = follow_strength h in
    let name = weaker_by 0 7 room (u ∷ rest) rest (tree.Name u.place n) (omega arith) (omega arith) (grammar.name u_is (past_name n rest (omega arith))) in
    (tree.Output t.place u.place n, rest, grammar.output is name (past rest (past_line h)), refl, past_line h)) ts h) ts h
item_again (fits.output_as {room = room} {p = p} {q = q} {n = n} {e = e} named f) ms ts k past h =
    with_token (λ ts. ItemComes room ts (tree.OutputAs p e q n) ms) (λ t ts is first h.
    let x = expr_again f false (mark.word word.As ∷ (mark.named n ∷ (line_end ∷ ms))) ts (omega arith) (regroup (expr_marks e) (mark.word word.As ∷ (mark.named n ∷ [])) (line_end ∷ ms) h) in
    with_token (λ us. IsExpr room ts x.0 us → ItemComes room (t ∷ ts) (tree.OutputAs p e q n) ms) (λ a us a_is first h reads.
    with_token (λ us. IsExpr room ts x.0 (a ∷ us) → ItemComes room (t ∷ ts) (tree.OutputAs p e q n) ms) (λ u rest u_is first h reads.
    (tree.OutputAs t.place x.0 u.place n, rest, grammar.output_as is reads a_is u_is, ap (λ x. tree.OutputAs nowhere x nowhere n) x.3, past_line h))
    us h reads)
    x.1 x.4 x.2) ts h

-- no item begins with what goes on
items_weak : (items : List Item) → strength_after true (items_marks items) < 1
items_weak [] = omega arith
items_weak (tree.Input p q n y ∷ items) = omega arith
items_weak (tree.Defined p (tree.Define q n ps w b) ∷ items) = omega arith
items_weak (tree.Output p q n ∷ items) = omega arith
items_weak (tree.OutputAs p e q n ∷ items) = omega arith

items_past : (items : List Item) (ts : List Token) → Follow true (items_marks items) ts → IsPast is_as ts
items_past [] ts nothing = tt
items_past (tree.Input p q n y ∷ items) ts h = with_token (IsPast is_as) (λ t rest is first h. ap is_as is) ts h
items_past (tree.Defined p (tree.Define q n ps w b) ∷ items) ts h = with_token (IsPast is_as) (λ t rest is first h. ap is_as is) ts h
items_past (tree.Output p q n ∷ items) ts h = with_token (IsPast is_as) (λ t rest is first h. ap is_as is) ts h
items_past (tree.OutputAs p e q n ∷ items) ts h = with_token (IsPast is_as) (λ t rest is first h. ap is_as is) ts h

pub items_again : {room : ℕ} {items : List Item} → FitItems room items → (ts : List Token) → Follow true (items_marks items) ts → (again : List Item) × Spells room ts again × (map bare_item again ≡ map bare_item items)
items_again fits.no_item ts nothing = ([], grammar.empty, refl)
items_again (fits.one_item {i = i} {is = is} f fs) ts h =
    let x = item_again f (items_marks is) ts (items_weak is) (items_past is) (regroup (item_marks i) (line_end ∷ []) (items_marks is) h) in
    let y = items_again fs x.1 x.4 in
    (x.0 ∷ y.0, grammar.item x.2 y.1, (λ i. x.3 i ∷ y.2 i))
