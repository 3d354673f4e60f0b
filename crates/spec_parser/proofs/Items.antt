-- What is read is spelled so, and what is spelled so is read: definitions, items and whole specifications.
use Rattle.std.proofs.Common.{◌≡◌, ℕ, zero, suc, ◌+◌, ◌==◌, Bool, true, false, List, [], ◌∷◌, ◌++◌, length, Option, Some, None, refl, sym, ap, subst, ◌∙◌, arith, length-append}
use Rattle.tsl_value.specs.declared.place.Place.{Place}
use Rattle.spec_lexer.specs.declared.token.Token.{Token}
use Rattle.spec_lexer.specs.declared.token.TokenKind.{TokenKind}
use Rattle.spec_lexer.specs.declared.token.TokenKind.TheVariants as kind
use Rattle.spec_lexer.specs.declared.token.Word.TheVariants as word
use Rattle.spec_lexer.specs.declared.token.Symbol.TheVariants as symbol
use Rattle.token_reader.specs.inner.Reader.{Unexpected, Outcome, Read, Stopped, Lister, give, and_then, ◌>>=◌, when, taken, take_by, tried, if_next, chosen, or_given, noted, alone, opened, many}
use Rattle.token_reader.proofs.LocalLaws.{Leads, IsLocalTurn}
use Rattle.token_reader.proofs.ManyLaws.{many_none}
use Rattle.token_reader.proofs.Meets.{Meets, meets_bind, weaker, meets_expect, meets-many, expect_is, passes_by, many_stop, many_go}
use Rattle.syntax_tree.specs.Tree as tree
use Rattle.syntax_tree.specs.Tree.{TypeName, Expr, Param, Body, Definition, Definitions, no_definitions, more_definitions, Item}
use Rattle.spec_parser.specs.Words.{is_open, is_close, is_comma, is_colon, defines, is_as, is_def, is_open_brace, is_close_brace}
use Rattle.spec_parser.specs.Grammar.{Is, IsNamed, IsPast, IsType, IsExpr, IsParam, param, AreOtherParams, no_param, one_param, MayHaveParams, without_params, with_params, MayHaveType, without_type, with_type, IsBody, plain, block, AreDefinitions, no_definition, one_definition, IsItem, input, definition, output, output_as, Spells, empty, item}
use Rattle.spec_parser.specs.inner.Reading as read
use Rattle.spec_parser.specs.inner.Reading.{Reader, must, at_name, named, type_in, within, a_param, other_params_of, after_param, params, may_have_params, may_have_type, defined_as, after_params, inner_definition, definitions_of, after_definitions, a_body, param_by, input_after, whole_definition, definition_after, plain_output, printed_as, after_output, output_after, at_item, items_at, ended, specification}
use Rattle.spec_parser.proofs.Ends.{signs, open_is, close_is, comma_is, colon_is, open_brace_is, close_brace_is, def_is, as_is}
use Rattle.spec_parser.proofs.TypeLaws.{type_fine}
use Rattle.spec_parser.proofs.LevelLaws.{within_operand}
use Rattle.spec_parser.proofs.ItemLaws.{turn_params, item_signs, local_items, defs_local}
use Rattle.spec_parser.proofs.Sound.{type_sound, expr_sound}
use Rattle.spec_parser.proofs.Complete.{must_is, type_complete, expr_complete, brace_nothing}

some_reader : {A : Type 0} (p q : Reader A) → Some p ≡ Some q → p ≡ q
some_reader p q h = cc

when_none : {A : Type 0} (b : Bool) (p : Reader A) → when b p ≡ None → b ≡ false
when_none true p h = cc
when_none false p h = refl

-- a name that has to come
meets_named : {A : Type 0} (f : Place → List ℕ → Reader A) (P : List Token → Type 0) (Q : A → List Token → Type 0) (us : List Token) → P us → ((v : Token) (n : List ℕ) (vs : List Token) → P (v ∷ vs) → v.kind ≡ kind.Name n → Meets Q (f v.place n vs)) → Meets Q (named f us)
meets_named f P Q [] h m = tt
meets_named f P Q (v ∷ vs) h m = by v.kind refl
  where
    by : (k : TokenKind) → v.kind ≡ k → Meets Q (taken (at_name (f v.place) k) v vs)
    by (kind.Name n) is = m v n vs h is
    by (kind.Number n) is = tt
    by (kind.Text n) is = tt
    by (kind.Word n) is = tt
    by (kind.Symbol n) is = tt

named_is : {A : Type 0} (f : Place → List ℕ → Reader A) (t : Token) (n : List ℕ) (ts : List Token) → IsNamed t n → named f (t ∷ ts) ≡ f t.place n ts
named_is f t n ts is = λ k. taken (at_name (f t.place) (is k)) t ts

-- a colon and a type
module _ {A : Type 0} (room : ℕ) (h : TypeName → A) (Q : A → List Token → Type 0) (P : List Token → Type 0) where
  typed_sound : (us : List Token) → P us → ((v : Token) (vs rest : List Token) (y : TypeName) → P (v ∷ vs) → Is v symbol.Colon → IsType room vs y rest → Q (h y) rest) → Meets Q (must is_colon (type_in (suc room) >>= λ y. give (h y)) us)
  typed_sound us p k = meets_expect (λ t. is_colon t.kind) (type_in (suc room) >>= λ y. give (h y)) P Q us p (λ v vs p colon.
      meets_bind (IsType room vs) Q (type_in (suc room) vs) (λ y. give (h y)) (type_sound room vs) (λ y rest d. k v vs rest y p (colon_is v.kind colon) d))

typed_is : {A : Type 0} (room : ℕ) (h : TypeName → A) (v : Token) (vs rest : List Token) (y : TypeName) → Is v symbol.Colon → IsType room vs y rest → must is_colon (type_in (suc room) >>= λ y. give (h y)) (v ∷ vs) ≡ Read (h y) rest
typed_is room h v vs rest y colon d = must_is is_colon (type_in (suc room) >>= λ y. give (h y)) (kind.Symbol symbol.Colon) v vs colon refl ∙ passes_by (type_in (suc room)) (λ y. give (h y)) vs rest y (type_complete d)

module _ (room : ℕ) where
  abbrev types : Reader TypeName
  types = type_in (suc room)

  -- parameters
  param_sound : (ts : List Token) → Meets (IsParam room ts) (a_param types ts)
  param_sound ts = meets_named (λ place n. must is_colon (types >>= λ y. give (param_by place n y))) (λ us. ts ≡ us) (IsParam room ts) ts refl (λ t n us e is.
      subst (λ vs. Meets (IsParam room vs) (must is_colon (types >>= λ y. give (param_by t.place n y)) us)) (sym e)
      (typed_sound room (param_by t.place n) (IsParam room (t ∷ us)) (λ vs. us ≡ vs) us refl (λ c vs rest y e colon d. subst (λ ws. IsParam room (t ∷ ws) (param_by t.place n y) rest) (sym e) (param is colon d))))

  param_complete : {ts rest : List Token} {p : Param} → IsParam room ts p rest → a_param types ts ≡ Read p rest
  param_complete (param {t = t} {c = c} {ts = ts} {rest = rest} {n = n} {y = y} is colon d) = named_is (λ place n. must is_colon (types >>= λ y. give (param_by place n y))) t n (c ∷ ts) is ∙ typed_is room (param_by t.place n) c ts rest y colon d

  params_local : (t : Token) → IsLocalTurn signs ((other_params_of types).turn t)
  params_local = turn_params types (type_fine (suc room)).local

  param_go : (t : Token) (b : Bool) → is_comma t.kind ≡ b → (p : Reader Param) → when b (a_param types) ≡ Some p → (ts : List Token) → Meets (λ e us. (es : List Param) (rest : List Token) → AreOtherParams room us es rest → AreOtherParams room (t ∷ ts) (e ∷ es) rest) (p ts)
  param_go t false is p h ts = cc
  param_go t true is p h ts =
      let Q : Param → List Token → Type 0 = λ e us. (es : List Param) (rest : List Token) → AreOtherParams room us es rest → AreOtherParams room (t ∷ ts) (e ∷ es) rest in
      subst (λ (q : Reader Param). Meets Q (q ts)) (some_reader (a_param types) p h) (weaker (IsParam room ts) Q (a_param types ts) (λ e us d es rest o. one_param (comma_is t.kind is) d o) (param_sound ts))

  other_params_sound : (ts : List Token) → Meets (AreOtherParams room ts) (many (other_params_of types) ts)
  other_params_sound = meets-many signs (other_params_of types) params_local (AreOtherParams room) (no_param tt) (λ t ts h. no_param (when_none (is_comma t.kind) (a_param types) h)) (λ t p is ts. param_go t (is_comma t.kind) refl p is ts)

  other_params_complete : {ts rest : List Token} {ps : List Param} → AreOtherParams room ts ps rest → many (other_params_of types) ts ≡ Read ps rest
  other_params_complete (no_param {ts = []} h) = many_none signs (other_params_of types) params_local
  other_params_complete (no_param {ts = t ∷ ts} h) = many_stop signs (other_params_of types) params_local t ts (λ k. when (h k) (a_param types))
  other_params_complete (one_param {t = t} {ts = ts} {us = us} {rest = rest} {p = p} {ps = ps} is d others) = many_go signs (other_params_of types) params_local t (a_param types) ts us rest p ps (λ k. when (is_comma (is k)) (a_param types)) (param_complete d) (other_params_complete others)

params_sound : (room : ℕ) (t : Token) → Is t symbol.Open → (ts : List Token) → Meets (MayHaveParams room (t ∷ ts)) (opened room (params (type_in room)) ts)
params_sound zero t is ts = tt
params_sound (suc room) t is ts =
    meets_bind (IsParam room ts) (MayHaveParams (suc room) (t ∷ ts)) (a_param (type_in (suc room)) ts) (after_param (type_in (suc room))) (param_sound room ts) (λ p us d.
    meets_bind (AreOtherParams room us) (MayHaveParams (suc room) (t ∷ ts)) (many (other_params_of (type_in (suc room))) us) (λ ps. must is_close (give (p ∷ ps))) (other_params_sound room us) (λ ps vs o.
    meets_expect (λ t. is_close t.kind) (give (p ∷ ps)) (AreOtherParams room us ps) (MayHaveParams (suc room) (t ∷ ts)) vs o (λ v rest o closes. with_params is d o (close_is v.kind closes))))

may_params_sound : (room : ℕ) (ts : List Token) → Meets (MayHaveParams room ts) (may_have_params room (type_in room) ts)
may_params_sound room [] = without_params tt
may_params_sound room (t ∷ ts) = by (is_open t.kind) refl
  where
    by : (b : Bool) → is_open t.kind ≡ b → Meets (MayHaveParams room (t ∷ ts)) (tried (when b (opened room (params (type_in room)))) [] t ts)
    by true h = params_sound room t (open_is t.kind h) ts
    by false h = without_params h

may_params_complete : {room : ℕ} {ts rest : List Token} {ps : List Param} → MayHaveParams room ts ps rest → may_have_params room (type_in room) ts ≡ Read ps rest
may_params_complete (without_params {ts = []} h) = refl
may_params_complete {room} (without_params {ts = t ∷ ts} h) = λ k. tried (when (h k) (opened room (params (type_in room)))) [] t ts
may_params_complete (with_params {room = room} {t = t} {v = v} {ts = ts} {us = us} {rest = rest} {p = p} {ps = ps} is d others closes) =
    (λ k. tried (when (is_open (is k)) (params (type_in (suc room)))) [] t ts)
    ∙ passes_by (a_param (type_in (suc room))) (after_param (type_in (suc room))) ts us p (param_complete room d)
    ∙ passes_by (many (other_params_of (type_in (suc room)))) (λ ps. must is_close (give (p ∷ ps))) us (v ∷ rest) ps (other_params_complete room others)
    ∙ must_is is_close (give (p ∷ ps)) (kind.Symbol symbol.Close) v rest closes refl

abbrev some_type : TypeName → Option TypeName
some_type y = Some y

may_type_sound : (room : ℕ) (ts : List Token) → Meets (MayHaveType room ts) (may_have_type (type_in (suc room)) ts)
may_type_sound room [] = without_type tt
may_type_sound room (t ∷ ts) = by (is_colon t.kind) refl
  where
    by : (b : Bool) → is_colon t.kind ≡ b → Meets (MayHaveType room (t ∷ ts)) (tried (when b (type_in (suc room) >>= λ y. give (some_type y))) None t ts)
    by true h = meets_bind (IsType room ts) (MayHaveType room (t ∷ ts)) (type_in (suc room) ts) (λ y. give (some_type y)) (type_sound room ts) (λ y rest d. with_type (colon_is t.kind h) d)
    by false h = without_type h

may_type_complete : {room : ℕ} {ts rest : List Token} {w : Option TypeName} → MayHaveType room ts w rest → may_have_type (type_in (suc room)) ts ≡ Read w rest
may_type_complete (without_type {ts = []} h) = refl
may_type_complete {room} (without_type {ts = t ∷ ts} h) = λ k. tried (when (h k) (type_in (suc room) >>= λ y. give (some_type y))) None t ts
may_type_complete {room} (with_type {t = t} {ts = ts} {rest = rest} {y = y} is d) = (λ k. tried (when (is_colon (is k)) (type_in (suc room) >>= λ y. give (some_type y))) None t ts) ∙ passes_by (type_in (suc room)) (λ y. give (some_type y)) ts rest y (type_complete d)

-- from the written type on, given what bodies are
module _ (room : ℕ) (x : Reader Body) (sound : (ts : List Token) → Meets (IsBody room ts) (x ts)) (place : Place) (n : List ℕ) (Q : Definition → List Token → Type 0) where
  params_after_sound : (ps : List Param) (us : List Token) → ((w : Option TypeName) (b : Body) (a : Token) (vs rest : List Token) → MayHaveType room us w (a ∷ vs) → defines a.kind ≡ true → IsBody room vs b rest → Q (tree.Define place n ps w b) rest) → Meets Q (after_params (type_in (suc room)) x place n ps us)
  params_after_sound ps us k = meets_bind (MayHaveType room us) Q (may_have_type (type_in (suc room)) us) (λ w. defined_as x (tree.Define place n ps w)) (may_type_sound room us) (λ w vs dw.
      meets_expect (λ t. defines t.kind) (x >>= λ b. give (tree.Define place n ps w b)) (MayHaveType room us w) Q vs dw (λ a vs dw h.
      meets_bind (IsBody room vs) Q (x vs) (λ b. give (tree.Define place n ps w b)) (sound vs) (λ b rest db. k w b a vs rest dw h db)))

params_after_is : (room : ℕ) (x : Reader Body) (place : Place) (n : List ℕ) (ps : List Param) (us vs rest : List Token) (w : Option TypeName) (b : Body) (a : Token) → MayHaveType room us w (a ∷ vs) → defines a.kind ≡ true → x vs ≡ Read b rest → after_params (type_in (suc room)) x place n ps us ≡ Read (tree.Define place n ps w b) rest
params_after_is room x place n ps us vs rest w b a dw h body =
    passes_by (may_have_type (type_in (suc room))) (λ w. defined_as x (tree.Define place n ps w)) us (a ∷ vs) w (may_type_complete dw)
    ∙ expect_is (λ t. defines t.kind) (x >>= λ b. give (tree.Define place n ps w b)) a vs h
    ∙ passes_by x (λ b. give (tree.Define place n ps w b)) vs rest b body

-- a block after its brace
abbrev IsBlock : ℕ → List Token → Body → List Token → Type 0
IsBlock room ts b rest = (t : Token) → Is t symbol.OpenBrace → IsBody room (t ∷ ts) b rest

module _ (room : ℕ) where
  abbrev body_in : Reader Body
  body_in = a_body (read.block room) (within (suc room))

  pub body_sound : ((ts : List Token) → Meets (IsBlock room ts) (read.block room ts)) → (ts : List Token) → Meets (IsBody room ts) (body_in ts)
  body_sound sound [] = meets_bind (IsExpr room []) (IsBody room []) (within (suc room) []) (λ e. give (tree.Plain e)) (expr_sound room []) (λ e rest d. plain d)
  body_sound sound (t ∷ ts) = by (is_open_brace t.kind) refl
    where
      by : (b : Bool) → is_open_brace t.kind ≡ b → Meets (IsBody room (t ∷ ts)) (chosen (when b (read.block room)) (within (suc room) >>= λ e. give (tree.Plain e)) t ts)
      by true h = weaker (IsBlock room ts) (IsBody room (t ∷ ts)) (read.block room ts) (λ b rest k. k t (open_brace_is t.kind h)) (sound ts)
      by false h = meets_bind (IsExpr room (t ∷ ts)) (IsBody room (t ∷ ts)) (within (suc room) (t ∷ ts)) (λ e. give (tree.Plain e)) (expr_sound room (t ∷ ts)) (λ e rest d. plain d)

  abbrev defs : Lister Token Definition Definitions
  defs = definitions_of (type_in (suc room)) body_in

  abbrev a_definition : Reader Definition
  a_definition = inner_definition (type_in (suc room)) body_in

  module _ (sound : (ts : List Token) → Meets (IsBlock room ts) (read.block room ts)) where
    definition_go : (d : Token) (b : Bool) → is_def d.kind ≡ b → (p : Reader Definition) → when b a_definition ≡ Some p → (ts : List Token) → Meets (λ e us. (es : Definitions) (rest : List Token) → AreDefinitions room us es rest → AreDefinitions room (d ∷ ts) (more_definitions e es) rest) (p ts)
    definition_go d false is p h ts = cc
    definition_go d true is p h ts =
        let Q : Definition → List Token → Type 0 = λ e us. (es : Definitions) (rest : List Token) → AreDefinitions room us es rest → AreDefinitions room (d ∷ ts) (more_definitions e es) rest in
        subst (λ (q : Reader Definition). Meets Q (q ts)) (some_reader a_definition p h)
        (meets_named (λ place n. after_params (type_in (suc room)) body_in place n []) (λ us. ts ≡ us) Q ts refl (λ t n us e named_so.
        params_after_sound room body_in (body_sound sound) t.place n Q [] us (λ w b a vs rest dw h db es left others.
        subst (λ ws. AreDefinitions room (d ∷ ws) (more_definitions (tree.Define t.place n [] w b) es) left) (sym e) (one_definition (def_is d.kind is) named_so dw h db others))))

    definitions_sound : (ts : List Token) → Meets (AreDefinitions room ts) (many defs ts)
    definitions_sound = meets-many signs defs (defs_local room) (AreDefinitions room) (no_definition tt) (λ t ts h. no_definition (when_none (is_def t.kind) a_definition h)) (λ t p is ts. definition_go t (is_def t.kind) refl p is ts)

pub block_sound : (room : ℕ) (ts : List Token) → Meets (IsBlock room ts) (read.block room ts)
unfolding read.block
block_sound zero ts = tt
block_sound (suc room) ts =
    let Q : Body → List Token → Type 0 = IsBlock (suc room) ts in
    meets_bind (AreDefinitions room ts) Q (many (defs room) ts) (after_definitions (within (suc room))) (definitions_sound room (block_sound room) ts) (λ ds us d.
    meets_bind (IsExpr room us) Q (within (suc room) us) (λ e. must is_close_brace (give (tree.Block ds e))) (expr_sound room us) (λ e vs x.
    meets_expect (λ t. is_close_brace t.kind) (give (tree.Block ds e)) (IsExpr room us e) Q vs x (λ v rest x closes t opens. block opens d x (close_brace_is v.kind closes))))

-- an expression does not begin with a brace
expr_no_brace : (room : ℕ) (t : Token) (ts rest : List Token) (e : Expr) → within (suc room) (t ∷ ts) ≡ Read e rest → a_body (read.block room) (within (suc room)) (t ∷ ts) ≡ Read (tree.Plain e) rest
expr_no_brace room t ts rest e h = by (is_open_brace t.kind) refl
  where
    clash : Stopped Unexpected (t ∷ ts) ≡ Read e rest → ⊥
    clash h = cc

    by : (b : Bool) → is_open_brace t.kind ≡ b → chosen (when b (read.block room)) (within (suc room) >>= λ e. give (tree.Plain e)) t ts ≡ Read (tree.Plain e) rest
    by false k = passes_by (within (suc room)) (λ e. give (tree.Plain e)) (t ∷ ts) rest e h
    by true k = absurd (clash (sym (brace_nothing room t ts k) ∙ h))

plain_is : (room : ℕ) (ts rest : List Token) (e : Expr) → within (suc room) ts ≡ Read e rest → a_body (read.block room) (within (suc room)) ts ≡ Read (tree.Plain e) rest
plain_is room [] rest e h = passes_by (within (suc room)) (λ e. give (tree.Plain e)) [] rest e h
plain_is room (t ∷ ts) rest e h = expr_no_brace room t ts rest e h

mutual
  unfolding read.block

  body_complete : {room : ℕ} {ts rest : List Token} {b : Body} → IsBody room ts b rest → a_body (read.block room) (within (suc room)) ts ≡ Read b rest
  body_complete {room} (plain {ts = ts} {rest = rest} {e = e} d) = plain_is room ts rest e (expr_complete d)
  body_complete (block {room = room} {t = t} {v = v} {ts = ts} {us = us} {rest = rest} {ds = ds} {e = e} is d x closes) =
      (λ k. chosen (when (is_open_brace (is k)) (read.block (suc room))) (within (suc (suc room)) >>= λ e. give (tree.Plain e)) t ts)
      ∙ passes_by (many (defs room)) (after_definitions (within (suc room))) ts us ds (definitions_complete d)
      ∙ passes_by (within (suc room)) (λ e. must is_close_brace (give (tree.Block ds e))) us (v ∷ rest) e (expr_complete x)
      ∙ must_is is_close_brace (give (tree.Block ds e)) (kind.Symbol symbol.CloseBrace) v rest closes refl

  definitions_complete : {room : ℕ} {ts rest : List Token} {ds : Definitions} → AreDefinitions room ts ds rest → many (defs room) ts ≡ Read ds rest
  definitions_complete {room} (no_definition {ts = []} h) = many_none signs (defs room) (defs_local room)
  definitions_complete {room} (no_definition {ts = t ∷ ts} h) = many_stop signs (defs room) (defs_local room) t ts (λ k. when (h k) (a_definition room))
  definitions_complete {room} (one_definition {d = d} {t = t} {a = a} {ts = ts} {us = us} {vs = vs} {rest = rest} {n = n} {w = w} {b = b} {ds = ds} is named_so dw h db others) =
      many_go signs (defs room) (defs_local room) d (a_definition room) (t ∷ ts) vs rest (tree.Define t.place n [] w b) ds (λ k. when (is_def (is k)) (a_definition room))
      (named_is (λ place n. after_params (type_in (suc room)) (body_in room) place n []) t n ts named_so ∙ params_after_is room (body_in room) t.place n [] ts us vs w b a dw h (body_complete db))
      (definitions_complete others)

-- outputs
module _ (room : ℕ) where
  abbrev expr : Reader Expr
  expr = within (suc room)

  -- what was read, and that one token alone was passed where the mark says so
  abbrev Alone : List Token → Expr × Bool → List Token → Type 0
  Alone ts x rest = IsExpr room ts x.0 rest × (x.1 ≡ true → (u : Token) × (ts ≡ u ∷ rest))

  one_token : (ts rest front : List Token) → ts ≡ front ++ rest → (length ts == 1 + length rest) ≡ true → (u : Token) × (ts ≡ u ∷ rest)
  one_token ts rest [] e h = absurd (grind (arith, ap length e, h))
  one_token ts rest (u ∷ []) e h = (u, e)
  one_token ts rest (u ∷ v ∷ front) e h = absurd (grind (arith, ap length e, length-append front rest, h))

  alone_by : (ts : List Token) (o : Outcome Token Expr) → Meets (IsExpr room ts) o → Leads signs expr ts o → Meets (Alone ts) (noted (length ts) o)
  alone_by ts (Read e rest) d l = (d, one_token ts rest l.front l.whole)
  alone_by ts (Stopped r rest) d l = tt

  alone_sound : (ts : List Token) → Meets (Alone ts) (alone expr ts)
  alone_sound ts = alone_by ts (expr ts) (expr_sound room ts) ((within_operand room).fine.local ts)

  module _ (t : Token) (is : t.kind ≡ kind.Word word.Out) (ts : List Token) where
    abbrev Out : Item → List Token → Type 0
    Out = IsItem room (t ∷ ts)

    as_sound : (e : Expr) (us : List Token) → IsExpr room ts e us → (a : Token) (vs : List Token) → us ≡ a ∷ vs → is_as a.kind ≡ true → Meets Out (printed_as t.place e vs)
    as_sound e us d a vs shape h = meets_named (λ p n. give (tree.OutputAs t.place e p n)) (λ ws. vs ≡ ws) Out vs refl (λ u n rest same named_so. output_as is (subst (IsExpr room ts e) (shape ∙ ap (λ ws. a ∷ ws) same) d) (as_is a.kind h) named_so)

    plain_sound : (p : Place) (n : List ℕ) (us : List Token) → Alone ts (tree.Name p n, true) us → IsPast is_as us → Out (tree.Output t.place p n) us
    plain_sound p n us d h = let k = d.1 refl in subst (λ ws. IsItem room (t ∷ ws) (tree.Output t.place p n) us) (sym k.1) (output is (subst (λ ws. IsExpr room ws (tree.Name p n) us) k.1 d.0) h)

    abbrev turn : Expr → Token → Option (Reader Item)
    turn e a = when (is_as a.kind) (printed_as t.place e)

    may_sound : (p : Place) (n : List ℕ) (us : List Token) → Alone ts (tree.Name p n, true) us → Meets Out (if_next (turn (tree.Name p n)) (tree.Output t.place p n) us)
    may_sound p n [] d = plain_sound p n [] d tt
    may_sound p n (a ∷ us) d = by (is_as a.kind) refl
      where
        by : (b : Bool) → is_as a.kind ≡ b → Meets Out (tried (when b (printed_as t.place (tree.Name p n))) (tree.Output t.place p n) a us)
        by true h = as_sound (tree.Name p n) (a ∷ us) d.0 a us refl h
        by false h = plain_sound p n (a ∷ us) d h

    must_sound : (e : Expr) (us : List Token) → IsExpr room ts e us → Meets Out (take_by (turn e) us)
    must_sound e [] d = tt
    must_sound e (a ∷ us) d = by (is_as a.kind) refl
      where
        by : (b : Bool) → is_as a.kind ≡ b → Meets Out (taken (when b (printed_as t.place e)) a us)
        by true h = as_sound e (a ∷ us) d a us refl h
        by false h = tt

    given_sound : (x : Expr × Bool) (us : List Token) → Alone ts x us → Meets Out (after_output t.place x us)
    given_sound (tree.Name p n, true) us d = may_sound p n us d
    given_sound (tree.Name p n, false) us d = must_sound (tree.Name p n) us d.0
    given_sound (e, b) us d = must_sound e us d.0

    output_sound : Meets Out (output_after room t.place ts)
    output_sound = meets_bind (Alone ts) Out (alone expr ts) (after_output t.place) (alone_sound ts) (λ x us d. given_sound x us d)

  alone_is : (ts rest : List Token) (e : Expr) → expr ts ≡ Read e rest → alone expr ts ≡ Read (e, length ts == 1 + length rest) rest
  alone_is ts rest e h = ap (noted (length ts)) h

  counts_one : (u : Token) (ts : List Token) → (length (u ∷ ts) == 1 + length ts) ≡ true
  counts_one u ts = grind arith

  output_is : (place : Place) (u : Token) (ts : List Token) (p : Place) (n : List ℕ) → IsExpr room (u ∷ ts) (tree.Name p n) ts → IsPast is_as ts → output_after room place (u ∷ ts) ≡ Read (tree.Output place p n) ts
  output_is place u ts p n d h =
      passes_by (alone expr) (after_output place) (u ∷ ts) ts (tree.Name p n, length (u ∷ ts) == 1 + length ts) (alone_is (u ∷ ts) ts (tree.Name p n) (expr_complete d))
      ∙ (λ k. after_output place (tree.Name p n, counts_one u ts k) ts)
      ∙ last ts h
    where
      last : (ts : List Token) → IsPast is_as ts → if_next (λ t. when (is_as t.kind) (printed_as place (tree.Name p n))) (tree.Output place p n) ts ≡ Read (tree.Output place p n) ts
      last [] h = refl
      last (a ∷ ts) h = λ k. tried (when (h k) (printed_as place (tree.Name p n))) (tree.Output place p n) a ts

  as_is_read : (place : Place) (e : Expr) (g : Option Item) (a u : Token) (n : List ℕ) (rest : List Token) → a.kind ≡ kind.Word word.As → IsNamed u n → or_given (λ t. when (is_as t.kind) (printed_as place e)) g (a ∷ u ∷ rest) ≡ Read (tree.OutputAs place e u.place n) rest
  as_is_read place e (Some i) a u n rest is named_so = (λ k. tried (when (is_as (is k)) (printed_as place e)) i a (u ∷ rest)) ∙ named_is (λ p n. give (tree.OutputAs place e p n)) u n rest named_so
  as_is_read place e None a u n rest is named_so = (λ k. taken (when (is_as (is k)) (printed_as place e)) a (u ∷ rest)) ∙ named_is (λ p n. give (tree.OutputAs place e p n)) u n rest named_so

  output_as_is : (place : Place) (ts rest : List Token) (e : Expr) (a u : Token) (n : List ℕ) → IsExpr room ts e (a ∷ u ∷ rest) → a.kind ≡ kind.Word word.As → IsNamed u n → output_after room place ts ≡ Read (tree.OutputAs place e u.place n) rest
  output_as_is place ts rest e a u n d is named_so =
      passes_by (alone expr) (after_output place) ts (a ∷ u ∷ rest) (e, length ts == 1 + length (a ∷ u ∷ rest)) (alone_is ts (a ∷ u ∷ rest) e (expr_complete d))
      ∙ as_is_read place e (plain_output place (e, length ts == 1 + length (a ∷ u ∷ rest))) a u n rest is named_so

  whole_sound : (t : Token) → t.kind ≡ kind.Word word.Def → (ts : List Token) → Meets (λ d rest. IsItem room (t ∷ ts) (tree.Defined t.place d) rest) (whole_definition room ts)
  whole_sound t is ts = meets_named (λ place n. may_have_params room (type_in room) >>= after_params (type_in (suc room)) (body_in room) place n) (λ us. ts ≡ us) (λ d rest. IsItem room (t ∷ ts) (tree.Defined t.place d) rest) ts refl (λ u n us e named_so.
      subst (λ ws. Meets (λ d rest. IsItem room (t ∷ ws) (tree.Defined t.place d) rest) (and_then (may_have_params room (type_in room) us) (after_params (type_in (suc room)) (body_in room) u.place n))) (sym e)
      (meets_bind (MayHaveParams room us) (λ d rest. IsItem room (t ∷ u ∷ us) (tree.Defined t.place d) rest) (may_have_params room (type_in room) us) (after_params (type_in (suc room)) (body_in room) u.place n) (may_params_sound room us) (λ ps vs dp.
      params_after_sound room (body_in room) (body_sound room (block_sound room)) u.place n (λ d rest. IsItem room (t ∷ u ∷ us) (tree.Defined t.place d) rest) ps vs (λ w b a ws rest dw h db. definition is named_so dp dw h db))))

  -- items
  item_sound : (t : Token) (k : TokenKind) → t.kind ≡ k → (ts : List Token) → Meets (IsItem room (t ∷ ts)) (taken (at_item room t.place k) t ts)
  item_sound t (kind.Word word.In) is ts = meets_named (λ place n. must is_colon (type_in (suc room) >>= λ y. give (tree.Input t.place place n y))) (λ us. ts ≡ us) (IsItem room (t ∷ ts)) ts refl (λ u n us e named_so.
      subst (λ ws. Meets (IsItem room (t ∷ ws)) (must is_colon (type_in (suc room) >>= λ y. give (tree.Input t.place u.place n y)) us)) (sym e)
      (typed_sound room (tree.Input t.place u.place n) (IsItem room (t ∷ u ∷ us)) (λ vs. us ≡ vs) us refl (λ c vs rest y e colon d. subst (λ ws. IsItem room (t ∷ u ∷ ws) (tree.Input t.place u.place n y) rest) (sym e) (input is named_so colon d))))
  item_sound t (kind.Word word.Def) is ts =
      let P : Definition → List Token → Type 0 = λ d rest. IsItem room (t ∷ ts) (tree.Defined t.place d) rest in
      meets_bind P (IsItem room (t ∷ ts)) (whole_definition room ts) (λ d. give (tree.Defined t.place d)) (whole_sound t is ts) (λ d rest k. k)
  item_sound t (kind.Word word.Out) is ts = output_sound t is ts
  item_sound t _ is ts = tt

  item_is : (t : Token) (ts rest : List Token) (i : Item) → IsItem room (t ∷ ts) i rest → (p : Reader Item) × (at_item room t.place t.kind ≡ Some p) × (p ts ≡ Read i rest)
  item_is t ts rest i (input {u = u} {v = v} {ts = vs} {n = n} {y = y} is named_so colon d) =
      (_, ap (at_item room t.place) is, named_is (λ place n. must is_colon (type_in (suc room) >>= λ y. give (tree.Input t.place place n y))) u n (v ∷ vs) named_so ∙ typed_is room (tree.Input t.place u.place n) v vs rest y colon d)
  item_is t ts rest i (definition {t = u} {a = a} {ts = us} {us = vs} {vs = ws} {n = n} {ps = ps} {w = w} {b = b} is named_so dp dw h db) = (
    _,
    ap (at_item room t.place) is,
    ap (λ q. and_then q (λ d. give (tree.Defined t.place d))) (named_is (λ place n. may_have_params room (type_in room) >>= after_params (type_in (suc room)) (body_in room) place n) u n us named_so
        ∙ passes_by (may_have_params room (type_in room)) (after_params (type_in (suc room)) (body_in room) u.place n) us vs ps (may_params_complete dp)
        ∙ params_after_is room (body_in room) u.place n ps vs ws rest w b a dw h (body_complete db)),
  )
  item_is t ts rest i (output {u = u} {p = p} {n = n} is d h) = (_, ap (at_item room t.place) is, output_is t.place u rest p n d h)
  item_is t ts rest i (output_as {a = a} {u = u} {n = n} {e = e} is d as_so named_so) = (_, ap (at_item room t.place) is, output_as_is t.place ts rest e a u n d as_so named_so)

  -- all items, as long as one begins
  abbrev pub AreItems : List Token → List Item → List Token → Type 0
  AreItems ts items rest = rest ≡ [] → Spells room ts items

  item_go : (t : Token) (p : Reader Item) → at_item room t.place t.kind ≡ Some p → (ts : List Token) → Meets (λ i us. (items : List Item) (rest : List Token) → AreItems us items rest → AreItems (t ∷ ts) (i ∷ items) rest) (p ts)
  item_go t p is ts = by (p ts) (subst (λ o. Meets (IsItem room (t ∷ ts)) (taken o t ts)) is (item_sound t t.kind refl ts))
    where
      by : (o : Outcome Token Item) → Meets (IsItem room (t ∷ ts)) o → Meets (λ i us. (items : List Item) (rest : List Token) → AreItems us items rest → AreItems (t ∷ ts) (i ∷ items) rest) o
      by (Read i us) m = λ items rest others end. item m (others end)
      by (Stopped r us) m = tt

  none_left : (t : Token) (ts : List Token) → t ∷ ts ≡ [] → Spells room (t ∷ ts) []
  none_left t ts h = cc

  items_sound : (ts : List Token) → Meets (AreItems ts) (many (items_at room) ts)
  items_sound = meets-many item_signs (items_at room) (local_items room) AreItems (λ h. empty) (λ t ts h. none_left t ts) item_go

  pub sound : (ts : List Token) → Meets (λ items rest. Spells room ts items) (specification room ts)
  sound ts = meets_bind (AreItems ts) (λ items rest. Spells room ts items) (many (items_at room) ts) ended (items_sound ts) by
    where
      by : (items : List Item) (us : List Token) → AreItems ts items us → Meets (λ items rest. Spells room ts items) (ended items us)
      by items [] m = m refl
      by items (u ∷ us) m = tt

  items_complete : (ts : List Token) (items : List Item) → Spells room ts items → many (items_at room) ts ≡ Read items []
  items_complete ts items empty = many_none item_signs (items_at room) (local_items room)
  items_complete [] items (item {rest = rest} {i = i} {items = others} one s) = absurd (never rest i one)
    where
      never : (rest : List Token) (i : Item) → IsItem room [] i rest → ⊥
      never rest i h = elim h [ ]
  items_complete (t ∷ ts) items (item {rest = rest} {i = i} {items = others} one s) =
      let r = item_is t ts rest i one in
      many_go item_signs (items_at room) (local_items room) t r.0 ts rest [] i others r.1 r.2 (items_complete rest others s)

  pub complete : (ts : List Token) (items : List Item) → Spells room ts items → specification room ts ≡ Read items []
  complete ts items s = ap (λ q. and_then q ended) (items_complete ts items s)

abbrev read_whole : List Item → Outcome Token (List Item)
read_whole items = Read items []

same_items : (a b : List Item) → read_whole a ≡ read_whole b → a ≡ b
same_items a b h = cc

-- no tokens spell two trees
pub one_tree : (room : ℕ) (ts : List Token) (a b : List Item) → Spells room ts a → Spells room ts b → a ≡ b
one_tree room ts a b s u = same_items a b (sym (complete room ts a s) ∙ complete room ts b u)
