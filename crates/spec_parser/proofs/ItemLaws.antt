-- The laws of the readers of definitions and items.
use Rattle.std.proofs.Common.{◌≡◌, ℕ, zero, suc, Bool, true, false, List, [], ◌∷◌, ◌++◌, Option, Some, None, refl, ap, inl}
use Rattle.std.specs.Prelude.{codes}
use Rattle.tsl_value.specs.declared.place.Place.{Place}
use Rattle.spec_lexer.specs.declared.token.Token.{Token}
use Rattle.spec_lexer.specs.declared.token.TokenKind.{TokenKind}
use Rattle.spec_lexer.specs.declared.token.TokenKind.TheVariants as kind
use Rattle.spec_lexer.specs.declared.token.Word.TheVariants as word
use Rattle.spec_lexer.specs.declared.token.Symbol.TheVariants as symbol
use Rattle.token_reader.specs.inner.Reader.{Signs, TooDeep, Read, give, refuse, ◌>>=◌, when, or_given, alone, opened, many}
use Rattle.token_reader.proofs.LocalLaws.{IsCareful, IsLocal, IsLocalTurn, Declines, declining, local-give, local-take_by, local-bind, local-expect, local_when}
use Rattle.token_reader.proofs.ManyLaws.{many_end, careful-many, local-many}
use Rattle.token_reader.proofs.CarefulLaws.{careful-give, careful-test, careful-take_by, careful-bind, careful-or_else, careful-alone, local-closed, local-mapped}
use Rattle.token_reader.proofs.ViableLaws.{Passes, plainly, opening, at_once, Completes, CompletesEach, Begins, Skips, completes-give, completes-bind, completes-begins, begins-bind, begins-or_else, each-give, each-bind, all-expect, all-skips, skips-if_next}
use Rattle.token_reader.proofs.Fine.{IsFine, IsFineTurn, GoesOn, fine-give, fine-too_deep, fine-bind, fine-take_by, fine-if_next, fine-or_else, fine-many, fine-expect, fine_when, fine-alone, fine_opened, mapped, careful-turns, careful-may, careful-may_deeper, careful-all, skips-many, skips-deeper, on-expect, on-close, on-skips, on-begins, passes_opened, turn_local}
use Rattle.token_reader.proofs.Fewer.{fine_fewer, fine_after}
use Rattle.syntax_tree.specs.Tree as tree
use Rattle.syntax_tree.specs.Tree.{TypeName, Expr, Param, Body, Definition, Definitions, no_definitions, more_definitions, Item}
use Rattle.spec_parser.specs.Words.{is_open, is_close, is_comma, is_colon, defines, is_as, is_def, is_open_brace, is_close_brace, is_number, may_open, opens_level}
use Rattle.spec_parser.specs.inner.Reading.{Reader, must, at_name, named, type_in, within, param_by, a_param, other_params_of, after_param, params, may_have_params, may_have_type, defined_as, after_params, inner_definition, definitions_of, after_definitions, a_body, block, input_after, whole_definition, definition_after, plain_output, printed_as, after_output, output_after, at_item, items_at}
use Rattle.spec_parser.proofs.Ends.{ends, ends_quiet, signs, signs_by, as_is, close_is, close_brace_is, comma_is, start, sample, a_name, a_truth, comma_goes_on, open_goes_on, colon_goes_on, open_brace_goes_on, def_goes_on, open_is, colon_is, open_brace_is, def_is}
use Rattle.spec_parser.proofs.TypeLaws.{Opens, opens_as, any_token, no_room, type_fine, type_completes, type_careful}
use Rattle.spec_parser.proofs.LevelLaws.{Operand, within_operand}

open_opens : (t : Token) → is_open t.kind ≡ true → Opens t
open_opens t h = opens_as t (kind.Symbol symbol.Open) (open_is t.kind h) refl refl

brace_opens : (t : Token) → is_open_brace t.kind ≡ true → Opens t
brace_opens t h = opens_as t (kind.Symbol symbol.OpenBrace) (open_brace_is t.kind h) refl refl

defines_plain : (k : TokenKind) → defines k ≡ true → may_open k ≡ false
defines_plain (kind.Symbol symbol.Define) h = refl
defines_plain (kind.Symbol symbol.Equals) h = refl
defines_plain _ h = cc

-- a name that has to come
module _ {A : Type 0} (s : Signs Token) (f g : Place → List ℕ → Reader A) (fine : (place : Place) (n : List ℕ) → IsFine s (f place n) (g place n)) where
  name_turn : (careful : (place : Place) (n : List ℕ) → IsCareful s (f place n)) → (plain : (t : Token) (n : List ℕ) → t.kind ≡ kind.Name n → s.opens t ≡ false) → (t : Token) (k : TokenKind) → t.kind ≡ k → IsFineTurn s t (at_name (f t.place) k) (at_name (g t.place) k)
  name_turn careful plain t (kind.Name n) e = (fine t.place n, plainly (plain t n e) (careful t.place n))
  name_turn careful plain t (kind.Number n) e = tt
  name_turn careful plain t (kind.Text n) e = tt
  name_turn careful plain t (kind.Word w) e = tt
  name_turn careful plain t (kind.Symbol x) e = tt

module _ {A : Type 0} (f : Place → List ℕ → Reader A) where
  local_name : (s : Signs Token) → ((place : Place) (n : List ℕ) → IsLocal s (f place n)) → (t : Token) (k : TokenKind) → IsLocalTurn s (at_name (f t.place) k)
  local_name s lf t (kind.Name n) = lf t.place n
  local_name s lf t (kind.Number n) = tt
  local_name s lf t (kind.Text n) = tt
  local_name s lf t (kind.Word w) = tt
  local_name s lf t (kind.Symbol x) = tt

  named_local : (s : Signs Token) → ((place : Place) (n : List ℕ) → IsLocal s (f place n)) → IsLocal s (named f)
  named_local s lf = local-take_by s (λ t. at_name (f t.place) t.kind) (λ t. local_name s lf t t.kind)

  named_careful : (s : Signs Token) → ((place : Place) (n : List ℕ) → IsLocal s (f place n)) → IsCareful s (named f)
  named_careful s lf = careful-take_by s (λ t. at_name (f t.place) t.kind) (λ t. local_name s lf t t.kind)

  named_complete : (s : Signs Token) → Completes s (f start (codes "Int")) → Completes s (named f)
  named_complete s c r h = let d = c r h in (a_name ∷ d.0, d.1, d.2)

named_fine : {A : Type 0} (test : TokenKind → Bool) (quiet : (k : TokenKind) → test k ≡ true → is_number k ≡ false) (f g : Place → List ℕ → Reader A) → ((place : Place) (n : List ℕ) → IsFine (signs_by test quiet) (f place n) (g place n)) → ((place : Place) (n : List ℕ) → IsCareful (signs_by test quiet) (f place n)) → Completes (signs_by test quiet) (g start (codes "Int")) → IsFine (signs_by test quiet) (named f) (named g)
named_fine test quiet f g fine careful c = fine-take_by (signs_by test quiet) (λ t. at_name (f t.place) t.kind) (λ t. at_name (g t.place) t.kind) (λ t. name_turn (signs_by test quiet) f g fine careful (λ t n e. ap may_open e) t t.kind refl) (named_complete g (signs_by test quiet) c)

abbrev a_colon : Token
a_colon = sample (kind.Symbol symbol.Colon)

abbrev a_close : Token
a_close = sample (kind.Symbol symbol.Close)

-- a colon and a type
module _ {A : Type 0} (h : TypeName → A) where
  typed_local : (j : Reader TypeName) → IsLocal signs j → IsLocal signs (must is_colon (j >>= λ y. give (h y)))
  typed_local j lj = local-expect signs (λ t. is_colon t.kind) (j >>= λ y. give (h y)) (local-mapped signs j h lj)

  typed_careful : (j : Reader TypeName) → IsLocal signs j → IsCareful signs (must is_colon (j >>= λ y. give (h y)))
  typed_careful j lj = careful-test signs (λ t. is_colon t.kind) (j >>= λ y. give (h y)) (local-mapped signs j h lj)

  typed_complete : (j : Reader TypeName) → Completes signs j → Completes signs (must is_colon (j >>= λ y. give (h y)))
  typed_complete j cj r e = let c = completes-bind signs j (λ y. give (h y)) (completes-give signs h) cj r e in (a_colon ∷ c.0, c.1, c.2)

  typed_fine : (i j : Reader TypeName) → IsFine signs i j → Completes signs i → Completes signs j → IsCareful signs i → IsFine signs (must is_colon (i >>= λ y. give (h y))) (must is_colon (j >>= λ y. give (h y)))
  typed_fine i j ij ci cj di = fine-expect signs (λ t. is_colon t.kind) a_colon refl (i >>= λ y. give (h y)) (j >>= λ y. give (h y)) (mapped signs i j h ij) (λ t e. plainly (ap may_open (colon_is t.kind e)) (careful-bind signs i (λ y. give (h y)) ij.local di (λ y. careful-give signs (h y)))) (completes-bind signs j (λ y. give (h y)) (completes-give signs h) cj)

-- parameters
module _ (j : Reader TypeName) (lj : IsLocal signs j) where
  pub param_local : IsLocal signs (a_param j)
  param_local = named_local (λ place n. must is_colon (j >>= λ y. give (param_by place n y))) signs (λ place n. typed_local (param_by place n) j lj)

  param_careful : IsCareful signs (a_param j)
  param_careful = named_careful (λ place n. must is_colon (j >>= λ y. give (param_by place n y))) signs (λ place n. typed_local (param_by place n) j lj)

  param_complete : Completes signs j → Completes signs (a_param j)
  param_complete cj = named_complete (λ place n. must is_colon (j >>= λ y. give (param_by place n y))) signs (typed_complete (param_by start (codes "Int")) j cj)

  pub turn_params : (t : Token) → IsLocalTurn signs ((other_params_of j).turn t)
  turn_params t = local_when signs (a_param j) param_local (is_comma t.kind)

  pub declines_params : Declines signs (other_params_of j).turn
  declines_params t h = λ k. when (comma_goes_on t.kind h k) (a_param j)

  pub local_params : IsLocal signs (many (other_params_of j))
  local_params = local-many signs (other_params_of j) turn_params declines_params

  careful_params : IsCareful signs (many (other_params_of j))
  careful_params = careful-many signs (other_params_of j) turn_params

  skips_params : Skips signs [] (many (other_params_of j))
  skips_params r h = many_end signs (other_params_of j) turn_params declines_params r h

  after_param_careful : (p : Param) → IsCareful signs (after_param j p)
  after_param_careful p = careful-bind signs (many (other_params_of j)) (λ ps. must is_close (give (p ∷ ps))) local_params careful_params (λ ps. careful-test signs (λ t. is_close t.kind) (give (p ∷ ps)) (local-give signs (p ∷ ps)))

  params_local : IsLocal signs (params j)
  params_local = local-bind signs (a_param j) (after_param j) param_local
      (λ p. careful-bind signs (many (other_params_of j)) (λ ps. must is_close (give (p ∷ ps))) local_params careful_params (λ ps. careful-test signs (λ t. is_close t.kind) (give (p ∷ ps)) (local-give signs (p ∷ ps))))
      (λ p. local-closed signs (λ t. is_close t.kind) (many (other_params_of j)) (λ ps. p ∷ ps) local_params)

  params_complete : Completes signs j → Completes signs (params j)
  params_complete cj = completes-bind signs (a_param j) (after_param j) (all-skips signs (many (other_params_of j)) (λ p ps. must is_close (give (p ∷ ps))) (all-expect signs (λ t. is_close t.kind) a_close refl (λ (x : Param × List Param). give (x.0 ∷ x.1)) (each-give signs (λ (x : Param × List Param). x.0 ∷ x.1)) refl) [] skips_params) (param_complete cj)

module _ (i j : Reader TypeName) (ij : IsFine signs i j) (ci : Completes signs i) (cj : Completes signs j) (di : IsCareful signs i) where
  param_fine : IsFine signs (a_param i) (a_param j)
  param_fine = named_fine ends ends_quiet (λ place n. must is_colon (i >>= λ y. give (param_by place n y))) (λ place n. must is_colon (j >>= λ y. give (param_by place n y))) (λ place n. typed_fine (param_by place n) i j ij ci cj di) (λ place n. typed_careful (param_by place n) i ij.local) (typed_complete (param_by start (codes "Int")) j cj)

  params_turn : (t : Token) → IsFineTurn signs t ((other_params_of i).turn t) ((other_params_of j).turn t)
  params_turn t = fine_when signs t (a_param i) (a_param j) param_fine (is_comma t.kind) (λ h. plainly (ap may_open (comma_is t.kind h)) (param_careful i ij.local))

  params_fine : IsFine signs (params i) (params j)
  params_fine = fine-bind signs (a_param i) (a_param j) (after_param i) (after_param j) param_fine
      (on-skips signs (many (other_params_of i)) (many (other_params_of j)) (fine-many signs [] (λ p ps. p ∷ ps) (other_params_of i).turn (other_params_of j).turn params_turn (declines_params i ij.local) (declines_params j ij.deeper)) (careful_params i ij.local) (careful_params j ij.deeper)
      (λ p ps. must is_close (give (p ∷ ps))) (λ p ps. must is_close (give (p ∷ ps))) (on-close signs (λ t. is_close t.kind) a_close refl refl (λ t h. ap may_open (close_is t.kind h)) (λ (x : Param × List Param). x.0 ∷ x.1)) [] (skips_params i ij.local) (skips_params j ij.deeper))

complete_at : (room r : ℕ) → room ≡ suc r → Completes signs (type_in room)
complete_at zero r e = absurd (no_room r e)
complete_at (suc room) r e = type_completes room

careful_type_at : (room r : ℕ) → room ≡ suc r → IsCareful signs (type_in room)
careful_type_at zero r e = absurd (no_room r e)
careful_type_at (suc room) r e = type_careful room

module _ (room : ℕ) where
  opened_params : IsFine signs (opened room (params (type_in room))) (params (type_in (suc room)))
  opened_params = fine_opened signs room (params (type_in room)) (params (type_in (suc room))) (λ r e. params_fine (type_in room) (type_in (suc room)) (type_fine room) (complete_at room r e) (type_completes room) (careful_type_at room r e)) (params_local (type_in (suc room)) (type_fine room).deeper) (params_complete (type_in (suc room)) (type_fine room).deeper (type_completes room))

  abbrev open_turn : Token → Option (Reader (List Param))
  open_turn t = when (is_open t.kind) (opened room (params (type_in room)))

  abbrev open_turn_deep : Token → Option (Reader (List Param))
  open_turn_deep t = when (is_open t.kind) (params (type_in (suc room)))

  open_params_turn : (t : Token) → IsFineTurn signs t (open_turn t) (open_turn_deep t)
  open_params_turn t = fine_when signs t (opened room (params (type_in room))) (params (type_in (suc room))) opened_params (is_open t.kind) (λ h. passes_opened signs t room (params (type_in room)) (open_opens t h).0 (open_opens t h).1 (λ r e. careful-bind signs (a_param (type_in room)) (after_param (type_in room)) (param_local (type_in room) (type_fine room).local) (param_careful (type_in room) (type_fine room).local) (λ p. after_param_careful (type_in room) (type_fine room).local p)) (λ r e. params_complete (type_in room) (type_fine room).local (complete_at room r e)))

  params_decline : Declines signs open_turn
  params_decline t h = λ k. when (open_goes_on t.kind h k) (opened room (params (type_in room)))

  params_decline_deep : Declines signs open_turn_deep
  params_decline_deep t h = λ k. when (open_goes_on t.kind h k) (params (type_in (suc room)))

  may_params_fine : IsFine signs (may_have_params room (type_in room)) (may_have_params (suc room) (type_in (suc room)))
  may_params_fine = fine-if_next signs open_turn open_turn_deep open_params_turn params_decline params_decline_deep []

  -- a written type
  abbrev types : Reader TypeName
  types = type_in (suc room)

  abbrev types_deep : Reader TypeName
  types_deep = type_in (suc (suc room))

  abbrev colon_turn : Reader TypeName → Token → Option (Reader (Option TypeName))
  colon_turn y t = when (is_colon t.kind) (y >>= λ y. give (Some y))

  abbrev some_type : TypeName → Option TypeName
  some_type y = Some y

  colon_type_turn : (t : Token) → IsFineTurn signs t (colon_turn types t) (colon_turn types_deep t)
  colon_type_turn t = fine_when signs t (types >>= λ y. give (some_type y)) (types_deep >>= λ y. give (some_type y)) (mapped signs types types_deep some_type (type_fine (suc room))) (is_colon t.kind) (λ h. plainly (ap may_open (colon_is t.kind h)) (careful-bind signs types (λ y. give (some_type y)) (type_fine (suc room)).local (type_careful room) (λ y. careful-give signs (some_type y))))

  type_decline : (y : Reader TypeName) → Declines signs (colon_turn y)
  type_decline y t h = λ k. when (colon_goes_on t.kind h k) (y >>= λ y. give (some_type y))

  no_type : Option TypeName
  no_type = None

  may_type_fine : IsFine signs (may_have_type types) (may_have_type types_deep)
  may_type_fine = fine-if_next signs (colon_turn types) (colon_turn types_deep) colon_type_turn (type_decline types) (type_decline types_deep) None

  module _ (x y : Reader Body) (xy : IsFine signs x y) (cx : Completes signs x) (cy : Completes signs y) (dx : IsCareful signs x) (place : Place) (n : List ℕ) where
    abbrev with_body : List Param → Option TypeName → Body → Definition
    with_body ps w b = tree.Define place n ps w b

    defined_each : (z : Reader Body) → Completes signs z → CompletesEach signs (λ (v : List Param × Option TypeName). z >>= λ b. give (with_body v.0 v.1 b))
    defined_each z cz = each-bind signs z (λ (v : List Param × Option TypeName) b. give (with_body v.0 v.1 b)) (completes-give signs (λ (u : (List Param × Option TypeName) × Body). with_body u.0.0 u.0.1 u.1)) cz

    on_defined : GoesOn signs (λ (v : List Param × Option TypeName). defined_as x (with_body v.0 v.1)) (λ (v : List Param × Option TypeName). defined_as y (with_body v.0 v.1))
    on_defined = on-expect signs (λ t. defines t.kind) (sample (kind.Symbol symbol.Define)) refl refl (λ (v : List Param × Option TypeName). x >>= λ b. give (with_body v.0 v.1 b)) (λ (v : List Param × Option TypeName). y >>= λ b. give (with_body v.0 v.1 b)) (λ v. mapped signs x y (with_body v.0 v.1) xy) (λ v t h. plainly (defines_plain t.kind h) (careful-bind signs x (λ b. give (with_body v.0 v.1 b)) xy.local dx (λ b. careful-give signs (with_body v.0 v.1 b)))) (defined_each x cx) (defined_each y cy)

    pub on_params : GoesOn signs (after_params types x place n) (after_params types_deep y place n)
    on_params = on-skips signs (may_have_type types) (may_have_type types_deep) may_type_fine
        (careful-may signs (colon_turn types) (colon_turn types_deep) colon_type_turn None)
        (careful-may_deeper signs (colon_turn types) (colon_turn types_deep) colon_type_turn None)
        (λ ps w. defined_as x (with_body ps w)) (λ ps w. defined_as y (with_body ps w)) on_defined None
        (skips-if_next signs (colon_turn types) (type_decline types) None) (skips-if_next signs (colon_turn types_deep) (type_decline types_deep) None)

-- bodies, given what is read in braces
pub record KnownBlock (room : ℕ) (x y : Reader Body) : Type 0 where
  pub fine : IsFine signs x y
  pub completes : (r : ℕ) → room ≡ suc r → Completes signs x
  pub deeper : Completes signs y
  pub careful : (r : ℕ) → room ≡ suc r → IsCareful signs x
  pub at_zero : room ≡ 0 → (ts : List Token) → x ts ≡ refuse TooDeep ts

module _ (room : ℕ) (x y : Reader Body) (known : KnownBlock room x y) where
  abbrev inner : Reader Expr
  inner = within (suc room)

  abbrev inner_deep : Reader Expr
  inner_deep = within (suc (suc room))

  abbrev brace_turn : Reader Body → Token → Option (Reader Body)
  brace_turn z t = when (is_open_brace t.kind) z

  block_pass : (t : Token) → is_open_brace t.kind ≡ true → Passes signs t x
  block_pass t h = by room refl
    where
      by : (n : ℕ) → room ≡ n → Passes signs t x
      by zero e = at_once (brace_opens t h).0 (brace_opens t h).1 (known.at_zero e)
      by (suc r) e = opening (brace_opens t h).0 (known.careful r e) (λ k f. let c = known.completes r e k f in (c.0, c.1, c.2, inl ((brace_opens t h).1 (c.0 ++ k))))

  brace_body_turn : (t : Token) → IsFineTurn signs t (brace_turn x t) (brace_turn y t)
  brace_body_turn t = fine_when signs t x y known.fine (is_open_brace t.kind) (block_pass t)

  brace_declines : (z : Reader Body) → Declines signs (brace_turn z)
  brace_declines z t h = λ k. when (open_brace_goes_on t.kind h k) z

  abbrev plain : Reader Expr → Reader Body
  plain e = e >>= λ e. give (tree.Plain e)

  o : Operand inner inner_deep
  o = within_operand room

  plain_begins : (e : Reader Expr) → Begins signs a_truth e → Begins signs a_truth (plain e)
  plain_begins e b = begins-bind signs a_truth e (λ e. give (tree.Plain e)) b (λ e r h. (tree.Plain e, refl))

  body_begins : (z : Reader Body) (e : Reader Expr) → Begins signs a_truth e → Begins signs a_truth (a_body z e)
  body_begins z e b = begins-or_else signs (brace_turn z) (brace_declines z) a_truth (plain e) refl (plain_begins e b)

  plain_careful : IsCareful signs (plain inner)
  plain_careful = careful-bind signs inner (λ e. give (tree.Plain e)) o.fine.local o.careful (λ e. careful-give signs (tree.Plain e))

  plain_deeper_careful : IsCareful signs (plain inner_deep)
  plain_deeper_careful = careful-bind signs inner_deep (λ e. give (tree.Plain e)) o.fine.deeper o.deeper_careful (λ e. careful-give signs (tree.Plain e))

  pub body_fine : IsFine signs (a_body x inner) (a_body y inner_deep)
  body_fine = fine-or_else signs (brace_turn x) (brace_turn y) brace_body_turn (plain inner) (plain inner_deep) (mapped signs inner inner_deep tree.Plain o.fine) (completes-begins signs a_truth (a_body x inner) (body_begins x inner o.begins)) (completes-begins signs a_truth (a_body y inner_deep) (body_begins y inner_deep o.deeper)) (declining (brace_declines x) plain_careful) (declining (brace_declines y) plain_deeper_careful)

  pub body_complete : Completes signs (a_body x inner)
  body_complete = completes-begins signs a_truth (a_body x inner) (body_begins x inner o.begins)

  pub body_deeper : Completes signs (a_body y inner_deep)
  body_deeper = completes-begins signs a_truth (a_body y inner_deep) (body_begins y inner_deep o.deeper)

  pub body_careful : IsCareful signs (a_body x inner)
  body_careful = careful-or_else signs (brace_turn x) (λ t. turn_local signs t (brace_turn x t) (brace_turn y t) (brace_body_turn t)) (plain inner) plain_careful

  -- definitions in braces
  abbrev def_at : Place → List ℕ → Reader Definition
  def_at place n = after_params (type_in (suc room)) (a_body x inner) place n []

  abbrev def_at_deep : Place → List ℕ → Reader Definition
  def_at_deep place n = after_params (type_in (suc (suc room))) (a_body y inner_deep) place n []

  on_def : (place : Place) (n : List ℕ) → GoesOn signs (after_params (type_in (suc room)) (a_body x inner) place n) (after_params (type_in (suc (suc room))) (a_body y inner_deep) place n)
  on_def place n = on_params room (a_body x inner) (a_body y inner_deep) body_fine body_complete body_deeper body_careful place n

  def_complete : (place : Place) (n : List ℕ) → Completes signs (def_at place n)
  def_complete place n r h = let c = (on_def place n).completes r h in let d = c.2 [] in (c.0, d.0, d.1)

  def_deeper : (place : Place) (n : List ℕ) → Completes signs (def_at_deep place n)
  def_deeper place n r h = let c = (on_def place n).deeper r h in let d = c.2 [] in (c.0, d.0, d.1)

  definition_fine : IsFine signs (inner_definition (type_in (suc room)) (a_body x inner)) (inner_definition (type_in (suc (suc room))) (a_body y inner_deep))
  definition_fine = named_fine ends ends_quiet def_at def_at_deep (λ place n. (on_def place n).each []) (λ place n. (on_def place n).careful []) (def_deeper start (codes "Int"))

  definition_careful : IsCareful signs (inner_definition (type_in (suc room)) (a_body x inner))
  definition_careful = named_careful def_at signs (λ place n. ((on_def place n).each []).local)

  definition_complete : Completes signs (inner_definition (type_in (suc room)) (a_body x inner))
  definition_complete = named_complete def_at signs (def_complete start (codes "Int"))

  abbrev def_turn : Token → Option (Reader Definition)
  def_turn = (definitions_of (type_in (suc room)) (a_body x inner)).turn

  abbrev def_turn_deep : Token → Option (Reader Definition)
  def_turn_deep = (definitions_of (type_in (suc (suc room))) (a_body y inner_deep)).turn

  pub defs_turn : (t : Token) → IsFineTurn signs t (def_turn t) (def_turn_deep t)
  defs_turn t = fine_when signs t (inner_definition (type_in (suc room)) (a_body x inner)) (inner_definition (type_in (suc (suc room))) (a_body y inner_deep)) definition_fine (is_def t.kind) (λ h. plainly (ap may_open (def_is t.kind h)) definition_careful)

  pub defs_decline : Declines signs def_turn
  defs_decline t h = λ k. when (def_goes_on t.kind h k) (inner_definition (type_in (suc room)) (a_body x inner))

  defs_decline_deep : Declines signs def_turn_deep
  defs_decline_deep t h = λ k. when (def_goes_on t.kind h k) (inner_definition (type_in (suc (suc room))) (a_body y inner_deep))

  on_definitions : GoesOn signs (after_definitions inner) (after_definitions inner_deep)
  on_definitions = on-begins signs inner inner_deep o.fine o.careful o.deeper_careful (λ ds e. must is_close_brace (give (tree.Block ds e))) (λ ds e. must is_close_brace (give (tree.Block ds e))) (on-close signs (λ t. is_close_brace t.kind) (sample (kind.Symbol symbol.CloseBrace)) refl refl (λ t h. ap may_open (close_brace_is t.kind h)) (λ (v : Definitions × Expr). tree.Block v.0 v.1)) a_truth refl o.begins o.deeper

  abbrev defs : Reader Definitions
  defs = many (definitions_of (type_in (suc room)) (a_body x inner))

  abbrev defs_deep : Reader Definitions
  defs_deep = many (definitions_of (type_in (suc (suc room))) (a_body y inner_deep))

  block_fine : IsFine signs (defs >>= after_definitions inner) (defs_deep >>= after_definitions inner_deep)
  block_fine = fine-bind signs defs defs_deep (after_definitions inner) (after_definitions inner_deep) (fine-many signs no_definitions more_definitions def_turn def_turn_deep defs_turn defs_decline defs_decline_deep) on_definitions

  block_complete : Completes signs (defs >>= after_definitions inner)
  block_complete = completes-bind signs defs (after_definitions inner) on_definitions.completes (λ r h. ([], no_definitions, skips-many signs no_definitions more_definitions def_turn def_turn_deep defs_turn defs_decline defs_decline_deep r h))

  block_deeper : Completes signs (defs_deep >>= after_definitions inner_deep)
  block_deeper = completes-bind signs defs_deep (after_definitions inner_deep) on_definitions.deeper (λ r h. ([], no_definitions, skips-deeper signs no_definitions more_definitions def_turn def_turn_deep defs_turn defs_decline defs_decline_deep r h))

  block_careful : IsCareful signs (defs >>= after_definitions inner)
  block_careful = careful-bind signs defs (after_definitions inner) (fine-many signs no_definitions more_definitions def_turn def_turn_deep defs_turn defs_decline defs_decline_deep).local (careful-all signs no_definitions more_definitions def_turn def_turn_deep defs_turn defs_decline defs_decline_deep) on_definitions.careful

none_zero : (r : ℕ) → suc r ≡ 0 → ⊥
none_zero r e = cc

abbrev some_body : Body
some_body = tree.Plain (tree.Unit start)

any_block : KnownBlock 0 (refuse TooDeep) (any_token some_body)
any_block = record {
  fine = fine-too_deep signs (any_token some_body) (local-take_by signs (λ t. Some (give some_body)) (λ t. local-give signs some_body)) (λ r h. (a_name ∷ [], some_body, refl));
  completes = λ r e. absurd (no_room r e);
  deeper = λ r h. (a_name ∷ [], some_body, refl);
  careful = λ r e. absurd (no_room r e);
  at_zero = λ e ts. refl;
}

pub block_known : (room : ℕ) → KnownBlock room (block room) (block (suc room))
unfolding block
block_known zero = record {
  fine = fine-too_deep signs (block 1) (block_fine 0 (refuse TooDeep) (any_token some_body) any_block).local (block_complete 0 (refuse TooDeep) (any_token some_body) any_block);
  completes = λ r e. absurd (no_room r e);
  deeper = block_complete 0 (refuse TooDeep) (any_token some_body) any_block;
  careful = λ r e. absurd (no_room r e);
  at_zero = λ e ts. refl;
}
block_known (suc room) = record {
  fine = block_fine room (block room) (block (suc room)) (block_known room);
  completes = λ r e. block_complete room (block room) (block (suc room)) (block_known room);
  deeper = block_deeper room (block room) (block (suc room)) (block_known room);
  careful = λ r e. block_careful room (block room) (block (suc room)) (block_known room);
  at_zero = λ e. absurd (none_zero room e);
}

-- items, at which nothing goes on but at the end
abbrev pub none_end : TokenKind → Bool
none_end k = false

pub none_quiet : (k : TokenKind) → none_end k ≡ true → is_number k ≡ false
none_quiet k h = cc

abbrev pub item_signs : Signs Token
item_signs = signs_by none_end none_quiet

no_end : (t : Token) → false ≡ true → ends t.kind ≡ true
no_end t h = cc

pub fine_item : {A : Type 0} (p q : Reader A) → IsFine signs p q → IsFine item_signs p q
fine_item p q h = fine_fewer (λ t. false) (λ t. ends t.kind) (λ t. may_open t.kind) (λ t. is_number t.kind) opens_level no_end (λ t. none_quiet t.kind) (λ t. ends_quiet t.kind) p q h

module _ (room : ℕ) where
  abbrev body : Reader Body
  body = a_body (block room) (within (suc room))

  abbrev body_at_deep : Reader Body
  body_at_deep = a_body (block (suc room)) (within (suc (suc room)))

  input_item : (at : Place) → IsFine signs (input_after room at) (input_after (suc room) at)
  input_item at = named_fine ends ends_quiet (λ place n. must is_colon (type_in (suc room) >>= λ y. give (tree.Input at place n y))) (λ place n. must is_colon (type_in (suc (suc room)) >>= λ y. give (tree.Input at place n y))) (λ place n. typed_fine (tree.Input at place n) (type_in (suc room)) (type_in (suc (suc room))) (type_fine (suc room)) (type_completes room) (type_completes (suc room)) (type_careful room)) (λ place n. typed_careful (tree.Input at place n) (type_in (suc room)) (type_fine (suc room)).local) (typed_complete (tree.Input at start (codes "Int")) (type_in (suc (suc room))) (type_completes (suc room)))

  input_careful : (at : Place) → IsCareful signs (input_after room at)
  input_careful at = named_careful (λ place n. must is_colon (type_in (suc room) >>= λ y. give (tree.Input at place n y))) signs (λ place n. typed_local (tree.Input at place n) (type_in (suc room)) (type_fine (suc room)).local)

  abbrev whole : Place → List ℕ → Reader Definition
  whole place n = may_have_params room (type_in room) >>= after_params (type_in (suc room)) body place n

  abbrev whole_deep : Place → List ℕ → Reader Definition
  whole_deep place n = may_have_params (suc room) (type_in (suc room)) >>= after_params (type_in (suc (suc room))) body_at_deep place n

  on_whole : (place : Place) (n : List ℕ) → GoesOn signs (after_params (type_in (suc room)) body place n) (after_params (type_in (suc (suc room))) body_at_deep place n)
  on_whole place n = on_params room body body_at_deep (body_fine room (block room) (block (suc room)) (block_known room)) (body_complete room (block room) (block (suc room)) (block_known room)) (body_deeper room (block room) (block (suc room)) (block_known room)) (body_careful room (block room) (block (suc room)) (block_known room)) place n

  whole_fine : (place : Place) (n : List ℕ) → IsFine signs (whole place n) (whole_deep place n)
  whole_fine place n = fine-bind signs (may_have_params room (type_in room)) (may_have_params (suc room) (type_in (suc room))) (after_params (type_in (suc room)) body place n) (after_params (type_in (suc (suc room))) body_at_deep place n) (may_params_fine room) (on_whole place n)

  whole_careful : (place : Place) (n : List ℕ) → IsCareful signs (whole place n)
  whole_careful place n = careful-bind signs (may_have_params room (type_in room)) (after_params (type_in (suc room)) body place n) (may_params_fine room).local (careful-may signs (open_turn room) (open_turn_deep room) (open_params_turn room) []) (on_whole place n).careful

  whole_deeper : (place : Place) (n : List ℕ) → Completes signs (whole_deep place n)
  whole_deeper place n = completes-bind signs (may_have_params (suc room) (type_in (suc room))) (after_params (type_in (suc (suc room))) body_at_deep place n) (on_whole place n).deeper (λ r h. ([], [], skips-if_next signs (open_turn_deep room) (params_decline_deep room) [] r h))

  whole_item : IsFine signs (whole_definition room) (whole_definition (suc room))
  whole_item = named_fine ends ends_quiet whole whole_deep whole_fine whole_careful (whole_deeper start (codes "Int"))

  definition_item : (at : Place) → IsFine signs (definition_after room at) (definition_after (suc room) at)
  definition_item at = mapped signs (whole_definition room) (whole_definition (suc room)) (tree.Defined at) whole_item

  definition_item_careful : (at : Place) → IsCareful signs (definition_after room at)
  definition_item_careful at = careful-bind signs (whole_definition room) (λ d. give (tree.Defined at d)) whole_item.local (named_careful whole signs (λ place n. (whole_fine place n).local)) (λ d. careful-give signs (tree.Defined at d))

  -- outputs
  module _ (place : Place) where
    abbrev as_turn : Expr → Token → Option (Reader Item)
    as_turn e t = when (is_as t.kind) (printed_as place e)

    printed_local : (e : Expr) → IsLocal item_signs (printed_as place e)
    printed_local e = named_local (λ p n. give (tree.OutputAs place e p n)) item_signs (λ p n. local-give item_signs (tree.OutputAs place e p n))

    printed_careful : (e : Expr) → IsCareful item_signs (printed_as place e)
    printed_careful e = named_careful (λ p n. give (tree.OutputAs place e p n)) item_signs (λ p n. local-give item_signs (tree.OutputAs place e p n))

    printed_complete : (e : Expr) → Completes item_signs (printed_as place e)
    printed_complete e = named_complete (λ p n. give (tree.OutputAs place e p n)) item_signs (λ r h. ([], tree.OutputAs place e start (codes "Int"), refl))

    printed_fine : (e : Expr) → IsFine item_signs (printed_as place e) (printed_as place e)
    printed_fine e = named_fine none_end none_quiet (λ p n. give (tree.OutputAs place e p n)) (λ p n. give (tree.OutputAs place e p n)) (λ p n. fine-give item_signs (tree.OutputAs place e p n)) (λ p n. careful-give item_signs (tree.OutputAs place e p n)) (λ r h. ([], tree.OutputAs place e start (codes "Int"), refl))

    as_item_turn : (e : Expr) (t : Token) → IsFineTurn item_signs t (as_turn e t) (as_turn e t)
    as_item_turn e t = fine_when item_signs t (printed_as place e) (printed_as place e) (printed_fine e) (is_as t.kind) (λ h. plainly (ap may_open (as_is t.kind h)) (printed_careful e))

    as_declines : (e : Expr) → Declines item_signs (as_turn e)
    as_declines e t h = cc

    abbrev an_as : Token
    an_as = sample (kind.Word word.As)

    given_fine : (e : Expr) (g : Option Item) → IsFine item_signs (or_given (as_turn e) g) (or_given (as_turn e) g)
    given_fine e (Some i) = fine-if_next item_signs (as_turn e) (as_turn e) (as_item_turn e) (as_declines e) (as_declines e) i
    given_fine e None = fine-take_by item_signs (as_turn e) (as_turn e) (as_item_turn e) (λ r h. (an_as ∷ a_name ∷ [], tree.OutputAs place e start (codes "Int"), refl))

    given_careful : (e : Expr) (g : Option Item) → IsCareful item_signs (or_given (as_turn e) g)
    given_careful e (Some i) = careful-may item_signs (as_turn e) (as_turn e) (as_item_turn e) i
    given_careful e None = careful-turns item_signs (as_turn e) (as_turn e) (as_item_turn e)

    given_reads : (e : Expr) (g : Option Item) (r : List Token) → or_given (as_turn e) g (an_as ∷ a_name ∷ r) ≡ Read (tree.OutputAs place e start (codes "Int")) r
    given_reads e (Some i) r = refl
    given_reads e None r = refl

    abbrev expr_alone : Reader (Expr × Bool)
    expr_alone = alone (within (suc room))

    output_item : IsFine item_signs (output_after room place) (output_after (suc room) place)
    output_item = fine_after (λ t. false) (λ t. ends t.kind) (λ t. may_open t.kind) (λ t. is_number t.kind) opens_level no_end (λ t. none_quiet t.kind) (λ t. ends_quiet t.kind) (alone (within (suc room))) (alone (within (suc (suc room)))) (after_output place) (after_output place)
        (λ r h. (an_as ∷ a_name ∷ [], refl, λ x. (tree.OutputAs place x.0 start (codes "Int"), given_reads x.0 (plain_output place x) r)))
        (λ r h. (an_as ∷ a_name ∷ [], refl, λ x. (tree.OutputAs place x.0 start (codes "Int"), given_reads x.0 (plain_output place x) r)))
        (fine-alone signs (within (suc room)) (within (suc (suc room))) (within_operand room).fine)
        (λ x. given_fine x.0 (plain_output place x)) (λ x. given_careful x.0 (plain_output place x)) (λ x. given_careful x.0 (plain_output place x))

    output_careful : IsCareful item_signs (output_after room place)
    output_careful = careful-bind item_signs (alone (within (suc room))) (after_output place) (fine_item (alone (within (suc room))) (alone (within (suc (suc room)))) (fine-alone signs (within (suc room)) (within (suc (suc room))) (within_operand room).fine)).local (careful-alone signs (within (suc room)) (within_operand room).careful) (λ x. given_careful x.0 (plain_output place x))

  item_turn : (t : Token) (k : TokenKind) → t.kind ≡ k → IsFineTurn item_signs t (at_item room t.place k) (at_item (suc room) t.place k)
  item_turn t (kind.Word word.In) e = (fine_item (input_after room t.place) (input_after (suc room) t.place) (input_item t.place), plainly (ap may_open e) (input_careful t.place))
  item_turn t (kind.Word word.Def) e = (fine_item (definition_after room t.place) (definition_after (suc room) t.place) (definition_item t.place), plainly (ap may_open e) (definition_item_careful t.place))
  item_turn t (kind.Word word.Out) e = (output_item t.place, plainly (ap may_open e) (output_careful t.place))
  item_turn t _ e = tt

  abbrev turns : Token → Option (Reader Item)
  turns t = at_item room t.place t.kind

  abbrev turns_deep : Token → Option (Reader Item)
  turns_deep t = at_item (suc room) t.place t.kind

  pub items_turn : (t : Token) → IsFineTurn item_signs t (turns t) (turns_deep t)
  items_turn t = item_turn t t.kind refl

  items_decline : (f : Token → Option (Reader Item)) → Declines item_signs f
  items_decline f t h = cc

  pub local_items : (t : Token) → IsLocalTurn item_signs ((items_at room).turn t)
  local_items t = turn_local item_signs t (turns t) (turns_deep t) (items_turn t)

  pub items_fine : IsFine item_signs (many (items_at room)) (many (items_at (suc room)))
  items_fine = fine-many item_signs [] (λ i is. i ∷ is) turns turns_deep items_turn (items_decline turns) (items_decline turns_deep)

  pub items_careful : IsCareful item_signs (many (items_at room))
  items_careful = careful-many item_signs (items_at room) local_items

pub defs_local : (room : ℕ) (t : Token) → IsLocalTurn signs ((definitions_of (type_in (suc room)) (a_body (block room) (within (suc room)))).turn t)
defs_local room t = turn_local signs t (def_turn room (block room) (block (suc room)) (block_known room) t) (def_turn_deep room (block room) (block (suc room)) (block_known room) t) (defs_turn room (block room) (block (suc room)) (block_known room) t)

pub definition_local : (room : ℕ) → IsLocal signs (inner_definition (type_in (suc room)) (a_body (block room) (within (suc room))))
definition_local room = (definition_fine room (block room) (block (suc room)) (block_known room)).local
