-- What is read, by the first token.
use Rattle.std.proofs.Common.{◌≡◌, ℕ, zero, suc, ◌+◌, ◌==◌, ◌<◌, Bool, true, false, List, [], ◌∷◌, length, Option, Some, None, refl, sym, ap, ◌∙◌, arith}
use Rattle.tsl_value.specs.declared.place.Place.{Place}
use Rattle.spec_lexer.specs.declared.token.Token.{Token}
use Rattle.token_reader.specs.inner.Reader.{Outcome, Read, and_then, chosen, give, noted, or_given, opened, taken, tried, when}
use Rattle.syntax_tree.specs.declared.tree.Level.TheVariants as level
use Rattle.syntax_tree.specs.Tree as tree
use Rattle.syntax_tree.specs.Tree.{Expr, Item, Param, TypeName}
use Rattle.spec_parser.specs.Words.{is_as, is_close, is_if}
use Rattle.spec_parser.specs.inner.Reading.{Reader, type_in, chain, operand_at, unary_at, all_levels, choice, expression, closed, in_parens, within, prefixed, may_have_type, after_params, defined_as, a_body, block, plain_output, printed_as, after_output, output_after}
use Rattle.spec_parser.specs.inner.PartReaders.{given}

pub within_is : (room below : ℕ) (ts : List Token) → room ≡ suc below → within room ts ≡ expression below (type_in below) (within below) (prefixed below) ts
unfolding within prefixed
within_is room below ts h = ap (λ n. within n ts) h

module _ (room : ℕ) (ts : List Token) (t : Token) (after : List Token) (e : ts ≡ t ∷ after) where
  pub no_choice : false ≡ is_if t.kind → expression room (type_in room) (within room) (prefixed room) ts ≡ chain level.Disjunction (operand_at level.Disjunction room) ts
  no_choice other =
      ap (expression room (type_in room) (within room) (prefixed room)) e
      ∙ (λ k. chosen (when (sym other k) (opened room (choice (within room) t.place))) (all_levels (unary_at room)) t after)
      ∙ ap (all_levels (unary_at room)) (sym e)

opened_is : {A : Type 0} (room : ℕ) (p : Reader A) (ts : List Token) → 0 < room → opened room p ts ≡ p ts
opened_is zero p ts h = absurd (omega arith)
opened_is (suc room) p ts h = refl

module _ (room : ℕ) (place : Place) (ts : List Token) (h : 0 < room) where
  abbrev what : List Token → Outcome Token Expr
  what us = opened room (in_parens (within room) place) us

  abbrev then : Bool → Token → List Token → Outcome Token Expr
  then b t us = chosen (when b (give (tree.Unit place))) (closed (within room)) t us

  pub nothing_left : length ts ≡ 0 → what ts ≡ closed (within room) ts
  nothing_left = at ts
    where
      at : (us : List Token) → length us ≡ 0 → what us ≡ closed (within room) us
      at [] e = opened_is room (in_parens (within room) place) [] h
      at (u ∷ us) e = absurd (omega arith)

  module _ (t : Token) (after : List Token) (e : ts ≡ t ∷ after) where
    opened_at : what ts ≡ then (is_close t.kind) t after
    opened_at = opened_is room (in_parens (within room) place) ts h ∙ ap (in_parens (within room) place) e

    pub unit_read : true ≡ is_close t.kind → what ts ≡ Read (tree.Unit place) after
    unit_read is = opened_at ∙ (λ k. then (sym is k) t after)

    pub inside_read : false ≡ is_close t.kind → what ts ≡ closed (within room) ts
    inside_read other = opened_at ∙ (λ k. then (sym other k) t after) ∙ ap (closed (within room)) (sym e)

-- after the expression of an output
module _ (place : Place) (x : Expr × Bool) where
  abbrev at_as : Token → Option (Reader Item)
  at_as t = when (is_as t.kind) (printed_as place x.0)

  at_end : (o : Option Item) → or_given at_as o [] ≡ given o []
  at_end (Some i) = refl
  at_end None = refl

  pub nothing_after : (ts : List Token) → length ts ≡ 0 → after_output place x ts ≡ given (plain_output place x) ts
  nothing_after [] e = at_end (plain_output place x)
  nothing_after (t ∷ ts) e = absurd (omega arith)

  module _ (t : Token) (after : List Token) where
    no_as : (o : Option Item) → false ≡ is_as t.kind → or_given at_as o (t ∷ after) ≡ given o (t ∷ after)
    no_as (Some i) other = λ k. tried (when (sym other k) (printed_as place x.0)) i t after
    no_as None other = λ k. taken (when (sym other k) (printed_as place x.0)) t after

    an_as : (o : Option Item) → true ≡ is_as t.kind → or_given at_as o (t ∷ after) ≡ printed_as place x.0 after
    an_as (Some i) is = λ k. tried (when (sym is k) (printed_as place x.0)) i t after
    an_as None is = λ k. taken (when (sym is k) (printed_as place x.0)) t after

    pub not_printed : (ts : List Token) → ts ≡ t ∷ after → false ≡ is_as t.kind → after_output place x ts ≡ given (plain_output place x) ts
    not_printed ts e other = ap (after_output place x) e ∙ no_as (plain_output place x) other ∙ ap (given (plain_output place x)) (sym e)

    pub printed_read : (ts : List Token) → ts ≡ t ∷ after → true ≡ is_as t.kind → after_output place x ts ≡ printed_as place x.0 after
    printed_read ts e is = ap (after_output place x) e ∙ an_as (plain_output place x) is

pub output_is : (room above : ℕ) (place : Place) (ts : List Token) (e : Expr) (rest : List Token) → above ≡ suc room → within above ts ≡ Read e rest → output_after room place ts ≡ after_output place (e, length ts == 1 + length rest) rest
output_is room above place ts e rest same reads = ap (λ o. and_then (noted (length ts) o) (after_output place)) (ap (λ n. within n ts) (sym same) ∙ reads)

pub what_follows_is : (room above : ℕ) (place : Place) (n : List ℕ) (ps : List Param) (ts : List Token) (w : Option TypeName) (rest : List Token) → above ≡ suc room → may_have_type (type_in above) ts ≡ Read w rest → after_params (type_in (suc room)) (a_body (block room) (within (suc room))) place n ps ts ≡ defined_as (a_body (block room) (within (suc room))) (tree.Define place n ps w) rest
what_follows_is room above place n ps ts w rest same reads = ap (λ o. and_then o (λ w. defined_as (a_body (block room) (within (suc room))) (tree.Define place n ps w))) (ap (λ k. may_have_type (type_in k) ts) (sym same) ∙ reads)
