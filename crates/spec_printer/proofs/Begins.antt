-- The first mark of what begins a line.
use Rattle.std.proofs.Common.{◌≡◌, ◌<◌, Bool, true, false, List, ◌∷◌, ◌++◌, refl, ap, subst, ◌∙◌, arith}
use Rattle.spec_lexer.specs.declared.token.Token.{Token}
use Rattle.spec_lexer.specs.declared.token.TokenKind.{TokenKind}
use Rattle.spec_lexer.specs.declared.token.TokenKind.TheVariants as kind
use Rattle.spec_lexer.specs.declared.token.Symbol.TheVariants as symbol
use Rattle.syntax_tree.specs.Tree as tree
use Rattle.syntax_tree.specs.Tree.{Expr}
use Rattle.spec_parser.specs.Words.{is_def}
use Rattle.spec_parser.specs.Grammar.{IsPast}
use Rattle.spec_printer.specs.inner.Marks.{Mark, token}
use Rattle.spec_printer.specs.inner.Follow.{Follow}
use Rattle.spec_printer.specs.inner.Print.{enclosed, holds, least_operand, expr_marks}
use Rattle.spec_printer.proofs.Behind.{kind_strength, strength_after}
use Rattle.spec_printer.proofs.Again.{with_token}

-- a token that begins an expression, and goes on with nothing where it is the first of its line
pub record Begins (ms : List Mark) : Type 0 where
  pub kind : TokenKind
  pub more : List Mark
  pub is : ms ≡ token kind ∷ more
  pub weak : kind_strength kind true ≡ 0
  pub no_def : is_def kind ≡ false

begins_as : (k : TokenKind) (more : List Mark) → kind_strength k true ≡ 0 → is_def k ≡ false → Begins (token k ∷ more)
begins_as k more weak no_def = record { kind = k; more = more; is = refl; weak = weak; no_def = no_def }

begins_enclosed : (b : Bool) (ms : List Mark) → Begins ms → Begins (enclosed b ms)
begins_enclosed true ms h = h
begins_enclosed false ms h = begins_as (kind.Symbol symbol.Open) _ refl refl

pub begins_append : (ms ns : List Mark) → Begins ms → Begins (ms ++ ns)
begins_append ms ns h = record { kind = h.kind; more = h.more ++ ns; is = ap (λ l. l ++ ns) h.is; weak = h.weak; no_def = h.no_def }

pub begins : (e : Expr) → Begins (expr_marks e)
begins (tree.If p c a b) = begins_as _ _ refl refl
begins (tree.Chain p l e ls) = begins_append (enclosed (holds (least_operand l) e) (expr_marks e)) _ (begins_enclosed (holds (least_operand l) e) (expr_marks e) (begins e))
begins (tree.Compare p o a b) = begins_append (enclosed (holds 4 a) (expr_marks a)) _ (begins_enclosed (holds 4 a) (expr_marks a) (begins a))
begins (tree.Negate p e) = begins_as _ _ refl refl
begins (tree.Not p e) = begins_as _ _ refl refl
begins (tree.Number p n) = begins_as _ _ refl refl
begins (tree.Negative p n) = begins_as _ _ refl refl
begins (tree.Text p t) = begins_as _ _ refl refl
begins (tree.Boolean p true) = begins_as _ _ refl refl
begins (tree.Boolean p false) = begins_as _ _ refl refl
begins (tree.Unit p) = begins_as _ _ refl refl
begins (tree.Name p n) = begins_as _ _ refl refl
begins (tree.Call p n es) = begins_as _ _ refl refl
begins (tree.CallDotted p d es) = begins_as _ _ refl refl
begins (tree.Nil p y) = begins_as _ _ refl refl
begins (tree.None p y) = begins_as _ _ refl refl
begins (tree.Empty p a) = begins_as _ _ refl refl

pub begins_weak : (ms ns : List Mark) → Begins ms → strength_after true (ms ++ ns) < 1
begins_weak ms ns h = let none : strength_after true (ms ++ ns) ≡ 0 = ap (λ l. strength_after true (l ++ ns)) h.is ∙ h.weak in omega (arith, none)

pub begins_no_def : {first : Bool} (ms ns : List Mark) → Begins ms → (ts : List Token) → Follow first (ms ++ ns) ts → IsPast is_def ts
begins_no_def {first = first} ms ns b ts h =
    with_token (IsPast is_def) (λ t rest is f h. ap is_def is ∙ b.no_def) ts (subst (λ l. Follow first (l ++ ns) ts) b.is h)
