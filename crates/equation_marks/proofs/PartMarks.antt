-- The marks of the parts of expressions, as they stand in lists.
use Rattle.std.proofs.Common.{◌≡◌, ℕ, suc, Bool, true, false, cond, not, List, [], ◌∷◌, ◌++◌, length, refl, sym, ap, ◌∙◌, append_assoc}
use Rattle.std.specs.Prelude.{if◌then◌else◌, Option, Some, None, is_none}
use Rattle.std.specs.List.{filter, flat_map}
use Rattle.std.proofs.lemmas.List.{append-nil}
use Rattle.tsl_value.specs.declared.scalar.Scalar.{Scalar}
use Rattle.syntax_tree.specs.Tree.{Expr, Exprs, no_exprs, more_exprs}
use Rattle.syntax_tree.specs.inner.OneLevel.{exprs_of}
use Rattle.expr_types.specs.Around.{Around}
use Rattle.spec_meaning.specs.Function.{literal}
use Rattle.spec_meaning.specs.Shape.{is_part, expressions, operand, operands}
use Rattle.equation_marks.specs.Marks.{Mark, marks, each_marks, unless_literal, operands_marks, joined, all_but_last}
use Rattle.equation_marks.specs.inner.Counted.{fixed_count}
use Rattle.equation_marks.proofs.OwnMarks.{literal_count}

-- expressions as a list, and back
pub expressions_again : (es : Exprs) → exprs_of (expressions es) ≡ es
expressions_again no_exprs = refl
expressions_again (more_exprs e es) = ap (more_exprs e) (expressions_again es)

pub listed_again : (es : List Expr) → expressions (exprs_of es) ≡ es
listed_again [] = refl
listed_again (e ∷ es) = ap (λ xs. e ∷ xs) (listed_again es)

-- literals among operands, counted in both ways
pub fixed_are_literals : (es : List Expr) → literal_count (operands es) ≡ fixed_count es
fixed_are_literals [] = refl
fixed_are_literals (e ∷ es) = by (literal e) (fixed_are_literals es)
  where
    by : (s : Option Scalar) → literal_count (operands es) ≡ fixed_count es → literal_count (operand s ∷ operands es) ≡ length (cond (not (is_none s)) (e ∷ filter (λ x. not (is_part x)) es) (filter (λ x. not (is_part x)) es))
    by None h = h
    by (Some s) h = ap suc h

-- ---- whatever marks the expressions of a list have
module _ (of : Expr → List Mark) where
  pub operand_front : (e : Expr) (es : List Expr) → flat_map of (filter is_part (e ∷ es)) ≡ unless_literal e (of e) ++ flat_map of (filter is_part es)
  operand_front e es = by (is_part e)
    where
      by : (b : Bool) → flat_map of (cond b (e ∷ filter is_part es) (filter is_part es)) ≡ (if b then of e else []) ++ flat_map of (filter is_part es)
      by true = refl
      by false = refl

  pub one_operand : (e : Expr) → flat_map of (filter is_part (e ∷ [])) ≡ unless_literal e (of e)
  one_operand e = operand_front e [] ∙ append-nil (unless_literal e (of e))

  pub two_operands : (a b : Expr) → flat_map of (filter is_part (a ∷ b ∷ [])) ≡ unless_literal a (of a) ++ unless_literal b (of b)
  two_operands a b = operand_front a (b ∷ []) ∙ ap (λ ms. unless_literal a (of a) ++ ms) (one_operand b)

  pub three_operands : (a b c : Expr) → flat_map of (filter is_part (a ∷ b ∷ c ∷ [])) ≡ unless_literal a (of a) ++ unless_literal b (of b) ++ unless_literal c (of c)
  three_operands a b c =
      operand_front a (b ∷ c ∷ []) ∙ ap (λ ms. unless_literal a (of a) ++ ms) (two_operands b c)
      ∙ sym (append_assoc (unless_literal a (of a)) (unless_literal b (of b)) (unless_literal c (of c)))

-- ---- the arguments of a call
module _ (at : Around) (call : ℕ → List Mark) where
  pub joined_each : (es : Exprs) → joined (each_marks at call es) ≡ flat_map (marks at call) (expressions es)
  joined_each no_exprs = refl
  joined_each (more_exprs e es) = ap (λ ms. marks at call e ++ ms) (joined_each es)

  pub operands_each : (es : Exprs) → operands_marks (expressions es) (each_marks at call es) ≡ flat_map (marks at call) (filter is_part (expressions es))
  operands_each no_exprs = refl
  operands_each (more_exprs e es) =
      ap (λ ms. unless_literal e (marks at call e) ++ ms) (operands_each es) ∙ sym (operand_front (marks at call) e (expressions es))

  -- those of a list, one after the other
  pub joined_listed : (es : List Expr) → joined (each_marks at call (exprs_of es)) ≡ flat_map (marks at call) es
  joined_listed es = joined_each (exprs_of es) ∙ ap (flat_map (marks at call)) (listed_again es)

  pub operands_listed : (es : List Expr) → operands_marks (expressions (exprs_of es)) (each_marks at call (exprs_of es)) ≡ flat_map (marks at call) (filter is_part es)
  operands_listed es = operands_each (exprs_of es) ∙ ap (λ xs. flat_map (marks at call) (filter is_part xs)) (listed_again es)

  -- all but the last
  pub front_each : (es : List Expr) (f : Expr) → joined (all_but_last (each_marks at call (exprs_of (es ++ f ∷ [])))) ≡ flat_map (marks at call) es
  front_each [] f = refl
  front_each (e ∷ []) f = refl
  front_each (e ∷ x ∷ xs) f = ap (λ ms. marks at call e ++ ms) (front_each (x ∷ xs) f)
