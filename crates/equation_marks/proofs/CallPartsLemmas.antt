-- What calls of names are made of: as many equations as their marks, of no more than their arguments.
use Rattle.std.proofs.Common.{◌≡◌, ℕ, ◌+◌, ◌≤◌, Bool, true, false, List, [], ◌∷◌, ◌++◌, length, drop, Option, Some, None, refl, sym, ap, ◌∙◌, arith, length-append}
use Rattle.std.specs.Prelude.{if◌then◌else◌}
use Rattle.std.specs.List.{filter, flat_map}
use Rattle.std.proofs.lemmas.List.{append-nil}
use Rattle.tsl_value.specs.declared.place.Place.{Place}
use Rattle.tsl_value.specs.declared.scalar.Scalar.{Scalar}
use Rattle.tsl_value.specs.declared.scalar.Scalar.TheVariants as scalar
use Rattle.syntax_tree.specs.Tree as tree
use Rattle.syntax_tree.specs.Tree.{Expr}
use Rattle.syntax_tree.specs.inner.OneLevel.{exprs_of, size_of_exprs}
use Rattle.name_check.specs.declared.declaration.Declaration.{Declaration}
use Rattle.name_check.specs.declared.declaration.Declaration.TheVariants as declaration
use Rattle.name_check.specs.Builtin.{is_lift}
use Rattle.name_check.specs.Scope.{Scope, meaning}
use Rattle.expr_types.specs.Around.{Around}
use Rattle.stream_constructs.specs.Construct.{Construct}
use Rattle.stream_constructs.specs.Construct as construct
use Rattle.spec_meaning.specs.Function.{literal, no_tree}
use Rattle.spec_meaning.specs.Shape.{is_part, expressions, plain_name, is_delay, is_const, is_filter}
use Rattle.equation_marks.specs.Marks.{Mark, own_marks, marks, each_marks, joined, all_but_last, operands_marks, signal_marks, varying_count, filter_marks, filter_marks_by, declared_marks, named_marks}
use Rattle.equation_marks.specs.inner.Counted.{own_count, signal_count}
use Rattle.equation_marks.specs.inner.Calls.{CallParts, of_streams, is_truth, filter_parts, front, declared_parts, named_parts, call_parts, callee_marks}
use Rattle.equation_marks.proofs.Counts.{length-signal}
use Rattle.equation_marks.proofs.OwnMarks.{own_many}
use Rattle.equation_marks.proofs.PartMarks.{listed_again, joined_listed, operands_listed}

pub front-append : (es : List Expr) (f : Expr) → front (es ++ f ∷ []) ≡ es
front-append [] f = refl
front-append (e ∷ []) f = refl
front-append (e ∷ x ∷ xs) f = ap (λ ys. e ∷ ys) (front-append (x ∷ xs) f)

-- ---- parts are no larger
front_size : (es : List Expr) → size_of_exprs (exprs_of (front es)) ≤ size_of_exprs (exprs_of es)
front_size [] = omega arith
front_size (e ∷ []) = omega arith
front_size (e ∷ f ∷ es) = omega (arith, front_size (f ∷ es))

drop_size : (es : List Expr) → size_of_exprs (exprs_of (drop 1 es)) ≤ size_of_exprs (exprs_of es)
drop_size [] = omega arith
drop_size (e ∷ es) = omega arith

none_size : (es : List Expr) → 1 ≤ size_of_exprs (exprs_of es)
none_size [] = omega arith
none_size (e ∷ es) = omega arith

-- streams and operands that are no larger than all the arguments
pub record AreSmall (c : CallParts) (es : List Expr) : Type 0 where
  pub streams : size_of_exprs (exprs_of c.streams) ≤ size_of_exprs (exprs_of es)
  pub operands : size_of_exprs (exprs_of c.operands) ≤ size_of_exprs (exprs_of es)

small_if : (b : Bool) (c d : CallParts) (es : List Expr) → AreSmall c es → AreSmall d es → AreSmall (if b then c else d) es
small_if true c d es first second = first
small_if false c d es first second = second

small_streams : (ss es : List Expr) (own : ℕ) → size_of_exprs (exprs_of ss) ≤ size_of_exprs (exprs_of es) → AreSmall (of_streams ss own) es
small_streams ss es own h = record { streams = h; operands = none_size es }

small_declared : (d : Option Declaration) (es : List Expr) → AreSmall (declared_parts d es) es
small_declared (Some (declaration.Macro i)) es = record { streams = omega arith; operands = none_size es }
small_declared (Some (declaration.Function i)) es = record { streams = none_size es; operands = omega arith }
small_declared d es = small_streams [] es 0 (none_size es)

small_filter : (es : List Expr) → AreSmall (filter_parts es) es
small_filter [] = small_streams [] [] 0 (omega arith)
small_filter (e ∷ []) = small_streams [] (e ∷ []) 0 (none_size (e ∷ []))
small_filter (e ∷ c ∷ []) =
    small_if (is_truth (literal c)) _ _ (e ∷ c ∷ []) (small_streams (e ∷ []) (e ∷ c ∷ []) (own_count (construct.FilterBy true) 1) (omega arith))
    (small_streams (e ∷ c ∷ []) (e ∷ c ∷ []) (own_count construct.Filter 2) (omega arith))
small_filter (e ∷ c ∷ f ∷ es) = small_streams [] (e ∷ c ∷ f ∷ es) 0 (none_size (e ∷ c ∷ f ∷ es))

small_named : (scope : Scope) (n : List ℕ) (es : List Expr) (o : Option Construct) → AreSmall (named_parts scope n es o) es
small_named scope n es (Some c) = small_streams es es (own_count c (length es)) (omega arith)
small_named scope n es None =
    small_if (is_delay n) _ _ es (small_streams es es (own_count construct.Delay (length es)) (omega arith))
    (small_if (is_const n) _ _ es (small_streams (drop 1 es) es (own_count (construct.Const scalar.Unit) 1) (drop_size es))
    (small_if (is_filter n) _ _ es (small_filter es)
    (small_if (is_lift n) _ _ es (small_streams (front es) es (own_count (construct.Lift no_tree) (length (front es))) (front_size es))
    (small_declared (meaning scope n) es))))

pub small_parts : (scope : Scope) (n : List ℕ) (es : List Expr) → AreSmall (call_parts scope n es) es
small_parts scope n es = small_named scope n es (plain_name n)

-- ---- as many equations
module _ (at : Around) (call : ℕ → List Mark) where
  -- the arguments, those that are no literals among the operands, its own, and those of the macro
  abbrev pub count_of_parts : CallParts → ℕ
  count_of_parts c = length (flat_map (marks at call) c.streams) + length (flat_map (marks at call) (filter is_part c.operands)) + c.own + length (callee_marks call c.callee)

  abbrev Made : List Mark → CallParts → Type 0
  Made ms c = length ms ≡ count_of_parts c

  made_if : (b : Bool) (xs ys : List Mark) (c d : CallParts) → Made xs c → Made ys d → Made (if b then xs else ys) (if b then c else d)
  made_if true xs ys c d first second = first
  made_if false xs ys c d first second = second

  made_streams : (xs ms : List Mark) (ss : List Expr) (own : ℕ) → length ms ≡ own → xs ≡ flat_map (marks at call) ss → Made (xs ++ ms) (of_streams ss own)
  made_streams xs ms ss own is h =
      let all : length (xs ++ ms) ≡ length (flat_map (marks at call) ss) + 0 + own + 0 = omega (arith, length-append xs ms, is, ap length h) in
      all

  made_none : Made [] (of_streams [] 0)
  made_none = refl

  made_declared : (p : Place) (d : Option Declaration) (es : List Expr) → Made (declared_marks at call p d (expressions (exprs_of es)) (each_marks at call (exprs_of es))) (declared_parts d es)
  made_declared p (Some (declaration.Macro i)) es =
      let all : length (joined (each_marks at call (exprs_of es)) ++ call i) ≡ length (flat_map (marks at call) es) + 0 + 0 + length (call i) =
      omega (arith, length-append (joined (each_marks at call (exprs_of es))) (call i), ap length (joined_listed at call es)) in
      all
  made_declared p (Some (declaration.Function i)) es =
      let before = operands_marks (expressions (exprs_of es)) (each_marks at call (exprs_of es)) in
      let own = signal_marks p (expressions (exprs_of es)) in
      let count : length own ≡ signal_count (varying_count es) = ap (λ xs. length (signal_marks p xs)) (listed_again es) ∙ length-signal p es in
      let all : length (before ++ own) ≡ 0 + length (flat_map (marks at call) (filter is_part es)) + signal_count (varying_count es) + 0 =
      omega (arith, length-append before own, ap length (operands_listed at call es), count) in
      all
  made_declared p d es = made_none

  made_filter : (p : Place) (es : List Expr) → Made (filter_marks p (expressions (exprs_of es)) (each_marks at call (exprs_of es))) (filter_parts es)
  made_filter p [] = made_none
  made_filter p (e ∷ []) = made_none
  made_filter p (e ∷ c ∷ []) = by (literal c)
    where
      by : (s : Option Scalar) → Made (filter_marks_by p s (marks at call e ∷ marks at call c ∷ [])) (if is_truth s then of_streams (e ∷ []) (own_count (construct.FilterBy true) 1) else of_streams (e ∷ c ∷ []) (own_count construct.Filter 2))
      by (Some (scalar.Bool b)) = made_streams (marks at call e) (own_marks p (construct.FilterBy b) 1) (e ∷ []) (own_count (construct.FilterBy true) 1) refl (sym (append-nil (marks at call e)))
      by s = made_streams (joined (marks at call e ∷ marks at call c ∷ [])) (own_marks p construct.Filter 2) (e ∷ c ∷ []) (own_count construct.Filter 2) refl refl
  made_filter p (e ∷ c ∷ f ∷ es) = made_none

  made_named : (p : Place) (n : List ℕ) (es : List Expr) (o : Option Construct) → Made (named_marks at call p n (expressions (exprs_of es)) (each_marks at call (exprs_of es)) o) (named_parts at.scope n es o)
  made_named p n es (Some c) =
      made_streams (joined (each_marks at call (exprs_of es))) (own_marks p c (length (expressions (exprs_of es)))) es (own_count c (length es))
      (own_many p c (length (expressions (exprs_of es))) ∙ ap (λ xs. own_count c (length xs)) (listed_again es)) (joined_listed at call es)
  made_named p n es None =
      made_if (is_delay n) _ _ _ _ (made_streams (joined (each_marks at call (exprs_of es))) (own_marks p construct.Delay (length (expressions (exprs_of es)))) es (own_count construct.Delay (length es)) refl (joined_listed at call es))
      (made_if (is_const n) _ _ _ _ (made_streams (joined (drop 1 (each_marks at call (exprs_of es)))) (own_marks p (construct.Const scalar.Unit) 1) (drop 1 es) (own_count (construct.Const scalar.Unit) 1) refl (after_the_first es))
      (made_if (is_filter n) _ _ _ _ (made_filter p es)
      (made_if (is_lift n) _ _ _ _ (made_streams (joined (all_but_last (each_marks at call (exprs_of es)))) (own_marks p (construct.Lift no_tree) (length (all_but_last (each_marks at call (exprs_of es))))) (front es) (own_count (construct.Lift no_tree) (length (front es))) refl (before_last es)) (made_declared p (meaning at.scope n) es))))
    where
      after_the_first : (es : List Expr) → joined (drop 1 (each_marks at call (exprs_of es))) ≡ flat_map (marks at call) (drop 1 es)
      after_the_first [] = refl
      after_the_first (e ∷ es) = joined_listed at call es

      before_last : (es : List Expr) → joined (all_but_last (each_marks at call (exprs_of es))) ≡ flat_map (marks at call) (front es)
      before_last [] = refl
      before_last (e ∷ []) = refl
      before_last (e ∷ f ∷ es) = ap (λ ms. marks at call e ++ ms) (before_last (f ∷ es))

  pub call_length : (p : Place) (n : List ℕ) (es : List Expr) → length (marks at call (tree.Call p n (exprs_of es))) ≡ count_of_parts (call_parts at.scope n es)
  call_length p n es = made_named p n es (plain_name n)
