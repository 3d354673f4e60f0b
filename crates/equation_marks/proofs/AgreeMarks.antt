-- Marks, as types, depend on what is seen through what names stand for alone.
use Rattle.std.proofs.Common.{◌≡◌, ℕ, suc, Bool, true, false, List, [], ◌∷◌, ◌++◌, length, drop, Option, Some, None, refl, ap, ◌∙◌}
use Rattle.std.specs.Prelude.{if◌then◌else◌}
use Rattle.tsl_value.specs.declared.place.Place.{Place}
use Rattle.tsl_value.specs.declared.scalar.Scalar.TheVariants as scalar
use Rattle.syntax_tree.specs.Tree as tree
use Rattle.syntax_tree.specs.Tree.{Expr, Exprs, no_exprs, more_exprs, Links, no_links, more_links, place_of}
use Rattle.vocabulary.specs.declared.signature.Role.{Role}
use Rattle.vocabulary.specs.declared.signature.Role.TheVariants as role
use Rattle.vocabulary.specs.Table.{role_of}
use Rattle.name_check.specs.declared.declaration.Declaration.{Declaration}
use Rattle.name_check.specs.declared.declaration.Declaration.TheVariants as declaration
use Rattle.name_check.specs.Builtin.{is_lift}
use Rattle.name_check.specs.Scope.{Scope, meaning, Agree}
use Rattle.expr_types.specs.Around.{Around}
use Rattle.expr_types.specs.Judge.{type_of}
use Rattle.expr_types.specs.inner.Alike.{IsAlike}
use Rattle.expr_types.proofs.AlikeLemmas.{type_alike, names_alike}
use Rattle.expr_types.proofs.SameLemmas.{moved}
use Rattle.stream_constructs.specs.Construct.{Construct}
use Rattle.stream_constructs.specs.Construct as construct
use Rattle.spec_meaning.specs.Function.{no_tree}
use Rattle.spec_meaning.specs.Occurrence.{result_of}
use Rattle.spec_meaning.specs.Shape.{expressions, plain_name, is_delay, is_const, is_filter}
use Rattle.spec_meaning.specs.Makes.{is_name}
use Rattle.equation_marks.specs.Marks.{Mark, own_marks, alias_own_marks, marks, each_marks, link_marks, signal_marks, update_marks, varying_count, unless_literal, joined, all_but_last, operands_marks, filter_marks, declared_marks, named_marks, role_marks, choice_marks, holds_aggregate, body_marks, block_marks}

-- each name stands for the same in both, and the same is known of it
pub record AreAlike (at to : Around) : Type 0 where
  pub same_setting : at.setting ≡ to.setting
  pub names : (n : List ℕ) → IsAlike at to n

pub type_of_alike : (at to : Around) → AreAlike at to → (e : Expr) → type_of at e ≡ type_of to e
type_of_alike at to h e = type_alike at to e (names_alike at to e h.same_setting h.names)

module _ (at to : Around) (call : ℕ → List Mark) (h : AreAlike at to) where
  declared_same : (p : Place) (d : Option Declaration) (es : List Expr) (xs ys : List (List Mark)) → xs ≡ ys → declared_marks at call p d es xs ≡ declared_marks to call p d es ys
  declared_same p (Some (declaration.Macro i)) es xs ys same = λ k. joined (same k) ++ call i
  declared_same p (Some (declaration.Function i)) es xs ys same = λ k. operands_marks es (same k) ++ signal_marks p es
  declared_same p d es xs ys same = refl

  named_same : (p : Place) (n : List ℕ) (es : List Expr) (xs ys : List (List Mark)) (o : Option Construct) → xs ≡ ys → named_marks at call p n es xs o ≡ named_marks to call p n es ys o
  named_same p n es xs ys (Some c) same = λ k. joined (same k) ++ own_marks p c (length es)
  named_same p n es xs ys None same =
      let declared = declared_same p (meaning at.scope n) es xs ys same ∙ ap (λ d. declared_marks to call p d es ys) ((h.names n).stands) in
      λ k.
      if is_delay n then joined (same k) ++ own_marks p construct.Delay (length es)
      else if is_const n then joined (drop 1 (same k)) ++ own_marks p (construct.Const scalar.Unit) 1
      else if is_filter n then filter_marks p es (same k)
      else if is_lift n then joined (all_but_last (same k)) ++ own_marks p (construct.Lift no_tree) (length (all_but_last (same k)))
      else declared k

  role_same : (p : Place) (r : Role) (es : List Expr) (xs ys : List (List Mark)) → xs ≡ ys → role_marks at call p r es xs ≡ role_marks to call p r es ys
  role_same p (role.Update o) es xs ys same = λ k. operands_marks es (same k) ++ update_marks p o es
  role_same p r es xs ys same = λ k. operands_marks es (same k) ++ signal_marks p es

  choice_same : (p : Place) (b : Bool) (es : List Expr) → choice_marks at call p b es ≡ choice_marks to call p b es
  choice_same p true es = refl
  choice_same p false es = refl

  mutual
    pub marks_alike : (e : Expr) → marks at call e ≡ marks to call e
    marks_alike (tree.If p c a b) =
        let own = ap (λ t. choice_marks at call p (holds_aggregate t) (c ∷ a ∷ b ∷ [])) (type_of_alike at to h (tree.If p c a b))
        ∙ choice_same p (holds_aggregate (type_of to (tree.If p c a b))) (c ∷ a ∷ b ∷ []) in
        λ k. unless_literal c (marks_alike c k) ++ unless_literal a (marks_alike a k) ++ unless_literal b (marks_alike b k) ++ own k
    marks_alike (tree.Chain p l e no_links) = marks_alike e
    marks_alike (tree.Chain p l e (more_links o f ls)) =
        λ k. unless_literal e (marks_alike e k) ++ unless_literal f (marks_alike f k) ++ signal_marks p (e ∷ f ∷ []) ++ links_alike p ls k
    marks_alike (tree.Compare p o a b) = λ k. unless_literal a (marks_alike a k) ++ unless_literal b (marks_alike b k) ++ signal_marks p (a ∷ b ∷ [])
    marks_alike (tree.Negate p e) = λ k. unless_literal e (marks_alike e k) ++ signal_marks p (e ∷ [])
    marks_alike (tree.Not p e) = λ k. unless_literal e (marks_alike e k) ++ signal_marks p (e ∷ [])
    marks_alike (tree.Number p n) = refl
    marks_alike (tree.Negative p n) = refl
    marks_alike (tree.Text p t) = refl
    marks_alike (tree.Boolean p b) = refl
    marks_alike (tree.Unit p) = refl
    marks_alike (tree.Name p n) = refl
    marks_alike (tree.Call p n es) = named_same p n (expressions es) (each_marks at call es) (each_marks to call es) (plain_name n) (each_alike es)
    marks_alike (tree.CallDotted p d es) = role_same p (role_of d) (expressions es) (each_marks at call es) (each_marks to call es) (each_alike es)
    marks_alike (tree.Nil p y) = refl
    marks_alike (tree.None p y) = refl
    marks_alike (tree.Empty p a) = refl

    pub each_alike : (es : Exprs) → each_marks at call es ≡ each_marks to call es
    each_alike no_exprs = refl
    each_alike (more_exprs e es) = λ k. marks_alike e k ∷ each_alike es k

    pub links_alike : (p : Place) (ls : Links) → link_marks at call p ls ≡ link_marks to call p ls
    links_alike p no_links = refl
    links_alike p (more_links o f ls) = λ k. unless_literal f (marks_alike f k) ++ own_marks p (construct.Signal no_tree) (suc (varying_count (f ∷ []))) ++ links_alike p ls k

  pub body_alike : (e : Expr) → body_marks at call e ≡ body_marks to call e
  body_alike e = ap (λ ms. if is_name e then alias_own_marks (place_of e) else ms) (marks_alike e)

  pub block_alike : (ds : tree.Definitions) → block_marks at call ds ≡ block_marks to call ds
  block_alike tree.no_definitions = refl
  block_alike (tree.more_definitions (tree.Define q x ps w b) ds) = λ k. body_alike (result_of b) k ++ block_alike ds k

-- ---- where only what is seen differs
pub agree_alike : (at : Around) (t : Scope) → Agree at.scope t → AreAlike at (moved at t)
agree_alike at t h = record {
  same_setting = refl;
  names = λ n. record { stands = h.at n; types = λ d is. refl; calls = λ d is. refl };
}

pub type_of_agrees : (at : Around) (t : Scope) → Agree at.scope t → (e : Expr) → type_of at e ≡ type_of (moved at t) e
type_of_agrees at t h e = type_of_alike at (moved at t) (agree_alike at t h) e

pub marks_agree : (at : Around) (t : Scope) (call : ℕ → List Mark) → Agree at.scope t → (e : Expr) → marks at call e ≡ marks (moved at t) call e
marks_agree at t call h e = marks_alike at (moved at t) call (agree_alike at t h) e

pub body_agrees : (at : Around) (t : Scope) (call : ℕ → List Mark) → Agree at.scope t → (e : Expr) → body_marks at call e ≡ body_marks (moved at t) call e
body_agrees at t call h e = body_alike at (moved at t) call (agree_alike at t h) e

pub block_agrees : (at : Around) (t : Scope) (call : ℕ → List Mark) → Agree at.scope t → (ds : tree.Definitions) → block_marks at call ds ≡ block_marks (moved at t) call ds
block_agrees at t call h ds = block_alike at (moved at t) call (agree_alike at t h) ds
