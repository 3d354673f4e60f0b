-- The marks of a chain, link by link: the link after a beginning is an operation on that and on its operand.
use Rattle.std.proofs.Common.{◌≡◌, ℕ, suc, List, [], ◌∷◌, ◌++◌, refl, sym, ap, ◌∙◌, append_assoc}
use Rattle.std.proofs.lemmas.List.{append-nil}
use Rattle.tsl_value.specs.declared.place.Place.{Place}
use Rattle.syntax_tree.specs.Tree as tree
use Rattle.syntax_tree.specs.Tree.{Expr, Links, no_links, more_links}
use Rattle.syntax_tree.specs.inner.Joins.{join_links}
use Rattle.syntax_tree.specs.inner.OneLevel.{links_in}
use Rattle.syntax_tree.specs.declared.tree.Link.{Link}
use Rattle.syntax_tree.specs.declared.tree.Level.{Level}
use Rattle.syntax_tree.specs.declared.tree.Operator.{Operator}
use Rattle.expr_types.specs.Around.{Around}
use Rattle.stream_constructs.specs.Construct as construct
use Rattle.spec_meaning.specs.Function.{no_tree}
use Rattle.spec_meaning.specs.Shape.{left_of, all_but_last, last_operator, last_operand}
use Rattle.equation_marks.specs.Marks.{Mark, own_marks, marks, link_marks, unless_literal, signal_marks, varying_count}

pub join_assoc : (ls ms ns : Links) → join_links (join_links ls ms) ns ≡ join_links ls (join_links ms ns)
join_assoc no_links ms ns = refl
join_assoc (more_links o e ls) ms ns = ap (more_links o e) (join_assoc ls ms ns)

-- the links of a list, and one more
pub links_more : (ls : List Link) (k : Link) → links_in (ls ++ k ∷ []) ≡ join_links (links_in ls) (more_links k.operator k.operand no_links)
links_more [] k = refl
links_more (l ∷ ls) k = ap (more_links l.operator l.operand) (links_more ls k)

-- a chain is its last link after the others
pub last_after : (o : Operator) (f : Expr) (ls : Links) → join_links (all_but_last (more_links o f ls)) (more_links (last_operator o ls) (last_operand f ls) no_links) ≡ more_links o f ls
last_after o f no_links = refl
last_after o f (more_links q g ls) = ap (more_links o f) (last_after q g ls)

module _ (at : Around) (call : ℕ → List Mark) where
  pub link_marks-join : (p : Place) (ls ms : Links) → link_marks at call p (join_links ls ms) ≡ link_marks at call p ls ++ link_marks at call p ms
  link_marks-join p no_links ms = refl
  link_marks-join p (more_links o f ls) ms =
      let here = unless_literal f (marks at call f) ++ own_marks p (construct.Signal no_tree) (suc (varying_count (f ∷ []))) in
      ap (λ x. here ++ x) (link_marks-join p ls ms) ∙ sym (append_assoc here (link_marks at call p ls) (link_marks at call p ms))

  -- an operation on two operands
  abbrev pub operation_here : Place → Expr → Expr → List Mark
  operation_here p a b = unless_literal a (marks at call a) ++ unless_literal b (marks at call b) ++ signal_marks p (a ∷ b ∷ [])

  -- one link more: on its left stands the first operand, or the chain up to there
  pub chain_more : (p : Place) (l : Level) (e : Expr) (front : Links) (o : Operator) (f : Expr) → marks at call (tree.Chain p l e (join_links front (more_links o f no_links))) ≡ operation_here p (left_of e (tree.Chain p l e) front) f
  chain_more p l e no_links o f = append-nil (operation_here p e f)
  chain_more p l e (more_links q g ls) o f =
      let first = unless_literal e (marks at call e) ++ unless_literal g (marks at call g) ++ signal_marks p (e ∷ g ∷ []) in
      let own = own_marks p (construct.Signal no_tree) (suc (varying_count (f ∷ []))) in
      ap (λ x. first ++ x) (link_marks-join p ls (more_links o f no_links))
      ∙ sym (append_assoc first (link_marks at call p ls) (link_marks at call p (more_links o f no_links)))
      ∙ ap (λ x. first ++ link_marks at call p ls ++ x) (append-nil (unless_literal f (marks at call f) ++ own))
      ∙ sym (append_assoc (first ++ link_marks at call p ls) (unless_literal f (marks at call f)) own)

  -- a whole chain by its last link
  pub chain_by_last : (p : Place) (l : Level) (e : Expr) (o : Operator) (f : Expr) (ls : Links) → marks at call (tree.Chain p l e (more_links o f ls)) ≡ operation_here p (left_of e (tree.Chain p l e) (all_but_last (more_links o f ls))) (last_operand f ls)
  chain_by_last p l e o f ls =
      ap (λ ms. marks at call (tree.Chain p l e ms)) (sym (last_after o f ls)) ∙ chain_more p l e (all_but_last (more_links o f ls)) (last_operator o ls) (last_operand f ls)
