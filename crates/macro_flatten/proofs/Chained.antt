-- Chains, link by link: the link after a beginning is a construct over that and its operand.
use Rattle.std.proofs.Common.{◌≡◌, ℕ, zero, suc, ◌+◌, ◌<◌, cond, List, [], ◌∷◌, ◌++◌, map, length, get_or, take, drop, Some, refl, ap, sym, subst, ◌∙◌, append_assoc, arith}
use Rattle.std.specs.Prelude.{is_none, if◌then◌else◌}
use Rattle.std.specs.List.{Contains, filter}
use Rattle.std.proofs.lemmas.List.{append-nil, take-append-drop, take_more}
use Rattle.tsl_value.specs.declared.place.Place.{Place}
use Rattle.tsl_value.specs.declared.scalar.ValueType.{ValueType}
use Rattle.lift_func.specs.BodyTree.{Two}
use Rattle.flat_core.specs.declared.equation.Equation.{Equation}
use Rattle.flat_core.specs.System.{System}
use Rattle.flat_core.proofs.Members.{contains_head, contains_tail}
use Rattle.syntax_tree.specs.Tree as tree
use Rattle.syntax_tree.specs.Tree.{Expr, Links, no_links, more_links}
use Rattle.syntax_tree.specs.inner.Joins.{join_links}
use Rattle.syntax_tree.specs.inner.OneLevel.{links_in}
use Rattle.syntax_tree.specs.declared.tree.Level.{Level}
use Rattle.syntax_tree.specs.declared.tree.Link.{Link}
use Rattle.syntax_tree.specs.declared.tree.Operator.{Operator}
use Rattle.tsl_value.proofs.Lists.{left_at}
use Rattle.type_rules.specs.declared.rule.ExprType.TheVariants as expr_type
use Rattle.type_rules.specs.Rules.{operand_type}
use Rattle.expr_types.specs.Around.{Around}
use Rattle.expr_types.specs.Judge.{type_of}
use Rattle.stream_constructs.specs.declared.construct.Stream.{Stream}
use Rattle.stream_constructs.specs.declared.maker.MakeFault.{MakeFault}
use Rattle.stream_constructs.specs.Agree.{Fits}
use Rattle.stream_constructs.specs.Construct.{operand_trees}
use Rattle.stream_constructs.specs.Construct as construct
use Rattle.stream_constructs.specs.Limits.{IsRefusal}
use Rattle.stream_constructs.specs.Made.{equations_for, stream_of, with_equations}
use Rattle.spec_meaning.specs.Occurrence.{Call}
use Rattle.spec_meaning.specs.Function.{literal, operation_of}
use Rattle.spec_meaning.specs.Shape.{Shape, all_but_last, beside, expr_shape, is_part, last_operand, last_operator, left_of, operand, operands, shape, signal_of, two_operands}
use Rattle.spec_meaning.specs.Makes.{occurrence}
use Rattle.checked_spec.specs.inner.Chains.{HaveOperands}
use Rattle.checked_spec.specs.inner.Inner.{operands_after}
use Rattle.checked_spec.specs.inner.Matches.{IsTypedAt}
use Rattle.checked_spec.proofs.Beginnings.{chain_of_level}
use Rattle.equation_marks.specs.Marks.{Mark, link_marks, mark_of, marks, signal_marks, unless_literal}
use Rattle.equation_marks.proofs.ChainMarks.{chain_more, join_assoc, link_marks-join, operation_here}
use Rattle.macro_flatten.specs.declared.chain.Side.{Side}
use Rattle.macro_flatten.specs.declared.chain.Side.TheVariants as side
use Rattle.macro_flatten.specs.inner.Answers.{AreMade, IsMadeAt, IsRefusedAfter, marks_at, marks_called}
use Rattle.macro_flatten.specs.inner.Here.{Site}
use Rattle.macro_flatten.specs.inner.Sides.{IsSideMade, link_construct, side_literal, side_streams}
use Rattle.macro_flatten.proofs.Made.{none_made, one_made, own_fits, own_made, own_refused, refused_after, refused_front, refused_same, with_none}

-- ---- lists of links
pub links_join : (xs ys : List Link) → links_in (xs ++ ys) ≡ join_links (links_in xs) (links_in ys)
links_join [] ys = refl
links_join (x ∷ xs) ys = ap (more_links x.operator x.operand) (links_join xs ys)

-- up to some link, that link, and what is after it
pub cut_at : (ls : List Link) (i : ℕ) (k : Link) → i < length ls → k ≡ get_or ls i k → links_in ls ≡ join_links (join_links (links_in (take i ls)) (more_links k.operator k.operand no_links)) (links_in (drop (i + 1) ls))
cut_at ls i k h is =
    ap links_in (sym (take-append-drop i ls) ∙ ap (λ xs. take i ls ++ xs) (left_at ls i k h is))
    ∙ links_join (take i ls) (k ∷ drop (i + 1) ls)
    ∙ sym (join_assoc (links_in (take i ls)) (more_links k.operator k.operand no_links) (links_in (drop (i + 1) ls)))

pub begin_more : (ls : List Link) (i : ℕ) (k : Link) → i < length ls → k ≡ get_or ls i k → links_in (take (i + 1) ls) ≡ join_links (links_in (take i ls)) (more_links k.operator k.operand no_links)
begin_more ls i k h is = ap links_in (take_more ls i k h ∙ ap (λ (x : Link). take i ls ++ x ∷ []) (sym is)) ∙ links_join (take i ls) (k ∷ [])

pub operand_there : (ls : List Link) (i : ℕ) (k : Link) → i < length ls → k ≡ get_or ls i k → Contains (operands_after (links_in ls)) k.operand
operand_there [] i k h is = absurd (omega arith)
operand_there (x ∷ ls) zero k h is = subst (λ (y : Link). Contains (x.operand ∷ operands_after (links_in ls)) y.operand) (sym is) (contains_head x.operand (operands_after (links_in ls)))
operand_there (x ∷ ls) (suc i) k h is = contains_tail x.operand (operands_after (links_in ls)) k.operand (operand_there ls i k (omega arith) is)

pub operand_typed : (at : Around) (t : ValueType) (ls : List Link) (i : ℕ) (k : Link) → i < length ls → k ≡ get_or ls i k → HaveOperands at t (links_in ls) → type_of at k.operand ≡ Some (expr_type.Stream t)
operand_typed at t [] i k h is have = absurd (omega arith)
operand_typed at t (x ∷ ls) zero k h is have = ap (λ (y : Link). type_of at y.operand) is ∙ have.0
operand_typed at t (x ∷ ls) (suc i) k h is have = operand_typed at t ls i k (omega arith) is have.1

-- ---- the shape of a chain by its last link
last_operator_is : (q o : Operator) (f : Expr) (ls : Links) → last_operator q (join_links ls (more_links o f no_links)) ≡ o
last_operator_is q o f no_links = refl
last_operator_is q o f (more_links r g ls) = last_operator_is r o f ls

last_operand_is : (g : Expr) (o : Operator) (f : Expr) (ls : Links) → last_operand g (join_links ls (more_links o f no_links)) ≡ f
last_operand_is g o f no_links = refl
last_operand_is g o f (more_links r h ls) = last_operand_is h o f ls

front_is : (q : Operator) (g : Expr) (o : Operator) (f : Expr) (ls : Links) → all_but_last (more_links q g (join_links ls (more_links o f no_links))) ≡ more_links q g ls
front_is q g o f no_links = refl
front_is q g o f (more_links r h ls) = ap (more_links q g) (front_is r h o f ls)

chain_shape : (items : List tree.Item) (cs : List Call) (p : Place) (l : Level) (e : Expr) (front : Links) (o : Operator) (f : Expr) → expr_shape items cs (tree.Chain p l e (join_links front (more_links o f no_links))) ≡ signal_of cs (two_operands (Two (operation_of o))) (left_of e (tree.Chain p l e) front ∷ f ∷ [])
chain_shape items cs p l e no_links o f = refl
chain_shape items cs p l e (more_links q g fs) o f =
    λ i. signal_of cs (two_operands (Two (operation_of (last_operator_is q o f fs i)))) (left_of e (tree.Chain p l e) (front_is q g o f fs i) ∷ last_operand_is g o f fs i ∷ [])

-- ---- operands that are made or are literals
kept : Side → Expr → List Expr
kept (side.Fixed s) e = []
kept (side.Varying a) e = e ∷ []

side_kept : (s : Side) (e : Expr) (es : List Expr) → literal e ≡ side_literal s → filter is_part (e ∷ es) ≡ kept s e ++ filter is_part es
unfolding kept
side_kept (side.Fixed s) e es is = ap (λ x. cond (is_none x) (e ∷ filter is_part es) (filter is_part es)) is
side_kept (side.Varying a) e es is = ap (λ x. cond (is_none x) (e ∷ filter is_part es) (filter is_part es)) is

beside_again : (cs : List Call) (es : List Expr) → map (λ o. o.expr) (map (beside cs) es) ≡ es
beside_again cs [] = refl
beside_again cs (e ∷ es) = ap (λ xs. e ∷ xs) (beside_again cs es)

module _ (site : Site) (deep : ℕ) where
  pub side_is : (e : Expr) (old new : System) (s : Side) → IsSideMade site deep e old new s → literal e ≡ side_literal s
  side_is e old new (side.Fixed s) h = h.0
  side_is e old new (side.Varying a) h = h.0

  -- what stands after a side that is made
  after_side : (e : Expr) (es : List Expr) (old mid new : System) (s : Side) (ss : List Stream) → IsSideMade site deep e old mid s → AreMade site deep es mid new ss → AreMade site deep (kept s e ++ es) old new (side_streams s ++ ss)
  unfolding kept
  after_side e es old mid new (side.Fixed s) ss h rest = subst (λ x. AreMade site deep es x new ss) h.1 rest
  after_side e es old mid new (side.Varying a) ss h rest = one_made site deep e es old mid new a ss h.1 rest

  sides_made : (a b : Expr) (old cur mid : System) (left right : Side) → IsSideMade site deep a old cur left → IsSideMade site deep b cur mid right → AreMade site deep (filter is_part (a ∷ b ∷ [])) old mid (side_streams left ++ side_streams right)
  sides_made a b old cur mid left right first second =
      let one = after_side b [] cur mid mid right [] second (none_made site deep mid) in
      let both = after_side a (kept right b ++ []) old cur mid left (side_streams right ++ []) first one in
      let all : filter is_part (a ∷ b ∷ []) ≡ kept left a ++ (kept right b ++ []) =
      side_kept left a (b ∷ []) (side_is a old cur left first) ∙ ap (λ xs. kept left a ++ xs) (side_kept right b [] (side_is b cur mid right second)) in
      subst (λ ss. AreMade site deep (filter is_part (a ∷ b ∷ [])) old mid (side_streams left ++ ss)) (append-nil (side_streams right))
      (subst (λ es. AreMade site deep es old mid (side_streams left ++ (side_streams right ++ []))) (sym all) both)

  -- the marks of an operand
  abbrev pub side_marks : Expr → List Mark
  side_marks e = unless_literal e (marks_at site deep e)

  side_marked : (e : Expr) (old new : System) (s : Side) → IsSideMade site deep e old new s → (made : List Equation) × (new ≡ with_equations old made) × (map mark_of made ≡ side_marks e)
  side_marked e old new (side.Fixed s) h = ([], h.1 ∙ with_none old, sym (ap (λ x. if is_none x then marks_at site deep e else []) h.0))
  side_marked e old new (side.Varying a) h = (h.1.made, h.1.new_is, h.1.marks_are ∙ sym (ap (λ x. if is_none x then marks_at site deep e else []) h.0))

-- ---- one link of a chain
module _ (site : Site) (deep : ℕ) (p : Place) (l : Level) (e : Expr) (front : Links) (o : Operator) (f : Expr) (t : ValueType) (typed : IsTypedAt site.items site.top site.at site.st (tree.Chain p l e (join_links front (more_links o f no_links))) t) where
  abbrev left : Expr
  left = left_of e (tree.Chain p l e) front

  abbrev whole : Expr
  whole = tree.Chain p l e (join_links front (more_links o f no_links))

  abbrev sh : Shape
  sh = record {
    construct = construct.Signal (two_operands (Two (operation_of o)) (operand_trees 0 (operands (left ∷ f ∷ []))));
    parts = map (beside site.st.calls) (filter is_part (left ∷ f ∷ []));
  }

  is_shape : shape site.items (occurrence site.items site.top site.st whole) ≡ Some sh
  is_shape = chain_shape site.items site.st.calls p l e front o f

  same_construct : (a b : Side) → literal left ≡ side_literal a → literal f ≡ side_literal b → sh.construct ≡ link_construct o a b
  same_construct a b first second = λ i. construct.Signal (two_operands (Two (operation_of o)) (operand_trees 0 (operand (first i) ∷ operand (second i) ∷ [])))

  -- a chain with an operator is of the type of its level
  of_level : (ls : Links) → IsTypedAt site.items site.top site.at site.st (tree.Chain p l e (join_links ls (more_links o f no_links))) t → t ≡ operand_type l
  of_level no_links h = chain_of_level site.items site.top site.at site.st p l e o f no_links t h
  of_level (more_links q g fs) h = chain_of_level site.items site.top site.at site.st p l e q g (join_links fs (more_links o f no_links)) t h

  module _ (old cur mid : System) (a b : Side) (first : IsSideMade site deep left old cur a) (second : IsSideMade site deep f cur mid b) where
    parts : AreMade site deep (map (λ o. o.expr) sh.parts) old mid (side_streams a ++ side_streams b)
    parts = subst (λ es. AreMade site deep es old mid (side_streams a ++ side_streams b)) (sym (beside_again site.st.calls (filter is_part (left ∷ f ∷ [])))) (sides_made site deep left f old cur mid a b first second)

    same : sh.construct ≡ link_construct o a b
    same = same_construct a b (side_is site deep left old cur a first) (side_is site deep f cur mid b second)

    pub link_fits : Fits (link_construct o a b) (side_streams a ++ side_streams b) (operand_type l)
    link_fits =
        let fits = (own_fits site deep whole t typed sh is_shape refl (side_streams a ++ side_streams b) (length mid.equations) parts.typed).construct refl in
        subst (λ u. Fits (link_construct o a b) (side_streams a ++ side_streams b) u) (of_level front typed) (subst (λ c. Fits c (side_streams a ++ side_streams b) t) same fits)

    abbrev own : List Equation
    own = equations_for mid p (operand_type l) (link_construct o a b) (side_streams a ++ side_streams b)

    pub link_made : (new : System) (s : Stream) → new ≡ with_equations mid own → s ≡ stream_of mid own (operand_type l) → IsMadeAt site deep whole old new s
    link_made new s new_is s_is =
        own_made site deep whole t typed sh is_shape refl old mid new s (side_streams a ++ side_streams b) parts
        (new_is ∙ sym (λ i. with_equations mid (equations_for mid p (of_level front typed i) (same i) (side_streams a ++ side_streams b))))
        (s_is ∙ sym (λ i. stream_of mid (equations_for mid p (of_level front typed i) (same i) (side_streams a ++ side_streams b)) (of_level front typed i)))

    pub link_refused : (g : MakeFault) → IsRefusal (mid.equations ++ own) g → IsRefusedAfter old (marks_at site deep whole) g
    link_refused g h =
        own_refused site deep whole t typed sh is_shape refl old mid (side_streams a ++ side_streams b) g parts
        (subst (λ xs. IsRefusal xs g) (sym (λ i. mid.equations ++ equations_for mid p (of_level front typed i) (same i) (side_streams a ++ side_streams b))) h)

-- ---- the marks of beginnings
front_marked : (at : Around) (call : ℕ → List Mark) (p : Place) (l : Level) (e : Expr) (front : Links) (o : Operator) (f : Expr) (rest : Links) → marks at call (tree.Chain p l e (join_links (join_links front (more_links o f no_links)) rest)) ≡ marks at call (tree.Chain p l e (join_links front (more_links o f no_links))) ++ link_marks at call p rest
front_marked at call p l e no_links o f rest = ap (λ ms. ms ++ link_marks at call p rest) (sym (append-nil (operation_here at call p e f)))
front_marked at call p l e (more_links q g fs) o f rest =
    let begin = operation_here at call p e g in
    ap (λ ms. begin ++ ms) (link_marks-join at call p (join_links fs (more_links o f no_links)) rest)
    ∙ sym (append_assoc begin (link_marks at call p (join_links fs (more_links o f no_links))) (link_marks at call p rest))

module _ (site : Site) (deep : ℕ) (p : Place) (l : Level) (e : Expr) where
  abbrev chain_of : Links → Expr
  chain_of ls = tree.Chain p l e ls

  -- what refuses a beginning refuses the whole
  pub begin_refused : (front : Links) (o : Operator) (f : Expr) (rest : Links) (old : System) (g : MakeFault) → IsRefusedAfter old (marks_at site deep (chain_of (join_links front (more_links o f no_links)))) g → IsRefusedAfter old (marks_at site deep (chain_of (join_links (join_links front (more_links o f no_links)) rest))) g
  begin_refused front o f rest old g h =
      refused_same old (marks_at site deep (chain_of (join_links front (more_links o f no_links))) ++ link_marks site.at (marks_called site deep) p rest) (marks_at site deep (chain_of (join_links (join_links front (more_links o f no_links)) rest))) g
      (sym (front_marked site.at (marks_called site deep) p l e front o f rest))
      (refused_front old (marks_at site deep (chain_of (join_links front (more_links o f no_links)))) (link_marks site.at (marks_called site deep) p rest) g h)

  -- what refuses an operand after what stands on its left
  pub right_refused : (front : Links) (o : Operator) (f : Expr) (old cur : System) (a : Side) (g : MakeFault) → IsSideMade site deep (left_of e (tree.Chain p l e) front) old cur a → IsRefusedAfter cur (side_marks site deep f) g → IsRefusedAfter old (marks_at site deep (chain_of (join_links front (more_links o f no_links)))) g
  right_refused front o f old cur a g first h =
      let left = left_of e (tree.Chain p l e) front in
      let made = side_marked site deep left old cur a first in
      let own = signal_marks p (left ∷ f ∷ []) in
      refused_same old ((side_marks site deep left ++ side_marks site deep f) ++ own) (marks_at site deep (chain_of (join_links front (more_links o f no_links)))) g
      (sym (chain_more site.at (marks_called site deep) p l e front o f))
      (refused_front old (side_marks site deep left ++ side_marks site deep f) own g (refused_after old cur made.0 (side_marks site deep left) (side_marks site deep f) g made.1 made.2 h))

  -- what refuses the first operand
  pub first_refused : (o : Operator) (f : Expr) (ls : Links) (old : System) (g : MakeFault) → IsRefusedAfter old (side_marks site deep e) g → IsRefusedAfter old (marks_at site deep (chain_of (more_links o f ls))) g
  first_refused o f ls old g h =
      refused_front old (operation_here site.at (marks_called site deep) p e f) (link_marks site.at (marks_called site deep) p ls) g
      (refused_front old (side_marks site deep e ++ side_marks site deep f) (signal_marks p (e ∷ f ∷ [])) g (refused_front old (side_marks site deep e) (side_marks site deep f) g h))
