-- Counting the parts of expressions, one after the other.
use Rattle.equation_marks.specs.declared.own.TheConstants.{ENOUGH}
use Rattle.std.proofs.Common.{◌≡◌, ℕ, suc, ◌+◌, ◌<◌, ◌≤◌, min, List, [], ◌∷◌, ◌++◌, length, get_or, drop, Option, Result, refl, sym, ap, ◌∙◌, arith, length-append}
use Rattle.std.specs.Prelude.{IfOk}
use Rattle.std.specs.List.{filter, flat_map}
use Rattle.std.proofs.lemmas.List.{drop_all}
use Rattle.std.proofs.lemmas.Result.{IfOk-weaker}
use Rattle.tsl_value.specs.declared.place.Place.{Place}
use Rattle.syntax_tree.specs.Tree as tree
use Rattle.syntax_tree.specs.Tree.{Expr, Links, no_links, more_links}
use Rattle.syntax_tree.specs.inner.OneLevel.{exprs_of, links_in}
use Rattle.syntax_tree.specs.declared.tree.Level.{Level}
use Rattle.syntax_tree.specs.declared.tree.Link.{Link}
use Rattle.syntax_tree.specs.declared.tree.Comparison.{Comparison}
use Rattle.vocabulary.specs.declared.dotted.Dotted.{Dotted}
use Rattle.vocabulary.specs.declared.signature.Role.{Role}
use Rattle.vocabulary.specs.declared.signature.Role.TheVariants as role
use Rattle.vocabulary.specs.Table.{role_of}
use Rattle.tsl_value.proofs.Lists.{left_at}
use Rattle.expr_types.specs.Around.{Around}
use Rattle.expr_types.specs.Judge.{type_of}
use Rattle.tsl_value.specs.declared.operation.Update.{Update as UpdateOp}
use Rattle.stream_constructs.specs.Construct as construct
use Rattle.spec_meaning.specs.Function.{no_tree}
use Rattle.spec_meaning.specs.Shape.{is_part, expressions, operands}
use Rattle.equation_marks.specs.Marks.{Mark, marks, each_marks, link_marks, own_marks, unless_literal, operands_marks, signal_marks, update_marks, choice_marks, role_marks, dotted_marks, holds_aggregate, varying_count}
use Rattle.equation_marks.specs.inner.Counted.{counted, own_count, choice_count, role_count, dotted_count, signal_count}
use Rattle.equation_marks.specs.inner.Calls.{call_parts, callee_marks}
use Rattle.equation_marks.proofs.Counts.{length-signal, length-choice}
use Rattle.equation_marks.proofs.OwnMarks.{own_many}
use Rattle.equation_marks.proofs.PartMarks.{listed_again, operands_listed}
use Rattle.equation_marks.proofs.CallPartsLemmas.{call_length}

-- ---- numbers that are counted no further than 4,097
two_more : (count a b x r : ℕ) → x ≡ min (count + a) ENOUGH → r ≡ min (x + b) ENOUGH → r ≡ min (count + (a + b)) ENOUGH
two_more count a b x r first second = omega arith

-- what is added was not counted further either
some_more : (count own few r : ℕ) → few ≡ min own ENOUGH → r ≡ min (count + few) ENOUGH → r ≡ min (count + own) ENOUGH
some_more count own few r first second = omega arith

-- nothing more
pub no_more : (a n r : ℕ) (ms : List Mark) → a ≡ min n ENOUGH → r ≡ a → ms ≡ [] → r ≡ counted a ms
no_more a n r ms first same none = let empty = ap length none in omega arith

-- ---- a call
pub call_counted : (at : Around) (call : ℕ → List Mark) (p : Place) (n : List ℕ) (es ss os : List Expr) (own : ℕ) (callee : Option ℕ) (count x y z r : ℕ) → ss ≡ (call_parts at.scope n es).streams → os ≡ (call_parts at.scope n es).operands → own ≡ min ((call_parts at.scope n es).own) ENOUGH → callee ≡ (call_parts at.scope n es).callee → x ≡ counted count (flat_map (marks at call) ss) → y ≡ counted x (flat_map (marks at call) (filter is_part os)) → z ≡ min (y + own) ENOUGH → r ≡ counted z (callee_marks call callee) → r ≡ counted count (marks at call (tree.Call p n (exprs_of es)))
call_counted at call p n es ss os own callee count x y z r streams operands owns calls first second third last =
    let c = call_parts at.scope n es in
    let before : y ≡ min (count + (length (flat_map (marks at call) ss) + length (flat_map (marks at call) (filter is_part os)))) ENOUGH = two_more count _ _ x y first second in
    let after : r ≡ min (y + (c.own + length (callee_marks call callee))) ENOUGH = two_more y c.own _ z r (some_more y c.own own z owns third) last in
    let whole : length (marks at call (tree.Call p n (exprs_of es))) ≡ length (flat_map (marks at call) c.streams) + length (flat_map (marks at call) (filter is_part c.operands)) + c.own + length (callee_marks call c.callee) = call_length at call p n es in
    let a = ap (λ l. length (flat_map (marks at call) l)) streams in
    let b = ap (λ l. length (flat_map (marks at call) (filter is_part l))) operands in
    let d = ap (λ o. length (callee_marks call o)) calls in
    omega arith

-- ---- operands, and the construct after them
-- so many equations more are these marks
pub own_counted : (count own few r : ℕ) (ms : List Mark) → few ≡ min own ENOUGH → r ≡ min (count + few) ENOUGH → length ms ≡ own → r ≡ counted count ms
own_counted count own few r ms first second many = omega arith

pub then_counted : (count x r : ℕ) (xs ys : List Mark) → x ≡ counted count xs → r ≡ counted x ys → r ≡ counted count (xs ++ ys)
then_counted count x r xs ys first second = omega (arith, length-append xs ys)

-- ---- the links of a chain
module _ (at : Around) (call : ℕ → List Mark) where
  -- a chain of one operand is that
  pub alone_counted : (p : Place) (l : Level) (e : Expr) (ls : List Link) (count r : ℕ) → [] ≡ ls → r ≡ counted count (marks at call e) → r ≡ counted count (marks at call (tree.Chain p l e (links_in ls)))
  alone_counted p l e ls count r none h = h ∙ ap (λ l'. counted count (marks at call (tree.Chain p l e (links_in l')))) none

  pub chain_counted : (p : Place) (l : Level) (e : Expr) (k : Link) (rest ls : List Link) (count x y few z r : ℕ) → ls ≡ k ∷ rest → x ≡ counted count (unless_literal e (marks at call e)) → y ≡ counted x (unless_literal k.operand (marks at call k.operand)) → few ≡ min (signal_count (varying_count (e ∷ k.operand ∷ []))) ENOUGH → z ≡ min (y + few) ENOUGH → r ≡ counted z (link_marks at call p (links_in rest)) → r ≡ counted count (marks at call (tree.Chain p l e (links_in ls)))
  chain_counted p l e k rest ls count x y few z r is first second owns third last =
      let own = signal_marks p (e ∷ k.operand ∷ []) in
      let here = own_counted y (signal_count (varying_count (e ∷ k.operand ∷ []))) few z own owns third (length-signal p (e ∷ k.operand ∷ [])) in
      then_counted count z r (unless_literal e (marks at call e) ++ unless_literal k.operand (marks at call k.operand) ++ own) (link_marks at call p (links_in rest))
      (then_counted count y z (unless_literal e (marks at call e) ++ unless_literal k.operand (marks at call k.operand)) own
      (then_counted count x y (unless_literal e (marks at call e)) (unless_literal k.operand (marks at call k.operand)) first second) here)
      last
      ∙ ap (λ l'. counted count (marks at call (tree.Chain p l e (links_in l')))) (sym is)

  -- a turn of the loop over links, and its end
  pub link_counted : (p : Place) (ls : List Link) (i : ℕ) (k : Link) (count x few z total : ℕ) → i < length ls → k ≡ get_or ls i k → counted count (link_marks at call p (links_in (drop i ls))) ≡ total → x ≡ counted count (unless_literal k.operand (marks at call k.operand)) → few ≡ min (signal_count (suc (varying_count (k.operand ∷ [])))) ENOUGH → z ≡ min (x + few) ENOUGH → counted z (link_marks at call p (links_in (drop (i + 1) ls))) ≡ total
  link_counted p ls i k count x few z total h is so_far first owns second =
      let rest = link_marks at call p (links_in (drop (i + 1) ls)) in
      let own = own_marks p (construct.Signal no_tree) (suc (varying_count (k.operand ∷ []))) in
      let here = own_counted x (signal_count (suc (varying_count (k.operand ∷ [])))) few z own owns second (own_many p (construct.Signal no_tree) (suc (varying_count (k.operand ∷ [])))) in
      then_counted count z (counted z rest) (unless_literal k.operand (marks at call k.operand) ++ own) rest
      (then_counted count x z (unless_literal k.operand (marks at call k.operand)) own first here) refl
      ∙ ap (λ l. counted count (link_marks at call p (links_in l))) (sym (left_at ls i k h is)) ∙ so_far

  pub links_counted : (p : Place) (ls : List Link) (i count r total : ℕ) → length ls ≤ i → counted count (link_marks at call p (links_in (drop i ls))) ≡ total → r ≡ min count ENOUGH → r ≡ total
  links_counted p ls i count r total h so_far last =
      let none = ap (λ l. length (link_marks at call p (links_in l))) (drop_all i ls h) in
      let end : r ≡ counted count (link_marks at call p (links_in (drop i ls))) = omega arith in
      end ∙ so_far

-- ---- answers of calls
module _ {E : Type 0} (r : Result ℕ E) where
  pub if_equal : (a b : ℕ) → a ≡ b → IfOk r (λ n. n ≡ a) → IfOk r (λ n. n ≡ b)
  if_equal a b same h = IfOk-weaker r (λ n. n ≡ a) (λ n. n ≡ b) (λ n is. is ∙ same) h

  -- whatever the place is
  pub if_at : {X : Type 0} (f : X → ℕ) (x : X) (b : ℕ) → f x ≡ b → IfOk r (λ n. (y : X) → n ≡ f y) → IfOk r (λ n. n ≡ b)
  if_at f x b same h = IfOk-weaker r (λ n. (y : _) → n ≡ f y) (λ n. n ≡ b) (λ n is. is x ∙ same) h

  pub if_each : {X : Type 0} (a : ℕ) (f : X → ℕ) → ((x : X) → a ≡ f x) → IfOk r (λ n. n ≡ a) → IfOk r (λ n. (x : X) → n ≡ f x)
  if_each a f each h = IfOk-weaker r (λ n. n ≡ a) (λ n. (x : _) → n ≡ f x) (λ n is x. is ∙ each x) h

-- ---- expressions
module _ (at : Around) (call : ℕ → List Mark) where
  -- an operand at hand is the one of the tree
  pub same_operand : (count x : ℕ) (e f : Expr) → x ≡ counted count (unless_literal e (marks at call e)) → e ≡ f → x ≡ counted count (unless_literal f (marks at call f))
  same_operand count x e f h is = h ∙ ap (λ g. counted count (unless_literal g (marks at call g))) is

  pub if_counted : (p : Place) (e c a b : Expr) (count x y z own r : ℕ) → tree.If p c a b ≡ e → x ≡ counted count (unless_literal c (marks at call c)) → y ≡ counted x (unless_literal a (marks at call a)) → z ≡ counted y (unless_literal b (marks at call b)) → own ≡ min (choice_count (holds_aggregate (type_of at e)) (c ∷ a ∷ b ∷ [])) ENOUGH → r ≡ min (z + own) ENOUGH → r ≡ counted count (marks at call e)
  if_counted p e c a b count x y z own r is first second third owns last =
      let h = holds_aggregate (type_of at (tree.If p c a b)) in
      let three = c ∷ a ∷ b ∷ [] in
      let few : own ≡ min (choice_count h three) ENOUGH = owns ∙ ap (λ v. min (choice_count (holds_aggregate (type_of at v)) three) ENOUGH) (sym is) in
      let here = own_counted z (choice_count h three) own r (choice_marks at call p h three) few last (length-choice at call p h three) in
      let two = then_counted count x y (unless_literal c (marks at call c)) (unless_literal a (marks at call a)) first second in
      then_counted count z r (unless_literal c (marks at call c) ++ unless_literal a (marks at call a) ++ unless_literal b (marks at call b)) (choice_marks at call p h three)
      (then_counted count y z (unless_literal c (marks at call c) ++ unless_literal a (marks at call a)) (unless_literal b (marks at call b)) two third) here
      ∙ ap (λ v. counted count (marks at call v)) is

  pub compare_counted : (p : Place) (o : Comparison) (e a b : Expr) (count x y own r : ℕ) → tree.Compare p o a b ≡ e → x ≡ counted count (unless_literal a (marks at call a)) → y ≡ counted x (unless_literal b (marks at call b)) → own ≡ min (signal_count (varying_count (a ∷ b ∷ []))) ENOUGH → r ≡ min (y + own) ENOUGH → r ≡ counted count (marks at call e)
  compare_counted p o e a b count x y own r is first second owns last =
      let here = own_counted y (signal_count (varying_count (a ∷ b ∷ []))) own r (signal_marks p (a ∷ b ∷ [])) owns last (length-signal p (a ∷ b ∷ [])) in
      then_counted count y r (unless_literal a (marks at call a) ++ unless_literal b (marks at call b)) (signal_marks p (a ∷ b ∷ []))
      (then_counted count x y (unless_literal a (marks at call a)) (unless_literal b (marks at call b)) first second) here
      ∙ ap (λ v. counted count (marks at call v)) is

  -- a function with a dot
  dotted_length : (p : Place) (d : Dotted) (es : List Expr) → length (dotted_marks at call p d (expressions (exprs_of es)) (each_marks at call (exprs_of es))) ≡ length (flat_map (marks at call) (filter is_part es)) + dotted_count d es
  dotted_length p d es = by (role_of d)
    where
      operation : (o : UpdateOp) → length (operands_marks (expressions (exprs_of es)) (each_marks at call (exprs_of es)) ++ update_marks p o (expressions (exprs_of es))) ≡ length (flat_map (marks at call) (filter is_part es)) + own_count (construct.Update o (operands es)) (varying_count es)
      operation o =
          omega (arith, length-append (operands_marks (expressions (exprs_of es)) (each_marks at call (exprs_of es))) (update_marks p o (expressions (exprs_of es))), ap length (operands_listed at call es), ap (λ l. length (update_marks p o l)) (listed_again es), own_many p (construct.Update o (operands es)) (varying_count es))

      signal : length (operands_marks (expressions (exprs_of es)) (each_marks at call (exprs_of es)) ++ signal_marks p (expressions (exprs_of es))) ≡ length (flat_map (marks at call) (filter is_part es)) + signal_count (varying_count es)
      signal =
          omega (arith, length-append (operands_marks (expressions (exprs_of es)) (each_marks at call (exprs_of es))) (signal_marks p (expressions (exprs_of es))), ap length (operands_listed at call es), ap (λ l. length (signal_marks p l)) (listed_again es), length-signal p es)

      by : (r : Role) → length (role_marks at call p r (expressions (exprs_of es)) (each_marks at call (exprs_of es))) ≡ length (flat_map (marks at call) (filter is_part es)) + role_count r es
      by (role.Update o) = operation o
      by r = signal

  pub dotted_counted : (p : Place) (d : Dotted) (e : Expr) (es : List Expr) (count x own r : ℕ) → tree.CallDotted p d (exprs_of es) ≡ e → x ≡ counted count (flat_map (marks at call) (filter is_part es)) → own ≡ min (dotted_count d es) ENOUGH → r ≡ min (x + own) ENOUGH → r ≡ counted count (marks at call e)
  dotted_counted p d e es count x own r is first owns last =
      let all = dotted_length p d es in
      let here : r ≡ counted count (marks at call (tree.CallDotted p d (exprs_of es))) = omega arith in
      here ∙ ap (λ v. counted count (marks at call v)) is
