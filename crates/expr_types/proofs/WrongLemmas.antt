-- What is wrong in an expression is what is wrong with itself, and then what is wrong inside of it.
use Rattle.std.proofs.Common.{◌≡◌, Bool, true, false, if◌then◌else◌, List, [], ◌++◌, Option, Some, None, Result, Ok, Err, refl, sym, ap, subst, ◌∙◌}
use Rattle.std.specs.List.{flat_map}
use Rattle.std.proofs.lemmas.List.Concat.{flat_map-append}
use Rattle.tsl_value.specs.declared.place.Place.{Place}
use Rattle.syntax_tree.specs.Tree as tree
use Rattle.syntax_tree.specs.Tree.{Expr, Exprs, no_exprs, more_exprs, Links, no_links, more_links, place_of}
use Rattle.syntax_tree.specs.declared.tree.Node.{Node}
use Rattle.syntax_tree.specs.declared.tree.Node.TheVariants as node
use Rattle.syntax_tree.specs.inner.OneLevel.{expr_of}
use Rattle.name_check.specs.Builtin.{is_lift}
use Rattle.name_check.specs.Parts.{parts, argument_parts, lift_parts, link_parts}
use Rattle.name_check.specs.inner.Shown.{nowhere}
use Rattle.type_rules.specs.declared.rule.ExprType.{ExprType}
use Rattle.type_rules.specs.declared.rule.Clash.{Clash}
use Rattle.type_rules.specs.Asked.{Verdict}
use Rattle.expr_types.specs.declared.wrong.Wrong.{Wrong}
use Rattle.expr_types.specs.declared.wrong.Wrong.TheVariants as wrong
use Rattle.expr_types.specs.declared.stop.Stop.{Stop}
use Rattle.expr_types.specs.Around.{Around}
use Rattle.expr_types.specs.Judge.{judge, type_of, of_verdict, broken, own_wrong, wrongs}
use Rattle.expr_types.specs.inner.Steps.{argument_wrongs, stream_wrongs, link_wrongs, inner_wrongs, clash_in}
use Rattle.expr_types.specs.inner.Answers.{first, Stops, IsWhole, IsJudged}
use Rattle.expr_types.proofs.StopLemmas.{stop_of, stops_same}

arguments_are : (at : Around) (es : Exprs) → flat_map (own_wrong at) (argument_parts es) ≡ argument_wrongs at es
arguments_are at no_exprs = refl
arguments_are at (more_exprs e es) =
    flat_map-append (own_wrong at) (parts e) (argument_parts es) ∙ ap (λ l. wrongs at e ++ l) (arguments_are at es)

streams_are : (at : Around) (es : Exprs) → flat_map (own_wrong at) (lift_parts es) ≡ stream_wrongs at es
streams_are at no_exprs = refl
streams_are at (more_exprs e no_exprs) = refl
streams_are at (more_exprs e (more_exprs f es)) =
    flat_map-append (own_wrong at) (parts e) (lift_parts (more_exprs f es)) ∙ ap (λ l. wrongs at e ++ l) (streams_are at (more_exprs f es))

links_are : (at : Around) (ls : Links) → flat_map (own_wrong at) (link_parts ls) ≡ link_wrongs at ls
links_are at no_links = refl
links_are at (more_links o e ls) =
    flat_map-append (own_wrong at) (parts e) (link_parts ls) ∙ ap (λ l. wrongs at e ++ l) (links_are at ls)

called_are : (at : Around) (b : Bool) (es : Exprs) → flat_map (own_wrong at) (if b then lift_parts es else argument_parts es) ≡ (if b then stream_wrongs at es else argument_wrongs at es)
called_are at true es = streams_are at es
called_are at false es = arguments_are at es

pub wrongs_split : (at : Around) (e : Expr) → wrongs at e ≡ broken e (judge at e) ++ inner_wrongs at e
wrongs_split at (tree.If p c a b) =
    ap (λ l. broken (tree.If p c a b) (judge at (tree.If p c a b)) ++ l)
    (flat_map-append (own_wrong at) (parts c ++ parts a) (parts b) ∙ ap (λ l. l ++ wrongs at b) (flat_map-append (own_wrong at) (parts c) (parts a)))
wrongs_split at (tree.Chain p l e ls) =
    ap (λ r. broken (tree.Chain p l e ls) (judge at (tree.Chain p l e ls)) ++ r)
    (flat_map-append (own_wrong at) (parts e) (link_parts ls) ∙ ap (λ r. wrongs at e ++ r) (links_are at ls))
wrongs_split at (tree.Compare p o a b) =
    ap (λ l. broken (tree.Compare p o a b) (judge at (tree.Compare p o a b)) ++ l) (flat_map-append (own_wrong at) (parts a) (parts b))
wrongs_split at (tree.Negate p e) = refl
wrongs_split at (tree.Not p e) = refl
wrongs_split at (tree.Number p n) = refl
wrongs_split at (tree.Negative p n) = refl
wrongs_split at (tree.Text p t) = refl
wrongs_split at (tree.Boolean p b) = refl
wrongs_split at (tree.Unit p) = refl
wrongs_split at (tree.Name p n) = refl
wrongs_split at (tree.Call p n es) =
    ap (λ l. broken (tree.Call p n es) (judge at (tree.Call p n es)) ++ l) (called_are at (is_lift n) es)
wrongs_split at (tree.CallDotted p d es) =
    ap (λ l. broken (tree.CallDotted p d es) (judge at (tree.CallDotted p d es)) ++ l) (arguments_are at es)
wrongs_split at (tree.Nil p y) = refl
wrongs_split at (tree.None p y) = refl
wrongs_split at (tree.Empty p a) = refl

-- neither hangs on the place
judged_anywhere : (at : Around) (p q : Place) (n : Node) → judge at (expr_of p n) ≡ judge at (expr_of q n)
judged_anywhere at p q (node.If a b c) = refl
judged_anywhere at p q (node.Chain a b c) = refl
judged_anywhere at p q (node.Compare a b c) = refl
judged_anywhere at p q (node.Negate a) = refl
judged_anywhere at p q (node.Not a) = refl
judged_anywhere at p q (node.Number a) = refl
judged_anywhere at p q (node.Negative a) = refl
judged_anywhere at p q (node.Text a) = refl
judged_anywhere at p q (node.Boolean a) = refl
judged_anywhere at p q node.Unit = refl
judged_anywhere at p q (node.Name a) = refl
judged_anywhere at p q (node.Call a b) = refl
judged_anywhere at p q (node.CallDotted a b) = refl
judged_anywhere at p q (node.Nil a) = refl
judged_anywhere at p q (node.None a) = refl
judged_anywhere at p q (node.Empty a) = refl

inside_anywhere : (at : Around) (p q : Place) (n : Node) → inner_wrongs at (expr_of p n) ≡ inner_wrongs at (expr_of q n)
inside_anywhere at p q (node.If a b c) = refl
inside_anywhere at p q (node.Chain a b c) = refl
inside_anywhere at p q (node.Compare a b c) = refl
inside_anywhere at p q (node.Negate a) = refl
inside_anywhere at p q (node.Not a) = refl
inside_anywhere at p q (node.Number a) = refl
inside_anywhere at p q (node.Negative a) = refl
inside_anywhere at p q (node.Text a) = refl
inside_anywhere at p q (node.Boolean a) = refl
inside_anywhere at p q node.Unit = refl
inside_anywhere at p q (node.Name a) = refl
inside_anywhere at p q (node.Call a b) = refl
inside_anywhere at p q (node.CallDotted a b) = refl
inside_anywhere at p q (node.Nil a) = refl
inside_anywhere at p q (node.None a) = refl
inside_anywhere at p q (node.Empty a) = refl

judged_here : (at : Around) (e : Expr) (n : Node) → expr_of (place_of e) n ≡ e → judge at (expr_of nowhere n) ≡ judge at e
judged_here at e n is = judged_anywhere at nowhere (place_of e) n ∙ ap (judge at) is

inside_here : (at : Around) (e : Expr) (n : Node) → expr_of (place_of e) n ≡ e → inner_wrongs at (expr_of nowhere n) ≡ inner_wrongs at e
inside_here at e n is = inside_anywhere at nowhere (place_of e) n ∙ ap (inner_wrongs at) is

-- ---- an expression, from what is found at its node
pub expression_stops : (at : Around) (e : Expr) (n : Node) (s : Stop) → expr_of (place_of e) n ≡ e → Stops (inner_wrongs at (expr_of nowhere n)) (judge at (expr_of nowhere n)) s → Stops (wrongs at e) (type_of at e) s
expression_stops at e n s is h =
    stops_same s (broken e (judge at e) ++ inner_wrongs at e) (wrongs at e) (type_of at e) (type_of at e) (sym (wrongs_split at e)) refl
    (stop_of e (judge at e) (inner_wrongs at e) s
    (stops_same s (inner_wrongs at (expr_of nowhere n)) (inner_wrongs at e) (judge at (expr_of nowhere n)) (judge at e) (inside_here at e n is) (judged_here at e n is) h))

-- what is not refused
whole_of : (xs : List Wrong) (v : Option Verdict) → None ≡ clash_in v → IsWhole xs v → xs ≡ []
whole_of xs None h k = k
whole_of xs (Some (Ok t)) h k = k
whole_of xs (Some (Err clash)) h k = absurd (cc h)

not_broken : (e : Expr) (v : Option Verdict) → None ≡ clash_in v → broken e v ≡ []
not_broken e None h = refl
not_broken e (Some (Ok t)) h = refl
not_broken e (Some (Err clash)) h = absurd (cc h)

pub clash_is : (v : Option Verdict) (clash : Clash) → Some clash ≡ clash_in v → Some (Err clash) ≡ v
clash_is None clash h = absurd (cc h)
clash_is (Some (Ok t)) clash h = absurd (cc h)
clash_is (Some (Err other)) clash h = cc h

pub expression_allowed : (at : Around) (e : Expr) (n : Node) (u : Option Verdict) (t : Option ExprType) → expr_of (place_of e) n ≡ e → IsWhole (inner_wrongs at (expr_of nowhere n)) u × (u ≡ judge at (expr_of nowhere n)) → None ≡ clash_in u → t ≡ of_verdict u → (wrongs at e ≡ []) × (t ≡ type_of at e)
expression_allowed at e n u t is h none found =
    let same : u ≡ judge at e = h.1 ∙ judged_here at e n is in (
      wrongs_split at e
          ∙ ap (λ v. broken e v ++ inner_wrongs at e) (sym same)
          ∙ ap (λ l. l ++ inner_wrongs at e) (not_broken e u none)
          ∙ sym (inside_here at e n is)
          ∙ whole_of (inner_wrongs at (expr_of nowhere n)) u none h.0,
      found ∙ ap of_verdict same,
    )

pub expression_broken : (at : Around) (e : Expr) (n : Node) (u : Option Verdict) (clash : Clash) (p : Place) → expr_of (place_of e) n ≡ e → IsWhole (inner_wrongs at (expr_of nowhere n)) u × (u ≡ judge at (expr_of nowhere n)) → Some clash ≡ clash_in u → p ≡ place_of e → (first (wrongs at e) ≡ Some (wrong.Part p clash)) × (type_of at e ≡ None)
expression_broken at e n u clash p is h refused here =
    let whole : judge at e ≡ Some (Err clash) = sym (clash_is u clash refused ∙ h.1 ∙ judged_here at e n is) in (
      ap first (wrongs_split at e) ∙ ap (λ v. first (broken e v ++ inner_wrongs at e)) whole ∙ ap (λ q. Some (wrong.Part q clash)) (sym here),
      ap of_verdict whole,
    )

-- a node that is another one
pub at_node : (at : Around) (n m : Node) (r : Result (Option Verdict) Stop) → m ≡ n → IsJudged (inner_wrongs at (expr_of nowhere n)) (judge at (expr_of nowhere n)) r → IsJudged (inner_wrongs at (expr_of nowhere m)) (judge at (expr_of nowhere m)) r
at_node at n m r is h =
    let P : Node → Type 0 = λ x. IsJudged (inner_wrongs at (expr_of nowhere x)) (judge at (expr_of nowhere x)) r in subst P (sym is) h
