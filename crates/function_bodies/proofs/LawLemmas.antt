-- Laws of value functions.
use Rattle.std.proofs.Common.{◌≡◌, ℕ, zero, suc, ◌+◌, ◌<◌, List, [], ◌∷◌, length, Some, refl, sym, ap, subst, ◌∙◌, arith}
use Rattle.std.specs.Prelude.{slice_get, slice_index_or}
use Rattle.std.specs.List.{AllZip}
use Rattle.tsl_value.specs.declared.scalar.Scalar.TheVariants as scalar
use Rattle.syntax_tree.specs.Tree as tree
use Rattle.syntax_tree.specs.Tree.{Expr}
use Rattle.lift_func.specs.BodyTree.{BodyTree, Argument, One, Two, Choice}
use Rattle.lift_func.specs.inner.Placed.{placed}
use Rattle.name_check.specs.declared.declaration.Declaration.TheVariants as declaration
use Rattle.name_check.specs.Scope.{meaning, inside, top}
use Rattle.name_check.proofs.AgreeLemmas.{agree_same}
use Rattle.spec_meaning.specs.Occurrence.{body_of}
use Rattle.syntax_tree.specs.Tree.{params_of}
use Rattle.spec_meaning.specs.Function.{no_tree, tree_of, body_tree, function_tree, arguments_from}
use Rattle.function_bodies.specs.inner.Calls.{IsFunction, ArePlain}
use Rattle.function_bodies.specs.inner.Laws.{NestsWithin, DepthIsEnough, BodiesArePlaced}
use Rattle.function_bodies.proofs.TreeLemmas.{IsCongruence, trees_alike}
use Rattle.function_bodies.proofs.ScopeLemmas.{within_function, scope_same, seen_in_function, no_lift_within, function_below, good_parts}
use Rattle.function_bodies.proofs.DepthLemmas.{nests}

-- the tree of a value function is that of its expression
pub at_body : (items : List tree.Item) (d i : ℕ) (us : List BodyTree) (e : Expr) → IsFunction items i → body_of (slice_get items i) ≡ Some (tree.Plain e) → function_tree items (suc d) i us ≡ tree_of (within_function items (params_of (slice_get items i))) us (function_tree items d) e
at_body items d i us e function body =
    ap (λ b. body_tree (inside (top items) (params_of (slice_get items i))) us (function_tree items d) b) body
    ∙ ap (λ s. tree_of s us (function_tree items d) e) (scope_same items (params_of (slice_get items i)) function)

pub zip_at : (R : BodyTree → BodyTree → Type 0) → IsCongruence R → (us vs : List BodyTree) → AllZip R us vs → (k : ℕ) → R (slice_index_or us k no_tree) (slice_index_or vs k no_tree)
zip_at R r [] [] h k = r.literal scalar.Unit
zip_at R r [] (v ∷ vs) h k = absurd h
zip_at R r (u ∷ us) [] h k = absurd h
zip_at R r (u ∷ us) (v ∷ vs) h zero = h.0
zip_at R r (u ∷ us) (v ∷ vs) h (suc k) = zip_at R r us vs h.1 k

-- whatever the number is that says how deep calls nest, if it is large enough
pub functions_alike : (items : List tree.Item) → ArePlain items → (R : BodyTree → BodyTree → Type 0) → IsCongruence R → (d e i : ℕ) → NestsWithin items d i → NestsWithin items e i → IsFunction items i → (us vs : List BodyTree) → ((n : List ℕ) (k : ℕ) → meaning (within_function items (params_of (slice_get items i))) n ≡ Some (declaration.Parameter k) → R (slice_index_or us k no_tree) (slice_index_or vs k no_tree)) → R (function_tree items d i us) (function_tree items e i vs)
functions_alike items plain R r zero e i n m function us vs args = absurd n
functions_alike items plain R r (suc d) zero i n m function us vs args = absurd m
functions_alike items plain R r (suc d) (suc e) i n m function us vs args =
    let ps = params_of (slice_get items i) in
    let body = (plain.no_braces i function).1 in
    let expr = (plain.no_braces i function).0 in
    let good : ℕ → Type 0 = λ j. NestsWithin items d j × NestsWithin items e j × IsFunction items j in
    let whole : R (tree_of (within_function items ps) us (function_tree items d) expr) (tree_of (within_function items ps) vs (function_tree items e) expr) =
    trees_alike R good (within_function items ps) (within_function items ps) us vs (function_tree items d) (function_tree items e)
    (record {
      congruence = r;
      names = agree_same (within_function items ps) (within_function items ps) refl;
      arguments = args;
      calls = λ j g xs ys z. functions_alike items plain R r d e j g.0 g.1 g.2 xs ys (λ k m is. zip_at R r xs ys z m);
      no_lift = no_lift_within items ps plain;
    })
    expr
    (good_parts items i expr function body good (λ j calls f. (n j calls, m j calls, f))) in
    let P : BodyTree → Type 0 = λ t. R t (function_tree items (suc e) i vs) in
    let Q : BodyTree → Type 0 = λ t. R (tree_of (within_function items ps) us (function_tree items d) expr) t in
    subst P (sym (at_body items d i us expr function body)) (subst Q (sym (at_body items e i vs expr function body)) whole)

-- ---- the laws
equal_congruence : IsCongruence (λ a b. a ≡ b)
equal_congruence = record {
  literal = λ s. refl;
  absent = λ t. refl;
  one = λ o a b h. ap (One o) h;
  two = λ o a b c d h k. λ i. Two o (h i) (k i);
  choice = λ a b c d e f h k l. λ i. Choice (h i) (k i) (l i);
}

pub depth_is_enough : DepthIsEnough
depth_is_enough items order is_order plain deep i ts function n =
    functions_alike items plain (λ a b. a ≡ b) equal_congruence deep (length items) i n (nests items order is_order i (function_below items i function)) function ts ts (λ n k is. refl)

pub placed_congruence : (ts : List BodyTree) → IsCongruence (λ a b. placed ts a ≡ b)
placed_congruence ts = record {
  literal = λ s. refl;
  absent = λ t. refl;
  one = λ o a b h. ap (One o) h;
  two = λ o a b c d h k. λ i. Two o (h i) (k i);
  choice = λ a b c d e f h k l. λ i. Choice (h i) (k i) (l i);
}

pub argument_at : {A : Type 0} (m : ℕ) (xs : List A) (k : ℕ) → k < length xs → slice_index_or (arguments_from m xs) k no_tree ≡ Argument (m + k)
argument_at m [] k h = absurd (omega arith)
argument_at m (x ∷ xs) zero h = ap Argument (omega arith)
argument_at m (x ∷ xs) (suc k) h = argument_at (suc m) xs k (omega arith) ∙ ap Argument (omega arith)

pub bodies_are_placed : BodiesArePlaced
bodies_are_placed items order is_order plain i ts function =
    let ps = params_of (slice_get items i) in
    let deep = nests items order is_order i (function_below items i function) in
    sym (functions_alike items plain (λ a b. placed ts a ≡ b) (placed_congruence ts) (length items) (length items) i deep deep function (arguments_from 0 ps) ts
    (λ n k is.
    let seen = seen_in_function items ps n (declaration.Parameter k) is in
    ap (placed ts) (argument_at 0 ps k (seen.parameter k refl) ∙ ap Argument (omega arith))))
