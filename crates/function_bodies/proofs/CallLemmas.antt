-- Parameters, and calls of bodies that are there or are too large.
use Rattle.std.proofs.Common.{◌≡◌, ℕ, zero, suc, ◌<◌, ◌≤◌, List, [], ◌∷◌, length, Option, Some, None, refl, sym, ap, ◌∙◌, arith}
use Rattle.std.specs.Prelude.{slice_index_or}
use Rattle.std.proofs.lemmas.List.{length-map}
use Rattle.lift_func.specs.declared.limits.TheConstants.{MOST_NODES}
use Rattle.lift_func.specs.BodyTree.{BodyTree, Literal, Argument, Absent, One, Two, Choice, node_count}
use Rattle.lift_func.specs.inner.Placed.{placed, within}
use Rattle.lift_func.proofs.PlacedLemmas.{within_large}
use Rattle.syntax_tree.specs.declared.tree.Param.{Param}
use Rattle.syntax_tree.specs.inner.OneLevel.{param_of, params_in}
use Rattle.spec_meaning.specs.Function.{no_tree, arguments_from}
use Rattle.function_bodies.specs.inner.Around.{negated, too_large, tree_or, call_of}
use Rattle.function_bodies.proofs.LawLemmas.{argument_at}

-- ---- parameters
arguments_past : {A : Type 0} (m : ℕ) (xs : List A) (k : ℕ) → length xs ≤ k → slice_index_or (arguments_from m xs) k no_tree ≡ no_tree
arguments_past m [] k h = refl
arguments_past m (x ∷ xs) zero h = absurd (omega arith)
arguments_past m (x ∷ xs) (suc k) h = arguments_past (suc m) xs k (omega arith)

pub parameter_past : (ps : List Param) (k : ℕ) → length ps ≤ k → within no_tree ≡ within (slice_index_or (arguments_from 0 (params_in ps)) k no_tree)
parameter_past ps k h = let same : length (params_in ps) ≡ length ps = length-map ps param_of in ap within (sym (arguments_past 0 (params_in ps) k (omega arith)))

pub parameter_at : (ps : List Param) (k m : ℕ) → m ≡ k → k < length ps → Some (Argument m) ≡ within (slice_index_or (arguments_from 0 (params_in ps)) k no_tree)
parameter_at ps k m is h = let same : length (params_in ps) ≡ length ps = length-map ps param_of in ap within (sym (argument_at 0 (params_in ps) k (omega arith) ∙ ap Argument (omega arith)))

-- ---- a body that is too large
at_least_one : (t : BodyTree) → 1 ≤ node_count t
at_least_one (Literal s) = omega arith
at_least_one (Argument n) = omega arith
at_least_one (Absent t) = omega arith
at_least_one (One o a) = omega arith
at_least_one (Two o a b) = omega arith
at_least_one (Choice c a b) = omega arith

placed_grows : (ts : List BodyTree) (t : BodyTree) → node_count t ≤ node_count (placed ts t)
placed_grows ts (Literal s) = omega arith
placed_grows ts (Argument n) = at_least_one (placed ts (Argument n))
placed_grows ts (Absent t) = omega arith
placed_grows ts (One o a) = omega (arith, placed_grows ts a)
placed_grows ts (Two o a b) = omega (arith, placed_grows ts a, placed_grows ts b)
placed_grows ts (Choice c a b) = omega (arith, placed_grows ts c, placed_grows ts a, placed_grows ts b)

pub large_stays : (ts : List BodyTree) (t : BodyTree) → MOST_NODES < node_count t → within (placed ts t) ≡ None
large_stays ts t h = within_large (placed ts t) (omega (arith, placed_grows ts t))

negated_count : (n : ℕ) → node_count (negated n) ≡ suc n
negated_count zero = refl
negated_count (suc n) = let rest = negated_count n in omega arith

pub too_large_is : MOST_NODES < node_count too_large
unfolding too_large
too_large_is = let count = negated_count MOST_NODES in omega arith

-- a call of a body that is not there is too large
pub missing : (functions : List (Option BodyTree)) (i : ℕ) (ts : List BodyTree) → slice_index_or functions i None ≡ None → None ≡ within (call_of functions i ts)
missing functions i ts h = sym (ap (λ o. within (placed ts (tree_or o))) h ∙ large_stays ts too_large too_large_is)
