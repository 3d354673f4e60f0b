-- How many nodes bodies have, and calls of them.
use Rattle.std.proofs.Common.{◌≡◌, ℕ, zero, suc, ◌+◌, ◌≤◌, Bool, true, false, ltb, ◌&&◌, if◌then◌else◌, List, [], ◌∷◌, length, Option, Some, None, refl, sym, ap, ◌∙◌, inl, inr, arith}
use Rattle.std.specs.Prelude.{slice_get, slice_index_or}
use Rattle.std.specs.List.{All}
use Rattle.std.proofs.lemmas.Bool.{cases_lt, ltb-false}
use Rattle.std.proofs.lemmas.List.{get_or_past}
use Rattle.std.proofs.lemmas.List.Elements.{All-get_or}
use Rattle.tsl_value.specs.declared.place.Place.{Place}
use Rattle.tsl_value.proofs.Lists.{append_empty}
use Rattle.lift_func.specs.declared.limits.TheConstants.{MOST_NODES}
use Rattle.lift_func.specs.BodyTree.{BodyTree, Literal, Argument, Absent, One, Two, Choice, node_count}
use Rattle.lift_func.specs.inner.Placed.{placed, within}
use Rattle.lift_func.proofs.PlacedLemmas.{within_small}
use Rattle.syntax_tree.specs.Tree as tree
use Rattle.name_check.specs.Scope.{are_values}
use Rattle.name_check.specs.Faults.{first}
use Rattle.name_check.proofs.FirstLemmas.{empty_without_first}
use Rattle.syntax_tree.specs.Tree.{params_of}
use Rattle.spec_meaning.specs.Function.{no_tree, function_at, function_body}
use Rattle.function_bodies.specs.inner.Calls.{IsFunction}
use Rattle.function_bodies.specs.Bodies.{body_at, AreBodies, too_large_in, too_large_from, too_large_bodies}

-- ---- where no body is too large
each_small : (items : List tree.Item) (n : ℕ) (rest : List tree.Item) → too_large_from items n rest ≡ [] → (k : ℕ) (item : tree.Item) → slice_get rest k ≡ Some item → too_large_in items (n + k) item ≡ []
each_small items n [] h k item is = cc
each_small items n (x ∷ rest) h zero item is =
    let same : x ≡ item = cc in
    let number : n + zero ≡ n = omega arith in
    ap (λ m. too_large_in items m item) number ∙ ap (too_large_in items n) (sym same) ∙ (append_empty (too_large_in items n x) (too_large_from items (suc n) rest) h).0
each_small items n (x ∷ rest) h (suc k) item is =
    let number : n + suc k ≡ suc n + k = omega arith in
    ap (λ m. too_large_in items m item) number
    ∙ each_small items (suc n) rest (append_empty (too_large_in items n x) (too_large_from items (suc n) rest) h).1 k item is

small_by : (q : Place) (body : BodyTree) (v b : Bool) → v ≡ true → ltb MOST_NODES (node_count body) ≡ b → (if v && ltb MOST_NODES (node_count body) then q ∷ [] else []) ≡ [] → node_count body ≤ MOST_NODES
small_by q body false b is e h = cc
small_by q body true true is e h = absurd (cc)
small_by q body true false is e h = ltb-false MOST_NODES (node_count body) e

small_at : (items : List tree.Item) (i : ℕ) (m : Option tree.Item) → slice_get items i ≡ m → are_values (params_of m) ≡ true → ((item : tree.Item) → slice_get items i ≡ Some item → too_large_in items i item ≡ []) → node_count (function_body items i) ≤ MOST_NODES
small_at items i (Some (tree.Defined p (tree.Define q n ps w b))) is function none =
    small_by q (function_body items i) (are_values ps) (ltb MOST_NODES (node_count (function_body items i))) function refl (none (tree.Defined p (tree.Define q n ps w b)) is)
small_at items i m is function none = cc

pub few_nodes : (items : List tree.Item) → too_large_bodies items ≡ [] → (i : ℕ) → IsFunction items i → node_count (function_body items i) ≤ MOST_NODES
few_nodes items h i function =
    let number : i ≡ 0 + i = omega arith in
    small_at items i (slice_get items i) refl function (λ item is. ap (λ m. too_large_in items m item) number ∙ each_small items 0 items h i item is)

pub body_is_there : (items : List tree.Item) → too_large_bodies items ≡ [] → (i : ℕ) → IsFunction items i → body_at items i ≡ Some (function_body items i)
body_is_there items h i function =
    ap (λ v. if v then within (function_body items i) else None) function ∙ within_small (function_body items i) (few_nodes items h i function)

-- the same of the place that was asked for
pub none_too_large : (items : List tree.Item) → first (too_large_bodies items) ≡ None → too_large_bodies items ≡ []
none_too_large items h = empty_without_first (too_large_bodies items) h

-- ---- operands of one node each, such as literals and arguments
one_at : (ts : List BodyTree) (n : ℕ) → All (λ t. node_count t ≡ 1) ts → node_count (slice_index_or ts n no_tree) ≡ 1
one_at ts n h = elim (cases_lt n (length ts)) [
  | inl lt ↦ All-get_or (λ t. node_count t ≡ 1) ts n no_tree lt h
  | inr past ↦ ap node_count (get_or_past ts n no_tree past)
]

pub placed_count : (ts : List BodyTree) (t : BodyTree) → All (λ u. node_count u ≡ 1) ts → node_count (placed ts t) ≡ node_count t
placed_count ts (Literal s) h = refl
placed_count ts (Argument n) h = one_at ts n h
placed_count ts (Absent t) h = refl
placed_count ts (One o a) h = omega (arith, placed_count ts a h)
placed_count ts (Two o a b) h = omega (arith, placed_count ts a h, placed_count ts b h)
placed_count ts (Choice c a b) h = omega (arith, placed_count ts c h, placed_count ts a h, placed_count ts b h)

-- a value function at such operands is there wherever its body is
pub call_is_there : (items : List tree.Item) (bodies : List (Option BodyTree)) → AreBodies items bodies → (i : ℕ) (ts : List BodyTree) → IsFunction items i → All (λ u. node_count u ≡ 1) ts → node_count (function_body items i) ≤ MOST_NODES → within (function_at items i ts) ≡ Some (placed ts (function_body items i))
call_is_there items bodies right i ts function one few =
    ap within (right.placed i ts function)
    ∙ within_small (placed ts (function_body items i)) (omega (arith, placed_count ts (function_body items i) one))
