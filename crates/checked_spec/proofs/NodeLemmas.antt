-- The node of an item, and those of the definitions in its block, by their numbers.
use Rattle.std.proofs.Common.{◌≡◌, ℕ, zero, suc, ◌+◌, List, [], ◌∷◌, length, take, Some, ap, subst, ◌∙◌, arith}
use Rattle.std.specs.Prelude.{slice_get}
use Rattle.std.proofs.lemmas.List.Sums.{sum_by-cons}
use Rattle.syntax_tree.specs.Tree as tree
use Rattle.name_check.specs.Scope.{Scope, top}
use Rattle.definition_cycles.specs.Nodes.{Node, item_nodes, nodes_from, nodes, first_node, count_of}
use Rattle.definition_cycles.proofs.FoundLemmas.{length_item}
use Rattle.tsl_value.proofs.Lists.{get_left, get_right}

node_from : (scope : Scope) (j : ℕ) (xs : List tree.Item) (i : ℕ) (x : tree.Item) → slice_get xs i ≡ Some x → (k : ℕ) (n : Node) → slice_get (item_nodes (j + i) scope x) k ≡ Some n → slice_get (nodes_from j scope xs) (first_node xs i + k) ≡ Some n
node_from scope j [] i x is k n h = absurd (cc)
node_from scope j (y ∷ ys) zero x is k n h =
    let same : x ≡ y = cc in
    let e : j + 0 ≡ j = omega arith in
    let f : first_node (y ∷ ys) 0 + k ≡ k = omega arith in
    ap (slice_get (nodes_from j scope (y ∷ ys))) f
    ∙ get_left (item_nodes j scope y) (nodes_from (suc j) scope ys) k n
    (subst (λ a. slice_get (item_nodes a scope y) k ≡ Some n) e (subst (λ z. slice_get (item_nodes (j + 0) scope z) k ≡ Some n) same h))
node_from scope j (y ∷ ys) (suc i) x is k n h =
    let e : j + suc i ≡ suc j + i = omega arith in
    let f : first_node (y ∷ ys) (suc i) + k ≡ length (item_nodes j scope y) + (first_node ys i + k) = omega (arith, length_item j scope y, sum_by-cons count_of y (take i ys)) in
    ap (slice_get (nodes_from j scope (y ∷ ys))) f
    ∙ get_right (item_nodes j scope y) (nodes_from (suc j) scope ys) (first_node ys i + k)
    ∙ node_from scope (suc j) ys i x is k n (subst (λ a. slice_get (item_nodes a scope x) k ≡ Some n) e h)

-- a node of an item is one of the specification
pub node_at : (items : List tree.Item) (i : ℕ) (x : tree.Item) → slice_get items i ≡ Some x → (k : ℕ) (n : Node) → slice_get (item_nodes i (top items) x) k ≡ Some n → slice_get (nodes items) (first_node items i + k) ≡ Some n
node_at items i x is k n h = let e : i ≡ 0 + i = omega arith in node_from (top items) 0 items i x is k n (subst (λ a. slice_get (item_nodes a (top items) x) k ≡ Some n) e h)
