-- The order of items that is made of calls, and that calls without a cycle have one.
use Rattle.std.proofs.Common.{◌≡◌, ℕ, ◌<◌, List, None, length, sym, subst, arith}
use Rattle.std.proofs.lemmas.Option.{slice_get_within}
use Rattle.syntax_tree.specs.Tree as tree
use Rattle.translation_order.specs.Order.{Before, AreOfSteps, IsLeastOrder}
use Rattle.translation_order.specs.Cycle.{IsCycle}
use Rattle.translation_order.proofs.Alike.{path_alike}
use Rattle.translation_order.proofs.Cycles.{cycle_path}
use Rattle.definition_cycles.specs.Calls.{Calls}
use Rattle.definition_cycles.specs.Cycles.{IsFirstFunctionCycle}
use Rattle.definition_cycles.specs.inner.Edges.{AreEdges}
use Rattle.definition_cycles.proofs.CycleLemmas.{are_between}
use Rattle.definition_cycles.proofs.OrderLemmas.{turned_of, turned_has, turned_means, way_round}
use Rattle.function_bodies.specs.inner.Calls.{IsCallOrder}
use Rattle.function_bodies.proofs.DepthLemmas.{called_is_item}

module _ (items : List tree.Item) (edges pairs : List (ℕ × ℕ)) (e : AreEdges (Calls items) edges) (turned : pairs ≡ turned_of edges) where
  means : (a b : ℕ) → Before pairs a b → Calls items b a
  means a b h = turned_means (Calls items) edges e a b (subst (λ p. Before p a b) turned h)

  has : (a b : ℕ) → Calls items b a → Before pairs a b
  has a b h = subst (λ p. Before p a b) (sym turned) (turned_has (Calls items) edges e a b h)

  between : (n : ℕ) → n ≡ length items → (a b : ℕ) → Calls items b a → (a < n) × (b < n)
  between n is a b calls =
      let callee = called_is_item items b a calls in
      let calling = slice_get_within items b (tree.Defined calls.place calls.definition) calls.is_item in
      (omega arith, omega arith)

  pub pairs_of_items : (n : ℕ) → n ≡ length items → AreOfSteps n pairs
  pairs_of_items n is = are_between n pairs (λ a b h. between n is a b (means a b h))

  pub call_order : (n : ℕ) (order : List ℕ) → n ≡ length items → IsLeastOrder n (Before pairs) order → IsCallOrder items order
  call_order n order is o = record {
    all = λ i lt. o.all i (omega arith);
    called_first = λ front rest i j split calls. (o.takes_least front rest i split).holds.is_free j (has j i calls);
  }

  pub no_cycle : IsFirstFunctionCycle items None → (found : List ℕ) → IsCycle (Before pairs) found → ⊥
  no_cycle none found c =
      none c.first (way_round (Calls items) c.first c.first (path_alike (Before pairs) (λ a b. Calls items b a) means c.first c.first (cycle_path (Before pairs) found c)))
