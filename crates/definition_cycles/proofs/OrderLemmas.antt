-- The order of edges that are turned round, and their cycles.
use Rattle.std.proofs.Common.{◌≡◌, ℕ, List, map, length, sym, ap, subst}
use Rattle.syntax_tree.specs.Tree as tree
use Rattle.tsl_value.proofs.Lists.{contains_map, map_contains}
use Rattle.translation_order.specs.Graph.{IsAcyclic, Path, edge, step}
use Rattle.translation_order.proofs.PathLemmas.{path_on}
use Rattle.translation_order.proofs.Paths.{path_alike}
use Rattle.translation_order.specs.Order.{Before, AreOfSteps, MayFollow, IsLeastOrder}
use Rattle.translation_order.specs.Cycle.{IsCycle}
use Rattle.translation_order.specs.inner.Answer.{OnCycle}
use Rattle.translation_order.specs.declared.order.OrderFault.{OrderFault}
use Rattle.translation_order.specs.declared.order.OrderFault.TheVariants.{CycleOf, Memory}
use Rattle.translation_order.proofs.Alike.{cycle_alike, least_alike}
use Rattle.translation_order.proofs.Cycles.{cycle_path}
use Rattle.definition_cycles.specs.Nodes.{nodes}
use Rattle.definition_cycles.specs.Mentions.{MentionsUntyped}
use Rattle.definition_cycles.specs.inner.Order.{Precedes, IsKindOrder, NoneNeedsType, SomeNeedsType}
use Rattle.definition_cycles.specs.inner.Edges.{AreEdges}
use Rattle.definition_cycles.proofs.CycleLemmas.{are_between}
use Rattle.definition_cycles.proofs.EdgeLemmas.{mention_between}

-- ---- relations that hold alike have the same orders
order_alike : (steps : ℕ) (E F : ℕ → ℕ → Type 0) → ((a b : ℕ) → E a b → F a b) → ((a b : ℕ) → F a b → E a b) → (order : List ℕ) → IsLeastOrder steps E order → IsLeastOrder steps F order
order_alike steps E F go back order o = record {
  takes_least = λ front rest x is. least_alike (MayFollow steps E front) (MayFollow steps F front) (follow E F back front) (follow F E go front) x (o.takes_least front rest x is);
  all = o.all;
}
  where
    follow : (E F : ℕ → ℕ → Type 0) → ((a b : ℕ) → F a b → E a b) → (front : List ℕ) (x : ℕ) → MayFollow steps E front x → MayFollow steps F front x
    follow E F back front x m = record { is_step = m.is_step; is_new = m.is_new; is_free = λ a f. m.is_free a (back a x f) }

-- ---- edges that are turned round
abbrev pub turned_of : List (ℕ × ℕ) → List (ℕ × ℕ)
turned_of edges = map (λ e. (e.1, e.0)) edges

pub turned_has : (E : ℕ → ℕ → Type 0) (edges : List (ℕ × ℕ)) → AreEdges E edges → (a b : ℕ) → E b a → Before (turned_of edges) a b
turned_has E edges e a b h = map_contains (λ e. (e.1, e.0)) edges (b, a) (e.has b a h)

pub turned_means : (E : ℕ → ℕ → Type 0) (edges : List (ℕ × ℕ)) → AreEdges E edges → (a b : ℕ) → Before (turned_of edges) a b → E b a
turned_means E edges e a b h =
    let f = contains_map (λ e. (e.1, e.0)) edges (a, b) h in
    let first : f.0.1 ≡ a = ap (λ (p : ℕ × ℕ). p.0) f.2 in
    let second : f.0.0 ≡ b = ap (λ (p : ℕ × ℕ). p.1) f.2 in
    subst (λ y. E b y) first (subst (λ x. E x f.0.1) second (e.means f.0.0 f.0.1 f.1))

-- ---- paths the other way
back_round : (E : ℕ → ℕ → Type 0) (a b : ℕ) → Path E a b → Path (λ x y. E y x) b a
back_round E a b (edge e) = edge e
back_round E a b (step {b = m} e p) = path_on (back_round E m b p) e

pub way_round : (E : ℕ → ℕ → Type 0) (a b : ℕ) → Path (λ x y. E y x) a b → Path E b a
way_round E a b (edge e) = edge e
way_round E a b (step {b = m} e p) = path_on (way_round E m b p) e

-- ---- the pairs that are made of mentions
module _ (items : List tree.Item) (edges pairs : List (ℕ × ℕ)) (e : AreEdges (MentionsUntyped items) edges) (turned : pairs ≡ turned_of edges) where
  means : (a b : ℕ) → Before pairs a b → Precedes items a b
  means a b h = turned_means (MentionsUntyped items) edges e a b (subst (λ p. Before p a b) turned h)

  has : (a b : ℕ) → Precedes items a b → Before pairs a b
  has a b h = subst (λ p. Before p a b) (sym turned) (turned_has (MentionsUntyped items) edges e a b h)

  pub pairs_of_steps : (n : ℕ) → n ≡ length (nodes items) → AreOfSteps n pairs
  pairs_of_steps n is = are_between n pairs (λ a b h. let m = mention_between items n is b a (means a b h) in (m.1, m.0))

  pub kind_order : (n : ℕ) (order : List ℕ) → n ≡ length (nodes items) → IsLeastOrder n (Before pairs) order → IsKindOrder items order
  kind_order n order is o = subst (λ m. IsLeastOrder m (Precedes items) order) is (order_alike n (Before pairs) (Precedes items) means has order o)

  pub kind_cycle : (cycle : List ℕ) → IsCycle (Before pairs) cycle → IsCycle (Precedes items) cycle
  kind_cycle cycle c = cycle_alike (Before pairs) (Precedes items) means cycle c

  pub none_needs : IsAcyclic (Before pairs) → NoneNeedsType items
  none_needs none a p = none a (path_alike (Precedes items) (Before pairs) has a a (back_round (MentionsUntyped items) a a p))

  pub some_needs : (cycle : List ℕ) → IsCycle (Before pairs) cycle → SomeNeedsType items
  some_needs cycle c = let k = kind_cycle cycle c in (k.first, way_round (MentionsUntyped items) k.first k.first (cycle_path (Precedes items) cycle k))

-- what follows of the cycle that is answered
pub on_cycle : (P Q : List ℕ → Type 0) → ((xs : List ℕ) → P xs → Q xs) → (f : OrderFault) → OnCycle P f → OnCycle Q f
on_cycle P Q go (CycleOf steps) h = go steps h
on_cycle P Q go Memory h = tt
