-- Cycles of edges, and those of the relation that they are of.
use Rattle.std.proofs.Common.{◌≡◌, ℕ, ◌<◌, List, Option, Some, None, sym, subst}
use Rattle.std.specs.List.{Contains}
use Rattle.std.proofs.lemmas.List.Elements.{All-contains_itself, All-weaker}
use Rattle.translation_order.specs.Least.{IsLeast}
use Rattle.translation_order.specs.OnCycle.{Edge, AreBetween, IsFirstOnCycle, OnCycle}
use Rattle.translation_order.specs.Graph.{Path}
use Rattle.translation_order.proofs.Paths.{path_alike}
use Rattle.definition_cycles.specs.inner.Edges.{AreEdges}

-- edges lie below a number where each of them does
pub are_between : (n : ℕ) (edges : List (ℕ × ℕ)) → ((a b : ℕ) → Contains edges (a, b) → (a < n) × (b < n)) → AreBetween n edges
are_between n edges within = All-weaker (Contains edges) (λ e. (e.0 < n) × (e.1 < n)) (λ e c. within e.0 e.1 c) edges (All-contains_itself edges)

pub least_on_cycle : (edges : List (ℕ × ℕ)) (E : ℕ → ℕ → Type 0) → AreEdges E edges → (x : ℕ) → IsLeast (OnCycle edges) x → IsLeast (λ y. Path E y y) x
least_on_cycle edges E e x l = record {
  holds = path_alike (Edge edges) E e.means x x l.holds;
  least = λ y p. l.least y (path_alike E (Edge edges) e.has y y p);
}

pub none_on_cycle : (edges : List (ℕ × ℕ)) (E : ℕ → ℕ → Type 0) → AreEdges E edges → IsFirstOnCycle edges None → (x : ℕ) → Path E x x → ⊥
none_on_cycle edges E e none x p = none x (path_alike E (Edge edges) e.has x x p)

-- what is found, where it is known which of both it is
pub found_least : (edges : List (ℕ × ℕ)) (found : Option ℕ) (x : ℕ) → found ≡ Some x → IsFirstOnCycle edges found → IsLeast (OnCycle edges) x
found_least edges found x is h = subst (IsFirstOnCycle edges) is h

pub same_edges : (E : ℕ → ℕ → Type 0) (xs ys : List (ℕ × ℕ)) → xs ≡ ys → AreEdges E ys → AreEdges E xs
same_edges E xs ys is h = subst (AreEdges E) (sym is) h
