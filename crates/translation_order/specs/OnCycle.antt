-- Cycles of a graph. Nodes are numbers, and each edge is a pair: it leads from its first node to its second.
use Rattle.std.specs.Prelude.{ℕ, ◌<◌, List, Option, MatchOption}
use Rattle.std.specs.List.{All, Contains}
use Rattle.translation_order.specs.Graph.{Path}
use Rattle.translation_order.specs.Least.{IsLeast}

-- an edge leads from a to b
abbrev pub Edge : List (ℕ × ℕ) → ℕ → ℕ → Type 0
Edge edges a b = Contains edges (a, b)

-- edges between the nodes below a number
abbrev pub AreBetween : ℕ → List (ℕ × ℕ) → Type 0
AreBetween nodes edges = All (λ e. (e.0 < nodes) × (e.1 < nodes)) edges

-- a node lies on a cycle where it is reached from itself
abbrev pub OnCycle : List (ℕ × ℕ) → ℕ → Type 0
OnCycle edges x = Path (Edge edges) x x

-- the least node on a cycle, or none where no node lies on one
abbrev pub IsFirstOnCycle : List (ℕ × ℕ) → Option ℕ → Type 0
IsFirstOnCycle edges found = MatchOption found ((x : ℕ) → OnCycle edges x → ⊥) (IsLeast (OnCycle edges))
