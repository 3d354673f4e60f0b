-- Paths of edges.
use Rattle.std.proofs.Common.{◌≡◌, ℕ, subst, ◌⊎◌, inl, inr}
use Rattle.translation_order.specs.Graph.{Path, edge, step}
use Rattle.translation_order.proofs.PathLemmas.{path_join}

pub path_alike : (E F : ℕ → ℕ → Type 0) → ((a b : ℕ) → E a b → F a b) → (a b : ℕ) → Path E a b → Path F a b
path_alike E F like a b (edge e) = edge (like a b e)
path_alike E F like a b (step {b = m} e p) = step (like a m e) (path_alike E F like m b p)

-- a path to a node that is the same as another or from which another is reached
pub path_on : (E : ℕ → ℕ → Type 0) (a b c : ℕ) → Path E a b → (b ≡ c) ⊎ Path E b c → Path E a c
path_on E a b c p (inl same) = subst (Path E a) same p
path_on E a b c p (inr q) = path_join p q

-- what is closed under edges holds along a path
pub along : (E : ℕ → ℕ → Type 0) (P : ℕ → Type 0) → ((a b : ℕ) → P a → E a b → P b) → (a b : ℕ) → P a → Path E a b → P b
along E P closed a b h (edge e) = closed a b h e
along E P closed a b h (step {b = m} e p) = along E P closed m b (closed a m h e) p

pub along_from : (E : ℕ → ℕ → Type 0) (P : ℕ → Type 0) → ((a b : ℕ) → P a → E a b → P b) → (a b : ℕ) → ((y : ℕ) → E a y → P y) → Path E a b → P b
along_from E P closed a b first (edge e) = first b e
along_from E P closed a b first (step {b = m} e p) = along E P closed m b (first m e) p

pub first_edge : (E : ℕ → ℕ → Type 0) (a b : ℕ) → Path E a b → (y : ℕ) × E a y
first_edge E a b (edge e) = (b, e)
first_edge E a b (step {b = m} e p) = (m, e)
