-- Induction along a relation between finitely many numbers in which none is reached from itself.
use Rattle.std.proofs.Common.{ℕ, ◌<◌}
use Rattle.translation_order.specs.Graph.{Path}
use Rattle.translation_order.proofs.Descent.{descend}

pub holds : (bound : ℕ) (E : ℕ → ℕ → Type 0) → ((x : ℕ) → Path E x x → ⊥) → ((a b : ℕ) → E a b → a < bound) → (P : ℕ → Type 0) → ((n : ℕ) → ((m : ℕ) → E n m → P m) → P n) → (n : ℕ) → P n
holds bound E none within P next n = descend bound E none within P next n
