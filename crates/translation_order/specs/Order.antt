-- Orders of steps, and the one that is answered. Steps are the numbers below a count, and E a b says that step a has to stand
-- before step b.
use Rattle.std.specs.Prelude.{◌≡◌, ℕ, ◌<◌, List, ◌∷◌, ◌++◌}
use Rattle.std.specs.List.{All, Contains}
use Rattle.translation_order.specs.Least.{IsLeast}

-- the relation of a list of pairs
abbrev pub Before : List (ℕ × ℕ) → ℕ → ℕ → Type 0
Before pairs a b = Contains pairs (a, b)

-- pairs of steps
abbrev pub AreOfSteps : ℕ → List (ℕ × ℕ) → Type 0
AreOfSteps steps pairs = All (λ p. (p.0 < steps) × (p.1 < steps)) pairs

-- a step that may stand next: it does not stand in front, and all that has to stand before it does
pub record MayFollow (steps : ℕ) (E : ℕ → ℕ → Type 0) (front : List ℕ) (x : ℕ) : Type 0 where
  pub is_step : x < steps
  pub is_new : Contains front x → ⊥
  pub is_free : (a : ℕ) → E a x → Contains front a

-- at each place stands the least step that may stand there
abbrev pub TakesLeast : ℕ → (ℕ → ℕ → Type 0) → List ℕ → Type 0
TakesLeast steps E order = (front rest : List ℕ) (x : ℕ) → order ≡ front ++ x ∷ rest → IsLeast (MayFollow steps E front) x

-- all steps, each once and after those that have to stand before it, at each place the least that may stand there
pub record IsLeastOrder (steps : ℕ) (E : ℕ → ℕ → Type 0) (order : List ℕ) : Type 0 where
  pub takes_least : TakesLeast steps E order
  pub all : (x : ℕ) → x < steps → Contains order x
