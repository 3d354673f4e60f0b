-- The least number of which something holds.
use Rattle.std.specs.Prelude.{ℕ, ◌≤◌}

-- P holds for this number and for none below it
pub record IsLeast (P : ℕ → Type 0) (x : ℕ) : Type 0 where
  pub holds : P x
  pub least : (y : ℕ) → P y → x ≤ y
