-- Lists that are put together, in either order.
use Rattle.std.specs.Prelude.{◌≡◌, ℕ, List, ◌++◌, ◌⊎◌}

abbrev pub AreJoined : List ℕ → List ℕ → List ℕ → Type 0
AreJoined xs ys zs = (zs ≡ xs ++ ys) ⊎ (zs ≡ ys ++ xs)
