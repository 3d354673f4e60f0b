-- Lists that begin others.
use Rattle.std.specs.Prelude.{◌≡◌, List, ◌∷◌, ◌++◌}

-- the first begins the second
pub record Begins {A : Type 0} (short whole : List A) : Type 0 where
  pub rest : List A
  pub is : whole ≡ short ++ rest

-- the first begins the second, and is not all of it
pub record BeginsStrictly {A : Type 0} (short whole : List A) : Type 0 where
  pub next : A
  pub rest : List A
  pub is : whole ≡ short ++ next ∷ rest
