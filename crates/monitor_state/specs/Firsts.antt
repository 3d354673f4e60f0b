-- Numbers, each where it comes first.
use Rattle.std.specs.Prelude.{◌==◌, ℕ, not, List, [], ◌∷◌}
use Rattle.std.specs.List.{filter}

-- each number where it comes first
abbrev pub firsts : List ℕ → List ℕ
firsts [] = []
firsts (x ∷ xs) = x ∷ filter (λ y. not (y == x)) (firsts xs)
