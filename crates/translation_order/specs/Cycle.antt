-- Cycles of steps, and the one that is answered where steps have no order.
use Rattle.std.specs.Prelude.{◌≡◌, ℕ, ◌<◌, List, [], ◌∷◌, ◌++◌, eqb, reverse}
use Rattle.std.specs.List.{Contains, IsDistinct}
use Rattle.translation_order.specs.Least.{IsLeast}

-- E holds from a to the first of xs, from each of xs to the next, and from the last to b
abbrev pub Through : (ℕ → ℕ → Type 0) → ℕ → List ℕ → ℕ → Type 0
Through E a [] b = E a b
Through E a (x ∷ xs) b = E a x × Through E x xs b

-- steps each of which has to stand before the next, and the last before the first; each comes once, and the least first
pub record IsCycle (E : ℕ → ℕ → Type 0) (cycle : List ℕ) : Type 0 where
  pub first : ℕ
  pub rest : List ℕ
  pub is : cycle ≡ first ∷ rest
  pub around : Through E first rest first
  pub once : IsDistinct eqb cycle
  pub least_first : IsLeast (Contains cycle) first

-- a step can be taken away once all that has to stand before it was
pub data CanBeTaken (E : ℕ → ℕ → Type 0) : ℕ → Type 0 where
  taken : {x : ℕ} → ((a : ℕ) → E a x → CanBeTaken E a) → CanBeTaken E x

-- a step that is left when no more can be taken away
pub record Remains (steps : ℕ) (E : ℕ → ℕ → Type 0) (x : ℕ) : Type 0 where
  pub is_step : x < steps
  pub stays : CanBeTaken E x → ⊥

-- a remaining step that has to stand before x
pub record RemainsBefore (steps : ℕ) (E : ℕ → ℕ → Type 0) (x a : ℕ) : Type 0 where
  pub remains : Remains steps E a
  pub before : E a x

-- the walk that begins at the least remaining step and goes on to the least remaining one before the last, until one comes again
pub record IsWalk (steps : ℕ) (E : ℕ → ℕ → Type 0) (first : ℕ) (rest : List ℕ) (again : ℕ) : Type 0 where
  pub begins : IsLeast (Remains steps E) first
  pub goes_on : Through (λ x a. IsLeast (RemainsBefore steps E x) a) first rest again
  pub once : IsDistinct eqb (first ∷ rest)

-- the same circle the other way around, from its least step on
pub record IsTurned (steps turned : List ℕ) : Type 0 where
  pub before : List ℕ
  pub least : ℕ
  pub after : List ℕ
  pub backward : reverse steps ≡ before ++ least ∷ after
  pub is : turned ≡ least ∷ (after ++ before)
  pub least_first : IsLeast (Contains turned) least

-- The walk goes around a cycle from the step that came again on. The cycle is answered the other way around, which is that in
-- which its steps have to stand.
pub record IsCycleOfWalk (steps : ℕ) (E : ℕ → ℕ → Type 0) (cycle : List ℕ) : Type 0 where
  pub first : ℕ
  pub rest : List ℕ
  pub again : ℕ
  pub walk : IsWalk steps E first rest again
  pub front : List ℕ
  pub back : List ℕ
  pub around : first ∷ rest ≡ front ++ again ∷ back
  pub turned : IsTurned (again ∷ back) cycle
