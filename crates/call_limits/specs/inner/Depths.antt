-- How deep calls nest, by edges that count and edges that do not.
use Rattle.std.specs.Prelude.{◌≡◌, ℕ, suc, ◌≤◌, ◌<◌, ◌⊎◌, List, ◌∷◌, ◌++◌, length, min, Option, MatchOption, slice_index}
use Rattle.std.specs.List.{Contains}
use Rattle.translation_order.specs.Least.{IsLeast}
use Rattle.translation_order.specs.OnCycle.{Edge}
use Rattle.definition_cycles.specs.declared.limits.TheConstants.{MOST_CALLS}

-- so many edges of C lie on a path from a, besides edges of P
pub data Nests (C P : ℕ → ℕ → Type 0) : ℕ → ℕ → Type 0 where
  ends : {a : ℕ} → Nests C P 0 a
  counts : {n a b : ℕ} → C a b → Nests C P n b → Nests C P (suc n) a
  passes : {n a b : ℕ} → P a b → Nests C P n b → Nests C P n a

-- the greatest such number, where those above the first that is too great are left out
pub record IsDepth (C P : ℕ → ℕ → Type 0) (a depth : ℕ) : Type 0 where
  pub nests : Nests C P depth a
  pub limited : depth ≤ suc MOST_CALLS
  pub greatest : (n : ℕ) → n ≤ suc MOST_CALLS → Nests C P n a → n ≤ depth

-- each item below count has its depth
pub record AreDepths (C P : ℕ → ℕ → Type 0) (count : ℕ) (depths : List ℕ) : Type 0 where
  pub one_each : length depths ≡ count
  pub at : (x : ℕ) → x < count → IsDepth C P x (slice_index depths x)

-- ---- what the code goes through
-- what an edge of x leads to stands in front
pub record StandsAfter (C P : ℕ → ℕ → Type 0) (count : ℕ) (front : List ℕ) (x : ℕ) : Type 0 where
  pub is_item : x < count
  pub counted : (y : ℕ) → C x y → Contains front y
  pub passed : (y : ℕ) → P x y → Contains front y

-- all items, each after those to which its edges lead
pub record AreAfter (C P : ℕ → ℕ → Type 0) (count : ℕ) (order : List ℕ) : Type 0 where
  pub each : (front rest : List ℕ) (x : ℕ) → order ≡ front ++ x ∷ rest → StandsAfter C P count front x
  pub all : (x : ℕ) → x < count → Contains order x

-- one more, up to the first number that is too great
abbrev pub one_deeper : ℕ → ℕ
one_deeper depth = min (suc depth) (suc MOST_CALLS)

-- the depth of an item by those of the items to which its edges lead
pub record IsDepthBy (depths counted passed : List ℕ) (depth : ℕ) : Type 0 where
  pub counts : (x : ℕ) → Contains counted x → one_deeper (slice_index depths x) ≤ depth
  pub passes : (x : ℕ) → Contains passed x → slice_index depths x ≤ depth
  pub reached :
      (depth ≡ 0)
      ⊎ (((x : ℕ) × Contains counted x × (depth ≡ one_deeper (slice_index depths x)))
      ⊎ ((x : ℕ) × Contains passed x × (depth ≡ slice_index depths x)))

-- ---- what is too deep
abbrev pub IsDeep : List ℕ → List ℕ → ℕ → Type 0
IsDeep macros functions x = (MOST_CALLS < slice_index macros x) ⊎ (MOST_CALLS < slice_index functions x)

abbrev pub NestsTooDeep : List (ℕ × ℕ) → List (ℕ × ℕ) → ℕ → Type 0
NestsTooDeep macros functions x =
    Nests (Edge macros) (Edge functions) (suc MOST_CALLS) x ⊎ Nests (Edge functions) (Edge macros) (suc MOST_CALLS) x

-- the least number for which P holds, or none
abbrev pub IsFirst : (ℕ → Type 0) → Option ℕ → Type 0
IsFirst P found = MatchOption found ((x : ℕ) → P x → ⊥) (IsLeast P)
