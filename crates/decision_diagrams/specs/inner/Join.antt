-- Two nodes taken together.
use Rattle.std.specs.Prelude.{◌≡◌, ◌==◌, ℕ, ◌+◌, ◌<◌, Bool, true, false, not, ◌&&◌, ◌||◌, if◌then◌else◌, IsTrue}
use Rattle.std.specs.Prelude.{List, Option, Some, None, nat_eq}
use Rattle.indexmap.specs.IndexMap.{IndexMap, get}
use Rattle.indexmap.specs.IndexSet.{IndexSet, contains}
use Rattle.decision_diagrams.specs.declared.arena.Branch.{Branch}
use Rattle.decision_diagrams.specs.declared.join.Connective.{Connective}
use Rattle.decision_diagrams.specs.declared.join.Connective.TheVariants as connective
use Rattle.decision_diagrams.specs.declared.join.Pair.{Pair}
use Rattle.decision_diagrams.specs.declared.join.Split.{Split}
use Rattle.decision_diagrams.specs.inner.DecisionTree.{Valuation, value, IsAfter}
use Rattle.decision_diagrams.specs.inner.Arena.{tree_at, IsNode}

abbrev pub connected : Connective → Bool → Bool → Bool
connected connective.And p q = p && q
connected connective.Or p q = p || q

-- the node is true where both of a pair are, or where one of them is
pub record IsJoin (c : Connective) (bs : List Branch) (p : Pair) (n : ℕ) : Type 0 where
  pub there : IsNode bs n
  pub exact : (v : Valuation) → value v (tree_at bs n) ≡ connected c (value v (tree_at bs p.first)) (value v (tree_at bs p.second))
  pub deeper : (x : ℕ) → IsAfter x (tree_at bs p.first) → IsAfter x (tree_at bs p.second) → IsAfter x (tree_at bs n)

abbrev pub AreNodes : List Branch → Pair → Type 0
AreNodes bs p = IsNode bs p.first × IsNode bs p.second

abbrev pub same_pair : Pair → Pair → Bool
same_pair p q = nat_eq p.first q.first && nat_eq p.second q.second

-- what is known of pairs
abbrev pub AreJoined : {S : Type 0} → Connective → List Branch → IndexMap Pair ℕ S → Type 0
AreJoined c bs known = (p : Pair) (n : ℕ) → get same_pair known p ≡ Some n → AreNodes bs p × IsJoin c bs p n

-- the answer where it needs no branch
abbrev pub settled : Connective → Pair → Option ℕ
settled connective.And p =
    if p.first == 0 || p.second == 0 then Some 0 else
    if p.first == 1 then Some p.second else
    if p.second == 1 then Some p.first else None
settled connective.Or p =
    if p.first == 1 || p.second == 1 then Some 1 else
    if p.first == 0 then Some p.second else
    if p.second == 0 then Some p.first else None

-- the sides of a branch by a variable that stands at it or before it
abbrev pub sides_of : Branch → ℕ → ℕ → ℕ × ℕ
sides_of b n x = if b.variable == x then (b.low, b.high) else (n, n)

-- two nodes by the first variable of both
pub record IsSplit (bs : List Branch) (p : Pair) (s : Split) : Type 0 where
  pub low : AreNodes bs s.low
  pub high : AreNodes bs s.high
  pub low_less : s.low.first + s.low.second < p.first + p.second
  pub high_less : s.high.first + s.high.second < p.first + p.second
  pub first :
      (v : Valuation) →
      value v (tree_at bs p.first) ≡ (if v s.variable then value v (tree_at bs s.high.first) else value v (tree_at bs s.low.first))
  pub second :
      (v : Valuation) →
      value v (tree_at bs p.second) ≡ (if v s.variable then value v (tree_at bs s.high.second) else value v (tree_at bs s.low.second))
  pub low_after : IsAfter s.variable (tree_at bs s.low.first) × IsAfter s.variable (tree_at bs s.low.second)
  pub high_after : IsAfter s.variable (tree_at bs s.high.first) × IsAfter s.variable (tree_at bs s.high.second)
  pub before : (x : ℕ) → IsAfter x (tree_at bs p.first) → IsAfter x (tree_at bs p.second) → x < s.variable

-- ---- whether some valuation has the first of a pair and the second, or the first alone
abbrev pub asked : Bool → Bool → Bool → Bool
asked both p q = p && (if both then q else not q)

pub record IsFound (both : Bool) (bs : List Branch) (p : Pair) : Type 0 where
  pub valuation : Valuation
  pub holds : IsTrue (asked both (value valuation (tree_at bs p.first)) (value valuation (tree_at bs p.second)))

abbrev pub AreRefuted : {S : Type 0} → Bool → List Branch → IndexSet Pair S → Type 0
AreRefuted both bs refuted = (p : Pair) → contains same_pair refuted p ≡ true → IsFound both bs p → ⊥

-- the answer where it needs no branch
abbrev pub decided : Bool → Pair → Option Bool
decided both p =
    if p.first == 0 then Some false else
    if p.second == 0 then Some (not both) else
    if p.second == 1 then Some both else
    if p.first == 1 then Some true else None

-- some valuation has both nodes, and each valuation with the first has the second
abbrev pub AreTogether : List Branch → Pair → Type 0
AreTogether bs p = (v : Valuation) × IsTrue (value v (tree_at bs p.first)) × IsTrue (value v (tree_at bs p.second))

abbrev pub IsImplied : List Branch → Pair → Type 0
IsImplied bs p = (v : Valuation) → IsTrue (value v (tree_at bs p.first)) → IsTrue (value v (tree_at bs p.second))
