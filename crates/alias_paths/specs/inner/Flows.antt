-- How content goes on through variables and through their stores. The store of a variable has the variable's number plus the count of
-- equations: it has the content that the variable had at an earlier time.
use Rattle.std.specs.Prelude.{◌≡◌, ◌⊎◌, ℕ, ◌+◌, ◌≤◌, Bool, List, length, IsTrue}
use Rattle.flat_core.specs.inner.Marks.{has_mark}
use Rattle.flat_core.specs.System.{System}
use Rattle.translation_order.specs.Order.{Before}
use Rattle.alias_rules.specs.Uses.{IsLast}
use Rattle.alias_rules.specs.Roots.{Carries, IsOrigin}
use Rattle.alias_rules.specs.Sharing.{Shares}

abbrev pub store_of : System → ℕ → ℕ
store_of s x = length s.equations + x

module _ (s : System) (set : List ℕ) where
  -- content goes from a to b
  pub data Flows (a b : ℕ) : Type 0 where
    carried : Carries s set a b → Flows a b
    kept : (last : ℕ) → IsLast s a last → b ≡ store_of s a → Flows a b
    taken : (variable : ℕ) → IsLast s variable b → a ≡ store_of s variable → Flows a b

  -- content begins at a marked equation, or is in a marked store
  pub record IsSource (marks : List Bool) (z : ℕ) : Type 0 where
    pub marked : IsTrue (has_mark marks z)
    pub begins : IsOrigin s set z ⊎ (length s.equations ≤ z)

  -- v shares with a marked variable
  pub record SharesWithOne (stored : List Bool) (v : ℕ) : Type 0 where
    pub one : ℕ
    pub marked : IsTrue (has_mark stored one)
    pub shares : Shares s set v one

-- from a variable into its store, or from there to its last value
pub data GoesThroughStore (lasts : List (ℕ × ℕ)) (count a b : ℕ) : Type 0 where
  into : (last : ℕ) → Before lasts a last → b ≡ count + a → GoesThroughStore lasts count a b
  out_of : (variable : ℕ) → Before lasts variable b → a ≡ count + variable → GoesThroughStore lasts count a b

-- z is the store of a marked variable, where there are so many variables as marks
pub record IsStoreOf (marks : List Bool) (z : ℕ) : Type 0 where
  pub variable : ℕ
  pub marked : IsTrue (has_mark marks variable)
  pub is : z ≡ length marks + variable

-- the number is the store of this variable
abbrev pub HasStoreAt : ℕ → ℕ → ℕ → Type 0
HasStoreAt count number variable = number ≡ count + variable

-- a pair of this number and a marked one
pub record IsMarkedPair (number : ℕ) (marks : List Bool) (a b : ℕ) : Type 0 where
  pub first : a ≡ number
  pub marked : IsTrue (has_mark marks b)
