-- What the code keeps while it takes steps away.
use Rattle.std.specs.Prelude.{◌≡◌, ℕ, ◌+◌, ◌<◌, Bool, true, false, cond, ◌&&◌, ◌||◌, not, List, [], ◌∷◌, length, slice_index}
use Rattle.std.specs.Prelude.{slice_index_or, ◌==◌, nat_lt, eqb}
use Rattle.std.specs.List.{list_any}
use Rattle.std.specs.Ordering.{nat_cmp}
use Rattle.std.specs.BTreeSet as tree
use Rattle.translation_order.specs.Order.{Before, TakesLeast}

abbrev pub is_one_of : List ℕ → ℕ → Bool
is_one_of xs x = list_any (eqb x) xs

abbrev pub one_if : Bool → ℕ
one_if true = 1
one_if false = 0

-- how many times a list has a number
abbrev pub times : ℕ → List ℕ → ℕ
times x [] = 0
times x (y ∷ ys) = one_if (eqb x y) + times x ys

-- the seconds of the pairs with this first
abbrev pub seconds_of : List (ℕ × ℕ) → ℕ → List ℕ
seconds_of [] a = []
seconds_of (p ∷ pairs) a = cond (eqb a p.0) (p.1 ∷ seconds_of pairs a) (seconds_of pairs a)

-- how many pairs with this second have a first that is not listed
abbrev pub waiting : List ℕ → List (ℕ × ℕ) → ℕ → ℕ
waiting listed [] x = 0
waiting listed (p ∷ pairs) x = one_if (eqb x p.1 && not (is_one_of listed p.0)) + waiting listed pairs x

-- each step has the seconds of its pairs
pub record AreSeconds (steps : ℕ) (pairs : List (ℕ × ℕ)) (seconds : List (List ℕ)) : Type 0 where
  pub one_each : length seconds ≡ steps
  pub at : (a : ℕ) → a < steps → slice_index_or seconds a [] ≡ seconds_of pairs a

-- each step has the number of pairs for which it waits
pub record AreWaits (steps : ℕ) (pairs : List (ℕ × ℕ)) (listed counts : List ℕ) : Type 0 where
  pub one_each : length counts ≡ steps
  pub at : (x : ℕ) → x < steps → slice_index counts x ≡ waiting listed pairs x

-- the free steps are those that are not listed and wait for no pair
abbrev pub AreFree : ℕ → List ℕ → List ℕ → tree.BTreeSet ℕ → Type 0
AreFree steps listed counts free =
    (x : ℕ) →
    tree.contains nat_cmp free x ≡ (nat_lt x steps && (not (is_one_of listed x) && (slice_index counts x == 0)))

-- these steps wait for as many pairs less as they are times in the list, and those that wait for none any more are free
pub record AreReleased (steps old counts : List ℕ) (before free : tree.BTreeSet ℕ) : Type 0 where
  pub same_length : length counts ≡ length old
  pub waits : (x : ℕ) → slice_index old x ≡ slice_index counts x + times x steps
  pub freed :
      (x : ℕ) →
      tree.contains nat_cmp free x ≡ (tree.contains nat_cmp before x || (is_one_of steps x && (slice_index counts x == 0)))

-- the state between two steps
pub record IsTaking (steps : ℕ) (pairs : List (ℕ × ℕ)) (listed counts : List ℕ) (free : tree.BTreeSet ℕ) : Type 0 where
  pub takes_least : TakesLeast steps (Before pairs) listed
  pub waits : AreWaits steps pairs listed counts
  pub are_free : AreFree steps listed counts free

-- the state after the last step
pub record IsTaken (steps : ℕ) (pairs : List (ℕ × ℕ)) (listed counts : List ℕ) : Type 0 where
  pub takes_least : TakesLeast steps (Before pairs) listed
  pub waits : AreWaits steps pairs listed counts
  pub listed_all : (x : ℕ) → x < steps → slice_index counts x ≡ 0 → is_one_of listed x ≡ true
