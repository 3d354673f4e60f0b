-- Relations that hold alike have the same cycles.
use Rattle.std.proofs.Common.{ℕ, List}
use Rattle.translation_order.specs.Graph.{Path, edge, step}
use Rattle.translation_order.specs.Least.{IsLeast}
use Rattle.translation_order.specs.Cycle.{IsCycle, CanBeTaken, taken, Remains, RemainsBefore, IsCycleOfWalk}
use Rattle.translation_order.proofs.Circles.{through_weaker}

can_alike : (E F : ℕ → ℕ → Type 0) → ((a b : ℕ) → F a b → E a b) → (x : ℕ) → CanBeTaken E x → CanBeTaken F x
can_alike E F back x (taken before) = taken (λ a f. can_alike E F back a (before a (back a x f)))

pub path_alike : (E F : ℕ → ℕ → Type 0) → ((a b : ℕ) → E a b → F a b) → (a b : ℕ) → Path E a b → Path F a b
path_alike E F more a b (edge e) = edge (more a b e)
path_alike E F more a b (step {b = m} e p) = step (more a m e) (path_alike E F more m b p)

pub cycle_alike : (E F : ℕ → ℕ → Type 0) → ((a b : ℕ) → E a b → F a b) → (cycle : List ℕ) → IsCycle E cycle → IsCycle F cycle
cycle_alike E F more cycle c = record {
  first = c.first;
  rest = c.rest;
  is = c.is;
  around = through_weaker E F more c.first c.rest c.first c.around;
  once = c.once;
  least_first = c.least_first;
}

pub least_alike : (P Q : ℕ → Type 0) → ((x : ℕ) → P x → Q x) → ((x : ℕ) → Q x → P x) → (x : ℕ) → IsLeast P x → IsLeast Q x
least_alike P Q more back x l = record { holds = more x l.holds; least = λ y q. l.least y (back y q) }

module _ (steps : ℕ) (E F : ℕ → ℕ → Type 0) (more : (a b : ℕ) → E a b → F a b) (back : (a b : ℕ) → F a b → E a b) where
  remains_more : (x : ℕ) → Remains steps E x → Remains steps F x
  remains_more x r = record { is_step = r.is_step; stays = λ can. r.stays (can_alike F E more x can) }

  remains_back : (x : ℕ) → Remains steps F x → Remains steps E x
  remains_back x r = record { is_step = r.is_step; stays = λ can. r.stays (can_alike E F back x can) }

  before_more : (x a : ℕ) → RemainsBefore steps E x a → RemainsBefore steps F x a
  before_more x a r = record { remains = remains_more a r.remains; before = more a x r.before }

  before_back : (x a : ℕ) → RemainsBefore steps F x a → RemainsBefore steps E x a
  before_back x a r = record { remains = remains_back a r.remains; before = back a x r.before }

  pub walk_alike : (cycle : List ℕ) → IsCycleOfWalk steps E cycle → IsCycleOfWalk steps F cycle
  walk_alike cycle c = record {
    first = c.first;
    rest = c.rest;
    again = c.again;
    walk = record {
      begins = least_alike (Remains steps E) (Remains steps F) remains_more remains_back c.first c.walk.begins;
      goes_on = through_weaker (λ x a. IsLeast (RemainsBefore steps E x) a) (λ x a. IsLeast (RemainsBefore steps F x) a) (λ x a l. least_alike (RemainsBefore steps E x) (RemainsBefore steps F x) (before_more x) (before_back x) a l) c.first c.rest c.again c.walk.goes_on;
      once = c.walk.once;
    };
    front = c.front;
    back = c.back;
    around = c.around;
    turned = c.turned;
  }
