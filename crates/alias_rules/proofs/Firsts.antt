-- At most one conflict of a kind is the first.
use Rattle.std.proofs.Common.{ℕ, List, sym, subst}
use Rattle.translation_order.specs.Least.{IsLeast}
use Rattle.translation_order.proofs.Circles.{least_same}
use Rattle.alias_rules.specs.Conflict.{IsInConflict, IsFirst}
use Rattle.alias_rules.specs.inner.Laws.{AreSame}

pub one_first : (set : List ℕ) (Conflict : ℕ → ℕ → Type 0) (y x z w : ℕ) → IsFirst set Conflict y x → IsFirst set Conflict z w → AreSame y x z w
one_first set Conflict y x z w a b =
    let update = least_same (IsInConflict set Conflict) y z a.update b.update in
    record { update = update; other = least_same (Conflict y) x w a.other (subst (λ u. IsLeast (Conflict u) w) (sym update) b.other) }
