-- Laws of the order of a plan.
use Rattle.std.specs.Prelude.{◌≡◌, ℕ, List, ◌∷◌, ◌++◌, IsTrue}
use Rattle.std.specs.List.{Contains}
use Rattle.flat_core.specs.Complete.{IsFlat}
use Rattle.flat_core.specs.System.{System}
use Rattle.translation_order.specs.Least.{IsLeast}
use Rattle.alias_rules.specs.Steps.{is_step, MustPrecede}
use Rattle.register_code.specs.inner.Plan.{IsLeastPlanOrder}

-- a step that may stand next: it does not stand in front, and all that has to stand before it does
pub record MayStandNext (s : System) (front : List ℕ) (x : ℕ) : Type 0 where
  pub is_one : IsTrue (is_step s x)
  pub is_new : Contains front x → ⊥
  pub is_free : (a : ℕ) → MustPrecede s a x → Contains front a

-- at each place of the order stands the least step that may stand there
abbrev pub LeastStepsFirst : Type 0
LeastStepsFirst =
    (s : System) (order front rest : List ℕ) (x : ℕ) →
    IsFlat s →
    IsLeastPlanOrder s order →
    order ≡ front ++ x ∷ rest →
    IsLeast (MayStandNext s front) x

-- a system has at most one such order
abbrev pub OnePlanOrder : Type 0
OnePlanOrder = (s : System) (xs ys : List ℕ) → IsLeastPlanOrder s xs → IsLeastPlanOrder s ys → xs ≡ ys
