-- Operations with their arguments.
use Rattle.std.specs.Prelude.{◌≡◌, ℕ, suc, List, [], ◌∷◌, length, Option, Some, None}
use Rattle.tsl_value.specs.declared.operation.Update.{Update}
use Rattle.lift_func.specs.Update.{beside}
use Rattle.flat_core.specs.declared.equation.Op.{Op}
use Rattle.flat_core.specs.declared.equation.Op.TheVariants as op
use Rattle.flat_core.specs.Updates.{update_in}

-- as many arguments as an update has: its aggregate and the values beside it
abbrev pub HasUpdateArity : Option Update → List ℕ → Type 0
HasUpdateArity None args = ⊥
HasUpdateArity (Some u) args = length args ≡ suc (beside u)

-- as many arguments as the operation has
abbrev pub HasArity : Op → List ℕ → Type 0
HasArity op.Input [] = Unit {0}
HasArity op.Nil [] = Unit {0}
HasArity op.Unit [] = Unit {0}
HasArity (op.Lift body strict) (a ∷ args) = Unit {0}
HasArity op.Any args = Unit {0}
HasArity op.Time (a ∷ []) = Unit {0}
HasArity op.Last (v ∷ r ∷ []) = Unit {0}
HasArity op.Delay (d ∷ r ∷ []) = Unit {0}
HasArity op.Merge (a ∷ b ∷ []) = Unit {0}
HasArity op.Filter (e ∷ c ∷ []) = Unit {0}
HasArity op.Pick (c ∷ a ∷ b ∷ []) = Unit {0}
HasArity op.Empty [] = Unit {0}
HasArity o args = HasUpdateArity (update_in o) args
