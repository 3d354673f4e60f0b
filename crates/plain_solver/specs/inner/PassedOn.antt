-- What operations that hand an event on make of those of their arguments.
use Rattle.std.specs.Prelude.{List, [], ◌∷◌, Option, None}
use Rattle.tsl_value.specs.View.{View}
use Rattle.flat_core.specs.declared.equation.Op.{Op}
use Rattle.flat_core.specs.declared.equation.Op.TheVariants as op
use Rattle.flat_core.specs.Events.{merged, filtered, picked}

-- an event that is passed on
abbrev pub chosen_of : Op → List (Option View) → Option View
chosen_of op.Merge (a ∷ b ∷ []) = merged a b
chosen_of op.Filter (a ∷ c ∷ []) = filtered a c
chosen_of op.Pick (c ∷ a ∷ b ∷ []) = picked c a b
chosen_of _ _ = None
