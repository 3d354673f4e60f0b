-- What a search for the first equation that breaks the types answers.
use Rattle.std.specs.Prelude.{◌≡◌, ℕ, List, Option, MatchOption, Some, slice_get}
use Rattle.flat_core.specs.declared.equation.Equation.{Equation}
use Rattle.translation_order.specs.Least.{IsLeast}
use Rattle.equation_types.specs.Breaking.{Fits, BreaksTypes}

abbrev pub FitsAt : List Equation → List ℕ → ℕ → Type 0
FitsAt equations running i = (e : Equation) → slice_get equations i ≡ Some e → Fits equations running i e

-- all fit, or this is the first that does not
abbrev pub IsFirstOrNone : List Equation → List ℕ → Option ℕ → Type 0
IsFirstOrNone equations running r =
    MatchOption r ((i : ℕ) → FitsAt equations running i) (IsLeast (BreaksTypes equations running))
