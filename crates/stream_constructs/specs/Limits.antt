-- How many equations and updates are made.
use Rattle.std.specs.Prelude.{◌≡◌, ◌==◌, ℕ, suc, ◌+◌, Bool, true, false, ◌&&◌, if◌then◌else◌, List, [], ◌∷◌, Option, Some, None}
use Rattle.flat_core.specs.declared.equation.Op.TheVariants as op
use Rattle.flat_core.specs.declared.equation.Equation.{Equation}
use Rattle.flat_core.specs.Updates.{is_update}
use Rattle.flat_core.specs.declared.limits.TheConstants.{MOST_EQUATIONS}
use Rattle.stream_constructs.specs.declared.maker.MakeFault.{MakeFault}
use Rattle.stream_constructs.specs.declared.maker.MakeFault.TheVariants as fault
use Rattle.stream_constructs.specs.declared.limits.TheConstants.{MOST_UPDATES}

abbrev pub one_if : Bool → ℕ
one_if true = 1
one_if false = 0

abbrev pub update_count : List Equation → ℕ
update_count [] = 0
update_count (e ∷ es) = one_if (is_update e.op) + update_count es

-- The first equation that is one too many, in the order of making, after so many equations and updates: equation number 4,096, or
-- the 257th update.
abbrev pub refusal_from : ℕ → ℕ → List Equation → Option MakeFault
refusal_from made updates [] = None
refusal_from made updates (e ∷ es) =
    if made == MOST_EQUATIONS then Some (fault.TooManyEquations e.place)
    else if is_update e.op && (updates == MOST_UPDATES) then Some (fault.TooManyUpdates e.place)
    else refusal_from (suc made) (updates + one_if (is_update e.op)) es

abbrev pub refusal : List Equation → Option MakeFault
refusal equations = refusal_from 0 0 equations

-- the equations are refused so; out of memory says nothing of them
abbrev pub IsRefusal : List Equation → MakeFault → Type 0
IsRefusal equations fault.Memory = Unit {0}
IsRefusal equations f = refusal equations ≡ Some f
