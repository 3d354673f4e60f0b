-- Where equations pass the limits, by their marks.
use Rattle.std.specs.Prelude.{◌≡◌, ◌==◌, ℕ, suc, ◌+◌, ◌&&◌, if◌then◌else◌, List, [], ◌∷◌, Option, Some, None}
use Rattle.stream_constructs.specs.Limits.{one_if}
use Rattle.stream_constructs.specs.declared.maker.MakeFault.{MakeFault}
use Rattle.stream_constructs.specs.declared.maker.MakeFault.TheVariants as fault
use Rattle.stream_constructs.specs.declared.limits.TheConstants.{MOST_UPDATES}
use Rattle.equation_marks.specs.Marks.{Mark}
use Rattle.flat_core.specs.declared.limits.TheConstants.{MOST_EQUATIONS}

-- The first equation that is one too many, after so many equations and updates: equation number 4,096, or the 257th update.
abbrev pub refused_from : ℕ → ℕ → List Mark → Option MakeFault
refused_from made updates [] = None
refused_from made updates (m ∷ ms) =
    if made == MOST_EQUATIONS then Some (fault.TooManyEquations m.place)
    else if m.is_update && (updates == MOST_UPDATES) then Some (fault.TooManyUpdates m.place)
    else refused_from (suc made) (updates + one_if m.is_update) ms

abbrev pub refused : List Mark → Option MakeFault
refused ms = refused_from 0 0 ms

-- the equations are refused so; out of memory says nothing of them
abbrev pub AreRefused : List Mark → MakeFault → Type 0
AreRefused ms fault.Memory = Unit {0}
AreRefused ms f = refused ms ≡ Some f
