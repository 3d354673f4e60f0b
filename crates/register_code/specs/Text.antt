-- The printed form of code.
use Rattle.std.specs.Prelude.{ℕ, ◌-◌, Bool, true, false, if◌then◌else◌, nat_lt, List, [], ◌++◌, Option, Some, None, codes, length}
use Rattle.std.specs.Prelude.{slice_get}
use Rattle.std.specs.List.{flat_map}
use Rattle.flat_core.specs.declared.equation.Output.{Output}
use Rattle.flat_core.specs.Members.{is_in}
use Rattle.program_text.specs.Text.{definition_text, number_text}
use Rattle.register_code.specs.Code.{Code}
use Rattle.flat_core.specs.Kept.{keeps_of, timers_of}

-- what stands after an update that happens in place
abbrev pub place_text : Bool → List ℕ
place_text true = codes " in place"
place_text false = []

-- the line of an output's print
abbrev pub print_text : Option Output → List ℕ
print_text None = []
print_text (Some o) = codes "print " ++ (o.name ++ (codes " " ++ (number_text o.equation ++ codes "\n")))

-- the line of a step
abbrev pub step_text : Code → ℕ → List ℕ
step_text c x =
    if nat_lt x (length c.system.equations) then definition_text c.system x ++ (place_text (is_in c.in_place x) ++ codes "\n")
    else print_text (slice_get c.system.outputs (x - length c.system.equations))

abbrev pub keep_text : ℕ → List ℕ
keep_text i = codes "keep " ++ (number_text i ++ codes "\n")

abbrev pub timer_text : ℕ → List ℕ
timer_text i = codes "timer " ++ (number_text i ++ codes "\n")

-- the steps in their order, then what is kept, and then the delays
abbrev pub code_text : Code → List ℕ
code_text c = flat_map (step_text c) c.order ++ (flat_map keep_text (keeps_of c.system) ++ flat_map timer_text (timers_of c.system))
