-- What is told of the updates of a system.
use Rattle.std.specs.Prelude.{ℕ, ◌-◌, ◌==◌, if◌then◌else◌, nat_lt, List, [], ◌∷◌, ◌++◌, Option, Some, None, codes, find}
use Rattle.std.specs.Prelude.{length, slice_get}
use Rattle.std.specs.List.{flat_map}
use Rattle.event_writer.specs.Text.{place_text}
use Rattle.flat_core.specs.declared.equation.Equation.{Equation}
use Rattle.flat_core.specs.declared.equation.Output.{Output}
use Rattle.flat_core.specs.System.{System, equation}
use Rattle.program_text.specs.Text.{label_text, name_or_number}
use Rattle.flat_core.specs.Updates.{running_updates}
use Rattle.alias_nears.specs.declared.reason.Reason.{Reason}
use Rattle.alias_nears.specs.declared.reason.Reason.TheVariants as reason

-- what the print of an output is called
abbrev pub print_text : Option Output → List ℕ
print_text None = []
print_text (Some o) = codes "out " ++ o.name

-- what a step is called: an equation, or the print of an output
abbrev pub step_label : System → ℕ → List ℕ
step_label s x =
    if nat_lt x (length s.equations) then label_text s x else print_text (slice_get s.outputs (x - length s.equations))

-- the steps of a cycle, of which the first stands again at the end
abbrev pub cycle_text : System → List ℕ → List ℕ
cycle_text s [] = []
cycle_text s (x ∷ steps) = flat_map (λ y. step_label s y ++ codes " -> ") (x ∷ steps) ++ step_label s x

-- why an update copies
abbrev pub reason_text : System → Reason → List ℕ
reason_text s (reason.Kept u x) = label_text s u ++ (codes " kept by " ++ label_text s x)
reason_text s (reason.NotOverwritten u v) = label_text s u ++ (codes " not overwritten in " ++ label_text s v)
reason_text s (reason.Cycle steps) = codes "cycle " ++ cycle_text s steps

-- the first reason that is given for an update
abbrev pub reason_of : List (ℕ × Reason) → ℕ → Option (ℕ × Reason)
reason_of reasons u = find (λ r. r.0 == u) reasons

-- how an update happens: in place where no reason is given
abbrev pub how_text : System → Option (ℕ × Reason) → List ℕ
how_text s None = codes "in place"
how_text s (Some r) = codes "copied: " ++ reason_text s r.1

-- what an update is called, and where it stands
abbrev pub update_at : ℕ → Option Equation → List ℕ
update_at u None = []
update_at u (Some e) = name_or_number u e.name ++ (codes " " ++ place_text e.place)

-- the line of an update
abbrev pub update_line : System → List (ℕ × Reason) → ℕ → List ℕ
update_line s reasons u = update_at u (equation s u) ++ (codes " " ++ (how_text s (reason_of reasons u) ++ codes "\n"))

-- the lines of the updates that run, by number
abbrev pub show_text : System → List (ℕ × Reason) → List ℕ
show_text s reasons = flat_map (update_line s reasons) (running_updates s)
