-- The printed form of a derivation: a line for each fact, as '#4 %1 p at 3 = 4 by #3 #0 #2'.
use Rattle.std.specs.Prelude.{ℕ, suc, List, [], ◌∷◌, ◌++◌, Option, Some, None, codes}
use Rattle.std.specs.Fmt.{decimal}
use Rattle.std.specs.List.{flat_map}
use Rattle.tsl_value.specs.Print.{view_text}
use Rattle.flat_core.specs.declared.equation.Equation.{Equation}
use Rattle.flat_core.specs.System.{System, equation}
use Rattle.program_text.specs.Text.{name_text, number_text}
use Rattle.why_rules.specs.Facts.{Fact, Happens, Silent, Gap, Pending}
use Rattle.event_why.specs.declared.fact.WhyStep.{WhyStep}
use Rattle.event_why.specs.Said.{said}

-- the name of an equation with a blank after it, where it has one
abbrev pub name_at : Option Equation → List ℕ
name_at None = []
name_at (Some e) = name_text e.name

-- its number, and its name where it has one, each with a blank after it
abbrev pub subject_text : System → ℕ → List ℕ
subject_text s i = number_text i ++ (codes " " ++ name_at (equation s i))

-- a time, or that there is none
abbrev pub due_text : Option ℕ → List ℕ
due_text None = codes "none"
due_text (Some t) = decimal t

-- from one time to another
abbrev pub times_text : ℕ → ℕ → List ℕ
times_text from to = decimal from ++ (codes " to " ++ decimal to)

abbrev pub fact_text : System → Fact → List ℕ
fact_text s (Happens i t v) = subject_text s i ++ (codes "at " ++ (decimal t ++ (codes " = " ++ view_text v)))
fact_text s (Silent i from to) = subject_text s i ++ (codes "silent " ++ times_text from to)
fact_text s (Gap from to) = codes "gap " ++ times_text from to
fact_text s (Pending i t due) = subject_text s i ++ ((codes "pending after " ++ decimal t) ++ (codes ": " ++ due_text due))

-- the number of a step
abbrev pub step_number : ℕ → List ℕ
step_number k = codes "#" ++ decimal k

-- the steps that one names
abbrev pub by_text : List ℕ → List ℕ
by_text [] = []
by_text (n ∷ ns) = codes " by" ++ flat_map (λ k. codes " " ++ step_number k) (n ∷ ns)

-- the line of step k
abbrev pub step_text : System → ℕ → WhyStep → List ℕ
step_text s k step = (step_number k ++ (codes " " ++ fact_text s (said step.fact))) ++ (by_text step.by.items ++ codes "\n")

-- the lines of steps, of which the first has this number
abbrev pub steps_text : System → ℕ → List WhyStep → List ℕ
steps_text s k [] = []
steps_text s k (step ∷ steps) = step_text s k step ++ steps_text s (suc k) steps
