-- The marks of a specification are those of the equations that it makes, beyond the limits too.
use Rattle.std.specs.Prelude.{◌≡◌, ℕ, suc, List, map}
use Rattle.flat_core.specs.declared.equation.Equation.{Equation}
use Rattle.flat_core.specs.declared.equation.Output.{Output}
use Rattle.syntax_tree.specs.Tree as tree
use Rattle.type_rules.specs.Kinds.{Kinds}
use Rattle.stream_constructs.specs.Limits.{refusal}
use Rattle.spec_meaning.specs.Flat.{IsFlatOf}
use Rattle.definition_cycles.specs.declared.limits.TheConstants.{MOST_CALLS}
use Rattle.call_limits.specs.Nesting.{CallsMacro, Chain}
use Rattle.checked_spec.specs.inner.Checked.{IsChecked}
use Rattle.equation_marks.specs.Marks.{all_marks, mark_of}
use Rattle.equation_marks.specs.Refused.{refused}

-- no calls of macros nest deeper than they may
abbrev pub NestsWithin : List tree.Item → Type 0
NestsWithin items = (i to : ℕ) → Chain (CallsMacro items) (suc MOST_CALLS) i to → ⊥

-- the equations of a checked specification have its marks, however many they are
abbrev pub FlatsHaveTheMarks : Type 0
FlatsHaveTheMarks =
    (items : List tree.Item) (kinds : Kinds) (equations : List Equation) (outputs : List Output) →
    IsChecked items kinds →
    NestsWithin items →
    IsFlatOf items kinds equations outputs →
    map mark_of equations ≡ all_marks items kinds

-- so its marks pass the limits just where its equations do
abbrev pub RefusalsAreThoseOfMarks : Type 0
RefusalsAreThoseOfMarks =
    (items : List tree.Item) (kinds : Kinds) (equations : List Equation) (outputs : List Output) →
    IsChecked items kinds →
    NestsWithin items →
    IsFlatOf items kinds equations outputs →
    refusal equations ≡ refused (all_marks items kinds)
