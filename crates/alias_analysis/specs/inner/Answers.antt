-- What is kept of the answers about updates.
use Rattle.std.specs.Prelude.{ℕ, ◌↔◌, Bool, List, [], Option, None, IfSome, IsTrue, slice_index_or}
use Rattle.flat_core.specs.System.{System}
use Rattle.trigger_rules.specs.Question.{Implies}
use Rattle.trigger_starts.specs.declared.rules.Rule.{Rule}
use Rattle.trigger_formulas.specs.inner.Kept.{AreTriggersOf}
use Rattle.alias_analysis.specs.declared.answers.Question.{Question}
use Rattle.alias_analysis.specs.declared.answers.Question.TheVariants as question
use Rattle.alias_nears.specs.inner.Contents.{IsBeside}

-- that the answer to a question about update y and equation x is yes
abbrev pub Holds : Question → System → ℕ → ℕ → Type 0
Holds question.Implied s y x = Implies s y x
Holds question.Beside s y x = IsBeside s y x

-- an answer that is kept is exact
abbrev pub IsKnown : Type 0 → Option Bool → Type 0
IsKnown P answer = IfSome answer (λ r. IsTrue r ↔ P)

-- the answers about y and each equation, and those about each two
abbrev pub IsRow : Question → System → ℕ → List (Option Bool) → Type 0
IsRow asked s y row = (x : ℕ) → IsKnown (Holds asked s y x) (slice_index_or row x None)

abbrev pub AreRows : Question → System → List (List (Option Bool)) → Type 0
AreRows asked s rows = (y : ℕ) → IsRow asked s y (slice_index_or rows y [])

abbrev pub answer_at : List (List (Option Bool)) → ℕ → ℕ → Option Bool
answer_at rows y x = slice_index_or (slice_index_or rows y []) x None

pub record AreAnswers (s : System) (rules : List Rule) (implied beside : List (List (Option Bool))) : Type 0 where
  pub triggers : AreTriggersOf rules s
  pub are_implied : AreRows question.Implied s implied
  pub are_beside : AreRows question.Beside s beside
