-- The facts that a step names, and lists of one, two or three.
use Rattle.std.specs.Prelude.{ℕ, ◌≤◌, List, [], ◌∷◌, Option, Some, None}
use Rattle.std.specs.List.{Contains}
use Rattle.why_rules.specs.Facts.{Fact}
use Rattle.event_why.specs.declared.fact.WhyStep.{WhyStep}
use Rattle.event_why.specs.Check.{AreNamed}

abbrev pub one_of : List Fact → Option Fact
one_of (f ∷ []) = Some f
one_of _ = None

abbrev pub two_of : List Fact → Option (Fact × Fact)
two_of (f ∷ g ∷ []) = Some (f, g)
two_of _ = None

abbrev pub three_of : List Fact → Option (Fact × Fact × Fact)
three_of (f ∷ g ∷ h ∷ []) = Some (f, g, h)
three_of _ = None

-- the facts of the steps with these numbers, or that one of them is not before step k
abbrev pub IsNaming : List WhyStep → ℕ → List ℕ → Option (List Fact) → Type 0
IsNaming steps k numbers (Some facts) = AreNamed steps k numbers facts
IsNaming steps k numbers None = (n : ℕ) × Contains numbers n × (k ≤ n)
