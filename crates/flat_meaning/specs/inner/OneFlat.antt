-- A specification has one flat system at most.
use Rattle.std.specs.Prelude.{◌≡◌, ℕ, List}
use Rattle.flat_core.specs.declared.equation.Equation.{Equation}
use Rattle.flat_core.specs.declared.equation.Output.{Output}
use Rattle.flat_core.specs.Complete.{IsFlat}
use Rattle.flat_core.specs.Needed.{RunsNeeded}
use Rattle.flat_core.specs.System.{System}
use Rattle.syntax_tree.specs.Tree as tree
use Rattle.type_rules.specs.Kinds.{Kinds}
use Rattle.spec_meaning.specs.Flat.{IsFlatOf}

-- two tables say the same of each item and of each definition in a block
pub record SameKinds (a b : Kinds) : Type 0 where
  pub items_same : (i : ℕ) → a.item i ≡ b.item i
  pub locals_same : (i k : ℕ) → a.local i k ≡ b.local i k

-- the equations and the outputs are determined
abbrev pub OneFlat : Type 0
OneFlat =
    (items : List tree.Item) (a b : Kinds) (xs ys : List Equation) (os ps : List Output) →
    SameKinds a b →
    IsFlatOf items a xs os →
    IsFlatOf items b ys ps →
    (xs ≡ ys) × (os ≡ ps)

-- and with them which equations run, where these are just those that the outputs need
abbrev pub OneSystem : Type 0
OneSystem =
    (items : List tree.Item) (a b : Kinds) (s u : System) →
    SameKinds a b →
    IsFlatOf items a s.equations s.outputs →
    IsFlatOf items b u.equations u.outputs →
    IsFlat s →
    IsFlat u →
    RunsNeeded s →
    RunsNeeded u →
    s ≡ u
