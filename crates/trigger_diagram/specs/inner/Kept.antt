-- What diagrams keep of a system.
use Rattle.std.specs.Prelude.{◌≡◌, ℕ, ◌<◌, ◌↔◌, Bool, List, Option, length, IsTrue}
use Rattle.flat_core.specs.System.{System}
use Rattle.trigger_rules.specs.declared.atom.Atom.{Atom}
use Rattle.trigger_rules.specs.Formula.{Assignment}
use Rattle.trigger_rules.specs.Question.{Fires, Stands}
use Rattle.trigger_starts.specs.declared.rules.Rule.{Rule}
use Rattle.trigger_starts.specs.inner.AtomLists.{HasAtoms, atoms_at}
use Rattle.trigger_starts.specs.inner.Kept.{AreRulesOf, AreStarts, IsOrder}
use Rattle.trigger_starts.specs.inner.Rules.{AreClosed, is_marked}
use Rattle.decision_diagrams.specs.declared.arena.Branch.{Branch}
use Rattle.decision_diagrams.specs.inner.Arena.{IsNode}
use Rattle.trigger_diagram.specs.inner.Made.{AreNodesOf}
use Rattle.trigger_diagram.specs.inner.Truth.{truth}

-- the rules of a system, and the branches that are made
pub record Kept : Type 0 where
  pub rules : List Rule
  pub branches : List Branch

-- the diagrams are those of a system
abbrev pub AreDiagramsOf : Kept → System → Type 0
AreDiagramsOf d s = AreRulesOf d.rules s

-- a node is one of the diagrams, and in which assignments it is true
abbrev pub IsNodeIn : Kept → ℕ → Type 0
IsNodeIn d n = IsNode d.branches n

abbrev pub tells : Kept → ℕ → Assignment → Bool
tells d n holds = truth d.branches n holds

-- nodes that were there stay, with their formulas
pub record Keeps (old new : Kept) : Type 0 where
  pub rules : new.rules ≡ old.rules
  pub there : (n : ℕ) → IsNodeIn old n → IsNodeIn new n
  pub same : (n : ℕ) → IsNodeIn old n → (holds : Assignment) → tells new n holds ≡ tells old n holds

-- the node is that of an equation's formula
abbrev pub IsNodeOf : Kept → ℕ → ℕ → Type 0
IsNodeOf d x n = (s : System) → AreDiagramsOf d s → (holds : Assignment) → IsTrue (tells d n holds) ↔ Fires s holds x

-- the lists have the atoms of equations' formulas
abbrev pub HaveAtoms : Kept → List (List Atom) → Type 0
HaveAtoms d all = (s : System) → AreDiagramsOf d s → (x : ℕ) → x < length d.rules → HasAtoms (Stands s x) (atoms_at all x)

-- both nodes are true in the same assignments
abbrev pub AreAlike : Kept → ℕ → ℕ → Type 0
AreAlike d m n = (holds : Assignment) → tells d m holds ≡ tells d n holds

-- each assignment with the first node has the second
abbrev pub Follows : Kept → ℕ → ℕ → Type 0
Follows d m n = (holds : Assignment) → IsTrue (tells d m holds) → IsTrue (tells d n holds)

-- some assignment has both
abbrev pub AreMetIn : Kept → ℕ → ℕ → Type 0
AreMetIn d m n = (holds : Assignment) × IsTrue (tells d m holds) × IsTrue (tells d n holds)

-- the marked equations are those whose formulas are true in an assignment
abbrev pub AreFiringIn : Kept → Assignment → List Bool → Type 0
AreFiringIn d holds marks =
    (s : System) → AreDiagramsOf d s → (x : ℕ) → x < length d.rules → IsTrue (is_marked marks x) ↔ Fires s holds x

pub record AreKept
    (rules : List Rule)
    (order : List ℕ)
    (starts : List Bool)
    (branches : List Branch)
    (nodes : List (Option ℕ))
    : Type 0 where
  pub closed : AreClosed rules
  pub ordered : IsOrder rules order
  pub starts_each : length starts ≡ length rules
  pub starts_are : AreStarts rules starts
  pub nodes_each : length nodes ≡ length rules
  pub nodes_are : AreNodesOf rules starts branches nodes
