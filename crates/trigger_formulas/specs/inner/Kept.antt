-- What is kept of a system.
use Rattle.std.specs.Prelude.{◌≡◌, ℕ, ◌<◌, ◌↔◌, Bool, true, false, List, length, Option, Some, None, slice_index_or, IsTrue}
use Rattle.flat_core.specs.System.{System}
use Rattle.trigger_rules.specs.declared.atom.Atom.{Atom}
use Rattle.trigger_rules.specs.Formula.{Assignment}
use Rattle.trigger_rules.specs.Question.{Fires}
use Rattle.trigger_starts.specs.declared.rules.Rule.{Rule}
use Rattle.trigger_starts.specs.inner.AtomLists.{HasAtoms, atoms_at}
use Rattle.trigger_starts.specs.inner.Kept.{AreStarts, IsAtomAt}
use Rattle.trigger_starts.specs.inner.Rules.{is_marked, rules_of}
use Rattle.trigger_starts.specs.inner.Truth.{all_but_start, IsMet}
use Rattle.trigger_circuits.specs.inner.Circuits.{IsCircuitOf}
use Rattle.trigger_diagram.specs.inner.Kept as diagrams
use Rattle.trigger_diagram.specs.inner.Kept.{IsNodeIn, IsNodeOf}
use Rattle.trigger_formulas.specs.declared.side.Side.{Side}

-- the rules are those of a system
abbrev pub AreTriggersOf : List Rule → System → Type 0
AreTriggersOf rules s = rules ≡ rules_of s

-- each assignment with one formula has another
abbrev pub Follows : System → ℕ → ℕ → Type 0
Follows s a b = (holds : Assignment) → Fires s holds a → Fires s holds b

-- of two answers, where just both together are a yes
abbrev pub both : Option Bool → Option Bool → Option Bool
both (Some true) answer = answer
both (Some false) answer = Some false
both None (Some false) = Some false
both None (Some true) = None
both None None = None

-- the node of an equation's formula
pub record IsNodeFor (d : diagrams.Kept) (x n : ℕ) : Type 0 where
  pub there : IsNodeIn d n
  pub exact : IsNodeOf d x n

-- some equations have nodes
pub record AreNodesIn (d : diagrams.Kept) (nodes : List (Option ℕ)) : Type 0 where
  pub each : length nodes ≡ length d.rules
  pub made : (x n : ℕ) → slice_index_or nodes x None ≡ Some n → IsNodeFor d x n

-- the formulas at 0 or after it: which are true where all else is, and their circuit
pub record IsSideOf (at_zero : Bool) (rules : List Rule) (starts : List Bool) (side : Side) : Type 0 where
  pub met_each : length side.met.items ≡ length rules
  pub met_are :
      (x : ℕ) → x < length rules →
      IsTrue (is_marked side.met.items x) ↔ IsMet false rules starts (all_but_start at_zero) x
  pub circuit_of : IsCircuitOf at_zero rules starts side.implied side.gates.items

pub record IsKept
    (rules : List Rule)
    (starts : List Bool)
    (atoms : List (List Atom))
    (at_zero later : Side)
    : Type 0 where
  pub starts_each : length starts ≡ length rules
  pub starts_are : AreStarts rules starts
  pub atoms_each : length atoms ≡ length rules
  pub atoms_are : (x : ℕ) → x < length rules → HasAtoms (IsAtomAt false rules starts x) (atoms_at atoms x)
  pub zero_of : IsSideOf true rules starts at_zero
  pub later_of : IsSideOf false rules starts later
