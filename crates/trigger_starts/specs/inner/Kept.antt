-- What is kept of a system.
use Rattle.std.specs.Prelude.{◌≡◌, ℕ, ◌<◌, ◌≤◌, ◌↔◌, Bool, false, List, [], length, IsTrue}
use Rattle.std.specs.List.{Contains}
use Rattle.flat_core.specs.System.{System}
use Rattle.trigger_rules.specs.declared.atom.Atom.{Atom}
use Rattle.trigger_rules.specs.declared.limit.TheConstants.{ATOMS}
use Rattle.trigger_rules.specs.Formula.{Assignment, Of, HasAtom}
use Rattle.trigger_rules.specs.Question.{Starts}
use Rattle.trigger_starts.specs.declared.rules.Rule.{Rule}
use Rattle.trigger_starts.specs.inner.AtomLists.{HasAtoms, atoms_at}
use Rattle.trigger_starts.specs.inner.Rules.{AreReady, is_marked, rules_of, ruled}
use Rattle.trigger_starts.specs.inner.Truth.{IsMet, Started}

-- the rules are those of a system
abbrev pub AreRulesOf : List Rule → System → Type 0
AreRulesOf rules s = rules ≡ rules_of s

-- an equation starts by the atoms of its formula at time 0 and by whether that is true where it is 0 and nothing else is true
abbrev pub StartsBy : List Atom → Bool → Type 0
StartsBy atoms fires = (length atoms ≤ ATOMS) × IsTrue fires

-- the marked equations are those whose formulas are true in an assignment
abbrev pub AreFiring : List Rule → List Bool → List ℕ → Assignment → List Bool → Type 0
AreFiring rules starts order holds fires = (x : ℕ) → Contains order x → IsTrue (is_marked fires x) ↔ IsMet false rules starts holds x

abbrev pub AreStarts : List Rule → List Bool → Type 0
AreStarts rules starts = (s : System) → AreRulesOf rules s → (x : ℕ) → Started starts x ↔ Starts s x

-- an atom stands in an equation's formula, at time 0 or else at any time
abbrev pub IsAtomAt : Bool → List Rule → List Bool → ℕ → Atom → Type 0
IsAtomAt at_zero rules starts x a = HasAtom (ruled at_zero rules) (Started starts) a (Of x)

-- the lists have the atoms of equations' formulas
abbrev pub AreAtomsOf : Bool → List Rule → List Bool → List ℕ → List (List Atom) → Type 0
AreAtomsOf at_zero rules starts order all = (x : ℕ) → Contains order x → HasAtoms (IsAtomAt at_zero rules starts x) (atoms_at all x)

-- an order of the rules, in which each comes after those whose formulas it needs
pub record IsOrder (rules : List Rule) (order : List ℕ) : Type 0 where
  pub ready : AreReady rules [] order
  pub all : (x : ℕ) → x < length rules → Contains order x
