-- The questions about trigger formulas: which equations have an event at 0, and whether one equation has an event where, or only
-- where, another has none. They speak of the formulas, so that their answers hold for all inputs.
use Rattle.std.specs.Prelude.{◌≡◌, ℕ, ◌≤◌, ◌⊎◌, List, length, IsTrue}
use Rattle.std.specs.List.{Contains}
use Rattle.flat_core.specs.System.{System}
use Rattle.trigger_rules.specs.declared.limit.TheConstants.{ATOMS}
use Rattle.trigger_rules.specs.declared.atom.Atom.{Atom}
use Rattle.trigger_rules.specs.declared.atom.Atom.TheVariants.{Start}
use Rattle.trigger_rules.specs.Formula.{Assignment, Of, Meets, HasAtom}
use Rattle.trigger_rules.specs.Table.{formula, zero_formula}

-- there are at most so many atoms of this property as a question may have
pub record AreFew (P : Atom → Type 0) : Type 0 where
  pub atoms : List Atom
  pub all : (a : Atom) → P a → Contains atoms a
  pub few : length atoms ≤ ATOMS

module _ (s : System) where
  -- the formula of equation x at time 0 is true in an assignment, and an atom stands in it
  abbrev pub FiresAtZero : Assignment → ℕ → Type 0
  FiresAtZero holds x = Meets (zero_formula s) (λ v. ⊥) holds (Of x)

  abbrev pub StandsAtZero : ℕ → Atom → Type 0
  StandsAtZero x a = HasAtom (zero_formula s) (λ v. ⊥) a (Of x)

  -- it has few atoms, and is true wherever it is time 0
  pub record Starts (x : ℕ) : Type 0 where
    pub few : AreFew (StandsAtZero x)
    pub fires : (holds : Assignment) → IsTrue (holds Start) → FiresAtZero holds x

  -- the formula of equation x is true in an assignment, and an atom stands in it
  abbrev pub Fires : Assignment → ℕ → Type 0
  Fires holds x = Meets (formula s) Starts holds (Of x)

  abbrev pub Stands : ℕ → Atom → Type 0
  Stands x a = HasAtom (formula s) Starts a (Of x)

  abbrev pub StandsInOne : ℕ → ℕ → Atom → Type 0
  StandsInOne x y a = Stands x a ⊎ Stands y a

  -- two formulas have few atoms together, and each assignment with the first has the second
  pub record Entails (x y : ℕ) : Type 0 where
    pub few : AreFew (StandsInOne x y)
    pub fires : (holds : Assignment) → Fires holds x → Fires holds y

  -- wherever x has an event y has one, as far as few atoms show
  abbrev pub Implies : ℕ → ℕ → Type 0
  Implies x y = (x ≡ y) ⊎ Entails x y

  -- some assignment has both formulas
  pub record AreMet (x y : ℕ) : Type 0 where
    pub holds : Assignment
    pub first : Fires holds x
    pub second : Fires holds y

  -- x and y may have events at one time, as far as few atoms do not show that they cannot
  abbrev pub Together : ℕ → ℕ → Type 0
  Together x y = (AreFew (StandsInOne x y) → ⊥) ⊎ AreMet x y
