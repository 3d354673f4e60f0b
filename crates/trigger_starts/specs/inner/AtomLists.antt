-- Lists of different atoms, cut off where they are too many.
use Rattle.std.specs.Prelude.{◌≡◌, ℕ, ◌+◌, ◌≤◌, ◌⊎◌, Bool, ◌&&◌, List, [], ◌∷◌, length, slice_index_or, IsFalse}
use Rattle.std.specs.List.{Contains}
use Rattle.trigger_rules.specs.declared.atom.Atom.{Atom}
use Rattle.trigger_rules.specs.declared.atom.Atom.TheVariants.{Start, Happens, Holds}
use Rattle.trigger_rules.specs.declared.limit.TheConstants.{ATOMS}
use Rattle.trigger_starts.specs.declared.rules.Rule.{Rule}
use Rattle.trigger_starts.specs.declared.rules.Rule.TheVariants as rule
use Rattle.trigger_starts.specs.inner.Rules.{looks_back, starts_at, HasSome}

abbrev pub AreDifferent : List Atom → Type 0
AreDifferent [] = Unit {0}
AreDifferent (a ∷ atoms) = (Contains atoms a → ⊥) × AreDifferent atoms

-- the new list has the old atoms and those of a property, unless it has too many
pub record Adds (old : List Atom) (P : Atom → Type 0) (new : List Atom) : Type 0 where
  pub grows : length old ≤ length new
  pub kept : (a : Atom) → Contains old a → Contains new a
  pub from : (a : Atom) → Contains new a → Contains old a ⊎ P a
  pub different : AreDifferent old → AreDifferent new
  pub there : length new ≤ ATOMS → (a : Atom) → P a → Contains new a

-- the list has the atoms of a property, unless it has too many
pub record HasAtoms (P : Atom → Type 0) (atoms : List Atom) : Type 0 where
  pub from : (a : Atom) → Contains atoms a → P a
  pub different : AreDifferent atoms
  pub there : length atoms ≤ ATOMS → (a : Atom) → P a → Contains atoms a

-- so many atoms more are in a list that has the old ones and those of a property
pub record AddsSome (old : List Atom) (P : Atom → Type 0) (count : ℕ) : Type 0 where
  pub new : List Atom
  pub long : length new ≡ length old + count
  pub adds : Adds old P new

-- an atom of one of two lists
abbrev pub IsInEither : List Atom → List Atom → Atom → Type 0
IsInEither first second a = Contains first a ⊎ Contains second a

-- the list of an equation
abbrev pub atoms_at : List (List Atom) → ℕ → List Atom
atoms_at all x = slice_index_or all x []

-- the atom stands in the formula of a rule, by the arguments in whose formulas it stands
abbrev pub StandsFrom : Rule → ℕ → List Bool → (ℕ → Type 0) → Atom → Type 0
StandsFrom rule.Never x starts P a = ⊥
StandsFrom rule.Start x starts P a = a ≡ Start
StandsFrom rule.Own x starts P a = a ≡ Happens x
StandsFrom (rule.All args) x starts P a = HasSome P args
StandsFrom (rule.Any args) x starts P a = HasSome P args
StandsFrom (rule.AnyAndOwn args) x starts P a = (a ≡ Happens x) ⊎ HasSome P args
StandsFrom (rule.Filter e c) x starts P a = (P e ⊎ P c) ⊎ (a ≡ Holds c)
StandsFrom (rule.Last v r) x starts P a = ((a ≡ Start) ⊎ P r) ⊎ (IsFalse (starts_at starts v) × (a ≡ Happens x))
StandsFrom rule.Delay x starts P a = (a ≡ Start) ⊎ (a ≡ Happens x)

-- the atoms of some equations, and those of a rule, by the lists of its arguments
abbrev pub IsInSome : List (List Atom) → List ℕ → Atom → Type 0
IsInSome all args a = HasSome (λ x. Contains (atoms_at all x) a) args

abbrev pub StandsBy : Rule → ℕ → List Bool → List (List Atom) → Atom → Type 0
StandsBy it x starts all a = StandsFrom it x starts (λ y. Contains (atoms_at all y) a) a

-- the same at time 0 or else at any time
abbrev pub StandsAs : Bool → Rule → ℕ → List Bool → List (List Atom) → Atom → Type 0
StandsAs at_zero it x starts all a = IsFalse (at_zero && looks_back it) × StandsBy it x starts all a
