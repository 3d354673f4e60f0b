-- Formulas over what is at a time, and over the formulas of equations.
use Rattle.std.specs.Prelude.{ℕ, Bool, List, [], ◌∷◌, IsTrue, IsFalse}
use Rattle.trigger_rules.specs.declared.atom.Atom.{Atom}

-- which atoms are true at a time
abbrev pub Assignment : Type 0
Assignment = Atom → Bool

-- `Of x` is the formula of equation x, and `Unless v a` is the atom a unless equation v starts.
pub data Formula : Type 0 where
  Always : Formula
  Never : Formula
  If : Atom → Formula
  IfNot : Atom → Formula
  Of : ℕ → Formula
  Both : Formula → Formula → Formula
  Either : Formula → Formula → Formula
  Unless : ℕ → Atom → Formula

-- the formulas of all of some equations, and of any of them
abbrev pub all_of : List ℕ → Formula
all_of [] = Always
all_of (a ∷ args) = Both (Of a) (all_of args)

abbrev pub any_of : List ℕ → Formula
any_of [] = Never
any_of (a ∷ args) = Either (Of a) (any_of args)

-- A formula is true in an assignment, where the equations have the formulas of a table, and those start of which Starts holds.
pub data Meets (table : ℕ → Formula) (Starts : ℕ → Type 0) (holds : Assignment) : Formula → Type 0 where
  always : Meets table Starts holds Always
  atom : {a : Atom} → IsTrue (holds a) → Meets table Starts holds (If a)
  no_atom : {a : Atom} → IsFalse (holds a) → Meets table Starts holds (IfNot a)
  through : {x : ℕ} → Meets table Starts holds (table x) → Meets table Starts holds (Of x)
  both : {p q : Formula} → Meets table Starts holds p → Meets table Starts holds q → Meets table Starts holds (Both p q)
  first : {p q : Formula} → Meets table Starts holds p → Meets table Starts holds (Either p q)
  second : {p q : Formula} → Meets table Starts holds q → Meets table Starts holds (Either p q)
  started : {v : ℕ} {a : Atom} → Starts v → Meets table Starts holds (Unless v a)
  unless : {v : ℕ} {a : Atom} → IsTrue (holds a) → Meets table Starts holds (Unless v a)

-- an atom stands in a formula, whether the formula depends on it or not
pub data HasAtom (table : ℕ → Formula) (Starts : ℕ → Type 0) (a : Atom) : Formula → Type 0 where
  in_if : HasAtom table Starts a (If a)
  in_if_not : HasAtom table Starts a (IfNot a)
  in_of : {x : ℕ} → HasAtom table Starts a (table x) → HasAtom table Starts a (Of x)
  both_first : {p q : Formula} → HasAtom table Starts a p → HasAtom table Starts a (Both p q)
  both_second : {p q : Formula} → HasAtom table Starts a q → HasAtom table Starts a (Both p q)
  either_first : {p q : Formula} → HasAtom table Starts a p → HasAtom table Starts a (Either p q)
  either_second : {p q : Formula} → HasAtom table Starts a q → HasAtom table Starts a (Either p q)
  in_unless : {v : ℕ} → (Starts v → ⊥) → HasAtom table Starts a (Unless v a)
