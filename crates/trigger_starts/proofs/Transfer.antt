-- What is true of formulas in one assignment or table is true in another.
use Rattle.std.proofs.Common.{◌≡◌, ℕ, ◌⊎◌, List, [], ◌∷◌, sym, subst, ◌∙◌, inl, inr}
use Rattle.std.specs.Prelude.{IsTrue, IsFalse}
use Rattle.trigger_rules.specs.declared.atom.Atom.{Atom}
use Rattle.trigger_rules.specs.declared.atom.Atom.TheVariants.{Start}
use Rattle.trigger_rules.specs.Formula.{Formula, Assignment, IfNot, Both, Either, Unless, all_of, any_of, Meets, always, atom, no_atom, through, both, first, second, started, unless, HasAtom, in_if, in_if_not, in_of, both_first, both_second, either_first, either_second, in_unless}

-- ---- other equations start
module _ (table : ℕ → Formula) (K L : ℕ → Type 0) (holds : Assignment) (to : (v : ℕ) → K v → L v) where
  pub met_under : {p : Formula} → Meets table K holds p → Meets table L holds p
  met_under always = always
  met_under (atom h) = atom h
  met_under (no_atom h) = no_atom h
  met_under (through m) = through (met_under m)
  met_under (both m n) = both (met_under m) (met_under n)
  met_under (first m) = first (met_under m)
  met_under (second m) = second (met_under m)
  met_under (started {v = v} k) = started (to v k)
  met_under (unless h) = unless h

module _ (table : ℕ → Formula) (K L : ℕ → Type 0) (a : Atom) (to : (v : ℕ) → L v → K v) where
  pub atom_under : {p : Formula} → HasAtom table K a p → HasAtom table L a p
  atom_under in_if = in_if
  atom_under in_if_not = in_if_not
  atom_under (in_of m) = in_of (atom_under m)
  atom_under (both_first m) = both_first (atom_under m)
  atom_under (both_second m) = both_second (atom_under m)
  atom_under (either_first m) = either_first (atom_under m)
  atom_under (either_second m) = either_second (atom_under m)
  atom_under (in_unless {v = v} never) = in_unless (λ l. never (to v l))

-- ---- more is true, where only the start may be denied
abbrev pub DeniesStart : Formula → Type 0
DeniesStart (IfNot a) = a ≡ Start
DeniesStart (Both p q) = DeniesStart p × DeniesStart q
DeniesStart (Either p q) = DeniesStart p × DeniesStart q
DeniesStart _ = Unit {0}

pub all_denies : (args : List ℕ) → DeniesStart (all_of args)
all_denies [] = tt
all_denies (a ∷ args) = (tt, all_denies args)

pub any_denies : (args : List ℕ) → DeniesStart (any_of args)
any_denies [] = tt
any_denies (a ∷ args) = (tt, any_denies args)

module _ (table : ℕ → Formula) (K : ℕ → Type 0) (holds more : Assignment) (grow : (a : Atom) → IsTrue (holds a) → IsTrue (more a)) (stay : IsFalse (holds Start) → IsFalse (more Start)) (denies : (x : ℕ) → DeniesStart (table x)) where
  pub met_more : {p : Formula} → Meets table K holds p → DeniesStart p → Meets table K more p
  met_more always d = always
  met_more (atom {a = a} h) d = atom (grow a h)
  met_more (no_atom {a = a} h) d = no_atom (subst (λ b. IsFalse (more b)) (sym d) (stay (subst (λ b. IsFalse (holds b)) d h)))
  met_more (through {x = x} m) d = through (met_more m (denies x))
  met_more (both m n) d = both (met_more m d.0) (met_more n d.1)
  met_more (first m) d = first (met_more m d.0)
  met_more (second m) d = second (met_more m d.1)
  met_more (started k) d = started k
  met_more (unless {a = a} h) d = unless (grow a h)

-- ---- assignments that agree on the atoms of a formula
module _ (table : ℕ → Formula) (K : ℕ → Type 0) (holds other : Assignment) (decided : (v : ℕ) → K v ⊎ (K v → ⊥)) where
  agreed : (v : ℕ) (a : Atom) → K v ⊎ (K v → ⊥) → IsTrue (holds a) → ((K v → ⊥) → holds a ≡ other a) → Meets table K other (Unless v a)
  agreed v a (inl k) h same = started k
  agreed v a (inr never) h same = unless (sym (same never) ∙ h)

  pub met_alike : {p : Formula} → Meets table K holds p → ((a : Atom) → HasAtom table K a p → holds a ≡ other a) → Meets table K other p
  met_alike always same = always
  met_alike (atom {a = a} h) same = atom (sym (same a in_if) ∙ h)
  met_alike (no_atom {a = a} h) same = no_atom (sym (same a in_if_not) ∙ h)
  met_alike (through m) same = through (met_alike m (λ a h. same a (in_of h)))
  met_alike (both m n) same = both (met_alike m (λ a h. same a (both_first h))) (met_alike n (λ a h. same a (both_second h)))
  met_alike (first m) same = first (met_alike m (λ a h. same a (either_first h)))
  met_alike (second m) same = second (met_alike m (λ a h. same a (either_second h)))
  met_alike (started k) same = started k
  met_alike (unless {v = v} {a = a} h) same = agreed v a (decided v) h (λ never. same a (in_unless never))

-- ---- another table, where nothing starts
module _ (table other : ℕ → Formula) (K L : ℕ → Type 0) (holds : Assignment) (none : (v : ℕ) → K v → ⊥) (turn : (x : ℕ) → Meets other L holds (table x) → Meets other L holds (other x)) where
  pub met_turned : {p : Formula} → Meets table K holds p → Meets other L holds p
  met_turned always = always
  met_turned (atom h) = atom h
  met_turned (no_atom h) = no_atom h
  met_turned (through {x = x} m) = through (turn x (met_turned m))
  met_turned (both m n) = both (met_turned m) (met_turned n)
  met_turned (first m) = first (met_turned m)
  met_turned (second m) = second (met_turned m)
  met_turned (started {v = v} k) = absurd (none v k)
  met_turned (unless h) = unless h
