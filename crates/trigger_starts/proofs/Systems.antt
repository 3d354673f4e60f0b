-- The formulas of rules are those of their systems.
use Rattle.std.proofs.Common.{◌≡◌, ℕ, ◌<◌, ◌↔◌, ◌⊎◌, Bool, true, false, List, length, get_or, refl, sym, ap, subst, ◌∙◌, inl, inr}
use Rattle.std.specs.Prelude.{IsTrue}
use Rattle.std.proofs.lemmas.List.{get_or_default}
use Rattle.flat_core.specs.System.{System}
use Rattle.trigger_rules.specs.declared.atom.Atom.{Atom}
use Rattle.trigger_rules.specs.declared.atom.Atom.TheVariants.{Start, Happens, Holds}
use Rattle.trigger_rules.specs.Formula.{Assignment, Of, Meets, HasAtom}
use Rattle.trigger_rules.specs.Question.{AreMet, Fires, Stands, Starts}
use Rattle.trigger_rules.specs.Table.{formula}
use Rattle.trigger_starts.specs.declared.rules.Rule.{Rule}
use Rattle.trigger_starts.specs.inner.AtomLists.{HasAtoms}
use Rattle.trigger_starts.specs.inner.Kept.{AreRulesOf, IsAtomAt}
use Rattle.trigger_starts.specs.inner.Rules.{ruled, rules_of}
use Rattle.trigger_starts.specs.inner.Truth.{all_but_start, IsMet, Started}
use Rattle.trigger_starts.proofs.Starting.{denies}
use Rattle.trigger_starts.proofs.Tables.{table_is}
use Rattle.trigger_starts.proofs.Transfer.{DeniesStart, atom_under, met_more, met_under}

module _ (s : System) (rules : List Rule) (are : AreRulesOf rules s) (starts : List Bool) (exact : (x : ℕ) → Started starts x ↔ Starts s x) where
  fires_to : (holds : Assignment) (x : ℕ) → Fires s holds x → IsMet false rules starts holds x
  fires_to holds x m = met_under (ruled false rules) (Starts s) (Started starts) holds (λ v k. (exact v).1 k) (subst (λ t. Meets t (Starts s) holds (Of x)) (sym (table_is s rules are)) m)

  to_fires : (holds : Assignment) (x : ℕ) → IsMet false rules starts holds x → Fires s holds x
  to_fires holds x m = subst (λ t. Meets t (Starts s) holds (Of x)) (table_is s rules are) (met_under (ruled false rules) (Started starts) (Starts s) holds (λ v k. (exact v).0 k) m)

  pub fires_is : (holds : Assignment) (x : ℕ) → IsMet false rules starts holds x ↔ Fires s holds x
  fires_is holds x = (to_fires holds x, fires_to holds x)

  stands_to : (x : ℕ) (a : Atom) → Stands s x a → IsAtomAt false rules starts x a
  stands_to x a m = atom_under (ruled false rules) (Starts s) (Started starts) a (λ v k. (exact v).0 k) (subst (λ t. HasAtom t (Starts s) a (Of x)) (sym (table_is s rules are)) m)

  to_stands : (x : ℕ) (a : Atom) → IsAtomAt false rules starts x a → Stands s x a
  to_stands x a m = subst (λ t. HasAtom t (Starts s) a (Of x)) (table_is s rules are) (atom_under (ruled false rules) (Started starts) (Starts s) a (λ v k. (exact v).1 k) m)

  pub has_stands : (x : ℕ) (atoms : List Atom) → HasAtoms (IsAtomAt false rules starts x) atoms → HasAtoms (Stands s x) atoms
  has_stands x atoms has = record { from = λ a c. to_stands x a (has.from a c); different = has.different; there = λ few a h. has.there few a (stands_to x a h) }

-- ---- where all but the start is true
module _ (s : System) where
  only_start : (x : ℕ) → DeniesStart (formula s x)
  only_start x = subst (λ t. DeniesStart (t x)) (table_is s (rules_of s) refl) (denies false (rules_of s) x)

  grown : (holds : Assignment) (a : Atom) → IsTrue (holds a) → IsTrue (all_but_start (holds Start) a)
  grown holds Start h = h
  grown holds (Happens x) h = refl
  grown holds (Holds x) h = refl

  pub fires_most : (holds : Assignment) (x : ℕ) → Fires s holds x → Fires s (all_but_start (holds Start)) x
  fires_most holds x m = met_more (formula s) (Starts s) holds (all_but_start (holds Start)) (grown holds) (λ n. n) only_start m tt

  abbrev FireBoth : ℕ → ℕ → Bool → Type 0
  FireBoth x y start = Fires s (all_but_start start) x × Fires s (all_but_start start) y

  by_start : (x y : ℕ) (start : Bool) → FireBoth x y start → FireBoth x y true ⊎ FireBoth x y false
  by_start x y true both = inl both
  by_start x y false both = inr both

  -- Two formulas that are true in one assignment are so where all but the start is true, at 0 or after it.
  pub met_is : (x y : ℕ) → AreMet s x y ↔ (FireBoth x y true ⊎ FireBoth x y false)
  met_is x y = (
    λ met. by_start x y (met.holds Start) (fires_most met.holds x met.first, fires_most met.holds y met.second),
    λ both. elim both [
      | inl zero ↦ record { holds = all_but_start true; first = zero.0; second = zero.1 }
      | inr later ↦ record { holds = all_but_start false; first = later.0; second = later.1 }
    ],
  )

-- an element as it is read
pub read_as : {A : Type 0} (xs : List A) (n a : ℕ) (value d : A) → n ≡ a → a < length xs → value ≡ get_or xs n value → value ≡ get_or xs a d
read_as xs n a value d at low is = is ∙ ap (λ m. get_or xs m value) at ∙ get_or_default xs a value d low
