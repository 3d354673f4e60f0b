-- Orders to run a system in.
use Rattle.std.proofs.Common.{◌≡◌, ◌==◌, ℕ, zero, suc, ◌+◌, ◌<◌, ◌≤◌, Bool, false, List, [], ◌∷◌, ◌++◌, length, get_or, take, Some, refl, sym, ap, ◌∙◌, inl, inr, arith}
use Rattle.std.proofs.lemmas.Bool.{eq-eqb, eqb-true, or_cases, or_left, false≢true}
use Rattle.std.proofs.lemmas.List.{take_more, take_all}
use Rattle.std.specs.Prelude.{IsTrue, IsFalse}
use Rattle.std.specs.List.{AllByRecursion}
use Rattle.flat_core.specs.declared.equation.Equation.{Equation}
use Rattle.flat_core.specs.Case.{used_of}
use Rattle.flat_core.specs.inner.Dependency.{with_one, with_all, IsOrdered, IsRunOrder}
use Rattle.flat_core.specs.Members.{is_in}
use Rattle.flat_core.specs.System.{System, equation}
use Rattle.flat_core.proofs.Existence.{more_done}

-- one more at the end
pub with_all-push : (xs : List ℕ) (x : ℕ) (done : ℕ → Bool) → with_all (xs ++ x ∷ []) done ≡ with_one x (with_all xs done)
with_all-push [] x done = refl
with_all-push (y ∷ xs) x done = with_all-push xs x (with_one y done)

done_stays : (order : List ℕ) (done : ℕ → Bool) (i : ℕ) → IsTrue (done i) → IsTrue (with_all order done i)
done_stays [] done i h = h
done_stays (x ∷ order) done i h = done_stays order (with_one x done) i (more_done x done i h)

-- what an order lists is done after it
pub listed_done : (order : List ℕ) (done : ℕ → Bool) (i : ℕ) → IsTrue (is_in order i) → IsTrue (with_all order done i)
listed_done [] done i h = absurd (false≢true h)
listed_done (x ∷ order) done i h = elim (or_cases (x == i) (is_in order i) h) [
  | inl here ↦ done_stays order (with_one x done) i (or_left (i == x) (done i) (eq-eqb i x (sym (eqb-true x i here))))
  | inr later ↦ listed_done order (with_one x done) i later
]

-- an equation that comes next: it is there and new, and what it uses is done
pub record ComesNext (s : System) (done : ℕ → Bool) (i : ℕ) : Type 0 where
  pub at : Equation
  pub is : equation s i ≡ Some at
  pub new : IsFalse (done i)
  pub used : AllByRecursion (λ a. IsTrue (done a)) (used_of at.op at.args)

ordered_at : (s : System) (order : List ℕ) (done : ℕ → Bool) (k : ℕ) → IsOrdered s done order → k < length order → ComesNext s (with_all (take k order) done) (get_or order k 0)
ordered_at s [] done k ordered lt = absurd (omega arith)
ordered_at s (x ∷ order) done zero ordered lt = record { at = ordered.0; is = ordered.1; new = ordered.2; used = ordered.3 }
ordered_at s (x ∷ order) done (suc k) ordered lt = ordered_at s order (with_one x done) k ordered.4 (omega arith)

-- what is done once so many of an order have run
abbrev pub done_by : List ℕ → ℕ → ℕ → Bool
done_by order k = with_all (take k order) (λ j. false)

pub comes_next : (s : System) (order : List ℕ) (k : ℕ) → IsRunOrder s order → k < length order → ComesNext s (done_by order k) (get_or order k 0)
comes_next s order k run lt = ordered_at s order (λ j. false) k run.ordered lt

pub done_next : (order : List ℕ) (k : ℕ) → k < length order → done_by order (k + 1) ≡ with_one (get_or order k 0) (done_by order k)
done_next order k lt = ap (λ xs. with_all xs (λ j. false)) (take_more order k 0 lt) ∙ with_all-push (take k order) (get_or order k 0) (λ j. false)

pub all_done : (s : System) (order : List ℕ) (k : ℕ) → IsRunOrder s order → length order ≤ k → (i : ℕ) → i < length s.equations → IsTrue (done_by order k i)
all_done s order k run le i lt = ap (λ xs. with_all xs (λ j. false) i) (take_all k order le) ∙ listed_done order (λ j. false) i (run.all i lt)
