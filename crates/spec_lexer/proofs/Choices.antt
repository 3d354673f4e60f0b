-- Choices by tests.
use Rattle.std.proofs.Common.{◌≡◌, ◌⊎◌, ◌||◌, Bool, true, false, ℕ, Option, Some, refl, sym, ap, ◌∙◌, subst, inl, inr}
use Rattle.std.specs.Prelude.{◌==◌, if◌then◌else◌}
use Rattle.std.proofs.lemmas.Bool.{eqb-true}

pub by_test : {A : Type 0} (P : A → Type 0) (b : Bool) (x y : A) → (b ≡ true → P x) → (b ≡ false → P y) → P (if b then x else y)
by_test P true x y taken left = taken refl
by_test P false x y taken left = left refl

pub one_passes : (a b : Bool) → (a || b) ≡ true → (a ≡ true) ⊎ (b ≡ true)
one_passes true b h = inl refl
one_passes false b h = inr h

pub not_true : (b : Bool) → (b ≡ true → ⊥) → b ≡ false
not_true true h = absurd (h refl)
not_true false h = refl

-- what passes is no number that fails
pub no_such : (p : ℕ → Bool) (k : ℕ) → p k ≡ false → (c : ℕ) → p c ≡ true → (c == k) ≡ false
no_such p k fails c passes = not_true (c == k) (λ is. let same = sym passes ∙ ap p (eqb-true c k is) ∙ fails in cc)

-- what holds of the value, if there is one
abbrev pub Tells : {X : Type 0} → (X → Type 0) → Option X → Type 0
Tells {X} P o = (x : X) → o ≡ Some x → P x

pub tell_next : {X : Type 0} (P : X → Type 0) (b : Bool) (x : X) (o : Option X) → (b ≡ true → P x) → Tells P o → Tells P (if b then Some x else o)
tell_next P true x o taken left y is = let same : x ≡ y = cc in subst P same (taken refl)
tell_next P false x o taken left y is = left y is
