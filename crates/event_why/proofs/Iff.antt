-- Statements that hold of each other.
use Rattle.std.proofs.Common.{◌↔◌, Bool, true, false, refl}
use Rattle.std.proofs.lemmas.Bool.{false≢true}
use Rattle.std.specs.Prelude.{IsTrue, not}

pub through : {A B C : Type 0} → A ↔ B → B ↔ C → A ↔ C
through f g = (λ a. g.0 (f.0 a), λ c. f.1 (g.1 c))

pub turned : {A B : Type 0} → A ↔ B → B ↔ A
turned f = (f.1, f.0)

-- a test of something that is so
pub is_so : {A : Type 0} (b : Bool) → IsTrue b → A → IsTrue b ↔ A
is_so b is a = (λ _. a, λ _. is)

-- and of something that is not
pub is_not_so : {A : Type 0} (b : Bool) → ¬ IsTrue b → ¬ A → IsTrue b ↔ A
is_not_so b is not = (λ t. absurd (is t), λ a. absurd (not a))

-- a part that is known
pub with_first : {A B C : Type 0} → A → (A × B) ↔ C → B ↔ C
with_first a f = (λ b. f.0 (a, b), λ c. (f.1 c).1)

-- a test of what is not so
pub not_test : {A : Type 0} (b : Bool) → IsTrue b ↔ A → IsTrue (not b) ↔ (¬ A)
not_test true f = (λ is. absurd (false≢true is), λ n. absurd (n (f.0 refl)))
not_test false f = (λ is a. false≢true (f.1 a), λ n. refl)
