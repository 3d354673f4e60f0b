-- Calls of a world, one after another.
use Rattle.std.proofs.Common.{◌≡◌, IsTrue, ◌∷◌, Bool, List, [], ◌++◌, refl, sym, subst}
use Rattle.tsl_world.specs.Runs.{Grows}
use Rattle.tsl_world.specs.declared.outside.Did.{Did}
use Rattle.tsl_world.proofs.Runs.{grew_both, grows_called, grows_on}

module _ {W : Type 0} (told : W → Bool) (journal : W → List Did) where
  -- an entry, and then some calls
  pub grows_following : (old mid new : W) (did : Did) (Q R : List Did → Type 0) → (IsTrue (told mid) → IsTrue (told old)) → (IsTrue (told mid) → journal mid ≡ journal old ++ did ∷ []) → Grows told journal mid new Q
      → ((q : List Did) → Q q → R (did ∷ q)) → Grows told journal old new R
  grows_following old mid new did Q R kept adds more joins =
      grows_on told journal old mid new (λ p. p ≡ did ∷ []) Q R (grows_called told journal old mid did (λ p. p ≡ did ∷ []) kept adds refl) more
      (λ p q is holds. subst (λ (l : List Did). R (l ++ q)) (sym is) (joins q holds))

  -- two facts about the same calls
  pub grows_both : (old new : W) (P Q : List Did → Type 0) → Grows told journal old new P → Grows told journal old new Q → Grows told journal old new (λ p. P p × Q p)
  grows_both old new P Q calls same = record { kept = calls.kept; grew = λ t. grew_both (journal old) (journal new) P Q (λ p. P p × Q p) (calls.grew t) (same.grew t) (λ p one other. (one, other)) }
