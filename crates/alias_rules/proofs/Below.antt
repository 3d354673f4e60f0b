-- The listed set, one update after the other.
use Rattle.std.proofs.Common.{◌≡◌, ℕ, zero, suc, ◌+◌, ◌<◌, List, [], ◌∷◌, ◌++◌, length, sym, subst, inl, inr, arith}
use Rattle.std.specs.Prelude.{IsTrue}
use Rattle.std.proofs.lemmas.Bool.{cases_lt, false≢true}
use Rattle.flat_core.specs.Members.{is_in}
use Rattle.flat_core.specs.System.{System}
use Rattle.alias_rules.specs.inner.Below.{IsTakenBelow, IsListedBelow}
use Rattle.alias_rules.specs.Fine.{IsFine, with_tried, IsListed}
use Rattle.alias_rules.specs.Uses.{IsUpdate}
use Rattle.flat_core.proofs.Rising.{in_push, push_old, push_new, increasing_push}
use Rattle.alias_rules.proofs.Tried.{tried_above, tried_before}
use Rattle.alias_rules.proofs.Updates.{update_low}

module _ (s : System) where
  pub none_listed : IsListedBelow s 0 []
  none_listed = record {
    ascending = λ k lt. absurd (omega arith);
    each = λ y. ((λ h. absurd (false≢true h)), (λ taken. let low = taken.low in absurd (omega arith)));
  }

  module _ (n : ℕ) (set : List ℕ) (listed : IsListedBelow s n set) where
    pub listed_low : (y : ℕ) → IsTrue (is_in set y) → y < n
    listed_low y h = ((listed.each y).0 h).low

    pub tried_is : with_tried set n ≡ set ++ n ∷ []
    tried_is = tried_above set n listed_low

    -- the number is of no update that can happen in place with those that are listed
    pub listed_same : (IsUpdate s n → IsFine s (with_tried set n) → ⊥) → IsListedBelow s (n + 1) set
    listed_same never = record {
      ascending = listed.ascending;
      each = λ y. (
        (λ h. let taken = (listed.each y).0 h in let low = taken.low in record { low = omega arith; update = taken.update; fine = taken.fine }),
        (λ taken. elim (cases_lt y n) [
          | inl low ↦ (listed.each y).1 (record { low = low; update = taken.update; fine = taken.fine })
          | inr high ↦
              let lt = taken.low in
              let same : y ≡ n = omega arith in
              absurd (never (subst (IsUpdate s) same taken.update) (subst (λ m. IsFine s (with_tried set m)) same taken.fine))
        ]),
      );
    }

    -- it is of one that can
    pub listed_more : IsUpdate s n → IsFine s (with_tried set n) → IsListedBelow s (n + 1) (set ++ n ∷ [])
    listed_more update fine = record {
      ascending = increasing_push set n listed.ascending listed_low;
      each = λ y. (
        (λ h. elim (in_push set n y h) [
          | inl old ↦
              let taken = (listed.each y).0 old in
              let low = taken.low in
              record { low = omega arith; update = taken.update; fine = subst (IsFine s) (sym (tried_before set n y (omega arith))) taken.fine }
          | inr same ↦
              subst (IsTakenBelow s (n + 1) (set ++ n ∷ [])) same
              (record { low = omega arith; update = update; fine = subst (IsFine s) (sym (tried_before set n n (omega arith))) fine })
        ]),
        (λ taken. elim (cases_lt y n) [
          | inl low ↦
              push_old set n y
              ((listed.each y).1 (record { low = low; update = taken.update; fine = subst (IsFine s) (tried_before set n y (omega arith)) taken.fine }))
          | inr high ↦ let lt = taken.low in push_new set n y (omega arith)
        ]),
      );
    }

  pub all_listed : (set : List ℕ) → IsListedBelow s (length s.equations) set → IsListed s set
  all_listed set listed = record {
    ascending = listed.ascending;
    each = λ y. (
      (λ h. let taken = (listed.each y).0 h in (taken.update, taken.fine)),
      (λ (update, fine). (listed.each y).1 (record { low = update_low s y update; update = update; fine = fine })),
    );
  }

  -- it cannot be that no set is listed
  some_below : (n : ℕ) → ((set : List ℕ) → IsListedBelow s n set → ⊥) → ⊥
  some_below zero none = none [] none_listed
  some_below (suc n) none = some_below n (λ set listed.
      let one : n + 1 ≡ suc n = omega arith in
      let more : IsUpdate s n → IsFine s (with_tried set n) → ⊥ = λ update fine. none (set ++ n ∷ []) (subst (λ m. IsListedBelow s m (set ++ n ∷ [])) one (listed_more n set listed update fine)) in
      none set (subst (λ m. IsListedBelow s m set) one (listed_same n set listed more)))

  pub some_listed : ((set : List ℕ) → IsListed s set → ⊥) → ⊥
  some_listed none = some_below (length s.equations) (λ set listed. none set (all_listed set listed))
