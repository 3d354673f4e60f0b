-- What is near the updates of a set.
use mathlib.Core.Bool.{beq}
use Rattle.std.proofs.Common.{◌≡◌, ℕ, Bool, true, false, refl, ◌+◌, ◌<◌, List, [], ◌∷◌, ◌++◌, length, get_or, sym, ap, subst, ◌∙◌, inl, inr, arith, length-append}
use Rattle.std.specs.Bool.{Decides}
use Rattle.std.specs.List.{All}
use Rattle.std.specs.Cmp.Lexicographic.{pointwise}
use Rattle.std.proofs.lemmas.Bool.{cases_lt}
use Rattle.std.proofs.lemmas.List.{get_or_append_left}
use Rattle.std.proofs.lemmas.Slice.Eq.{slice_eq-Decides}
use Rattle.std.proofs.Math.Seq.{get_or-append_seam}
use Rattle.flat_core.specs.System.{System}
use Rattle.alias_nears.specs.declared.near.Near.{Near}
use Rattle.alias_nears.specs.inner.Nears.{AreNear, AreNearFirst, AreNearEach, AreShared}

same_bit : (a b : Bool) → Decides (beq a b) (a ≡ b)
same_bit true true = (λ e. refl, λ e. refl)
same_bit true false = (λ e. sym e, λ e. sym e)
same_bit false true = (λ e. e, λ e. e)
same_bit false false = (λ e. refl, λ e. refl)

-- marks that were found equal
pub same_marks : (first second seen other : List Bool) (r : Bool) → seen ≡ first → other ≡ second → r ≡ pointwise beq seen other → r ≡ true → first ≡ second
same_marks first second seen other r a b is found = sym a ∙ (slice_eq-Decides same_bit seen other r is).0 found ∙ b

module _ (s : System) (set : List ℕ) where
  -- what is near an update at a place
  pub near_at : (nears : List Near) (k y : ℕ) (n : Near) → AreNearEach s set nears → k < length set → y ≡ get_or set k 0 → n ≡ get_or nears k n → AreNear s set y n
  near_at nears k y n are lt y_is n_is = subst (λ z. AreNear s set z n) (sym y_is) (subst (AreNear s set (get_or set k 0)) (sym n_is) (are.each k lt n))

  pub near_more : (nears more : List Near) (k y : ℕ) (n : Near) → y ≡ get_or set k 0 → more ≡ nears ++ n ∷ [] → AreNear s set y n → AreNearFirst s set k nears → AreNearFirst s set (k + 1) more
  near_more nears more k y n y_is is now before = record {
    one_each = ap length is ∙ length-append nears (n ∷ []) ∙ ap (λ m. m + 1) before.one_each;
    each = λ j low d. elim (cases_lt j k) [
      | inl front ↦
          let each = before.one_each in
          let old : get_or more j d ≡ get_or nears j d = ap (λ l. get_or l j d) is ∙ get_or_append_left nears (n ∷ []) d j (omega arith) in
          subst (AreNear s set (get_or set j 0)) (sym old) (before.each j front d)
      | inr last ↦
          let same : j ≡ k = omega arith in
          let new : get_or more j d ≡ n = ap (λ l. get_or l j d) is ∙ ap (λ i. get_or (nears ++ n ∷ []) i d) (same ∙ sym before.one_each) ∙ get_or-append_seam nears n [] d in
          subst (AreNear s set (get_or set j 0)) (sym new) (subst (λ z. AreNear s set z n) (y_is ∙ ap (λ i. get_or set i 0) (sym same)) now)
    ];
  }

  -- who shares was found for all of them
  pub all_shared : (nears seen : List Near) (k : ℕ) → seen ≡ nears → AreNearFirst s set k nears → All (AreShared s set) seen
  all_shared nears seen k is are = subst (All (AreShared s set)) (sym is) (λ j d low. let each = are.one_each in (are.each j (omega arith) d).sharers.shared)
