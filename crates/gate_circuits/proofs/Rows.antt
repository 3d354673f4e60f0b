-- Rows of gates, one after the other.
use Rattle.std.proofs.Common.{◌≡◌, ℕ, zero, suc, ◌<◌, List, [], ◌∷◌, ◌++◌, length, get_or, set, Option, Some, None, Bor, refl, sym, ap, subst, ◌∙◌, inl, inr, arith}
use Rattle.std.specs.Prelude.{slice_get, IfSome, IsFalse}
use Rattle.std.specs.Slice.{IsItemAt}
use Rattle.std.proofs.lemmas.Bool.{cases_eq, both_ways}
use Rattle.std.proofs.lemmas.Option.{same_Some, none-some, slice_get_within, slice_get_read, get_or_from_slice_get}
use Rattle.std.proofs.lemmas.List.{length-set, get_or-set_same, get_or-set_other}
use Rattle.gate_circuits.specs.declared.circuit.Gate.{Gate}
use Rattle.gate_circuits.specs.inner.Marks.{has}
use Rattle.gate_circuits.specs.inner.Knowledge.{AreImplied, AreRefuted, AreRowsRefuted, IsKnowledge}

-- what holds of each row holds of each after one more
pub rows_push : (X : ℕ → List ℕ → Type 0) (rows : List (List ℕ)) (row : List ℕ) → ((a : ℕ) (r : List ℕ) → slice_get rows a ≡ Some r → X a r) → X (length rows) row → (a : ℕ) (r : List ℕ) → slice_get (rows ++ row ∷ []) a ≡ Some r → X a r
rows_push X [] row each at zero r is = subst (λ q. X 0 q) (same_Some row r is) at
rows_push X [] row each at (suc a) r is = absurd (none-some r is)
rows_push X (q ∷ rows) row each at zero r is = each 0 r is
rows_push X (q ∷ rows) row each at (suc a) r is = rows_push (λ k p. X (suc k) p) rows row (λ k p e. each (suc k) p e) at a r is

-- and after one is put in the place of another
pub rows_set : (X : ℕ → List ℕ → Type 0) (rows : List (List ℕ)) (n : ℕ) (row : List ℕ) → ((a : ℕ) (r : List ℕ) → slice_get rows a ≡ Some r → X a r) → X n row → (a : ℕ) (r : List ℕ) → slice_get (set rows n row) a ≡ Some r → X a r
rows_set X rows n row each at a r is =
    let low : a < length rows = omega (arith, length-set rows n row, slice_get_within (set rows n row) a r is) in
    let read : get_or (set rows n row) a r ≡ r = get_or_from_slice_get (set rows n row) a r r is in
    elim (cases_eq a n) [
      | inl same ↦
          let inside : n < length rows = omega arith in
          let put : get_or (set rows n row) a r ≡ row = ap (λ k. get_or (set rows n row) k r) same ∙ get_or-set_same rows n row r inside in
          subst (λ k. X k r) (sym same) (subst (λ q. X n q) (sym put ∙ read) at)
      | inr ne ↦ each a r (slice_get_read rows (length rows) a r refl low (sym (sym (get_or-set_other rows n a row r ne) ∙ read)))
    ]

-- a row without a gate
pub none_implied : (gates : List Gate) (a : ℕ) (row : List ℕ) → ((x : ℕ) → IsFalse (has row x)) → AreImplied gates a row
none_implied gates a row none b h = absurd (both_ways (has row b) (none b) h)

-- ---- what a list lends
pub got : {X : Type 0} → (xs : List X) (i : ℕ) (r : Option (Bor X)) → IsItemAt xs i r → (x : Bor X) → r ≡ Some x → slice_get xs i ≡ Some x.now
got {X} xs i None h x e = absurd (none-some x e)
got {X} xs i (Some y) h x e = subst (λ (z : Bor X). slice_get xs i ≡ Some z.now) (same_Some y x e) (slice_get_read xs (length xs) i y.now refl h.3.0 h.1)

pub got_gate : (shown gates : List Gate) (i : ℕ) (r : Option (Bor Gate)) (x : Bor Gate) (it : Gate) → IsItemAt shown i r → r ≡ Some x → x.now ≡ it → shown ≡ gates → slice_get gates i ≡ Some it
got_gate shown gates i r x it h e same shows = subst (λ (g : List Gate). slice_get g i ≡ Some it) shows (got shown i r h x e ∙ ap Some same)

-- what a kept row says
pub row_implied : (gates now : List Gate) (possible : List ℕ) (rows shown : List (List ℕ)) (gate : ℕ) (r : Option (Bor (List ℕ))) (row : Bor (List ℕ)) → IsKnowledge gates possible rows → gates ≡ now → shown ≡ rows → IsItemAt shown gate r → r ≡ Some row → AreImplied now gate row.now
row_implied gates now possible rows shown gate r row know same shows h is =
    subst (λ (g : List Gate). AreImplied g gate row.now) same (know.sound gate row.now (subst (λ (l : List (List ℕ)). slice_get l gate ≡ Some row.now) shows (got shown gate r h row is)))

pub row_if_some : (gates now : List Gate) (possible : List ℕ) (rows shown : List (List ℕ)) (gate : ℕ) (r : Option (Bor (List ℕ))) → IsKnowledge gates possible rows → gates ≡ now → shown ≡ rows → IsItemAt shown gate r → IfSome r (λ row. AreImplied now gate row.now)
row_if_some gates now possible rows shown gate None know same shows h = tt
row_if_some gates now possible rows shown gate (Some row) know same shows h = row_implied gates now possible rows shown gate (Some row) row know same shows h refl

pub row_refuted : (gates : List Gate) (rows shown : List (List ℕ)) (gate : ℕ) (r : Option (Bor (List ℕ))) (row : Bor (List ℕ)) → AreRowsRefuted gates rows → shown ≡ rows → IsItemAt shown gate r → r ≡ Some row → AreRefuted gates gate row.now
row_refuted gates rows shown gate r row are shows h is =
    are gate row.now (subst (λ (l : List (List ℕ)). slice_get l gate ≡ Some row.now) shows (got shown gate r h row is))
