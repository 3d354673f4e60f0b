-- Tables of kinds that change.
use Rattle.std.proofs.Common.{◌≡◌, ℕ, zero, suc, List, [], ◌∷◌, get_or, slice_set, Option, Vec, Global, refl, sym, ap, ◌∙◌, arith}
use Rattle.type_rules.specs.declared.rule.ExprType.{ExprType}
use Rattle.expr_types.specs.inner.Shown.{kind_at, kinds_at}

abbrev pub Row : Type 0
Row = Vec (Option ExprType) Global

-- where a row changes at one number, nothing changes at the others
pub row_kept : (xs : List Row) (n k : ℕ) (v w d : Row) → get_or xs n d ≡ w → ((j : ℕ) → (j ≡ k → ⊥) → kind_at v.items j ≡ kind_at w.items j) → (i j : ℕ) → (i ≡ n → j ≡ k → ⊥) → kinds_at (slice_set xs n v) i j ≡ kinds_at xs i j
row_kept [] n k v w d is h i j other = refl
row_kept (x ∷ xs) zero k v w d is h zero j other = h j (other refl) ∙ ap (λ r. kind_at r.items j) (sym is)
row_kept (x ∷ xs) zero k v w d is h (suc i) j other = refl
row_kept (x ∷ xs) (suc n) k v w d is h zero j other = refl
row_kept (x ∷ xs) (suc n) k v w d is h (suc i) j other = row_kept xs n k v w d is h i j (λ e. other (ap suc e))

-- where it changes at no number, nothing changes
pub row_same : (xs : List Row) (n : ℕ) (v w d : Row) → get_or xs n d ≡ w → ((j : ℕ) → kind_at v.items j ≡ kind_at w.items j) → (i j : ℕ) → kinds_at (slice_set xs n v) i j ≡ kinds_at xs i j
row_same xs n v w d is h i j = row_kept xs n (suc j) v w d is (λ l _. h l) i j (λ e f. absurd (omega (arith, f)))
