-- The entries of finite maps.
use Rattle.std.proofs.Common.{◌≡◌, cond, List, [], ◌∷◌, Some, None, length, refl, sym, ap, ◌∙◌, arith}
use Rattle.std.specs.BTreeMap.{is_at}
use Rattle.std.specs.FinMap as finite_map
use Rattle.std.specs.FinMap.{FinMap, IsAntisymmetric}
use Rattle.std.specs.Cmp.{IsTotalOrder, eq_by_cmp_equiv}
use Rattle.std.specs.Map.{lookup}
use Rattle.std.specs.Ordering.{eq_by_cmp}
use Rattle.std.specs.declared.cmp.Ordering.{Ordering}

pub find-lookup : {K X : Type 0} (R : K → K → Ordering) (q : K) (es : List (K × X)) → finite_map.find R q es ≡ lookup (is_at (R q)) es
find-lookup R q [] = refl
find-lookup R q (e ∷ es) = ap (cond (eq_by_cmp R q e.0) (Some e.1)) (find-lookup R q es)

no_length : {A : Type 0} (es : List A) → length es ≡ 0 → es ≡ []
no_length [] e = refl
no_length (x ∷ es) e = absurd (omega arith)

pub entries-empty : {K : Type 0} (R : K → K → Ordering) (X : Type 0) → finite_map.entries (finite_map.empty {X = X} {R = R}) ≡ []
entries-empty R X = no_length _ (sym (finite_map.len-entries finite_map.empty) ∙ finite_map.len-empty R X)

module _ {K X : Type 0} {R : K → K → Ordering} (o : IsTotalOrder R) where
  pub get-of_entries : (es : List (K × X)) (q : K) → finite_map.get (finite_map.from_entries {R = R} es) q ≡ lookup (is_at (R q)) es
  get-of_entries es q = finite_map.get-from_entries o es q ∙ find-lookup R q es

  pub is_remove : IsAntisymmetric R → (a b : FinMap R X) (k : K) → ((q : K) → finite_map.get b q ≡ cond (eq_by_cmp R k q) None (finite_map.get a q)) → b ≡ finite_map.remove a k
  is_remove same a b k is = finite_map.same_map o same b (finite_map.remove a k) (λ q.
      is q ∙ ap (λ t. cond t None (finite_map.get a q)) ((eq_by_cmp_equiv o).symm k q) ∙ sym (finite_map.get-remove o a k q))
