-- Scalars that are equal, as they are compared.
use Rattle.std.proofs.Common.{◌≡◌, Bool, sym, subst, ◌∙◌}
use Rattle.std.specs.Prelude.{IsTrue}
use Rattle.std.specs.Cmp.{Equal-is, eq_by_cmp_equiv}
use Rattle.std.specs.Ordering.{eq_by_cmp}
use Rattle.tsl_value.specs.View.{View, Plain, scalar_cmp}
use Rattle.tsl_value.specs.declared.scalar.Scalar.{Scalar}
use Rattle.tsl_value.specs.inner.ScalarOrder.{scalar_cmp_total}
use Rattle.tsl_value.proofs.ScalarOrder.{scalar_cmp-IsAntisymmetric}

plain_same : (a b : Scalar) → Plain a ≡ Plain b → a ≡ b
plain_same a b same = cc

pub scalar_test : (a b : Scalar) (r : Bool) → r ≡ eq_by_cmp scalar_cmp a b → (IsTrue r → Plain a ≡ Plain b) × (Plain a ≡ Plain b → IsTrue r)
scalar_test a b r is = (
  λ same. λ k. Plain (scalar_cmp-IsAntisymmetric a b ((Equal-is (scalar_cmp a b)).0 (sym is ∙ same)) k),
  λ same. is ∙ subst (λ c. IsTrue (eq_by_cmp scalar_cmp a c)) (plain_same a b same) ((eq_by_cmp_equiv scalar_cmp_total).refl a),
)
