-- Literals of numbers.
use Rattle.std.proofs.Common.{◌≡◌, List, ℕ, Option, Some, None, Ok, IfSome, ap, ◌∙◌}
use Rattle.tsl_value.specs.declared.scalar.Scalar.{Scalar}
use Rattle.tsl_value.specs.declared.scalar.ScalarType.{ScalarType}
use Rattle.tsl_value.specs.declared.scalar.ScalarType.TheVariants as scalar_type
use Rattle.tsl_value.specs.Literal.{int_literal, literal}

pub int_is : (of : ScalarType) (bytes : List ℕ) (r : Option Scalar) → of ≡ scalar_type.Int → IfSome r (λ v. int_literal bytes ≡ Ok v) → IfSome r (λ v. literal of bytes ≡ Ok v)
unfolding literal
int_is of bytes None is it = tt
int_is of bytes (Some v) is it = ap (λ o. literal o bytes) is ∙ it
