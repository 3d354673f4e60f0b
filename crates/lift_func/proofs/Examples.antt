-- Worked rows of the definitions.
use Rattle.std.proofs.Common.{◌≡◌, [], ◌∷◌, Ok, Err, Some, None, ℤ, pos, negsuc, true, false, codes, refl}
use Rattle.tsl_value.specs.View.{Plain}
use Rattle.tsl_value.specs.declared.scalar.Scalar.{Scalar}
use Rattle.tsl_value.specs.declared.scalar.Scalar.TheVariants as scalar
use Rattle.lift_func.specs.declared.fault.FaultKind.TheVariants.{Overflow, DivideByZero, NoValue}
use Rattle.tsl_value.specs.declared.operation.Unary.TheVariants as unary
use Rattle.tsl_value.specs.declared.operation.Binary.TheVariants as binary
use Rattle.lift_func.specs.Apply.{Answer, apply}
use Rattle.lift_func.specs.BodyTree.{BodyTree, Literal, Argument, One, Two, Choice}

abbrev int : ℤ → BodyTree
int z = Literal (scalar.Int z)

abbrev gives : Scalar → Answer
gives s = Ok (Some (Plain s))

least : ℤ
least = negsuc 9223372036854775807

toward_zero : apply (Two binary.Div (int (negsuc 6)) (int (pos 2))) [] ≡ gives (scalar.Int (negsuc 2))
toward_zero = refl

sign_of_dividend : apply (Two binary.Rem (int (negsuc 6)) (int (pos 2))) [] ≡ gives (scalar.Int (negsuc 0))
sign_of_dividend = refl

sign_of_dividend_too : apply (Two binary.Rem (int (pos 7)) (int (negsuc 1))) [] ≡ gives (scalar.Int (pos 1))
sign_of_dividend_too = refl

by_zero : apply (Two binary.Div (int (pos 5)) (Argument 0)) (Some (Plain (scalar.Int (pos 0))) ∷ []) ≡ Err DivideByZero
by_zero = refl

least_quotient : apply (Two binary.Div (int least) (int (negsuc 0))) [] ≡ Err Overflow
unfolding least
least_quotient = refl

least_remainder : apply (Two binary.Rem (int least) (int (negsuc 0))) [] ≡ Err Overflow
unfolding least
least_remainder = refl

least_negated : apply (One unary.Neg (int least)) [] ≡ Err Overflow
unfolding least
least_negated = refl

greatest_exceeded : apply (Two binary.Add (int (pos 9223372036854775807)) (int (pos 1))) [] ≡ Err Overflow
greatest_exceeded = refl

-- the first fault from left to right
left_first : apply (Two binary.Add (One unary.Neg (int least)) (Two binary.Div (int (pos 1)) (int (pos 0)))) [] ≡ Err Overflow
unfolding least
left_first = refl

fault : BodyTree
fault = Two binary.Div (int (pos 1)) (int (pos 0))

and_skips : apply (Two binary.And (Literal (scalar.Bool false)) (Two binary.Eq fault (int (pos 1)))) [] ≡ gives (scalar.Bool false)
unfolding fault
and_skips = refl

or_skips : apply (Two binary.Or (Literal (scalar.Bool true)) (Two binary.Eq fault (int (pos 1)))) [] ≡ gives (scalar.Bool true)
unfolding fault
or_skips = refl

or_goes_on : apply (Two binary.Or (Literal (scalar.Bool false)) (Two binary.Eq fault (int (pos 1)))) [] ≡ Err DivideByZero
unfolding fault
or_goes_on = refl

branch_skipped : apply (Choice (Literal (scalar.Bool true)) (int (pos 3)) fault) [] ≡ gives (scalar.Int (pos 3))
unfolding fault
branch_skipped = refl

no_value : apply (One unary.GetSome (Argument 0)) (None ∷ []) ≡ Err NoValue
no_value = refl

is_none : apply (One unary.IsNone (Argument 0)) (None ∷ []) ≡ gives (scalar.Bool true)
is_none = refl

bytes_of_a_text : apply (One unary.Length (Literal (scalar.Text (195 ∷ 169 ∷ [])))) [] ≡ gives (scalar.Int (pos 2))
bytes_of_a_text = refl

joined : apply (Two binary.Concat (Literal (scalar.Text (codes "a"))) (Literal (scalar.Text (codes "b")))) [] ≡ gives (scalar.Text (codes "ab"))
joined = refl
