-- The stream that a rule allows.
use Rattle.std.proofs.Common.{◌≡◌, ap}
use Rattle.std.specs.Prelude.{Ok}
use Rattle.tsl_value.specs.declared.scalar.ValueType.{ValueType}
use Rattle.type_rules.specs.declared.rule.ExprType.TheVariants as expr_type
use Rattle.type_rules.specs.Asked.{Verdict, inner}
use Rattle.checked_spec.proofs.FunctionAsks.{same_Ok}

pub same_stream : (t u : ValueType) → expr_type.Stream t ≡ expr_type.Stream u → t ≡ u
same_stream t u h = ap inner h

pub stream_of : (t u : ValueType) → (let x : Verdict = Ok (expr_type.Stream t) in x ≡ Ok (expr_type.Stream u)) → t ≡ u
stream_of t u h = same_stream t u (same_Ok (expr_type.Stream t) (expr_type.Stream u) h)
