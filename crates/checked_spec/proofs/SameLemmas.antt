-- Types that are the same by the test are equal, and what is asked of a body.
use Rattle.std.proofs.Common.{◌≡◌, Bool, true, false, if◌then◌else◌, Option, Some, Ok, Err, refl, ap, ◌∙◌}
use Rattle.std.proofs.lemmas.Bool.{and_parts}
use Rattle.tsl_value.specs.declared.scalar.ScalarType.{ScalarType}
use Rattle.tsl_value.specs.declared.scalar.ScalarType.TheVariants as scalar_type
use Rattle.tsl_value.specs.declared.scalar.KeyType.{KeyType}
use Rattle.tsl_value.specs.declared.scalar.KeyType.TheVariants as key_type
use Rattle.tsl_value.specs.declared.scalar.ValueType.{ValueType}
use Rattle.tsl_value.specs.declared.scalar.ValueType.TheVariants as value_type
use Rattle.type_rules.specs.declared.rule.ExprType.{ExprType}
use Rattle.type_rules.specs.declared.rule.ExprType.TheVariants as expr_type
use Rattle.type_rules.specs.declared.rule.Setting.{Setting}
use Rattle.type_rules.specs.declared.rule.Setting.TheVariants as setting
use Rattle.type_rules.specs.declared.rule.Asked.TheVariants as asked
use Rattle.type_rules.specs.Asked.{Check, same_scalar, same_key, same_value, same_type, ask, and_then, inner}
use Rattle.type_rules.specs.Rules.{stream, body_asked, written_asked, body_rule}

scalar_same : (a b : ScalarType) → same_scalar a b ≡ true → a ≡ b
scalar_same scalar_type.Unit scalar_type.Unit h = refl
scalar_same scalar_type.Int scalar_type.Int h = refl
scalar_same scalar_type.Bool scalar_type.Bool h = refl
scalar_same scalar_type.Text scalar_type.Text h = refl
scalar_same a b h = absurd (cc)

key_same : (a b : KeyType) → same_key a b ≡ true → a ≡ b
key_same key_type.Int key_type.Int h = refl
key_same key_type.Bool key_type.Bool h = refl
key_same key_type.Text key_type.Text h = refl
key_same a b h = absurd (cc)

value_same : (a b : ValueType) → same_value a b ≡ true → a ≡ b
value_same (value_type.Scalar a) (value_type.Scalar b) h = ap value_type.Scalar (scalar_same a b h)
value_same (value_type.Set a) (value_type.Set b) h = ap value_type.Set (key_same a b h)
value_same (value_type.Map a x) (value_type.Map b y) h =
    let both = and_parts (same_key a b) (same_scalar x y) h in
    ap (λ k. value_type.Map k x) (key_same a b both.0) ∙ ap (value_type.Map b) (scalar_same x y both.1)
value_same (value_type.Queue x) (value_type.Queue y) h = ap value_type.Queue (scalar_same x y h)
value_same a b h = absurd (cc)

pub type_same : (a b : ExprType) → same_type a b ≡ true → a ≡ b
type_same (expr_type.Stream a) (expr_type.Stream b) h = ap expr_type.Stream (value_same a b h)
type_same (expr_type.Value a) (expr_type.Value b) h = ap expr_type.Value (value_same a b h)
type_same (expr_type.Optional a) (expr_type.Optional b) h = ap expr_type.Optional (value_same a b h)
type_same a b h = absurd (cc)

-- what is asked exactly is the same
abbrev found : ExprType → ExprType → Bool → Check
found t u b = if b then Ok tt else Err (record { have = u; want = asked.Exactly t })

pub exactly : (t u : ExprType) → ask (asked.Exactly t) u ≡ Ok tt → u ≡ t
exactly t u h = by (same_type u t) refl h
  where
    by : (b : Bool) → same_type u t ≡ b → found t u b ≡ Ok tt → u ≡ t
    by true e k = type_same u t e
    by false e k = absurd (cc)

both_asked : (a b : Check) → and_then a b ≡ Ok tt → (a ≡ Ok tt) × (b ≡ Ok tt)
both_asked (Ok u) b h = (refl, h)
both_asked (Err clash) b h = absurd (cc)

-- ---- bodies
-- what is written is what the body is
pub as_asked : (at : Setting) (w t : ExprType) → body_rule at (Some w) t ≡ Ok tt → t ≡ w
as_asked at w t h = exactly w t (both_asked (written_asked (Some w) t) (body_asked at t) h).0

pub without_written : (at : Setting) (w : Option ExprType) (t : ExprType) → body_rule at w t ≡ Ok tt → body_asked at t ≡ Ok tt
without_written at w t h = (both_asked (written_asked w t) (body_asked at t) h).1

pub is_stream : (t : ExprType) → body_asked setting.Streams t ≡ Ok tt → t ≡ expr_type.Stream (inner t)
is_stream t h = exactly (stream (inner t)) t h
