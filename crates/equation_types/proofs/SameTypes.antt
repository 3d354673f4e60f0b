-- Tests of equal types.
use Rattle.std.proofs.Common.{◌≡◌, refl, ap, subst, ◌∙◌}
use Rattle.std.specs.Prelude.{IsTrue}
use Rattle.std.proofs.lemmas.Bool.{and_parts, false≢true}
use Rattle.tsl_value.specs.declared.scalar.KeyType.{KeyType}
use Rattle.tsl_value.specs.declared.scalar.KeyType.TheVariants as key_type
use Rattle.tsl_value.specs.declared.scalar.ScalarType.{ScalarType}
use Rattle.tsl_value.specs.declared.scalar.ScalarType.TheVariants as scalar_type
use Rattle.tsl_value.specs.declared.scalar.ValueType.{ValueType}
use Rattle.tsl_value.specs.declared.scalar.ValueType.TheVariants as value_type
use Rattle.lift_func.proofs.TypedUpdates.{both}
use Rattle.equation_types.specs.declared.kind.Kind.{Kind}
use Rattle.equation_types.specs.declared.kind.Kind.TheVariants as kind
use Rattle.equation_types.specs.inner.Rules.{is_scalar, is_key, is_type, is_kind}

pub scalar_is : (s t : ScalarType) → IsTrue (is_scalar s t) → s ≡ t
scalar_is scalar_type.Unit scalar_type.Unit h = refl
scalar_is scalar_type.Int scalar_type.Int h = refl
scalar_is scalar_type.Bool scalar_type.Bool h = refl
scalar_is scalar_type.Text scalar_type.Text h = refl
scalar_is _ _ h = absurd (false≢true h)

key_is : (k l : KeyType) → IsTrue (is_key k l) → k ≡ l
key_is key_type.Int key_type.Int h = refl
key_is key_type.Bool key_type.Bool h = refl
key_is key_type.Text key_type.Text h = refl
key_is _ _ h = absurd (false≢true h)

pub type_is : (s t : ValueType) → IsTrue (is_type s t) → s ≡ t
type_is (value_type.Scalar s) (value_type.Scalar t) h = ap value_type.Scalar (scalar_is s t h)
type_is (value_type.Set k) (value_type.Set l) h = ap value_type.Set (key_is k l h)
type_is (value_type.Map k s) (value_type.Map l t) h =
    let parts = and_parts (is_key k l) (is_scalar s t) h in
    ap (λ x. value_type.Map x s) (key_is k l parts.0) ∙ ap (value_type.Map l) (scalar_is s t parts.1)
type_is (value_type.Queue s) (value_type.Queue t) h = ap value_type.Queue (scalar_is s t h)
type_is _ _ h = absurd (false≢true h)

pub kind_is : (j k : Kind) → IsTrue (is_kind j k) → j ≡ k
kind_is (kind.Value s) (kind.Value t) h = ap kind.Value (type_is s t h)
kind_is (kind.Optional s) (kind.Optional t) h = ap kind.Optional (type_is s t h)
kind_is _ _ h = absurd (false≢true h)

-- each is itself
scalar_itself : (t : ScalarType) → IsTrue (is_scalar t t)
scalar_itself scalar_type.Unit = refl
scalar_itself scalar_type.Int = refl
scalar_itself scalar_type.Bool = refl
scalar_itself scalar_type.Text = refl

key_itself : (k : KeyType) → IsTrue (is_key k k)
key_itself key_type.Int = refl
key_itself key_type.Bool = refl
key_itself key_type.Text = refl

pub type_itself : (t : ValueType) → IsTrue (is_type t t)
type_itself (value_type.Scalar t) = scalar_itself t
type_itself (value_type.Set k) = key_itself k
type_itself (value_type.Map k t) = both (key_itself k) (scalar_itself t)
type_itself (value_type.Queue t) = scalar_itself t

pub kind_itself : (k : Kind) → IsTrue (is_kind k k)
kind_itself (kind.Value t) = type_itself t
kind_itself (kind.Optional t) = type_itself t

-- equal ones pass
pub type_passes : (s t : ValueType) → s ≡ t → IsTrue (is_type s t)
type_passes s t is = subst (λ u. IsTrue (is_type s u)) is (type_itself s)

pub kind_passes : (j k : Kind) → j ≡ k → IsTrue (is_kind j k)
kind_passes j k is = subst (λ u. IsTrue (is_kind j u)) is (kind_itself j)
