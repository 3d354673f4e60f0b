-- Views of a type are aggregates where the type is one of aggregates.
use Rattle.std.proofs.Common.{◌≡◌, true, refl}
use Rattle.std.proofs.lemmas.Bool.{false≢true}
use Rattle.tsl_value.specs.Aggregate.{is_aggregate, has_elements}
use Rattle.tsl_value.specs.View.{View, Plain, Keyed, Mapped, Listed, is_of}
use Rattle.tsl_value.specs.declared.scalar.ValueType.{ValueType}
use Rattle.tsl_value.specs.declared.scalar.ValueType.TheVariants as value_type

pub elements_of : (of : ValueType) (v : View) → is_of of v ≡ true → has_elements v ≡ is_aggregate of
elements_of (value_type.Scalar t) (Plain s) typed = refl
elements_of (value_type.Set k) (Keyed s) typed = refl
elements_of (value_type.Map k t) (Mapped m) typed = refl
elements_of (value_type.Queue t) (Listed xs) typed = refl
elements_of _ _ typed = absurd (false≢true typed)
