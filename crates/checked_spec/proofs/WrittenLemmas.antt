-- Written types that may stand where they do stand for something.
use Rattle.std.proofs.Common.{◌≡◌, true, List, [], Option, Some, None, refl, sym, ap, ◌∙◌}
use Rattle.std.specs.Prelude.{is_some, is_none, slice_get}
use Rattle.std.specs.Option.{option_map, option_and_then}
use Rattle.tsl_value.specs.declared.place.Place.{Place}
use Rattle.std.proofs.lemmas.Option.{same_Some, none-some}
use Rattle.tsl_value.specs.declared.scalar.KeyType.{KeyType}
use Rattle.tsl_value.specs.declared.scalar.ScalarType.{ScalarType}
use Rattle.tsl_value.specs.declared.scalar.ValueType.{ValueType}
use Rattle.tsl_value.specs.declared.scalar.ValueType.TheVariants as value_type
use Rattle.tsl_value.specs.Aggregate.{is_aggregate}
use Rattle.syntax_tree.specs.Tree as tree
use Rattle.syntax_tree.specs.Tree.{TypeName, Aggregate}
use Rattle.type_rules.specs.Written.{key_of, scalar_of, aggregate_of, value_of, as_written, as_stream, bad_key, bad_scalar, bad_in, bad_inside, bad_as_written, bad_as_stream}
use Rattle.type_rules.proofs.WrittenLemmas.{written_or_bad, stream_or_bad}
use Rattle.tsl_value.proofs.Lists.{append_empty}

-- an option is something
pub record Has {A : Type 0} (o : Option A) : Type 0 where
  pub it : A
  pub is : o ≡ Some it

pub has_map : {A B : Type 0} (f : A → B) (o : Option A) → Has o → Has (option_map f o)
has_map f o h = record { it = f h.it; is = ap (option_map f) h.is }

pub has_then : {A B : Type 0} (f : A → Option B) (o : Option A) → Has o → ((x : A) → Has (f x)) → Has (option_and_then f o)
has_then f (Some x) h each = each x
has_then f None h each = absurd (let e = h.is in cc)

from_test : {A : Type 0} (o : Option A) → is_some o ≡ true → Has o
from_test (Some x) h = record { it = x; is = refl }
from_test None h = absurd (cc)

-- ---- what is written
pub key_there : (y : TypeName) → bad_key y ≡ [] → Has (key_of y)
key_there (tree.IntType p) h = record { it = _; is = refl }
key_there (tree.BoolType p) h = record { it = _; is = refl }
key_there (tree.TextType p) h = record { it = _; is = refl }
key_there y h = absurd (cc)

pub scalar_there : (y : TypeName) → bad_scalar y ≡ [] → Has (scalar_of y)
scalar_there (tree.UnitType p) h = record { it = _; is = refl }
scalar_there (tree.IntType p) h = record { it = _; is = refl }
scalar_there (tree.BoolType p) h = record { it = _; is = refl }
scalar_there (tree.TextType p) h = record { it = _; is = refl }
scalar_there y h = absurd (cc)

pub aggregate_there : (a : Aggregate) → bad_in a ≡ [] → Has (aggregate_of a)
aggregate_there (tree.SetOf k) h = has_map value_type.Set (key_of k) (key_there k h)
aggregate_there (tree.MapOf k v) h =
    let both = append_empty (bad_key k) (bad_scalar v) h in
    has_then (λ key. option_map (value_type.Map key) (scalar_of v)) (key_of k) (key_there k both.0) (λ key. has_map (value_type.Map key) (scalar_of v) (scalar_there v both.1))
aggregate_there (tree.QueueOf v) h = has_map value_type.Queue (scalar_of v) (scalar_there v h)

-- it is a type of aggregates
pub aggregate_made : (a : Aggregate) (t : ValueType) → aggregate_of a ≡ Some t → is_aggregate t ≡ true
aggregate_made (tree.SetOf k) t h = by (key_of k) h
  where
    by : (o : Option KeyType) → option_map value_type.Set o ≡ Some t → is_aggregate t ≡ true
    by (Some key) h = ap is_aggregate (sym (same_Some (value_type.Set key) t h))
    by None h = absurd (none-some t h)
aggregate_made (tree.QueueOf v) t h = by (scalar_of v) h
  where
    by : (o : Option ScalarType) → option_map value_type.Queue o ≡ Some t → is_aggregate t ≡ true
    by (Some of) h = ap is_aggregate (sym (same_Some (value_type.Queue of) t h))
    by None h = absurd (none-some t h)
aggregate_made (tree.MapOf k v) t h = by (key_of k) (scalar_of v) h
  where
    by : (o : Option KeyType) (s : Option ScalarType) → option_and_then (λ key. option_map (value_type.Map key) s) o ≡ Some t → is_aggregate t ≡ true
    by (Some key) (Some of) h = ap is_aggregate (sym (same_Some (value_type.Map key of) t h))
    by (Some key) None h = absurd (none-some t h)
    by None s h = absurd (none-some t h)

pub value_there : (y : TypeName) → bad_inside y ≡ [] → Has (value_of y)
value_there (tree.AggregateType p a) h = aggregate_there a h
value_there (tree.UnitType p) h = record { it = _; is = refl }
value_there (tree.IntType p) h = record { it = _; is = refl }
value_there (tree.BoolType p) h = record { it = _; is = refl }
value_there (tree.TextType p) h = record { it = _; is = refl }
value_there (tree.OptionType p y) h = absurd (cc)
value_there (tree.EventsType p y) h = absurd (cc)

none_first : (ps : List Place) → ps ≡ [] → is_none (slice_get ps 0) ≡ true
none_first ps h = ap (λ l. is_none (slice_get l 0)) h

pub written_there : (y : TypeName) → bad_as_written y ≡ [] → Has (as_written y)
written_there y h = from_test (as_written y) (written_or_bad y ∙ none_first (bad_as_written y) h)

pub stream_there : (y : TypeName) → bad_as_stream y ≡ [] → Has (as_stream y)
stream_there y h = from_test (as_stream y) (stream_or_bad y ∙ none_first (bad_as_stream y) h)
