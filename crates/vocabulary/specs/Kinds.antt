-- The kinds of aggregates: their names, and the kind of a type.
use Rattle.std.specs.Prelude.{ℕ, Bool, true, false, List, [], ◌∷◌, Option, Some, None, codes}
use Rattle.std.specs.List.{find}
use Rattle.std.specs.Str.{bytes_eq}
use Rattle.tsl_value.specs.declared.scalar.ValueType.{ValueType}
use Rattle.tsl_value.specs.declared.scalar.ValueType.TheVariants as value_type
use Rattle.vocabulary.specs.declared.kind.Kind.{Kind}
use Rattle.vocabulary.specs.declared.kind.Kind.TheVariants as kind

-- the name of its types, which stands before the dot of its functions too
abbrev pub kind_name : Kind → List ℕ
kind_name kind.Set = codes "Set"
kind_name kind.Map = codes "Map"
kind_name kind.Queue = codes "Queue"

-- all of them
abbrev pub kinds : List Kind
kinds = kind.Set ∷ kind.Map ∷ kind.Queue ∷ []

abbrev pub kind_named : List ℕ → Option Kind
kind_named n = find (λ g. bytes_eq n (kind_name g)) kinds

-- a type of scalars has none
abbrev pub kind_of : ValueType → Option Kind
kind_of (value_type.Scalar of) = None
kind_of (value_type.Set key) = Some kind.Set
kind_of (value_type.Map key of) = Some kind.Map
kind_of (value_type.Queue of) = Some kind.Queue

abbrev pub is_kind : Kind → Kind → Bool
is_kind kind.Set kind.Set = true
is_kind kind.Map kind.Map = true
is_kind kind.Queue kind.Queue = true
is_kind g h = false
