-- Cells of aggregates.
use Rattle.std.specs.Prelude.{ℕ, Bool, false, IsTrue, List, ◌∷◌, Option, Some, None, unwrap_or}
use Rattle.std.specs.Ordering.{nat_cmp}
use Rattle.std.specs.List.{list_all}
use Rattle.std.specs.FinSet as set
use Rattle.std.specs.FinMap as finite_map
use Rattle.tsl_value.specs.View.{View, Plain, Keyed, Mapped, Listed, is_of_key}
use Rattle.tsl_value.specs.declared.scalar.KeyType.{KeyType}
use Rattle.tsl_value.specs.declared.scalar.Scalar.{Scalar}
use Rattle.tsl_value.specs.declared.scalar.Scalar.TheVariants as scalar

-- the views of the live cells, by their handles
abbrev pub Cells : Type 0
Cells = finite_map.FinMap nat_cmp View

abbrev pub IsLive : Cells → ℕ → Type 0
IsLive cells handle = IsTrue (finite_map.contains_key cells handle)

-- the view of a live cell
abbrev pub view_at : Cells → ℕ → View
view_at cells handle = unwrap_or (finite_map.get cells handle) (Plain scalar.Unit)

-- the key has the type of the view's keys
abbrev pub FitsKey : View → Scalar → Type 0
FitsKey (Plain s) key = ⊥
FitsKey (Keyed s) key = (of : KeyType) × IsTrue (is_of_key of key) × IsTrue (list_all (is_of_key of) (set.items s))
FitsKey (Listed xs) key = ⊥
FitsKey (Mapped m) key = (of : KeyType) × IsTrue (is_of_key of key) × IsTrue (list_all (λ e. is_of_key of e.0) (finite_map.entries m))

abbrev pub IsMap : View → Type 0
IsMap (Mapped m) = Unit {0}
IsMap _ = ⊥

abbrev pub IsQueue : View → Type 0
IsQueue (Listed xs) = Unit {0}
IsQueue _ = ⊥

-- whether the key is there
abbrev pub has_key : View → Scalar → Bool
has_key (Plain s) key = false
has_key (Keyed s) key = set.contains s key
has_key (Mapped m) key = finite_map.contains_key m key
has_key (Listed xs) key = false

-- what a map has at a key
abbrev pub value_at : View → Scalar → Option Scalar
value_at (Mapped m) key = finite_map.get m key
value_at _ key = None

-- the element in front of a queue
abbrev pub front_of : View → Option Scalar
front_of (Listed (x ∷ xs)) = Some x
front_of _ = None
