-- What a value has, as lists: the other form of a view, for what is written and read back.
use Rattle.std.specs.Prelude.{◌≡◌, ℕ, Bool, true, false, ◌&&◌, length, map, FitsSigned}
use Rattle.std.specs.Int.{w64}
use Rattle.std.specs.Str.{IsUtf8}
use Rattle.std.specs.List.{AllByRecursion, list_all}
use Rattle.std.specs.List.Sorted.{IsStrictlySortedBy}
use Rattle.std.specs.FinSet as set
use Rattle.std.specs.FinMap as finite_map
use Rattle.aggregate_store.specs.declared.content.Content.{Content}
use Rattle.aggregate_store.specs.declared.content.Content.TheVariants as content
use Rattle.tsl_value.specs.declared.scalar.Scalar.{Scalar}
use Rattle.tsl_value.specs.declared.scalar.Scalar.TheVariants as scalar
use Rattle.tsl_value.specs.declared.scalar.ValueType.{ValueType}
use Rattle.tsl_value.specs.declared.scalar.ValueType.TheVariants as value_type
use Rattle.tsl_value.specs.Print.{in_order}
use Rattle.tsl_value.specs.View.{View, Plain, Keyed, Mapped, Listed, is_of_key, is_of_scalar, scalar_cmp}

-- the value that has this content
abbrev pub view_in : Content → View
view_in (content.Scalar s) = Plain s
view_in (content.Set keys) = Keyed (set.from_list keys)
view_in (content.Map entries) = Mapped (finite_map.from_entries entries)
view_in (content.Queue elements) = Listed elements

-- what a value has; keys stand in their order, and the front of a queue first
abbrev pub content_of : View → Content
content_of (Plain s) = content.Scalar s
content_of (Keyed s) = content.Set (in_order s)
content_of (Mapped m) = content.Map (finite_map.entries m)
content_of (Listed elements) = content.Queue elements

-- the keys rise, so that none of them is there twice
abbrev pub AreInOrder : Content → Type 0
AreInOrder (content.Set keys) = IsStrictlySortedBy scalar_cmp keys
AreInOrder (content.Map entries) = IsStrictlySortedBy scalar_cmp (map (λ e. e.0) entries)
AreInOrder _ = Unit {0}

-- the content is that of an aggregate
abbrev pub is_of_aggregate : Content → Bool
is_of_aggregate (content.Scalar s) = false
is_of_aggregate _ = true

-- how many keys or elements there are
abbrev pub content_size : Content → ℕ
content_size (content.Scalar s) = 0
content_size (content.Set keys) = length keys
content_size (content.Map entries) = length entries
content_size (content.Queue elements) = length elements

-- the content is one of a type
abbrev pub is_content_of : ValueType → Content → Bool
is_content_of (value_type.Scalar t) (content.Scalar s) = is_of_scalar t s
is_content_of (value_type.Set k) (content.Set keys) = list_all (is_of_key k) keys
is_content_of (value_type.Map k t) (content.Map entries) = list_all (λ e. is_of_key k e.0 && is_of_scalar t e.1) entries
is_content_of (value_type.Queue t) (content.Queue elements) = list_all (is_of_scalar t) elements
is_content_of _ _ = false

-- each scalar of a content
abbrev pub AllIn : (Scalar → Type 0) → Content → Type 0
AllIn P (content.Scalar s) = P s
AllIn P (content.Set keys) = AllByRecursion P keys
AllIn P (content.Map entries) = AllByRecursion (λ e. P e.0 × P e.1) entries
AllIn P (content.Queue elements) = AllByRecursion P elements

-- what a scalar's type holds: an Int of 64 bits, and a text in UTF-8
abbrev pub IsInRange : Scalar → Type 0
IsInRange scalar.Unit = Unit {0}
IsInRange (scalar.Int z) = FitsSigned w64 z
IsInRange (scalar.Bool b) = Unit {0}
IsInRange (scalar.Text bytes) = IsUtf8 bytes

-- Values and contents whose keys stand in order are two forms of the same: each value has such a content, which is that of no other value.
pub record ContentsAreViews : Type 0 where
  pub ordered : (v : View) → AreInOrder (content_of v)
  pub back : (v : View) → view_in (content_of v) ≡ v
  pub same : (c : Content) → AreInOrder c → content_of (view_in c) ≡ c
