-- The places of a table of kinds, and what stands there.
use Rattle.std.specs.Prelude.{◌≡◌, ℕ, zero, suc, List, [], ◌∷◌, ◌++◌, Option, Some, None, slice_get}
use Rattle.syntax_tree.specs.Tree as tree
use Rattle.type_rules.specs.declared.rule.ExprType.{ExprType}
use Rattle.name_check.specs.Scope.{count_in}
use Rattle.type_rules.specs.Kinds.{Kinds}
use Rattle.expr_types.specs.Bodies.{item_kind, block_kind}
use Rattle.type_check.specs.declared.slot.Slot.{Slot}
use Rattle.type_check.specs.declared.slot.Slot.TheVariants as slot

-- ---- a place for each node of the specification
abbrev pub local_slots : ℕ → ℕ → ℕ → List Slot
local_slots i k zero = []
local_slots i k (suc n) = slot.Local i k ∷ local_slots i (suc k) n

-- how many definitions stand in the block of an item
abbrev pub block_count : tree.Item → ℕ
block_count (tree.Defined p (tree.Define q n ps w b)) = count_in b
block_count item = 0

abbrev pub slots_from : ℕ → List tree.Item → List Slot
slots_from i [] = []
slots_from i (item ∷ items) = slot.Item i ∷ (local_slots i 0 (block_count item) ++ slots_from (suc i) items)

abbrev pub slots : List tree.Item → List Slot
slots items = slots_from 0 items

-- ---- what a table says of a place, and what it should say
abbrev pub kind_in : Kinds → Slot → Option ExprType
kind_in kinds (slot.Item i) = kinds.item i
kind_in kinds (slot.Local i k) = kinds.local i k

abbrev pub kind_by : List tree.Item → Kinds → Slot → Option ExprType
kind_by items kinds (slot.Item i) = item_kind items kinds i (slice_get items i)
kind_by items kinds (slot.Local i k) = block_kind items kinds i k (slice_get items i)

abbrev pub IsRight : List tree.Item → Kinds → Slot → Type 0
IsRight items kinds s = kind_in kinds s ≡ kind_by items kinds s

-- what stands there doesn't depend on the table: its type is written, or it is nothing
abbrev pub IsFixed : List tree.Item → Slot → Type 0
IsFixed items s = (a b : Kinds) → kind_by items a s ≡ kind_by items b s

-- one place is set, and no other changes
pub record IsSet (old new : Kinds) (s : Slot) (kind : Option ExprType) : Type 0 where
  pub is_set : kind_in new s ≡ kind
  pub others : (other : Slot) → (other ≡ s → ⊥) → kind_in new other ≡ kind_in old other

-- ---- how much of a table is right
-- where nothing can stand the table has nothing
abbrev pub NothingElse : List tree.Item → Kinds → Type 0
NothingElse items kinds = (s : Slot) → ((any : Kinds) → kind_by items any s ≡ None) → kind_in kinds s ≡ None

abbrev pub FixedAreRight : List tree.Item → Kinds → Type 0
FixedAreRight items kinds = (a : ℕ) (s : Slot) → slice_get (slots items) a ≡ Some s → IsFixed items s → IsRight items kinds s

abbrev pub AllAreRight : List tree.Item → Kinds → Type 0
AllAreRight items kinds = (a : ℕ) (s : Slot) → slice_get (slots items) a ≡ Some s → IsRight items kinds s
