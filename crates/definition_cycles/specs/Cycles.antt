-- Cycles of value functions, and of definitions without a written type.
use Rattle.std.specs.Prelude.{◌≡◌, ℕ, List, map, Option, Some, MatchOption, slice_get}
use Rattle.tsl_value.specs.declared.place.Place.{Place}
use Rattle.syntax_tree.specs.Tree as tree
use Rattle.translation_order.specs.Least.{IsLeast}
use Rattle.translation_order.specs.Graph.{Path}
use Rattle.definition_cycles.specs.Nodes.{nodes}
use Rattle.definition_cycles.specs.Mentions.{MentionsUntyped}
use Rattle.definition_cycles.specs.Calls.{Calls, name_place}

-- the value function of item i lies on a cycle of calls
abbrev pub FunctionCycle : List tree.Item → ℕ → Type 0
FunctionCycle items i = Path (Calls items) i i

-- a node without a written type lies on a cycle of mentions among such nodes
abbrev pub NeedsType : List tree.Item → ℕ → Type 0
NeedsType items a = Path (MentionsUntyped items) a a

-- the place at the least number for which P holds
pub record IsPlaceOfLeast (P : ℕ → Type 0) (places : List Place) (place : Place) : Type 0 where
  pub number : ℕ
  pub is_least : IsLeast P number
  pub at : slice_get places number ≡ Some place

-- it, or none where P holds for no number
abbrev pub IsFirstPlace : (ℕ → Type 0) → List Place → Option Place → Type 0
IsFirstPlace P places found = MatchOption found ((x : ℕ) → P x → ⊥) (IsPlaceOfLeast P places)

abbrev pub IsFirstFunctionCycle : List tree.Item → Option Place → Type 0
IsFirstFunctionCycle items found = IsFirstPlace (FunctionCycle items) (map name_place items) found

abbrev pub IsFirstUntypedCycle : List tree.Item → Option Place → Type 0
IsFirstUntypedCycle items found = IsFirstPlace (NeedsType items) (map (λ n. n.place) (nodes items)) found
