-- The order in which kinds are found: a definition without a written type stands after those that it mentions.
use Rattle.std.specs.Prelude.{ℕ, List, length}
use Rattle.syntax_tree.specs.Tree as tree
use Rattle.translation_order.specs.Order.{IsLeastOrder}
use Rattle.definition_cycles.specs.Nodes.{nodes}
use Rattle.definition_cycles.specs.Mentions.{MentionsUntyped}
use Rattle.definition_cycles.specs.Cycles.{NeedsType}

-- node a has to stand before node b
abbrev pub Precedes : List tree.Item → ℕ → ℕ → Type 0
Precedes items a b = MentionsUntyped items b a

-- all nodes, each once and after those that it mentions, where neither has a written type; at each place the least that may stand
-- there
abbrev pub IsKindOrder : List tree.Item → List ℕ → Type 0
IsKindOrder items order = IsLeastOrder (length (nodes items)) (Precedes items) order

abbrev pub NoneNeedsType : List tree.Item → Type 0
NoneNeedsType items = (a : ℕ) → NeedsType items a → ⊥

abbrev pub SomeNeedsType : List tree.Item → Type 0
SomeNeedsType items = (a : ℕ) × NeedsType items a
