-- What the code keeps of nodes: the heads, and the mentions in their expressions.
use Rattle.std.specs.Prelude.{ℕ, suc, ◌+◌, List, [], ◌∷◌, ◌++◌, length, Option, Some, None}
use Rattle.std.specs.Option.{option_map}
use Rattle.std.specs.List.{filter_map}
use Rattle.syntax_tree.specs.Tree as tree
use Rattle.name_check.specs.Scope.{Scope}
use Rattle.name_check.specs.Parts.{Part, parts}
use Rattle.name_check.specs.Bodies.{Seen}
use Rattle.definition_cycles.specs.Nodes.{Node, count_of}
use Rattle.definition_cycles.specs.Mentions.{declared}
use Rattle.definition_cycles.specs.Calls.{is_call}
use Rattle.definition_cycles.specs.declared.mention.Mention.{Mention}
use Rattle.definition_cycles.specs.declared.found.Head.{Head}

abbrev pub head_of : Node → Head
head_of n = record { place = n.place; is_written = n.is_written }

-- what a part mentions, in the expression of a node of an item
abbrev pub mention_in : ℕ → ℕ → Scope → Part → Option Mention
mention_in item node scope p = option_map (λ d. record { item = item; node = node; is = d; calls = is_call p }) (declared scope p)

abbrev pub mentions_among : ℕ → ℕ → Scope → List Part → List Mention
mentions_among item node scope ps = filter_map (mention_in item node scope) ps

abbrev pub mentions_at : ℕ → ℕ → Option Seen → List Mention
mentions_at item node None = []
mentions_at item node (Some s) = mentions_among item node s.scope (parts s.expr)

-- the mentions in the expression of a node, which has this number
abbrev pub mentions_of : ℕ → Node → List Mention
mentions_of a n = mentions_at n.item a n.body

-- of nodes the first of which has number a
abbrev pub mentions_from : ℕ → List Node → List Mention
mentions_from a [] = []
mentions_from a (n ∷ ns) = mentions_of a n ++ mentions_from (suc a) ns

pub record Kept : Type 0 where
  pub heads : List Head
  pub mentions : List Mention

abbrev pub with_node : Kept → Node → Kept
with_node kept n = record { heads = kept.heads ++ head_of n ∷ []; mentions = kept.mentions ++ mentions_of (length kept.heads) n }

abbrev pub with_nodes : Kept → List Node → Kept
with_nodes kept [] = kept
with_nodes kept (n ∷ ns) = with_nodes (with_node kept n) ns

abbrev pub nothing_kept : Kept
nothing_kept = record { heads = []; mentions = [] }

-- the nodes of items, the first of which has node a
abbrev pub firsts_from : ℕ → List tree.Item → List ℕ
firsts_from a [] = []
firsts_from a (x ∷ items) = a ∷ firsts_from (a + count_of x) items
