-- The definitions of a specification as nodes of a graph. They are numbered in the order of the source: each item has one number,
-- inputs and outputs too, and after an item come the definitions in its blocks, each before those in its body.
use Rattle.std.specs.Prelude.{ℕ, suc, ◌+◌, ◌^◌, ◌<◌, Bool, true, List, [], ◌∷◌, ◌++◌, length, take, Option, Some, None, is_some}
use Rattle.std.specs.List.{sum_by}
use Rattle.tsl_value.specs.declared.place.Place.{Place}
use Rattle.syntax_tree.specs.Tree as tree
use Rattle.name_check.specs.declared.declaration.Declaration.{Declaration}
use Rattle.name_check.specs.declared.declaration.Declaration.TheVariants as declaration
use Rattle.name_check.specs.Scope.{Scope, count_in, inside, in_block, top}
use Rattle.name_check.specs.Bodies.{Seen}

-- The number of its item, the place of its name, whether a type is written, and the expression that it stands for, with what is
-- seen there. Of a body with braces that is the result.
pub record Node : Type 0 where
  pub item : ℕ
  pub place : Place
  pub is_written : Bool
  pub body : Option Seen

abbrev mutual
  -- a definition of item i, and those in its blocks, the first of which has number k
  pub definition_nodes : ℕ → ℕ → Scope → tree.Definition → List Node
  definition_nodes i k scope (tree.Define q n ps w (tree.Plain e)) =
      record { item = i; place = q; is_written = is_some w; body = Some (record { scope = scope; expr = e }) } ∷ []
  definition_nodes i k scope (tree.Define q n ps w (tree.Block ds e)) =
      record { item = i; place = q; is_written = is_some w; body = Some (record { scope = in_block k scope ds; expr = e }) }
      ∷ block_nodes i k (in_block k scope ds) ds

  pub block_nodes : ℕ → ℕ → Scope → tree.Definitions → List Node
  block_nodes i k scope tree.no_definitions = []
  block_nodes i k scope (tree.more_definitions (tree.Define q n ps w b) ds) =
      definition_nodes i (suc k) scope (tree.Define q n ps w b) ++ block_nodes i (suc k + count_in b) scope ds

abbrev pub parameters_of : tree.Definition → List tree.Param
parameters_of (tree.Define q n ps w b) = ps

-- an input and an output have no expression, and count as written
abbrev pub item_nodes : ℕ → Scope → tree.Item → List Node
item_nodes i scope (tree.Input p q n y) = record { item = i; place = q; is_written = true; body = None } ∷ []
item_nodes i scope (tree.Defined p d) = definition_nodes i 0 (inside scope (parameters_of d)) d
item_nodes i scope (tree.Output p q n) = record { item = i; place = q; is_written = true; body = None } ∷ []
item_nodes i scope (tree.OutputAs p e q n) = record { item = i; place = q; is_written = true; body = None } ∷ []

-- the nodes of items, the first of which has number i
abbrev pub nodes_from : ℕ → Scope → List tree.Item → List Node
nodes_from i scope [] = []
nodes_from i scope (x ∷ items) = item_nodes i scope x ++ nodes_from (suc i) scope items

abbrev pub nodes : List tree.Item → List Node
nodes items = nodes_from 0 (top items) items

-- so few that 32 bits number them
abbrev pub HasFewNodes : List tree.Item → Type 0
HasFewNodes items = length (nodes items) < 2 ^ 32

-- ---- the numbers of nodes
abbrev pub count_of : tree.Item → ℕ
count_of (tree.Input p q n y) = 1
count_of (tree.Defined p (tree.Define q n ps w b)) = 1 + count_in b
count_of (tree.Output p q n) = 1
count_of (tree.OutputAs p e q n) = 1

-- the node of item i
abbrev pub first_node : List tree.Item → ℕ → ℕ
first_node items i = sum_by count_of (take i items)

-- the node that is declared, by what its name stands for in item i
abbrev pub node_of : List tree.Item → ℕ → Declaration → Option ℕ
node_of items i (declaration.Input j) = None
node_of items i (declaration.Stream j) = Some (first_node items j)
node_of items i (declaration.Macro j) = Some (first_node items j)
node_of items i (declaration.Function j) = Some (first_node items j)
node_of items i (declaration.Mixed j) = Some (first_node items j)
node_of items i (declaration.Parameter k) = None
node_of items i (declaration.Local k) = Some (first_node items i + 1 + k)
