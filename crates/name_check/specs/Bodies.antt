-- The expressions of a specification's items, with what is seen in each, in the order of the source.
use Rattle.std.specs.Prelude.{ℕ, suc, ◌+◌, List, [], ◌∷◌, ◌++◌}
use Rattle.syntax_tree.specs.Tree as tree
use Rattle.syntax_tree.specs.Tree.{Expr}
use Rattle.name_check.specs.Scope.{Scope, count_in, inside, in_block}

pub record Seen : Type 0 where
  pub scope : Scope
  pub expr : Expr

abbrev mutual
  -- The definitions of a block, which have no parameters, before its result. The first definition in it has number k.
  pub bodies : ℕ → Scope → tree.Body → List Seen
  bodies k scope (tree.Plain e) = record { scope = scope; expr = e } ∷ []
  bodies k scope (tree.Block ds e) = block_bodies k (in_block k scope ds) ds ++ record { scope = in_block k scope ds; expr = e } ∷ []

  pub block_bodies : ℕ → Scope → tree.Definitions → List Seen
  block_bodies k scope tree.no_definitions = []
  block_bodies k scope (tree.more_definitions (tree.Define q n ps w b) ds) =
      bodies (suc k) scope b ++ block_bodies (suc k + count_in b) scope ds

-- The definitions in the blocks of an item are numbered from 0. An output without a name of its own is the mention of a name.
abbrev pub item_bodies : Scope → tree.Item → List Seen
item_bodies scope (tree.Input p q n y) = []
item_bodies scope (tree.Defined p (tree.Define q n ps w b)) = bodies 0 (inside scope ps) b
item_bodies scope (tree.Output p q n) = record { scope = scope; expr = tree.Name q n } ∷ []
item_bodies scope (tree.OutputAs p e q n) = record { scope = scope; expr = e } ∷ []
