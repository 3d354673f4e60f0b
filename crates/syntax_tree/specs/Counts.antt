-- How many definitions stand in blocks.
use Rattle.std.specs.Prelude.{ℕ, suc, ◌+◌, ◌^◌, ◌<◌}
use Rattle.syntax_tree.specs.Tree as tree

abbrev mutual
  -- in the blocks of a body, those in the bodies of others among them
  pub count_in : tree.Body → ℕ
  count_in (tree.Plain e) = 0
  count_in (tree.Block ds e) = counts ds

  pub counts : tree.Definitions → ℕ
  counts tree.no_definitions = 0
  counts (tree.more_definitions (tree.Define q n ps w b) ds) = suc (count_in b + counts ds)

-- so few that the machine numbers them
abbrev pub HasFewInside : tree.Body → Type 0
HasFewInside b = count_in b < 2 ^ 64

abbrev pub AreFew : tree.Definitions → Type 0
AreFew ds = counts ds < 2 ^ 64
