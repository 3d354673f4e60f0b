-- Links before none.
use Rattle.std.proofs.Common.{◌≡◌, refl, ap}
use Rattle.syntax_tree.specs.Tree.{Links, no_links, more_links}
use Rattle.syntax_tree.specs.inner.Joins.{join_links}

pub join_none : (ls : Links) → join_links ls no_links ≡ ls
join_none no_links = refl
join_none (more_links o e ls) = ap (more_links o e) (join_none ls)
