-- The first parts of a list of the tree before the others.
use Rattle.std.specs.Prelude.{List, [], ◌∷◌, ◌++◌}
use Rattle.syntax_tree.specs.Tree.{Expr, Exprs, no_exprs, more_exprs, Links, no_links, more_links, Definition, Definitions, no_definitions}
use Rattle.syntax_tree.specs.Tree.{more_definitions}
use Rattle.syntax_tree.specs.Tree as tree
use Rattle.syntax_tree.specs.declared.tree.Param.{Param}
use Rattle.syntax_tree.specs.inner.OneLevel.{params_in}

abbrev pub join_exprs : List Expr → Exprs → Exprs
join_exprs [] es = es
join_exprs (x ∷ xs) es = more_exprs x (join_exprs xs es)

abbrev pub join_links : Links → Links → Links
join_links no_links es = es
join_links (more_links o e ls) es = more_links o e (join_links ls es)

abbrev pub join_params : List Param → List tree.Param → List tree.Param
join_params ps us = params_in ps ++ us

abbrev pub join_definitions : List Definition → Definitions → Definitions
join_definitions [] ds = ds
join_definitions (x ∷ xs) ds = more_definitions x (join_definitions xs ds)
