-- What a counter counts by.
use Rattle.std.specs.Prelude.{◌≡◌, ℕ, List, map, Some, slice_get}
use Rattle.syntax_tree.specs.Tree as tree
use Rattle.syntax_tree.specs.Counts.{HasFewInside}
use Rattle.syntax_tree.specs.inner.OneLevel.{item_of, params_in}
use Rattle.syntax_tree.specs.inner.OneLevel as code
use Rattle.syntax_tree.specs.declared.tree.DefinitionParts.{DefinitionParts}
use Rattle.name_check.specs.Scope.{top}
use Rattle.syntax_tree.specs.Tree.{params_of}
use Rattle.expr_types.specs.inner.Shown.{kinds_of}
use Rattle.spec_meaning.specs.Occurrence.{body_of}
use Rattle.equation_marks.specs.declared.count.Counter.{Counter}
use Rattle.equation_marks.specs.Marks.{Mark, macro_marks}

-- the names are those that the items declare
abbrev pub HasNames : Counter → Type 0
HasNames c = c.names.now ≡ top (map item_of c.items.now)

-- what a call of a macro makes besides its arguments, where calls nest no deeper than this
abbrev pub calls_of : Counter → ℕ → ℕ → List Mark
calls_of c deep = macro_marks (map item_of c.items.now) (kinds_of c.kinds.now) deep

-- the definition of item i
pub record IsDefinitionAt (items : List tree.Item) (i : ℕ) (d : DefinitionParts) : Type 0 where
  pub body_is : body_of (slice_get items i) ≡ Some (code.body_of d.body)
  pub params_are : params_of (slice_get items i) ≡ params_in d.params.items
  pub few : HasFewInside (code.body_of d.body)
