-- The value functions of a checked specification have typed bodies.
use Rattle.std.specs.Prelude.{List}
use Rattle.syntax_tree.specs.Tree as tree
use Rattle.type_rules.specs.Kinds.{Kinds}
use Rattle.checked_spec.specs.inner.Checked.{IsChecked}
use Rattle.checked_spec.specs.inner.Functions.{AreTypedFunctions}

abbrev pub FunctionsAreTyped : Type 0
FunctionsAreTyped = (items : List tree.Item) (kinds : Kinds) → IsChecked items kinds → AreTypedFunctions items kinds
