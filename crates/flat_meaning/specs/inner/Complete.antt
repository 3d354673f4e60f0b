-- The flat system of a checked specification is complete: its equations are well typed, and its outputs are there.
use Rattle.std.specs.Prelude.{◌≡◌, ◌<◌, List, [], length}
use Rattle.flat_core.specs.Complete.{IsComplete}
use Rattle.flat_core.specs.System.{System}
use Rattle.syntax_tree.specs.Tree as tree
use Rattle.form_check.specs.Outputs.{outputs_twice}
use Rattle.type_rules.specs.Kinds.{Kinds}
use Rattle.spec_meaning.specs.Due.{outputs_of}
use Rattle.spec_meaning.specs.Flat.{IsFlatOf}
use Rattle.checked_spec.specs.inner.Checked.{IsChecked}
use Rattle.parsed_spec.specs.inner.Short.{HaveShortTexts}

-- there is an output, and no two are printed under one name
pub record HasOutputs (items : List tree.Item) : Type 0 where
  pub some : 0 < length (outputs_of items)
  pub once : outputs_twice items ≡ []

abbrev pub FlatsAreComplete : Type 0
FlatsAreComplete =
    (items : List tree.Item) (kinds : Kinds) (s : System) →
    IsChecked items kinds →
    HasOutputs items →
    HaveShortTexts items →
    IsFlatOf items kinds s.equations s.outputs →
    IsComplete s
