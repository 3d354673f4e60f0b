-- What one definition, or one item, adds to what is wrong, and what it is.
use Rattle.std.specs.Prelude.{ℕ, ◌&&◌, if◌then◌else◌, List, [], ◌∷◌, Option, Some, None, Ok, Err}
use Rattle.tsl_value.specs.declared.place.Place.{Place}
use Rattle.syntax_tree.specs.Tree as tree
use Rattle.name_check.specs.Scope.{are_values}
use Rattle.type_rules.specs.declared.rule.Clash.{Clash}
use Rattle.type_rules.specs.declared.rule.ExprType.{ExprType}
use Rattle.type_rules.specs.declared.rule.Setting.{Setting}
use Rattle.type_rules.specs.Asked.{Check}
use Rattle.type_rules.specs.Rules.{body_rule}
use Rattle.expr_types.specs.declared.wrong.Wrong.{Wrong}
use Rattle.expr_types.specs.Around.{Around}
use Rattle.type_rules.specs.Kinds.{Kinds}
use Rattle.expr_types.specs.Bodies.{in_definition, written_of, plain_wrongs, body_wrongs, may_have_braces}
use Rattle.expr_types.specs.Bodies.{holds_aggregate, definition_kind}

-- what is refused of a body
abbrev pub refusal : Check → Option Clash
refusal (Ok u) = None
refusal (Err clash) = Some clash

abbrev pub asked_clash : Setting → Option ExprType → Option ExprType → Option Clash
asked_clash at written None = None
asked_clash at written (Some t) = refusal (body_rule at written t)

-- a definition of a block
abbrev pub local_plain_wrongs : Around → tree.Definition → List Wrong
local_plain_wrongs at (tree.Define q n ps w b) = plain_wrongs at (written_of [] w) b

abbrev pub kind_of_local : Around → tree.Definition → Option ExprType
kind_of_local at (tree.Define q n ps w b) = definition_kind at [] w b

-- the definition of an item, where this is seen in it
abbrev pub definition_wrongs : Around → tree.Definition → List Wrong
definition_wrongs at (tree.Define q n ps w b) = body_wrongs at (may_have_braces ps) (written_of ps w) b

abbrev pub kind_of_definition : Around → tree.Definition → Option ExprType
kind_of_definition at (tree.Define q n ps w b) = definition_kind at ps w b

-- the definition of item i
abbrev pub around_definition : List tree.Item → Kinds → ℕ → tree.Definition → Around
around_definition items kinds i (tree.Define q n ps w b) = in_definition items kinds i ps

abbrev pub wrongs_in_definition : List tree.Item → Kinds → ℕ → tree.Definition → List Wrong
wrongs_in_definition items kinds i d = definition_wrongs (around_definition items kinds i d) d

abbrev pub kind_in_definition : List tree.Item → Kinds → ℕ → tree.Definition → Option ExprType
kind_in_definition items kinds i d = kind_of_definition (around_definition items kinds i d) d

abbrev pub aggregate_result : Kinds → ℕ → tree.Item → List Place
aggregate_result kinds i (tree.Defined p (tree.Define q n ps w b)) = if are_values ps && holds_aggregate (kinds.item i) then q ∷ [] else []
aggregate_result kinds i item = []
