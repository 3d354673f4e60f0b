-- Where types begin.
use Rattle.std.specs.Prelude.{◌≡◌, refl}
use Rattle.tsl_value.specs.declared.place.Place.{Place}
use Rattle.syntax_tree.specs.Tree as tree
use Rattle.syntax_tree.specs.Tree.{TypeName}
use Rattle.syntax_tree.specs.inner.OneLevel.{type_of}
use Rattle.syntax_tree.specs.declared.tree.TypeShape.{TypeShape}
use Rattle.syntax_tree.specs.declared.tree.TypeShape.TheVariants as shape

abbrev pub type_place : TypeName → Place
type_place (tree.UnitType p) = p
type_place (tree.IntType p) = p
type_place (tree.BoolType p) = p
type_place (tree.TextType p) = p
type_place (tree.AggregateType p a) = p
type_place (tree.OptionType p y) = p
type_place (tree.EventsType p y) = p

-- the first token of an item
abbrev pub first_place : tree.Item → Place
first_place (tree.Input p q n y) = p
first_place (tree.Defined p d) = p
first_place (tree.Output p q n) = p
first_place (tree.OutputAs p e q n) = p

pub type_place_again : (p : Place) (s : TypeShape) → type_place (type_of p s) ≡ p
type_place_again p shape.Unit = refl
type_place_again p shape.Int = refl
type_place_again p shape.Bool = refl
type_place_again p shape.Text = refl
type_place_again p (shape.Aggregate a) = refl
type_place_again p (shape.Option y) = refl
type_place_again p (shape.Events y) = refl
