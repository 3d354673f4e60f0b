-- Definitions whose parameters are mixed, and inputs of aggregates: the places of their names, in the order of the source.
use Rattle.std.specs.Prelude.{Bool, true, false, not, ◌&&◌, if◌then◌else◌, List, [], ◌∷◌}
use Rattle.std.specs.List.{list_any, flat_map}
use Rattle.tsl_value.specs.declared.place.Place.{Place}
use Rattle.syntax_tree.specs.Tree as tree
use Rattle.syntax_tree.specs.Tree.{TypeName}
use Rattle.name_check.specs.Scope.{is_events}

-- some are streams, and some are not
abbrev pub are_mixed : List tree.Param → Bool
are_mixed ps = list_any (λ q. is_events q.of) ps && list_any (λ q. not (is_events q.of)) ps

abbrev pub mixed_in_definition : tree.Definition → List Place
mixed_in_definition (tree.Define q n ps w b) = if are_mixed ps then q ∷ [] else []

abbrev pub mixed_in_item : tree.Item → List Place
mixed_in_item (tree.Defined p d) = mixed_in_definition d
mixed_in_item _ = []

abbrev pub mixed_parameters : List tree.Item → List Place
mixed_parameters items = flat_map mixed_in_item items

-- a type of aggregates
abbrev pub is_aggregate : TypeName → Bool
is_aggregate (tree.AggregateType p a) = true
is_aggregate _ = false

-- an input is a stream, whether the word for streams is written or left out
abbrev pub is_of_aggregates : TypeName → Bool
is_of_aggregates (tree.EventsType p y) = is_aggregate y
is_of_aggregates y = is_aggregate y

abbrev pub aggregate_in_item : tree.Item → List Place
aggregate_in_item (tree.Input p q n y) = if is_of_aggregates y then q ∷ [] else []
aggregate_in_item _ = []

abbrev pub aggregate_inputs : List tree.Item → List Place
aggregate_inputs items = flat_map aggregate_in_item items
