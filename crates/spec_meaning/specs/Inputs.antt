-- The inputs that items declare: the first equations of a specification, and what the lines of a trace are read by.
use Rattle.std.specs.Prelude.{List, [], ◌∷◌, Option, Some, None}
use Rattle.tsl_value.specs.declared.scalar.ValueType.{ValueType}
use Rattle.flat_core.specs.declared.equation.Equation.{Equation}
use Rattle.flat_core.specs.System.{System}
use Rattle.flat_core.specs.Typed.{unit_type}
use Rattle.syntax_tree.specs.Tree as tree
use Rattle.stream_constructs.specs.Made.{input_equation}
use Rattle.spec_meaning.specs.Flat.{event_type}

-- Each input of an accepted specification has a type of events; one without is taken for one of units.
abbrev pub type_or_unit : Option ValueType → ValueType
type_or_unit (Some of) = of
type_or_unit None = unit_type

-- the inputs in their order, each with its name and the type of its events
abbrev pub declared_inputs : List tree.Item → List Equation
declared_inputs [] = []
declared_inputs (tree.Input p q x y ∷ items) = input_equation q x (type_or_unit (event_type y)) ∷ declared_inputs items
declared_inputs (item ∷ items) = declared_inputs items

-- a system of these and of nothing else
abbrev pub inputs_alone : List tree.Item → System
inputs_alone items = record { equations = declared_inputs items; outputs = []; running = [] }
