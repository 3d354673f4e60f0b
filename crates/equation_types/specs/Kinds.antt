-- The kinds of bodies as the code has them.
use Rattle.lift_func.specs.Typing.{ValueKind, Value, Optional}
use Rattle.equation_types.specs.declared.kind.Kind.{Kind}
use Rattle.equation_types.specs.declared.kind.Kind.TheVariants as kind

abbrev pub value_kind : Kind → ValueKind
value_kind (kind.Value of) = Value of
value_kind (kind.Optional of) = Optional of
