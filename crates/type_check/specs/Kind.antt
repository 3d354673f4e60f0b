-- What the kinds in `WrongType` are.
use Rattle.std.specs.Prelude.{List, [], ◌∷◌, ◌++◌, map, Option, Some, None}
use Rattle.tsl_value.specs.declared.scalar.ScalarType.TheVariants as scalar_type
use Rattle.tsl_value.specs.declared.scalar.KeyType.TheVariants as key_type
use Rattle.tsl_value.specs.declared.scalar.ValueType.{ValueType}
use Rattle.tsl_value.specs.declared.scalar.ValueType.TheVariants as value_type
use Rattle.vocabulary.specs.declared.kind.Kind.{Kind as AggregateKind}
use Rattle.vocabulary.specs.declared.kind.Kind.TheVariants as aggregate_kind
use Rattle.vocabulary.specs.Kinds.{kinds}
use Rattle.type_rules.specs.declared.rule.ExprType.{ExprType}
use Rattle.type_rules.specs.declared.rule.ExprType.TheVariants as expr_type
use Rattle.type_rules.specs.declared.rule.Family.{Family}
use Rattle.type_rules.specs.declared.rule.Family.TheVariants as family
use Rattle.type_rules.specs.declared.rule.Asked.{Asked}
use Rattle.type_rules.specs.declared.rule.Asked.TheVariants as asked
use Rattle.expr_types.specs.declared.wrong.Wrong.{Wrong}
use Rattle.expr_types.specs.declared.wrong.Wrong.TheVariants as wrong
use Rattle.type_check.specs.declared.fault.Kind.{Kind}
use Rattle.type_check.specs.declared.fault.Kind.TheVariants as kind
use Rattle.type_check.specs.declared.fault.TypeFault.{TypeFault}
use Rattle.type_check.specs.declared.fault.TypeFault.TheVariants as fault

abbrev pub kind_of : ExprType → Kind
kind_of (expr_type.Stream t) = kind.Stream t
kind_of (expr_type.Value t) = kind.Value t
kind_of (expr_type.Optional t) = kind.Optional t

-- what is asked: one of several types, where a rule allows several
abbrev pub asked_kind : Asked → Kind
asked_kind (asked.Exactly t) = kind_of t
asked_kind (asked.StreamOf f) = kind.OneOf f
asked_kind (asked.ValueOf f) = kind.OneOf f
asked_kind (asked.OptionOf f) = kind.OneOf f
asked_kind asked.NoStream = kind.OneOf family.Any
asked_kind asked.Literal = kind.Literal

-- for braces where they may not stand: the written kind, or a literal where none is written
abbrev pub written_kind : Option ExprType → Kind
written_kind None = kind.Literal
written_kind (Some t) = kind_of t

abbrev pub wrong_type : Wrong → TypeFault
wrong_type (wrong.Part place clash) = fault.WrongType place (kind_of clash.have) (asked_kind clash.want)
wrong_type (wrong.Braces place written) = fault.WrongType place kind.Function (written_kind written)

-- The types of a family, in the order of the rules. A set or a map of any type is named with the key Int, and for maps the value Int; a queue with Int.
abbrev pub scalars : List ValueType
scalars =
    value_type.Scalar scalar_type.Unit ∷ value_type.Scalar scalar_type.Int ∷ value_type.Scalar scalar_type.Bool
    ∷ value_type.Scalar scalar_type.Text ∷ []

abbrev pub sample_of : AggregateKind → ValueType
sample_of aggregate_kind.Set = value_type.Set key_type.Int
sample_of aggregate_kind.Map = value_type.Map key_type.Int scalar_type.Int
sample_of aggregate_kind.Queue = value_type.Queue scalar_type.Int

abbrev pub types_of : Family → List ValueType
types_of family.Any = scalars ++ map sample_of kinds
types_of family.Scalars = scalars
types_of (family.Of g) = sample_of g ∷ []
