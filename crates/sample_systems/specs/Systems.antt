-- Two systems that tests ask about. The first is small:
--     i, an input of Int, e := an empty set, m := merge(y, e), l := last(m, i), y := set_add(l, i) with its lifted operands
--     c := contains(l, i), f := filter(y, c), d := delay(i, c)
use Rattle.std.specs.Prelude.{ℕ, ◌-◌, List, [], ◌∷◌, map, true, None, nat_lt, slice_index_or, if◌then◌else◌}
use Rattle.std.specs.List.{range_with_len}
use Rattle.tsl_value.specs.declared.scalar.KeyType.TheVariants as key_type
use Rattle.tsl_value.specs.declared.scalar.ValueType.{ValueType}
use Rattle.tsl_value.specs.declared.scalar.ValueType.TheVariants as value_type
use Rattle.lift_func.specs.BodyTree.{Argument, Two}
use Rattle.tsl_value.specs.declared.operation.Binary.TheVariants as binary
use Rattle.flat_core.specs.declared.equation.Op.{Op}
use Rattle.flat_core.specs.declared.equation.Op.TheVariants as op
use Rattle.flat_core.specs.declared.equation.Equation.{Equation}
use Rattle.flat_core.specs.Typed.{bool_type, int_type, unit_type}

abbrev pub equation_of : Op → List ℕ → ValueType → Equation
equation_of o args of = record { op = o; args = args; of = of; place = record { line = 1; column = 1 }; name = None }

abbrev pub ints : ValueType
ints = value_type.Set key_type.Int

abbrev pub sample_equations : List Equation
sample_equations =
    equation_of op.Input [] int_type
    ∷ equation_of op.Empty [] ints
    ∷ equation_of op.Merge (8 ∷ 1 ∷ []) ints
    ∷ equation_of op.Last (2 ∷ 0 ∷ []) ints
    ∷ equation_of op.Last (3 ∷ 0 ∷ []) ints
    ∷ equation_of op.Merge (3 ∷ 4 ∷ []) ints
    ∷ equation_of op.Last (0 ∷ 3 ∷ []) int_type
    ∷ equation_of op.Merge (0 ∷ 6 ∷ []) int_type
    ∷ equation_of op.SetAdd (5 ∷ 7 ∷ []) ints
    ∷ equation_of (op.Lift (Two binary.Contains (Argument 0) (Argument 1)) true) (5 ∷ 7 ∷ []) bool_type
    ∷ equation_of op.Filter (8 ∷ 9 ∷ []) ints
    ∷ equation_of op.Delay (0 ∷ 9 ∷ []) unit_type
    ∷ []

-- In the second a set grows by each event of eighteen inputs that are merged in a chain:
--     18 inputs of Int, equation 18 := merge(16, 17), and so on up to t := merge(0, 33), which is equation 34
--     e := an empty set, m := merge(y, e), l := last(m, t), y := set_add(l, t) with its lifted operands, which is equation 42
abbrev pub growing_equations : List Equation
growing_equations =
    equation_of op.Empty [] ints
    ∷ equation_of op.Merge (42 ∷ 35 ∷ []) ints
    ∷ equation_of op.Last (36 ∷ 34 ∷ []) ints
    ∷ equation_of op.Last (37 ∷ 34 ∷ []) ints
    ∷ equation_of op.Merge (37 ∷ 38 ∷ []) ints
    ∷ equation_of op.Last (34 ∷ 37 ∷ []) int_type
    ∷ equation_of op.Merge (34 ∷ 40 ∷ []) int_type
    ∷ equation_of op.SetAdd (39 ∷ 41 ∷ []) ints
    ∷ []

abbrev pub merged_equation : ℕ → Equation
merged_equation n =
    if nat_lt n 18 then equation_of op.Input [] int_type else
    if nat_lt n 35 then equation_of op.Merge ((34 - n) ∷ (n - 1) ∷ []) int_type else
    slice_index_or growing_equations (n - 35) (equation_of op.Input [] int_type)

abbrev pub merged_equations : List Equation
merged_equations = map merged_equation (range_with_len 0 43)
