-- A system that tests ask about: inputs i and j of Int, p := last(i, j), d := delay(i, j)
use Rattle.std.specs.Prelude.{ℕ, List, [], ◌∷◌, Some, codes}
use Rattle.tsl_value.specs.declared.scalar.ValueType.{ValueType}
use Rattle.flat_core.specs.declared.equation.Op.{Op}
use Rattle.flat_core.specs.declared.equation.Op.TheVariants as op
use Rattle.flat_core.specs.declared.equation.Equation.{Equation}
use Rattle.flat_core.specs.Typed.{int_type, unit_type}

abbrev pub equation_of : List ℕ → Op → List ℕ → ValueType → Equation
equation_of name o args of = record { op = o; args = args; of = of; place = record { line = 1; column = 1 }; name = Some name }

abbrev pub small_equations : List Equation
small_equations =
    equation_of (codes "i") op.Input [] int_type
    ∷ equation_of (codes "j") op.Input [] int_type
    ∷ equation_of (codes "p") op.Last (0 ∷ 1 ∷ []) int_type
    ∷ equation_of (codes "d") op.Delay (0 ∷ 1 ∷ []) unit_type
    ∷ []
