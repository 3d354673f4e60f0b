-- A system to which equations were added.
use Rattle.std.specs.Prelude.{◌≡◌, ℕ, suc, List, [], ◌∷◌, ◌++◌, length, Some}
use Rattle.tsl_value.specs.declared.place.Place.{Place}
use Rattle.tsl_value.specs.declared.scalar.ValueType.{ValueType}
use Rattle.flat_core.specs.declared.equation.Op.TheVariants as op
use Rattle.flat_core.specs.declared.equation.Equation.{Equation}
use Rattle.flat_core.specs.System.{System}
use Rattle.stream_constructs.specs.declared.construct.Stream.{Stream}
use Rattle.stream_constructs.specs.declared.construct.Operand.{Operand}
use Rattle.stream_constructs.specs.declared.construct.Operand.TheVariants as given
use Rattle.stream_constructs.specs.Construct as construct
use Rattle.stream_constructs.specs.Equations.{own_equations}
use Rattle.stream_constructs.specs.Agree.{last_number}

abbrev pub with_equations : System → List Equation → System
with_equations s own = record s { equations = s.equations ++ own }

-- after an error: the system with the first of some equations, and with nothing else that is new
pub record HasFirst (s : System) (own : List Equation) (after : System) : Type 0 where
  pub made : List Equation
  pub rest : List Equation
  pub split : own ≡ made ++ rest
  pub is : after ≡ with_equations s made

-- the stream of the last of equations that are numbered from n on
abbrev pub last_of : ℕ → List Equation → ValueType → Stream
last_of n own of = record { id = last_number n own; of = of }

-- the operands of a construct, and the streams of those that vary
abbrev pub operands_of : List Operand → List construct.Operand
operands_of [] = []
operands_of (given.Fixed s ∷ os) = construct.Fixed s ∷ operands_of os
operands_of (given.Varying a ∷ os) = construct.Varying ∷ operands_of os

abbrev pub varying_of : List Operand → List Stream
varying_of [] = []
varying_of (given.Fixed s ∷ os) = varying_of os
varying_of (given.Varying a ∷ os) = a ∷ varying_of os

abbrev pub varying_count : List construct.Operand → ℕ
varying_count [] = 0
varying_count (construct.Fixed s ∷ os) = varying_count os
varying_count (construct.Varying ∷ os) = suc (varying_count os)

-- the equations of a construct that is made next
abbrev pub equations_for : System → Place → ValueType → construct.Construct → List Stream → List Equation
equations_for s p of c parts = own_equations p of (length s.equations) c parts

-- the stream of the last of equations that are made next
abbrev pub stream_of : System → List Equation → ValueType → Stream
stream_of s own of = last_of (length s.equations) own of

-- an input under its name
abbrev pub input_equation : Place → List ℕ → ValueType → Equation
input_equation p name of = record { op = op.Input; args = []; of = of; place = p; name = Some name }
