-- The equations that make a construct out of its parts, in the order in which they are made. The last one is the construct's stream.
use Rattle.std.specs.Prelude.{ℕ, suc, ◌+◌, true, false, List, [], ◌∷◌, ◌++◌, map, length, None}
use Rattle.tsl_value.specs.declared.place.Place.{Place}
use Rattle.tsl_value.specs.View.{type_of}
use Rattle.tsl_value.specs.declared.scalar.Scalar.{Scalar}
use Rattle.tsl_value.specs.declared.scalar.Scalar.TheVariants as scalar
use Rattle.tsl_value.specs.declared.scalar.ValueType.{ValueType}
use Rattle.tsl_value.specs.declared.scalar.ValueType.TheVariants as value_type
use Rattle.lift_func.specs.BodyTree as body
use Rattle.lift_func.specs.BodyTree.{BodyTree}
use Rattle.flat_core.specs.declared.equation.Op.{Op}
use Rattle.flat_core.specs.declared.equation.Op.TheVariants as op
use Rattle.flat_core.specs.declared.equation.Equation.{Equation}
use Rattle.flat_core.specs.Typed.{unit_type, int_type}
use Rattle.flat_core.specs.Updates.{operation_of}
use Rattle.stream_constructs.specs.declared.construct.Stream.{Stream}
use Rattle.stream_constructs.specs.Construct.{Construct, Operand, Fixed, Varying, operand_trees}
use Rattle.stream_constructs.specs.Construct as construct

abbrev pub numbers : List Stream → List ℕ
numbers parts = map (λ a. a.id) parts

-- an equation without a name
abbrev pub equation : Place → Op → List ℕ → ValueType → Equation
equation p o args of = record { op = o; args = args; of = of; place = p; name = None }

abbrev pub strict_lift : Place → BodyTree → List ℕ → ValueType → Equation
strict_lift p f args of = equation p (op.Lift f true) args of

abbrev pub literal_over : Place → Scalar → ℕ → Equation
literal_over p s a = strict_lift p (body.Literal s) (a ∷ []) (value_type.Scalar (type_of s))

-- ---- operands to lift: each gets the current value where one of them has an event
-- the latest event of a where the trigger has one, and the merge of a with that, which is made next
abbrev pub held : Place → ℕ → ℕ → Stream → List Equation
held p n trigger a = equation p op.Last (a.id ∷ trigger ∷ []) a.of ∷ equation p op.Merge (a.id ∷ n ∷ []) a.of ∷ []

abbrev pub held_each : Place → ℕ → ℕ → List Stream → List Equation
held_each p n trigger [] = []
held_each p n trigger (a ∷ rest) = held p n trigger a ++ held_each p (n + 2) trigger rest

abbrev pub merges : ℕ → List Stream → List Stream
merges n [] = []
merges n (a ∷ rest) = record { id = n + 1; of = a.of } ∷ merges (n + 2) rest

-- one operand needs nothing, two are each other's triggers, and of more the trigger is an event of any
abbrev pub lifting : Place → ℕ → List Stream → List Equation
lifting p n [] = []
lifting p n (a ∷ []) = []
lifting p n (a ∷ b ∷ []) = held p n b.id a ++ held p (n + 2) a.id b
lifting p n (a ∷ b ∷ c ∷ rest) = equation p op.Any (numbers (a ∷ b ∷ c ∷ rest)) unit_type ∷ held_each p (n + 1) n (a ∷ b ∷ c ∷ rest)

abbrev pub lifted_streams : ℕ → List Stream → List Stream
lifted_streams n [] = []
lifted_streams n (a ∷ []) = a ∷ []
lifted_streams n (a ∷ b ∷ []) = merges n (a ∷ b ∷ [])
lifted_streams n (a ∷ b ∷ c ∷ rest) = merges (n + 1) (a ∷ b ∷ c ∷ rest)

-- ---- operands of which some are literals: after the lifting a literal becomes an equation over the first lifted operand
abbrev pub literal_equations : Place → ℕ → List Operand → List Equation
literal_equations p first [] = []
literal_equations p first (Fixed s ∷ os) = literal_over p s first ∷ literal_equations p first os
literal_equations p first (Varying ∷ os) = literal_equations p first os

-- the numbers of the operands, where the next literal gets number n
abbrev pub operand_numbers : ℕ → List Operand → List ℕ → List ℕ
operand_numbers n [] bs = []
operand_numbers n (Fixed s ∷ os) bs = n ∷ operand_numbers (suc n) os bs
operand_numbers n (Varying ∷ os) [] = []
operand_numbers n (Varying ∷ os) (a ∷ rest) = a ∷ operand_numbers n os rest

abbrev pub first_number : List Stream → ℕ
first_number [] = 0
first_number (a ∷ rest) = a.id

-- an operation on all operands where each has a value
abbrev pub with_literals : Place → Op → ValueType → ℕ → List Operand → List Stream → List Equation
with_literals p o of n os parts =
    let lift : List Equation = lifting p n parts in
    let up : List Stream = lifted_streams n parts in
    lift ++ literal_equations p (first_number up) os ++ equation p o (operand_numbers (n + length lift) os (numbers up)) of ∷ []

-- ---- the equations of a construct of this type at this place, where the next equation gets number n
abbrev pub own_equations : Place → ValueType → ℕ → Construct → List Stream → List Equation
own_equations p of n construct.Nil [] = equation p op.Nil [] of ∷ []
own_equations p of n construct.Unit [] = equation p op.Unit [] unit_type ∷ []
own_equations p of n (construct.Literal s) [] = equation p op.Unit [] unit_type ∷ literal_over p s n ∷ []
own_equations p of n (construct.Empty t) [] = equation p op.Empty [] t ∷ []
own_equations p of n construct.Time (a ∷ []) = equation p op.Time (a.id ∷ []) int_type ∷ []
own_equations p of n construct.Last (v ∷ r ∷ []) = equation p op.Last (v.id ∷ r.id ∷ []) v.of ∷ []
own_equations p of n construct.Delay (d ∷ r ∷ x ∷ []) = equation p op.Delay (d.id ∷ r.id ∷ []) unit_type ∷ []
own_equations p of n construct.Merge (a ∷ b ∷ []) = equation p op.Merge (a.id ∷ b.id ∷ []) a.of ∷ []
own_equations p of n (construct.Const s) (a ∷ []) = literal_over p s a.id ∷ []
own_equations p of n construct.Filter (e ∷ c ∷ []) = held p n e.id c ++ equation p op.Filter (e.id ∷ (n + 1) ∷ []) e.of ∷ []
own_equations p of n (construct.FilterBy b) (e ∷ []) = literal_over p (scalar.Bool b) e.id ∷ equation p op.Filter (e.id ∷ n ∷ []) e.of ∷ []
own_equations p of n (construct.Lift f) parts = equation p (op.Lift f false) (numbers parts) of ∷ []
own_equations p of n (construct.Signal f) [] = equation p op.Unit [] unit_type ∷ strict_lift p f (n ∷ []) of ∷ []
own_equations p of n (construct.Signal f) (a ∷ parts) =
    lifting p n (a ∷ parts) ++ strict_lift p f (numbers (lifted_streams n (a ∷ parts))) of ∷ []
own_equations p of n (construct.Update o os) parts = with_literals p (operation_of o) of n os parts
own_equations p of n c parts = []

-- a choice between two aggregates, by a condition that may be a literal
abbrev pub choice_equations : Place → ValueType → ℕ → List Operand → List Stream → List Equation
choice_equations p of n os parts = with_literals p op.Pick of n os parts

abbrev pub choice : List BodyTree → BodyTree
choice (c ∷ a ∷ b ∷ []) = body.Choice c a b
choice ts = body.Argument 0

-- a name as a definition: the merge of its stream with itself
abbrev pub alias_equation : Place → Stream → Equation
alias_equation p a = equation p op.Merge (a.id ∷ a.id ∷ []) a.of
