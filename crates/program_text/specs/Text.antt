-- The printed form of a flat system.
use Rattle.std.specs.Prelude.{ℕ, true, false, List, [], ◌∷◌, ◌++◌, Option, Some, None, codes}
use Rattle.std.specs.Fmt.{decimal}
use Rattle.std.specs.List.{filter, flat_map}
use Rattle.tsl_value.specs.Print.{listed, scalar_text, type_text}
use Rattle.tsl_value.specs.declared.scalar.ValueType.{ValueType}
use Rattle.tsl_value.specs.Operation.{unary_name, binary_name}
use Rattle.lift_func.specs.BodyTree.{BodyTree, Literal, Argument, Absent, One, Two, Choice}
use Rattle.flat_core.specs.declared.equation.Op.{Op}
use Rattle.flat_core.specs.declared.equation.Op.TheVariants as op
use Rattle.flat_core.specs.declared.equation.Equation.{Equation}
use Rattle.flat_core.specs.declared.equation.Output.{Output}
use Rattle.flat_core.specs.System.{System, equation, runs, numbers}

-- an operation of some parts: its name, and the parts in parentheses with a comma and a blank between them
abbrev pub applied_text : List ℕ → List (List ℕ) → List ℕ
applied_text name parts = name ++ (codes "(" ++ (listed parts ++ codes ")"))

-- a body: a literal, an argument as `$` and its number, an operation's name alone where it has no part, or an operation of its parts
abbrev pub body_text : BodyTree → List ℕ
body_text (Literal s) = scalar_text s
body_text (Argument n) = codes "$" ++ decimal n
body_text (Absent t) = codes "none"
body_text (One o a) = applied_text (unary_name o) (body_text a ∷ [])
body_text (Two o a b) = applied_text (binary_name o) (body_text a ∷ body_text b ∷ [])
body_text (Choice c a b) = applied_text (codes "if") (body_text c ∷ body_text a ∷ body_text b ∷ [])

abbrev pub op_name : Op → List ℕ
op_name op.Input = codes "Input"
op_name op.Nil = codes "Nil"
op_name op.Unit = codes "Unit"
op_name (op.Lift body true) = codes "Lift"
op_name (op.Lift body false) = codes "OptLift"
op_name op.Any = codes "Any"
op_name op.Time = codes "Time"
op_name op.Last = codes "Last"
op_name op.Delay = codes "Delay"
op_name op.Merge = codes "Merge"
op_name op.Filter = codes "Filter"
op_name op.Pick = codes "Pick"
op_name op.Empty = codes "Empty"
op_name op.MapAdd = codes "MapAdd"
op_name op.MapRemove = codes "MapRemove"
op_name op.SetAdd = codes "SetAdd"
op_name op.SetRemove = codes "SetRemove"
op_name op.QueueAdd = codes "QueueAdd"
op_name op.QueueTake = codes "QueueTake"

-- what is written after the name of an operation: the type of an input, of no events and of an empty aggregate, and a lift's body
abbrev pub after_op_text : Op → ValueType → List ℕ
after_op_text op.Input t = codes " " ++ type_text t
after_op_text op.Nil t = codes " " ++ type_text t
after_op_text op.Empty t = codes " " ++ type_text t
after_op_text (op.Lift body strict) t = codes " " ++ body_text body
after_op_text o t = []

abbrev pub op_text : Op → ValueType → List ℕ
op_text o t = op_name o ++ after_op_text o t

-- an equation by its number
abbrev pub number_text : ℕ → List ℕ
number_text i = codes "%" ++ decimal i

-- what an equation is called: its name, or its number where it has none
abbrev pub name_or_number : ℕ → Option (List ℕ) → List ℕ
name_or_number i None = number_text i
name_or_number i (Some name) = name

abbrev pub label_at : ℕ → Option Equation → List ℕ
label_at i None = number_text i
label_at i (Some e) = name_or_number i e.name

abbrev pub label_text : System → ℕ → List ℕ
label_text s i = label_at i (equation s i)

-- a name with a blank after it, where there is one
abbrev pub name_text : Option (List ℕ) → List ℕ
name_text None = []
name_text (Some name) = name ++ codes " "

-- the arguments, each with a blank before it
abbrev pub args_text : List ℕ → List ℕ
args_text args = flat_map (λ a. codes " " ++ number_text a) args

-- an equation of this number, without the end of its line
abbrev pub text_of : ℕ → Equation → List ℕ
text_of i e = number_text i ++ (codes " " ++ (name_text e.name ++ (codes ":= " ++ (op_text e.op e.of ++ args_text e.args))))

abbrev pub text_at : ℕ → Option Equation → List ℕ
text_at i None = []
text_at i (Some e) = text_of i e

-- equation i without the end of its line, and its line
abbrev pub definition_text : System → ℕ → List ℕ
definition_text s i = text_at i (equation s i)

abbrev pub equation_line : System → ℕ → List ℕ
equation_line s i = definition_text s i ++ codes "\n"

-- the line of an output
abbrev pub output_line : Output → List ℕ
output_line o = codes "out " ++ (o.name ++ (codes " " ++ (number_text o.equation ++ codes "\n")))

-- the numbers of the equations that run, in order
abbrev pub running : System → List ℕ
running s = filter (runs s) (numbers s)

-- the lines of the running equations by number, and of the outputs
abbrev pub flat_text : System → List ℕ
flat_text s = flat_map (equation_line s) (running s) ++ flat_map output_line s.outputs
