-- What a system has when it is whole.
use Rattle.std.specs.Prelude.{◌≡◌, ◌<◌, ◌≤◌, ◌^◌, List, [], ◌∷◌, length}
use Rattle.std.specs.List.{AllByRecursion}
use Rattle.std.specs.List.Sorted.{IsStrictlyIncreasing}
use Rattle.tsl_value.specs.declared.scalar.Scalar.{Scalar}
use Rattle.tsl_value.specs.declared.scalar.Scalar.TheVariants as scalar
use Rattle.tsl_value.specs.declared.limits.TheConstants.{MOST_TEXT_BYTES}
use Rattle.lift_func.specs.BodyTree.{BodyTree, Literal, Argument, Absent, One, Two, Choice}
use Rattle.flat_core.specs.declared.equation.Op.{Op}
use Rattle.flat_core.specs.declared.equation.Op.TheVariants as op
use Rattle.flat_core.specs.declared.equation.Output.{Output}
use Rattle.flat_core.specs.System.{System, OutputsRun, IsProper}
use Rattle.flat_core.specs.TypedSystem.{IsTypedSystem}
use Rattle.flat_core.specs.declared.limits.TheConstants.{MOST_EQUATIONS}

-- a text has at most 65,536 bytes
abbrev pub IsShort : Scalar → Type 0
IsShort (scalar.Text bytes) = length bytes ≤ MOST_TEXT_BYTES
IsShort _ = Unit {0}

-- each text of a body has
abbrev pub HasShortTexts : BodyTree → Type 0
HasShortTexts (Literal s) = IsShort s
HasShortTexts (Argument n) = Unit {0}
HasShortTexts (Absent t) = Unit {0}
HasShortTexts (One o a) = HasShortTexts a
HasShortTexts (Two o a b) = HasShortTexts a × HasShortTexts b
HasShortTexts (Choice c a b) = HasShortTexts c × HasShortTexts a × HasShortTexts b

abbrev pub HasShortBody : Op → Type 0
HasShortBody (op.Lift body strict) = HasShortTexts body
HasShortBody _ = Unit {0}

-- no two outputs have one name
abbrev pub HaveDifferentNames : List Output → Type 0
HaveDifferentNames [] = Unit {0}
HaveDifferentNames (o ∷ outputs) = AllByRecursion (λ p. ¬ (p.name ≡ o.name)) outputs × HaveDifferentNames outputs

-- arity and types, an output, outputs of equations that are there under different names, and short texts
pub record IsComplete (s : System) : Type 0 where
  pub typed : IsTypedSystem s
  pub some_output : 0 < length s.outputs
  pub outputs_there : AllByRecursion (λ o. o.equation < length s.equations) s.outputs
  pub names_differ : HaveDifferentNames s.outputs
  pub short_texts : AllByRecursion (λ e. HasShortBody e.op) s.equations

-- what every `Flat` has: the equations of the outputs run, and with each its arguments, in ascending order
pub record IsFlat (s : System) : Type 0 where
  pub complete : IsComplete s
  pub few_equations : length s.equations ≤ MOST_EQUATIONS
  pub few_outputs : length s.outputs ≤ 2 ^ 31
  pub ascending : IsStrictlyIncreasing s.running
  pub outputs_run : OutputsRun s
  pub proper : IsProper s
