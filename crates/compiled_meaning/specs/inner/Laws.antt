-- Laws of compiled specifications.
use Rattle.std.specs.Prelude.{◌≡◌, ◌≢◌, ◌⊎◌, ℕ, List, ◌++◌, Option, Some, slice_get}
use Rattle.std.specs.List.{AllByRecursion}
use Rattle.lift_func.specs.declared.fault.FaultKind.{FaultKind}
use Rattle.flat_core.specs.declared.equation.Equation.{Equation}
use Rattle.flat_core.specs.declared.equation.Op.TheVariants as op
use Rattle.flat_core.specs.Case.{Streams}
use Rattle.flat_core.specs.Events.{Inputs}
use Rattle.flat_core.specs.Ending.{EndsInFault, EndsAtLimit, EndsAtBound}
use Rattle.flat_core.specs.Line.{Line, inputs_of}
use Rattle.flat_core.specs.Solution.{Solves}
use Rattle.flat_core.specs.Stream.{Outcome}
use Rattle.flat_core.specs.System.{System, equation}
use Rattle.flat_core.specs.Text.{due_text}
use Rattle.flat_core.specs.inner.TypedLines.{AreTypedLines}
use Rattle.syntax_tree.specs.Tree as tree
use Rattle.tsl_value.specs.declared.place.Place.{Place}
use Rattle.spec_meaning.specs.Due.{IsFaulty, IsDueText}
use Rattle.spec_meaning.specs.Happens.{Happens, IsNeeded}
use Rattle.spec_meaning.specs.Occurrence.{Occurrence}
use Rattle.spec_meaning.specs.Shape.{input_number}
use Rattle.source_rules.specs.declared.fault.SpecFault.{SpecFault}
use Rattle.compiled_meaning.specs.Compiled.{Compiles, IsRefusedBy}
use Rattle.spec_meaning.specs.Inputs.{declared_inputs}
use Rattle.compiled_meaning.specs.inner.Ready.{IsReady}
use Rattle.compiled_meaning.specs.Meant.{FaultTimeIsMeant, QuietIsMeant, LimitIsMeant, IsFaultNamed}

-- a source is one specification at most, and one system at most is run for it
abbrev pub OneIsCompiled : Type 0
OneIsCompiled =
    (source : List ℕ) (items others : List tree.Item) (u v : System)
    → Compiles source items u
    → Compiles source others v
    → (items ≡ others) × (u ≡ v)

-- for a source that is refused none is
abbrev pub RefusedCompilesNone : Type 0
RefusedCompilesNone =
    (source : List ℕ) (e : SpecFault) (items : List tree.Item) (u : System)
    → IsRefusedBy source e
    → ¬ (Compiles source items u)

-- what is compiled is ready to run, whoever compiled it
abbrev pub CompiledIsReady : Type 0
CompiledIsReady = (source : List ℕ) (items : List tree.Item) (u : System) → Compiles source items u → IsReady u

-- The inputs of the system that is run are those that the items declare, under the same numbers: no other equation is an input.
pub record HasDeclaredInputs (items : List tree.Item) (u : System) : Type 0 where
  pub others : List Equation
  pub equations_are : u.equations ≡ declared_inputs items ++ others
  pub no_inputs : AllByRecursion (λ e. e.op ≢ op.Input) others

abbrev pub InputsAreDeclared : Type 0
InputsAreDeclared = (source : List ℕ) (items : List tree.Item) (u : System) → Compiles source items u → HasDeclaredInputs items u

-- The input that an item declares stands at the number by which the meaning knows it.
pub record StandsAtItsNumber (items : List tree.Item) (i : ℕ) (name : List ℕ) : Type 0 where
  pub at : Equation
  pub is : slice_get (declared_inputs items) (input_number items i) ≡ Some at
  pub name_is : at.name ≡ Some name

abbrev pub InputsStandAtTheirNumbers : Type 0
InputsStandAtTheirNumbers =
    (items : List tree.Item) (i : ℕ) (p q : Place) (name : List ℕ) (y : tree.TypeName)
    → slice_get items i ≡ Some (tree.Input p q name y)
    → StandsAtItsNumber items i name

-- What streams of the system that is run say of a trace, the specification says: the text that is due, and how a run stands.
pub record SaysWhatIsMeant (items : List tree.Item) (u : System) (lines : List Line) (bound limit : ℕ) (z : Streams) : Type 0 where
  pub text : IsDueText items lines bound limit (due_text u lines z bound limit)
  pub quiet : EndsAtBound u lines z bound limit → QuietIsMeant items lines bound limit
  pub fault : (t i : ℕ) (kind : FaultKind) → EndsInFault u lines z bound limit t i kind → FaultTimeIsMeant items lines bound limit t
  pub named : (t i : ℕ) (kind : FaultKind) (e : Equation)
      → equation u i ≡ Some e
      → EndsInFault u lines z bound limit t i kind
      → IsFaultNamed u lines bound t e.place kind
  pub limited : (t : ℕ) → EndsAtLimit u lines z bound limit t → LimitIsMeant items lines bound limit t

-- for lines whose events are of their inputs' types
abbrev pub CompiledSaysWhatIsMeant : Type 0
CompiledSaysWhatIsMeant =
    (source : List ℕ) (items : List tree.Item) (u : System) (lines : List Line) (bound limit : ℕ) (z : Streams)
    → Compiles source items u
    → AreTypedLines u lines
    → Solves u (inputs_of lines) bound z
    → SaysWhatIsMeant items u lines bound limit z

-- at an occurrence at a time one thing happens, and nothing else
pub record OneHappens (items : List tree.Item) (inputs : Inputs) (o : Occurrence) (t : ℕ) : Type 0 where
  pub outcome : Option Outcome
  pub happens : Happens items inputs o t outcome
  pub only : (x : Option Outcome) → Happens items inputs o t x → x ≡ outcome

-- Of a source that is compiled this holds of each occurrence that is needed, at each time and for all lines of a trace. So the definitions
-- of what is meant leave nothing open there, and it is decided whether a time has a root fault.
abbrev pub SomethingHappens : Type 0
SomethingHappens =
    (source : List ℕ) (items : List tree.Item) (u : System) (lines : List Line) (o : Occurrence) (t : ℕ)
    → Compiles source items u
    → IsNeeded items o
    → OneHappens items (inputs_of lines) o t

abbrev pub FaultsAreDecided : Type 0
FaultsAreDecided =
    (source : List ℕ) (items : List tree.Item) (u : System) (lines : List Line) (t : ℕ)
    → Compiles source items u
    → IsFaulty items lines t ⊎ ¬ (IsFaulty items lines t)
