-- Which code has a spelling, and what of code is spelled.
use Rattle.std.specs.Prelude.{◌≡◌, ◌<◌, ◌≤◌, ◌^◌, ◌||◌, ℕ, Bool, if◌then◌else◌, List, [], length, map, Option, Some, None, IfSome}
use Rattle.std.specs.Prelude.{IsTrue}
use Rattle.std.specs.List.{AllByRecursion}
use Rattle.std.specs.List.Sorted.{IsStrictlyIncreasing}
use Rattle.tsl_value.specs.declared.place.Place.{Place}
use Rattle.tsl_value.specs.inner.Laws.{IsInBounds}
use Rattle.spec_lexer.specs.declared.limits.TheConstants.{MOST_NAME_BYTES}
use Rattle.lift_func.specs.declared.limits.TheConstants.{MOST_NODES}
use Rattle.lift_func.specs.BodyTree.{BodyTree, Literal, Argument, Absent, One, Two, Choice, node_count}
use Rattle.flat_core.specs.declared.equation.Equation.{Equation}
use Rattle.flat_core.specs.declared.equation.Op.{Op}
use Rattle.flat_core.specs.declared.equation.Op.TheVariants as op
use Rattle.flat_core.specs.declared.limits.TheConstants.{MOST_EQUATIONS}
use Rattle.flat_core.specs.Complete.{HaveDifferentNames}
use Rattle.flat_core.specs.System.{System, OutputsRun, equation, numbers, runs}
use Rattle.flat_core.specs.Typed.{unit_type}
use Rattle.flat_core.specs.Updates.{is_running_update, running_updates}
use Rattle.alias_rules.specs.Steps.{is_step}
use Rattle.stream_constructs.specs.declared.limits.TheConstants.{MOST_UPDATES}
use Rattle.trace_reader.specs.Reading.{is_input}
use Rattle.trace_reader.specs.inner.Spelling.{SpellsName}
use Rattle.register_code.specs.Code.{Code}
use Rattle.code_file.specs.declared.fault.CodeFault.{CodeFault}
use Rattle.code_file.specs.declared.fault.CodeFault.TheVariants as fault
use Rattle.code_file.specs.declared.limits.TheConstants.{MOST_CODE_BYTES}

-- ---- what of code is spelled

-- what stands for an equation that does not run
abbrev pub nothing : Equation
nothing = record { op = op.Nil; args = []; of = unit_type; place = record { line = 1; column = 1 }; name = None }

-- an equation is spelled where it runs or is an input
abbrev pub is_spelled : Bool → Op → Bool
is_spelled runs o = runs || is_input o

abbrev pub bare_equation : Bool → Equation → Equation
bare_equation runs e = if is_spelled runs e.op then e else nothing

abbrev pub bare_in : Bool → Option Equation → Equation
bare_in runs None = nothing
bare_in runs (Some e) = bare_equation runs e

-- the system, with nothing in place of each equation that is not spelled
abbrev pub bare_system : System → System
bare_system s = record s { equations = map (λ i. bare_in (runs s i) (equation s i)) (numbers s) }

abbrev pub bare : Code → Code
bare c = record c { system = bare_system c.system }

-- ---- which names are spelled

-- a name of the language, of at most 255 bytes
abbrev pub IsName : List ℕ → Type 0
IsName name = SpellsName name × (length name ≤ MOST_NAME_BYTES)

module _ (s : System) where
  pub record IsSpelled (i : ℕ) (e : Equation) : Type 0 where
    pub is : equation s i ≡ Some e
    pub spelled : IsTrue (is_spelled (runs s i) e.op)

  pub record IsInput (i : ℕ) (e : Equation) : Type 0 where
    pub is : equation s i ≡ Some e
    pub input : IsTrue (is_input e.op)

  -- The code of a system has a spelling where its names are names of the language, all inputs have one, no two inputs have the same, and
  -- no more than 256 updates run. All else that a spelling asks for each code has.
  pub record HasSpelling : Type 0 where
    pub named : (i : ℕ) (e : Equation) → IsSpelled i e → IfSome e.name IsName
    pub inputs_named : (i : ℕ) (e : Equation) → IsInput i e → (name : List ℕ) × (e.name ≡ Some name)
    pub inputs_differ : (i j : ℕ) (e f : Equation) → IsInput i e → IsInput j f → e.name ≡ f.name → i ≡ j
    pub outputs_named : AllByRecursion (λ o. IsName o.name) s.outputs
    pub few_updates : length (running_updates s) ≤ MOST_UPDATES

-- ---- what bytes spell by their form

-- the numbers of a body have four bytes, and its scalars are some that a run can have
abbrev pub IsBodyForm : BodyTree → Type 0
IsBodyForm (Literal s) = IsInBounds s
IsBodyForm (Argument n) = n < 2 ^ 32
IsBodyForm (Absent t) = Unit {0}
IsBodyForm (One o a) = IsBodyForm a
IsBodyForm (Two o a b) = IsBodyForm a × IsBodyForm b
IsBodyForm (Choice c a b) = IsBodyForm c × IsBodyForm a × IsBodyForm b

abbrev pub IsOpForm : Op → Type 0
IsOpForm (op.Lift body strict) = IsBodyForm body × (node_count body ≤ MOST_NODES)
IsOpForm _ = Unit {0}

abbrev pub IsPlaceForm : Place → Type 0
IsPlaceForm p = (p.line < 2 ^ 32) × (p.column < 2 ^ 32)

-- the numbers of an equation have four bytes
pub record IsEquationForm (e : Equation) : Type 0 where
  pub place : IsPlaceForm e.place
  pub few_args : length e.args < 2 ^ 32
  pub args : AllByRecursion (λ a. a < 2 ^ 32) e.args
  pub operation : IsOpForm e.op

-- Code that bytes can spell, whether its equations have the types that they should and its plan is fine or not.
pub record IsForm (c : Code) : Type 0 where
  pub few_equations : length c.system.equations ≤ MOST_EQUATIONS
  pub running : IsStrictlyIncreasing c.system.running
  pub running_there : AllByRecursion (λ i. i < length c.system.equations) c.system.running
  pub equations : (i : ℕ) (e : Equation) → IsSpelled c.system i e → IsEquationForm e
  pub spelled : HasSpelling c.system
  pub some_output : 0 < length c.system.outputs
  pub few_outputs : length c.system.outputs ≤ 2 ^ 31
  pub names_differ : HaveDifferentNames c.system.outputs
  pub outputs_run : OutputsRun c.system
  pub ascending : IsStrictlyIncreasing c.in_place
  pub updates : AllByRecursion (λ i. IsTrue (is_running_update c.system i)) c.in_place
  pub steps : AllByRecursion (λ x. IsTrue (is_step c.system x)) c.order
  pub few_steps : length c.order < 2 ^ 32

-- why code is not written: its spelling is too long, or out of memory
abbrev pub IsWriteFault : List ℕ → CodeFault → Type 0
IsWriteFault bytes fault.TooLong = MOST_CODE_BYTES < length bytes
IsWriteFault bytes fault.Memory = Unit {0}
IsWriteFault bytes _ = ⊥
