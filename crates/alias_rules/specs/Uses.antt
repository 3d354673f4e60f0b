-- Which equations take the content of an aggregate, and how. An argument of another kind, or at another place, only says whether there
-- is an event.
use Rattle.std.specs.Prelude.{◌≡◌, ℕ, if◌then◌else◌, List, [], ◌∷◌, drop, Some, IsTrue, slice_get}
use Rattle.std.specs.List.{Contains}
use Rattle.flat_core.specs.declared.equation.Equation.{Equation}
use Rattle.flat_core.specs.declared.equation.Output.{Output}
use Rattle.flat_core.specs.declared.equation.Op.{Op}
use Rattle.flat_core.specs.declared.equation.Op.TheVariants as op
use Rattle.flat_core.specs.Members.{is_in}
use Rattle.flat_core.specs.System.{System, runs, equation}
use Rattle.flat_core.specs.Updates.{is_update, is_running_update}
use Rattle.tsl_value.specs.Aggregate.{is_aggregate}

abbrev pub first_of : List ℕ → List ℕ
first_of [] = []
first_of (a ∷ args) = a ∷ []

-- The arguments whose content an operation reads, passes on, takes as last value, and writes.
abbrev pub read_of : Op → List ℕ → List ℕ
read_of (op.Lift body strict) args = args
read_of _ args = []

abbrev pub passed_of : Op → List ℕ → List ℕ
passed_of op.Merge args = args
passed_of op.Filter args = first_of args
passed_of op.Pick args = drop 1 args
passed_of _ args = []

abbrev pub last_of : Op → List ℕ → List ℕ
last_of op.Last args = first_of args
last_of _ args = []

abbrev pub written_of : Op → List ℕ → List ℕ
written_of o args = if is_update o then first_of args else []

module _ (s : System) where
  -- x is an aggregate variable: it runs and has an aggregate
  pub record IsVariable (x : ℕ) : Type 0 where
    pub at : Equation
    pub is : equation s x ≡ Some at
    pub running : IsTrue (runs s x)
    pub aggregate : IsTrue (is_aggregate at.of)

  -- equation i runs, and takes the content of x as one of these arguments
  pub record Takes (arguments_of : Op → List ℕ → List ℕ) (x i : ℕ) : Type 0 where
    pub variable : IsVariable x
    pub at : Equation
    pub is : equation s i ≡ Some at
    pub running : IsTrue (runs s i)
    pub argument : Contains (arguments_of at.op at.args) x

  -- the content of x is read, passed on, taken as last value, or written by equation i
  abbrev pub IsRead : ℕ → ℕ → Type 0
  IsRead = Takes read_of

  abbrev pub IsPassed : ℕ → ℕ → Type 0
  IsPassed = Takes passed_of

  abbrev pub IsLast : ℕ → ℕ → Type 0
  IsLast = Takes last_of

  abbrev pub IsWritten : ℕ → ℕ → Type 0
  IsWritten = Takes written_of

  -- output k prints x
  pub record IsPrinted (x k : ℕ) : Type 0 where
    pub output : Output
    pub is : slice_get s.outputs k ≡ Some output
    pub of : x ≡ output.equation

  -- x is a stored variable: some last takes its content
  pub record IsStored (x : ℕ) : Type 0 where
    pub last : ℕ
    pub taken : IsLast x last

  -- y is an update that runs
  abbrev pub IsUpdate : ℕ → Type 0
  IsUpdate y = IsTrue (is_running_update s y)

  -- a list of such updates, as a set of them is seen
  abbrev pub AreUpdates : List ℕ → Type 0
  AreUpdates set = (y : ℕ) → IsTrue (is_in set y) → IsUpdate y
