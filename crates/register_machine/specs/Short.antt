-- Texts stay short: what the register machine keeps has texts of at most 65,536 bytes, as long as what it is given has.
use Rattle.std.specs.Prelude.{◌≡◌, ℕ, List, Option, Some, None, Ok, Err, IsTrue}
use Rattle.std.specs.List.{AllByRecursion}
use Rattle.std.specs.FinSet as set
use Rattle.std.specs.FinMap as finite_map
use Rattle.tsl_value.specs.declared.scalar.Scalar.{Scalar}
use Rattle.tsl_value.specs.declared.scalar.ValueType.{ValueType}
use Rattle.tsl_value.specs.View.{View, Plain, Keyed, Mapped, Listed}
use Rattle.lift_func.specs.Apply.{Answer}
use Rattle.flat_core.specs.declared.equation.Op.{Op}
use Rattle.flat_core.specs.Complete.{HasShortBody, IsFlat, IsShort}
use Rattle.flat_core.specs.Events.{Inputs, at_once}
use Rattle.flat_core.specs.System.{System}
use Rattle.register_machine.specs.Machine.{Bare}
use Rattle.register_machine.specs.Run.{Plan, State, Instant}

-- each text of a value has at most 65,536 bytes: the value itself, its keys, what stands at them, its elements
abbrev pub IsShortView : View → Type 0
IsShortView (Plain s) = IsShort s
IsShortView (Keyed keys) = (k : Scalar) → IsTrue (set.contains keys k) → IsShort k
IsShortView (Mapped m) = (k x : Scalar) → finite_map.get m k ≡ Some x → IsShort k × IsShort x
IsShortView (Listed xs) = AllByRecursion IsShort xs

abbrev pub IsShortValue : Option View → Type 0
IsShortValue None = Unit {0}
IsShortValue (Some v) = IsShortView v

abbrev pub IsShortAnswer : Answer → Type 0
IsShortAnswer (Ok v) = IsShortValue v
IsShortAnswer (Err kind) = Unit {0}

-- texts that are kept between two instants
pub record IsShortState (a : State) : Type 0 where
  pub lasts : (v : ℕ) (value : Scalar) → a.lasts v ≡ Some (Bare value) → IsShort value
  pub cells : (h : ℕ) (v : View) → finite_map.get a.cells h ≡ Some v → IsShortView v

-- ---- laws

-- what an operation with short literals makes of short values is short
abbrev pub OperationsKeepShort : Type 0
OperationsKeepShort =
    (o : Op) (of : ValueType) (values : List (Option View)) (t : ℕ)
    → HasShortBody o
    → AllByRecursion IsShortValue values
    → IsShortAnswer (at_once o of values t)

-- and so is what an instant with short inputs leaves
abbrev pub InstantsKeepShort : Type 0
InstantsKeepShort =
    (s : System) (plan : Plan) (inputs : Inputs) (t : ℕ) (a b : State)
    → IsFlat s
    → ((i : ℕ) → IsShortValue (inputs i t))
    → IsShortState a
    → Instant s plan inputs t a b
    → IsShortState b
