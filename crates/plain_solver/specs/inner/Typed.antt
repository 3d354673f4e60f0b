-- Values of the equations' types.
use Rattle.std.specs.Prelude.{◌≡◌, ℕ, List, map, Option, Some, IsTrue}
use Rattle.tsl_value.specs.declared.scalar.ValueType.{ValueType}
use Rattle.tsl_value.specs.View.{View, is_of}
use Rattle.flat_core.specs.declared.equation.Equation.{Equation}
use Rattle.flat_core.specs.declared.equation.Op.{Op}
use Rattle.flat_core.specs.Case.{Streams}
use Rattle.flat_core.specs.Stream.{event}
use Rattle.flat_core.specs.System.{System, equation}
use Rattle.flat_core.specs.Typed.{IsTyped}
use Rattle.flat_core.specs.inner.Arity.{HasArity}
use Rattle.flat_core.specs.inner.TypedEvents.{AreOf}

-- each event of each stream is of its equation's type
pub record AreTyped (s : System) (z : Streams) : Type 0 where
  pub each : (i : ℕ) (e : Equation) → equation s i ≡ Some e → (t : ℕ) (v : View) → event (z i t) ≡ Some v → IsTrue (is_of e.of v)

-- the events of an equation's arguments at a time are of types that its operation takes
pub record TakesTyped (z : Streams) (e : Equation) (t : ℕ) : Type 0 where
  pub types : List ValueType
  pub typed : IsTyped e.op types e.of
  pub values : AreOf types (map (λ a. event (z a t)) e.args)

-- as many values as the operation has arguments
abbrev pub HasPlaces : Op → List (Option View) → Type 0
HasPlaces o values = HasArity o (map (λ v. 0) values)

-- the values, each of which may be absent, are of types that an equation's operation takes
pub record TakesValues (e : Equation) (values : List (Option View)) : Type 0 where
  pub types : List ValueType
  pub typed : IsTyped e.op types e.of
  pub fit : AreOf types values
