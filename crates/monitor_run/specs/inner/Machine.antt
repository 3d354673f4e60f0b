-- What an instant works on.
use Rattle.std.specs.Prelude.{◌≡◌, ℕ, ◌≤◌, false, List, [], ◌∷◌, Option, Some, None, length, IsTrue}
use Rattle.std.specs.Prelude.{drop, take}
use Rattle.std.specs.Vec.{with_items}
use Rattle.body_eval.specs.declared.register.Register.TheVariants as register
use Rattle.flat_core.specs.declared.equation.Equation.{Equation}
use Rattle.flat_core.specs.declared.equation.Op.{Op}
use Rattle.flat_core.specs.System.{System, equation, runs}
use Rattle.monitor_run.specs.inner.Here.{is_given_op, is_marked}
use Rattle.monitor_run.specs.inner.Registers.{register_at}
use Rattle.monitor_run.specs.declared.machine.Machine.{Machine}

-- there is a register, a mark, a number of the ledger and a timer for each equation, and a text for each output
pub record HasRoom (s : System) (m : Machine) : Type 0 where
  pub registers : length m.registers.items ≡ length s.equations
  pub faulted : length m.faulted.items ≡ length s.equations
  pub ledger : length m.store.ledger ≡ length s.equations
  pub capacity : m.timers.capacity ≡ length s.equations
  pub last : length m.last.items ≡ length s.equations
  pub texts : length m.texts.items ≡ length s.outputs

-- equation i has not run: its register is empty, unless it has its event from the beginning, and it is no fault
pub record IsFresh (m : Machine) (i : ℕ) (o : Op) : Type 0 where
  pub unmarked : is_marked m.faulted.items i ≡ false
  pub empty : is_given_op o ≡ false → register_at m.registers.items i ≡ register.Empty

pub record AreFresh (s : System) (m : Machine) : Type 0 where
  pub each : (i : ℕ) (e : Equation) → IsTrue (runs s i) → equation s i ≡ Some e → IsFresh m i e.op

-- no equation that runs is marked as a fault
abbrev pub AreUnmarked : System → Machine → Type 0
AreUnmarked s m = (i : ℕ) → IsTrue (runs s i) → is_marked m.faulted.items i ≡ false

-- ---- where lines are printed

-- Where there is one output, its line is printed at once into what is to be written, after what stood there: `Some` is the length of that.
-- Else each output has a text, and all are appended at the end.
abbrev pub front_of : Option ℕ → List ℕ → List ℕ
front_of None out = out
front_of (Some start) out = take start out

abbrev pub texts_with : Option ℕ → List ℕ → List (List ℕ) → List (List ℕ)
texts_with None out texts = texts
texts_with (Some start) out texts = drop start out ∷ []

abbrev pub CanPrint : Option ℕ → List ℕ → List (List ℕ) → Type 0
CanPrint None out texts = Unit {0}
CanPrint (Some start) out texts = (length texts ≡ 1) × (start ≤ length out)

-- What the code has, with what was printed at once in the place of its text.
abbrev pub printed_to : Option ℕ → List ℕ → Machine → Machine
printed_to at_once out m = record m { texts = with_items m.texts (texts_with at_once out m.texts.items) }
