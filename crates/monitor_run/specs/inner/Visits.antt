-- What an instant looks up, and what it has still to visit.
use Rattle.std.specs.Prelude.{◌≡◌, ℕ, ◌<◌, ◌≤◌, Bool, true, false, ◌||◌, ◌&&◌, List, [], length, IsTrue, IsFalse}
use Rattle.std.specs.Prelude.{nat_lt, not, slice_index, slice_index_or}
use Rattle.agenda.specs.inner.Marks.{has_mark}
use Rattle.body_eval.specs.declared.register.Register.{Register}
use Rattle.body_eval.specs.declared.register.Register.TheVariants as register
use Rattle.flat_core.specs.Members.{is_in}
use Rattle.flat_core.specs.System.{System}
use Rattle.flat_core.specs.Kept.{keeps_of, timers_of}
use Rattle.step_uses.specs.Uses.{is_of_delay, row, used_by}
use Rattle.monitor_run.specs.inner.Actions.{AreActions}
use Rattle.monitor_run.specs.inner.Here.{is_marked}
use Rattle.monitor_run.specs.inner.Registers.{register_at}
use Rattle.monitor_run.specs.declared.machine.Machine.{Machine}
use Rattle.monitor_run.specs.declared.tables.Tables.{Tables}
use Rattle.monitor_run.specs.declared.visits.Visits.{Visits}

-- ---- what is looked up

-- for each equation the places of the steps that use it at the same time
abbrev pub AreUses : System → List ℕ → List (List ℕ) → Type 0
AreUses s order rows = (a p : ℕ)
    → a < length s.equations
    → is_in (row rows a) p ≡ (nat_lt p (length order) && is_in (used_by s (slice_index order p)) a)

-- each place is one of so many
abbrev pub AreWithin : List (List ℕ) → ℕ → Type 0
AreWithin rows n = (a p : ℕ) → IsTrue (is_in (row rows a) p) → p < n

-- for each equation the delays that it is itself, or the amount or the second argument of
abbrev pub AreDelays : System → List (List ℕ) → Type 0
AreDelays s rows = (a d : ℕ) → a < length s.equations → is_in (row rows a) d ≡ (is_in (timers_of s) d && is_of_delay s d a)

-- for each equation whether it is kept
abbrev pub AreKept : System → List Bool → Type 0
AreKept s kept = (i : ℕ) → i < length s.equations → slice_index_or kept i false ≡ is_in (keeps_of s) i

pub record AreTables (s : System) (order : List ℕ) (t : Tables) : Type 0 where
  pub actions : AreActions s order t.actions.items
  pub uses : AreUses s order t.uses
  pub within : AreWithin t.uses (length order)
  pub delays : AreDelays s t.delays
  pub kept : AreKept s t.kept.items
  pub kept_each : length t.kept.items ≡ length s.equations

-- ---- what is still to be visited

-- there is a mark for each step and one for each output
pub record HasPlaces (s : System) (order : List ℕ) (v : Visits) : Type 0 where
  pub steps : length v.steps ≡ length order
  pub texts : length v.texts ≡ length s.outputs

-- the registers that are not listed are empty
pub record AreFilled (filled : List ℕ) (registers : List Register) : Type 0 where
  pub known : (i : ℕ) → IsTrue (is_in filled i) → i < length registers
  pub rest : (i : ℕ) → IsFalse (is_in filled i) → register_at registers i ≡ register.Empty

-- what uses a listed equation is marked
abbrev pub AreMarked : List (List ℕ) → List ℕ → List Bool → Type 0
AreMarked rows filled marks =
    (a p : ℕ) → IsTrue (is_in filled a) → IsTrue (is_in (row rows a) p) → IsTrue (has_mark marks p)

-- no step of these places has to run
abbrev pub AreSkipped : Bool → List Bool → ℕ → ℕ → Type 0
AreSkipped all marks from to = (q : ℕ) → from ≤ q → q < to → IsFalse all × IsFalse (has_mark marks q)

-- this place comes next, of so many and from one on
pub record IsNextPlace (all : Bool) (old new : List Bool) (from count p : ℕ) : Type 0 where
  pub low : from ≤ p
  pub within : p < count
  pub skipped : AreSkipped all old from p
  pub later : IsFalse all → (q : ℕ) → IsTrue (has_mark new q) → p < q
  pub left : (q : ℕ) → p < q → has_mark new q ≡ has_mark old q

abbrev pub is_empty : Register → Bool
is_empty register.Empty = true
is_empty _ = false

-- something has come of equation i: it has an event, or it is a fault
abbrev pub has_come : List Register → List Bool → ℕ → Bool
has_come registers faulted i = not (is_empty (register_at registers i)) || is_marked faulted i

-- only marked outputs have a text
abbrev pub AreUnprinted : List Bool → List (List ℕ) → Type 0
AreUnprinted marks texts = (k : ℕ) → IsFalse (has_mark marks k) → slice_index_or texts k [] ≡ []

-- ---- between instants

-- nothing of an earlier instant is left
pub record IsAtRest (m : Machine) : Type 0 where
  pub registers : (i : ℕ) → register_at m.registers.items i ≡ register.Empty
  pub texts : (k : ℕ) → slice_index_or m.texts.items k [] ≡ []
