-- Which states a monitor can go on from. Each of these conditions can be decided.
use Rattle.std.specs.Prelude.{◌≡◌, ℕ, ◌<◌, ◌≤◌, ◌^◌, List, [], ◌∷◌, map, length, Option, Some, None, IfSome, IsTrue, slice_get, slice_index}
use Rattle.std.specs.List.{AllByRecursion, AllZip, flat_map, range_with_len}
use Rattle.std.specs.List.Sorted.{IsStrictlyIncreasing}
use Rattle.std.specs.Option.{option_map}
use Rattle.tsl_value.specs.declared.scalar.ValueType.{ValueType}
use Rattle.tsl_value.specs.Aggregate.{is_aggregate}
use Rattle.tsl_value.specs.View.{Plain, is_of}
use Rattle.tsl_value.specs.inner.Laws.{IsInBounds}
use Rattle.aggregate_store.specs.declared.content.Content.{Content}
use Rattle.aggregate_store.specs.Content.{AllIn, AreInOrder, content_size, is_content_of}
use Rattle.flat_core.specs.Kept.{keeps_of, timers_of}
use Rattle.flat_core.specs.System.{System, equation}
use Rattle.flat_core.specs.Updates.{running_updates}
use Rattle.monitor_state.specs.declared.state.MonitorState.{MonitorState}
use Rattle.monitor_state.specs.declared.state.OpenEvent.{OpenEvent}
use Rattle.monitor_state.specs.declared.state.SavedRegister.{SavedRegister}
use Rattle.monitor_state.specs.declared.state.SavedRegister.TheVariants as saved
use Rattle.monitor_state.specs.Inputs.{IsInputOf}
use Rattle.monitor_state.specs.Firsts.{firsts}

-- the type of an equation
abbrev pub type_at : System → ℕ → Option ValueType
type_at s i = option_map (λ e. e.of) (equation s i)

-- the number of a cell that a register names
abbrev pub named_by : SavedRegister → List ℕ
named_by (saved.Cell k) = k ∷ []
named_by _ = []

-- what a register holds is of the type of its equation: a scalar that a run can have, or a cell with an aggregate
abbrev pub FitsCell : ValueType → Option Content → Type 0
FitsCell of None = ⊥
FitsCell of (Some c) = IsTrue (is_aggregate of) × IsTrue (is_content_of of c)

abbrev pub FitsType : List Content → ValueType → SavedRegister → Type 0
FitsType cells of saved.Empty = Unit {0}
FitsType cells of (saved.Scalar s) = IsTrue (is_of of (Plain s)) × IsInBounds s
FitsType cells of (saved.Cell k) = FitsCell of (slice_get cells k)

abbrev pub FitsRegister : System → List Content → ℕ → SavedRegister → Type 0
FitsRegister s cells v r = IfSome (type_at s v) (λ of. FitsType cells of r)

module _ (s : System) (st : MonitorState) where
  -- one number for each running update, one register for each equation that is kept, one time for each running delay
  pub record HasOneEach : Type 0 where
    pub updates : length st.ledger ≡ length (running_updates s)
    pub kept : length st.registers ≡ length (keeps_of s)
    pub delays : length st.pending ≡ length (timers_of s)

  -- numbers of 64 bits
  abbrev pub AreCounts : Type 0
  AreCounts = (st.instants < 2 ^ 64) × AllByRecursion (λ n. n < 2 ^ 64) st.ledger

  -- all times below the bound are closed, and events at it can be open only where it is a time
  pub record IsBound : Type 0 where
    pub in_time : st.bound ≤ 2 ^ 63
    pub open_in_time : 0 < length st.open_events → st.bound < 2 ^ 63

  -- an instant has run exactly where a time is closed, and no more than may
  pub record AreInstants (limit : ℕ) : Type 0 where
    pub within : st.instants ≤ limit
    pub none : st.bound ≡ 0 → st.instants ≡ 0
    pub some : 0 < st.bound → 0 < st.instants

  -- each open event is one of an input, of its type, and one that a trace can have; they stand by equation, so each input has one at most
  pub record AreOpen : Type 0 where
    pub inputs : AllByRecursion (λ (e : OpenEvent). IsInputOf s e.equation e.value × IsInBounds e.value) st.open_events
    pub by_equation : IsStrictlyIncreasing (map (λ e. e.equation) st.open_events)

  -- each register is of its equation's type
  abbrev pub AreTyped : Type 0
  AreTyped = AllZip (FitsRegister s st.cells) (keeps_of s) st.registers

  -- registers that name one cell are of one type
  abbrev pub ShareTypes : Type 0
  ShareTypes = (i j k : ℕ)
      → slice_get st.registers i ≡ Some (saved.Cell k)
      → slice_get st.registers j ≡ Some (saved.Cell k)
      → type_at s (slice_index (keeps_of s) i) ≡ type_at s (slice_index (keeps_of s) j)

  -- The cells that the registers name, each where it is named first, are all cells in their order. So a number is at most that of the
  -- different cells named before it, it is below the number of cells, and each cell is named.
  abbrev pub AreNumbered : Type 0
  AreNumbered = firsts (flat_map named_by st.registers) ≡ range_with_len 0 (length st.cells)

  -- keys stand in their order, what is in a cell is what a run can have, and its size is a number of 64 bits
  abbrev pub AreCells : Type 0
  AreCells = AllByRecursion (λ (c : Content). AreInOrder c × AllIn IsInBounds c × (content_size c < 2 ^ 64)) st.cells

  -- what is pending is due at the bound or later
  abbrev pub ArePending : Type 0
  ArePending = AllByRecursion (λ (p : Option ℕ). IfSome p (λ u. (st.bound ≤ u) × (u < 2 ^ 63))) st.pending

-- so many instants may run
pub record FitsMonitor (s : System) (limit : ℕ) (st : MonitorState) : Type 0 where
  pub one_each : HasOneEach s st
  pub counts : AreCounts s st
  pub bound : IsBound s st
  pub instants : AreInstants s st limit
  pub open_events : AreOpen s st
  pub typed : AreTyped s st
  pub shared : ShareTypes s st
  pub numbered : AreNumbered s st
  pub cells : AreCells s st
  pub pending : ArePending s st
