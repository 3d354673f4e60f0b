-- What a monitor has that goes on from a state, part by part.
use Rattle.std.specs.Prelude.{◌≡◌, ◌==◌, ℕ, if◌then◌else◌, List, [], ◌∷◌, map, Some, None, slice_index}
use Rattle.std.specs.List.{Contains}
use Rattle.std.specs.FinMap as finite_map
use Rattle.delay_timers.specs.inner.Pending.{Times}
use Rattle.body_eval.specs.declared.register.Register.{Register}
use Rattle.body_eval.specs.declared.register.Register.TheVariants as register
use Rattle.cell_reader.specs.inner.Cells.{Cells, IsLive}
use Rattle.aggregate_store.specs.declared.content.Content.{Content}
use Rattle.aggregate_store.specs.Content.{view_in}
use Rattle.flat_core.specs.Kept.{keeps_of, timers_of}
use Rattle.flat_core.specs.System.{System}
use Rattle.flat_core.specs.Updates.{running_updates}
use Rattle.monitor_state.specs.declared.state.MonitorState.{MonitorState}
use Rattle.monitor_state.specs.declared.state.SavedRegister.{SavedRegister}
use Rattle.monitor_state.specs.declared.state.SavedRegister.TheVariants as saved
use Rattle.monitor_run.specs.inner.Registers.{register_at}

-- the register of a saved one, where the cells have these handles
abbrev pub register_with : List ℕ → SavedRegister → Register
register_with handles saved.Empty = register.Empty
register_with handles (saved.Scalar s) = register.Scalar s
register_with handles (saved.Cell k) = register.Aggregate (slice_index handles k)

-- a content for each handle, which has its view
abbrev pub AreViews : Cells → List Content → List ℕ → Type 0
AreViews cells [] [] = Unit {0}
AreViews cells (c ∷ contents) (h ∷ handles) = (finite_map.get cells h ≡ Some (view_in c)) × AreViews cells contents handles
AreViews cells _ _ = ⊥

-- no number comes twice
abbrev pub IsOnce : List ℕ → Type 0
IsOnce [] = Unit {0}
IsOnce (x ∷ xs) = (Contains xs x → ⊥) × IsOnce xs

-- each content has a cell of its own, with its view, and there is no other cell
pub record HasCells (contents : List Content) (handles : List ℕ) (cells : Cells) : Type 0 where
  pub views : AreViews cells contents handles
  pub once : IsOnce handles
  pub no_other : (h : ℕ) → IsLive cells h → Contains handles h

-- what stands beside a number in two lists, or else this
abbrev pub placed : {A : Type 0} → List ℕ → List A → ℕ → A → A
placed [] values v old = old
placed (x ∷ xs) [] v old = old
placed (x ∷ xs) (y ∷ values) v old = if x == v then y else placed xs values v old

-- what is kept is that of the state: each number, register and time stands at its equation, and elsewhere there is none
pub record IsRestored (s : System) (st : MonitorState)
    (cells : Cells) (ledger : List ℕ) (last : List Register) (timers : Times) : Type 0 where
  pub handles : List ℕ
  pub has_cells : HasCells st.cells handles cells
  pub counts : (u : ℕ) → slice_index ledger u ≡ placed (running_updates s) st.ledger u 0
  pub registers : (v : ℕ) → register_at last v ≡ placed (keeps_of s) (map (register_with handles) st.registers) v register.Empty
  pub pending : (d : ℕ) → finite_map.get timers d ≡ placed (timers_of s) st.pending d None
