-- What a monitor has that may be given a piece, whatever it stands for, and what is made of it. One that was made from a state which no run
-- wrote may stand for no bytes.
use Rattle.std.specs.Prelude.{◌≡◌, ℕ, ◌+◌, ◌<◌, ◌≤◌, true, false, List, length, None, Some, IsSome, is_some, nat_le}
use Rattle.std.specs.List.{filter}
use Rattle.tsl_value.specs.declared.scalar.Scalar.{Scalar}
use Rattle.flat_core.specs.Complete.{IsShort}
use Rattle.flat_core.specs.Line.{Line, inputs_of}
use Rattle.trace_reader.specs.Reading.{is_among}
use Rattle.trace_reader.specs.inner.LastTime.{or_zero}
use Rattle.trace_reader.specs.inner.Reader.{AwaitsMore, Reader}
use Rattle.monitor_state.specs.Inputs.{IsInputOf}
use Rattle.monitor_run.specs.inner.Next.{IsIdle}
use Rattle.monitor_run.specs.inner.Saved.{CanSave}
use Rattle.monitor_run.specs.inner.State as engine
use Rattle.monitor_run.specs.inner.Steps.{AreAsSet}
use Rattle.trace_monitor.specs.declared.halt.Halt.{Halt}
use Rattle.trace_monitor.specs.declared.halt.Halt.TheVariants as halt
use Rattle.trace_monitor.specs.Next.{is_nothing}
use Rattle.trace_monitor.specs.inner.State.{State}

-- Reader and engine are of one system and stand at one time, that of the last line, without which no event is open. The engine has run all
-- that is closed, and the events that are open are those whose inputs the reader has seen.
pub record AreInStep (r : Reader) (e : engine.State) (last : ℕ) : Type 0 where
  pub system_is : e.system ≡ r.system
  pub last_is : last ≡ or_zero r.last
  pub bound_is : e.bound ≡ last
  pub can_save : CanSave e
  pub open_later : 0 < length e.given → IsSome r.last
  pub seen : (i : ℕ) → is_among r.seen i ≡ is_some (inputs_of e.given i last)

-- the monitor may be given a piece, or asked for its state; it has taken no more bytes than it may
pub record Waits (m : State) : Type 0 where
  pub system_is : m.reader.system ≡ m.system
  pub strict_is : m.reader.strict ≡ m.options.strict
  pub bytes_limit : m.reader.limit ≡ m.options.bytes
  pub instants_limit : m.engine.limit ≡ m.options.instants
  pub awaits : AwaitsMore m.reader
  pub within : m.reader.taken ≤ m.reader.limit
  pub in_step : AreInStep m.reader m.engine m.last

-- A reader was fed a piece, or told the end where the piece is nothing: how it reads, its last time and the inputs that it has seen are as
-- they were.
pub record HasTakenIn (old new : Reader) (piece : List ℕ) : Type 0 where
  pub system : new.system ≡ old.system
  pub strict : new.strict ≡ old.strict
  pub limit : new.limit ≡ old.limit
  pub taken : new.taken ≡ old.taken + length piece
  pub ended : new.ended ≡ is_nothing piece
  pub last : new.last ≡ old.last
  pub seen : new.seen ≡ old.seen

-- a piece was taken, which is not the end, and the run goes on
pub record WaitsAgain (old new : State) (piece : List ℕ) : Type 0 where
  pub some : is_nothing piece ≡ false
  pub taken : new.reader.taken ≡ old.reader.taken + length piece
  pub waits : Waits new

-- ---- what is asked of an engine and a line, and what is made of them

-- The line may come next: it is no earlier than the bound, its event is one of an input, and short, and at the bound none of its input is
-- open.
pub record MayCome (e : engine.State) (l : Line) : Type 0 where
  pub late : e.bound ≤ l.time
  pub fits : (i : ℕ) (value : Scalar) → l.event ≡ Some (i, value) → IsInputOf e.system i value
  pub short : (i : ℕ) (value : Scalar) → l.event ≡ Some (i, value) → IsShort value
  pub fresh : (i : ℕ) (value : Scalar) → l.event ≡ Some (i, value) → l.time ≡ e.bound → inputs_of e.given i l.time ≡ None

-- the events from a time on
abbrev pub open_from : ℕ → List Line → List Line
open_from time lines = filter (λ l. nat_le time l.time) lines

-- all instants below the bound have run, and the events that had none are still open
pub record HasRunOutAny (old new : engine.State) : Type 0 where
  pub as_set : AreAsSet old new
  pub going : new.stop ≡ None
  pub idle : IsIdle new
  pub still_open : new.given ≡ open_from old.bound old.given

-- what a halt says of a reader
abbrev pub HaltsAny : Reader → Reader → Halt → Type 0
HaltsAny old new halt.More = (old.ended ≡ false) × AwaitsMore new × (new.taken ≤ new.limit)
HaltsAny old new halt.End = old.ended ≡ true
HaltsAny old new (halt.Refused f) = new.refused ≡ Some f
