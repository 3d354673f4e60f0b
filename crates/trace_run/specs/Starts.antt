-- How a run begins: with nothing, or with what an earlier one has left.
use Rattle.std.specs.Prelude.{◌≡◌, ℕ, ◌<◌, ◌^◌, false}
use Rattle.register_code.specs.Code.{Code}
use Rattle.run_state.specs.Fits.{FitsRun}
use Rattle.run_state.specs.declared.state.RunState.{RunState}
use Rattle.trace_monitor.specs.Due.{IsDue}
use Rattle.trace_monitor.specs.Saved.{IsRunAfter}
use Rattle.trace_run.specs.Before.{Before, nothing_before}
use Rattle.trace_run.specs.Limited.{AreLimited}
use Rattle.trace_run.specs.declared.start.Start.{Start}
use Rattle.trace_run.specs.declared.start.Start.TheVariants as start

-- how far a run may go, and that the state from which it goes on fits
abbrev pub CanStart : Code → Start → Type 0
CanStart c (start.Anew o) = AreLimited o
CanStart c (start.Resumed until st) = (until < 2 ^ 63) × FitsRun c.system st

-- how many bytes of its trace a run takes at most
abbrev pub most_bytes : Start → ℕ
most_bytes (start.Anew o) = o.bytes
most_bytes (start.Resumed until st) = st.bytes_limit

-- and how many were taken before it: none of a run that begins, and else as many as its state says
abbrev pub taken_at : Start → ℕ
taken_at (start.Anew o) = 0
taken_at (start.Resumed until st) = st.reader.taken

-- The state is the one that these earlier bytes leave, and this text was due of them.
pub record IsGoneOnFrom (c : Code) (st : RunState) (b : Before) : Type 0 where
  pub after : IsRunAfter c b.options b.bytes st
  pub due : IsDue c.system b.options b.bytes false b.text

-- This stands before a run that begins so. Before one that goes on from a state that no run has left nothing does.
abbrev pub IsBegunAfter : Code → Start → Before → Type 0
IsBegunAfter c (start.Anew o) b = b ≡ nothing_before o
IsBegunAfter c (start.Resumed until st) b = (b.options.until ≡ until) × IsGoneOnFrom c st b
