-- From instant to instant.
use Rattle.std.specs.Prelude.{◌≡◌, ℕ, suc, ◌<◌, ◌≤◌, ◌^◌, false, List, Option, Some, None}
use Rattle.lift_func.specs.declared.fault.FaultKind.{FaultKind}
use Rattle.flat_core.specs.Case.{Streams}
use Rattle.flat_core.specs.Complete.{IsFlat}
use Rattle.flat_core.specs.Events.{Inputs}
use Rattle.flat_core.specs.Fault.{IsNamed, is_faulty}
use Rattle.flat_core.specs.Line.{IsSorted, Line}
use Rattle.flat_core.specs.Solution.{Solves}
use Rattle.flat_core.specs.WellFormed.{IsWellFormed}
use Rattle.flat_core.specs.inner.Dependency.{IsRunOrder}
use Rattle.flat_core.specs.inner.TypedLines.{AreTypedLines}
use Rattle.event_why.specs.declared.course.Course.{Course}
use Rattle.event_why.specs.declared.course.Course.TheVariants as course
use Rattle.event_why.specs.declared.draft.Draft.{Draft}
use Rattle.event_why.specs.declared.instants.Story.{Story}
use Rattle.event_why.specs.inner.Found.{IsClean}
use Rattle.event_why.specs.inner.Tale.{AreKept, IsCalm, IsOver, IsUpTo, tale_of}

-- a system that can be told of, and lines for it
pub record IsSetting (story : Story) (lines : List Line) : Type 0 where
  pub whole : IsFlat story.flat.now
  pub formed : IsWellFormed story.flat.now
  pub ordered : IsRunOrder story.flat.now story.order.now
  pub kept : AreKept story.flat.now story.kept.now
  pub sorted : IsSorted lines
  pub typed : AreTypedLines story.flat.now lines

-- An instant comes next: streams solve the system up to it, what happens before n is told, then nothing happens, and there is no fault.
pub record ComesNext (story : Story) (p : Inputs) (z : Streams) (n t : ℕ) (draft : Draft) : Type 0 where
  pub solves : Solves story.flat.now p (suc t) z
  pub sound : IsClean story.flat.now p z t
  pub small : t < 2 ^ 63
  pub late : n ≤ t
  pub first : n ≡ 0 → t ≡ 0
  pub calm : IsCalm (tale_of story p z t) n t
  pub up_to : IsUpTo (tale_of story p z t) n draft

-- the fault that is named comes at t; or none does, and all that happens up to t is told
abbrev pub GoesOn : Story → Inputs → Streams → ℕ → Draft → Option (ℕ × FaultKind) → Type 0
GoesOn story p z t draft None = (is_faulty story.flat.now p z t ≡ false) × IsOver (tale_of story p z (suc t)) t draft
GoesOn story p z t draft (Some root) = IsNamed story.flat.now p z t root.0 root.1

-- what happens before n is told, and what happens at the time just before; then nothing happens below a bound, and there is no fault
pub record IsTold (story : Story) (p : Inputs) (z : Streams) (bound n : ℕ) (draft : Draft) : Type 0 where
  pub sound : IsClean story.flat.now p z bound
  pub early : n ≤ bound
  pub up_to : IsUpTo (tale_of story p z bound) n draft
  pub over : (t : ℕ) → n ≡ suc t → IsOver (tale_of story p z bound) t draft
  pub calm : IsCalm (tale_of story p z bound) n bound

-- how the instants below a bound went
abbrev pub Runs : Story → Inputs → Streams → ℕ → Draft → Course → Type 0
Runs story p z bound draft (course.Over n) = IsTold story p z bound n draft
Runs story p z bound draft (course.Fault t i kind) = (t < bound) × IsNamed story.flat.now p z t i kind
