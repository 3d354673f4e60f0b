-- What a part of a run makes.
use Rattle.std.specs.Prelude.{◌≡◌, ◌++◌, ℕ, Bool, false, List, None, Some}
use Rattle.register_code.specs.Code.{Code}
use Rattle.trace_monitor.specs.declared.options.Options.{Options}
use Rattle.trace_monitor.specs.Due.{IsDue}
use Rattle.trace_monitor.specs.Next.{IsNext, is_nothing}
use Rattle.trace_monitor.specs.Saved.{IsSavedAs, SpellsState}
use Rattle.resumed_run.specs.declared.part.After.{After}
use Rattle.resumed_run.specs.declared.part.After.TheVariants as after
use Rattle.resumed_run.specs.declared.part.Part.{Part}

-- where the run goes on, it leaves the bytes of a state
abbrev pub StaysIn : Code → After → Type 0
StaysIn c (after.GoesOn bytes) = SpellsState c bytes
StaysIn c (after.Ends how) = Unit {0}

abbrev pub LeavesState : Code → Part → Type 0
LeavesState c part = StaysIn c part.after

-- how a run stands after these bytes of its trace, the end after them or not; where it goes on, its saved state is this
abbrev pub StandsSo : Code → Options → List ℕ → Bool → After → Type 0
StandsSo c o bytes ended (after.GoesOn state) = IsNext c.system o bytes ended None × IsSavedAs c o bytes state
StandsSo c o bytes ended (after.Ends how) = IsNext c.system o bytes ended (Some how)

-- This is what a run makes of a piece after earlier bytes, or of the end, which is an empty piece.
pub record IsPart (c : Code) (o : Options) (earlier piece : List ℕ) (part : Part) : Type 0 where
  pub text : (before : List ℕ)
      → IsDue c.system o earlier false before
      → IsDue c.system o (earlier ++ piece) (is_nothing piece) (before ++ part.text)
  pub stands : StandsSo c o (earlier ++ piece) (is_nothing piece) part.after
