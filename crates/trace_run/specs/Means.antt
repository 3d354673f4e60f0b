-- What a program means for some bytes of a trace. Of a specification its own meaning says it, and of code the solutions of its system.
use Rattle.std.specs.Prelude.{◌≡◌, ℕ, Bool, true, false, ◌&&◌, List, ◌++◌, Option, None}
use Rattle.trace_monitor.specs.declared.ending.RunEnding.{RunEnding}
use Rattle.trace_monitor.specs.declared.ending.RunEnding.TheVariants as run
use Rattle.trace_monitor.specs.declared.options.Options.{Options}
use Rattle.trace_monitor.specs.Due.{IsDue, refused_in}
use Rattle.trace_monitor.specs.Ending.{IsQuiet}
use Rattle.trace_monitor.specs.Next.{EndsBy}
use Rattle.trace_reader.specs.declared.fault.TraceFault.{TraceFault}
use Rattle.tsl_world.specs.Begins.{Begins}
use Rattle.tsl_world.specs.Seen.{Seen}
use Rattle.tsl_world.specs.declared.outside.Channel.TheVariants.{Out}
use Rattle.tsl_world.specs.declared.outside.Slot.TheVariants.{Trace}
use Rattle.trace_run.specs.Before.{Before}
use Rattle.trace_run.specs.Meant.{EndsAsMeant, IsDueAsMeant, IsQuietAsMeant, refused_meant}
use Rattle.trace_run.specs.Program.{Program, coded, specified}

-- the refusal of a line in these bytes
abbrev pub refused_as : Program → Options → List ℕ → Bool → Option TraceFault
refused_as (specified items s) o bytes ended = refused_meant items o bytes ended
refused_as (coded c) o bytes ended = refused_in c.system o bytes ended

-- the text is due of them
abbrev pub IsDueAs : Program → Options → List ℕ → Bool → List ℕ → Type 0
IsDueAs (specified items s) o bytes ended text = IsDueAsMeant items o bytes ended text
IsDueAs (coded c) o bytes ended text = IsDue c.system o bytes ended text

-- no fault is closed, and the limit of instants is not passed
abbrev pub IsQuietAs : Program → Options → List ℕ → Bool → Type 0
IsQuietAs (specified items s) o bytes ended = IsQuietAsMeant items o bytes ended
IsQuietAs (coded c) o bytes ended = IsQuiet c.system o bytes ended

-- the cause of an ending there
abbrev pub EndsAs : Program → Options → List ℕ → Bool → RunEnding → Type 0
EndsAs (specified items s) o bytes ended how = EndsAsMeant items s o bytes ended how
EndsAs (coded c) o bytes ended how = EndsBy c.system o bytes ended how

-- Nothing in these bytes of a trace ends a run before its end: no line is refused, no fault is closed, and no more instants are closed
-- than may be. Where the end was not read the run goes on.
pub record IsUnhindered (p : Program) (o : Options) (bytes : List ℕ) (ended : Bool) : Type 0 where
  pub accepted : refused_as p o bytes ended ≡ None
  pub quiet : IsQuietAs p o bytes ended

-- The cause of an ending of a run, to which the end of its trace is told or not. Where it is not, the trace goes on in a later run: all was
-- done where its end was read and nothing ends the run before.
abbrev pub EndsAt : Program → Options → List ℕ → Bool → Bool → RunEnding → Type 0
EndsAt p o bytes true read how = EndsAs p o bytes read how
EndsAt p o bytes false read run.Done = (read ≡ true) × IsUnhindered p o bytes false
EndsAt p o bytes false read how = EndsAs p o bytes false how

-- whether the end of the trace was read, and is told to the run
abbrev pub told_of : Bool → Seen → Bool
told_of tells_end x = tells_end && x.ended Trace

-- the bytes of the trace, from the first one of the first run on
abbrev pub all_of : Before → Seen → List ℕ
all_of b x = b.bytes ++ x.taken Trace

module _ (p : Program) (b : Before) (tells_end : Bool) where
  -- what was given to Out begins what the bytes that were taken add to the text that is due
  pub record BeginsAs (x : Seen) : Type 0 where
    pub text : List ℕ
    pub due : IsDueAs p b.options (all_of b x) (told_of tells_end x) (b.text ++ text)
    pub begins : Begins (x.given Out) text

  -- what was given to Out is all that they add to it, and the run ends
  pub record WatchEndsAs (how : RunEnding) (x : Seen) : Type 0 where
    pub due : IsDueAs p b.options (all_of b x) (told_of tells_end x) (b.text ++ x.given Out)
    pub ends : EndsAt p b.options (all_of b x) tells_end (x.ended Trace) how
