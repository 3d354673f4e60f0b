-- What the system that is run says of a trace, the program means.
use Rattle.std.proofs.Common.{ℕ, Bool, true, false, ◌&&◌, List, ◌++◌, ◌∙◌, sym, subst}
use Rattle.std.specs.Prelude.{◌<◌, ◌^◌}
use Rattle.flat_core.specs.System.{System}
use Rattle.monitor_run.specs.inner.State as engine
use Rattle.register_code.specs.Code.{Code}
use Rattle.trace_monitor.specs.declared.ending.RunEnding.{RunEnding}
use Rattle.trace_monitor.specs.declared.ending.RunEnding.TheVariants as run
use Rattle.trace_monitor.specs.declared.options.Options.{Options}
use Rattle.trace_monitor.specs.Due.{IsDue, bound_in, lines_in}
use Rattle.trace_monitor.specs.Ending.{GoesOn, InAll}
use Rattle.trace_monitor.specs.Next.{EndsBy}
use Rattle.tsl_world.specs.Journal.{given, taken, ended}
use Rattle.tsl_world.specs.Seen.{seen}
use Rattle.tsl_world.specs.declared.outside.Channel.TheVariants.{Out}
use Rattle.tsl_world.specs.declared.outside.Did.{Did}
use Rattle.tsl_world.specs.declared.outside.Slot.TheVariants.{Trace}
use Rattle.trace_run.specs.Before.{Before}
use Rattle.trace_run.specs.Effects.{BeginsDue, EndsWhere, WatchEnds}
use Rattle.trace_run.specs.Means.{BeginsAs, EndsAs, EndsAt, IsDueAs, IsUnhindered, WatchEndsAs}
use Rattle.trace_run.specs.Program.{IsCodeOf, Program, coded, specified, system_of}
use Rattle.trace_run.specs.Unseen.{UpdatesUnseen}
use Rattle.trace_run.proofs.CanBeRun.{CanBeRun, code_system}
use Rattle.trace_run.proofs.Meaning.{due_by_meaning, due_meant, ends_meant, quiet_meant, refused_alike}
use Rattle.trace_run.proofs.Unseen.{coded_unseen, specified_unseen}

module _ (o : Options) (bytes : List ℕ) (ended : Bool) where
  due_for : (p : Program) → CanBeRun p → (text : List ℕ) → IsDue (system_of p) o bytes ended text → IsDueAs p o bytes ended text
  due_for (specified items s) can text due = due_meant can.0 items s o can.1 bytes ended text due
  due_for (coded c) can text due = due

  -- and back
  due_back : (p : Program) → CanBeRun p → (text : List ℕ) → IsDueAs p o bytes ended text → IsDue (system_of p) o bytes ended text
  due_back (specified items s) can text due = due_by_meaning can.0 items s o can.1 bytes ended text due
  due_back (coded c) can text due = due

  ends_for : (p : Program) → CanBeRun p → (how : RunEnding) → EndsBy (system_of p) o bytes ended how → EndsAs p o bytes ended how
  ends_for (specified items s) can how cause = ends_meant can.0 items s o can.1 bytes ended how cause
  ends_for (coded c) can how cause = cause

  -- no update in place is seen, whichever bytes were taken
  pub updates_unseen : (p : Program) → CanBeRun p → o.until < 2 ^ 63 → InAll (system_of p) o bytes ended (λ z. UpdatesUnseen p (lines_in (system_of p) o bytes ended) (bound_in (system_of p) o bytes ended) z)
  updates_unseen (specified items s) can few = specified_unseen can.0 items s o can.1 few bytes ended
  updates_unseen (coded c) can few = coded_unseen c can.is_code can.well_formed o few bytes ended

goes_on_for : (o : Options) (bytes : List ℕ) (p : Program) → CanBeRun p → GoesOn (system_of p) o bytes → IsUnhindered p o bytes false
goes_on_for o bytes (specified items s) can goes_on = record {
  accepted = sym (refused_alike can.0 items s o can.1 bytes false) ∙ goes_on.accepted;
  quiet = quiet_meant can.0 items s o can.1 bytes false goes_on.quiet;
}
goes_on_for o bytes (coded c) can goes_on = record { accepted = goes_on.accepted; quiet = goes_on.quiet }

ends_at_for : (o : Options) (bytes : List ℕ) (p : Program) → CanBeRun p → (tells_end read : Bool) (how : RunEnding) → EndsWhere (system_of p) o bytes tells_end read how → EndsAt p o bytes tells_end read how
ends_at_for o bytes p can true read how cause = ends_for o bytes read p can how cause
ends_at_for o bytes p can false read run.Done cause = (cause.0, goes_on_for o bytes p can cause.1)
ends_at_for o bytes p can false read (run.Trace fault) cause = ends_for o bytes false p can (run.Trace fault) cause
ends_at_for o bytes p can false read (run.Fault time kind place) cause = ends_for o bytes false p can (run.Fault time kind place) cause
ends_at_for o bytes p can false read (run.Limit count time) cause = ends_for o bytes false p can (run.Limit count time) cause

-- the text that a program means to be due is due by its system
pub due_of_meant : (p : Program) → CanBeRun p → (o : Options) (bytes : List ℕ) (ended : Bool) (text : List ℕ) → IsDueAs p o bytes ended text → IsDue (system_of p) o bytes ended text
due_of_meant p can o bytes ended text due = due_back o bytes ended p can text due

-- by the code of a program
module _ (p : Program) (can : CanBeRun p) (c : Code) (is_code : IsCodeOf p c) where
  pub due_as : (o : Options) (bytes : List ℕ) (ended : Bool) (text : List ℕ) → IsDue c.system o bytes ended text → IsDueAs p o bytes ended text
  due_as o bytes ended text due = due_for o bytes ended p can text (subst (λ (s : System). IsDue s o bytes ended text) (code_system p c is_code) due)

  pub goes_on_as : (o : Options) (bytes : List ℕ) → GoesOn c.system o bytes → IsUnhindered p o bytes false
  goes_on_as o bytes goes_on = goes_on_for o bytes p can (subst (λ (s : System). GoesOn s o bytes) (code_system p c is_code) goes_on)

  module _ (b : Before) (tells_end : Bool) where
    pub begins_as : (part : List Did) → BeginsDue c.system b tells_end part → BeginsAs p b tells_end (seen part)
    begins_as part d = record { text = d.text; due = due_as b.options (b.bytes ++ taken Trace part) (tells_end && ended Trace part) (b.text ++ d.text) d.due; begins = d.begins }

    pub watch_ends_as : (e : engine.State) (how : RunEnding) (part : List Did) → WatchEnds c.system b tells_end e how part → WatchEndsAs p b tells_end how (seen part)
    watch_ends_as e how part w = record {
      due = due_as b.options (b.bytes ++ taken Trace part) (tells_end && ended Trace part) (b.text ++ given Out part) w.due;
      ends = ends_at_for b.options (b.bytes ++ taken Trace part) p can tells_end (ended Trace part) how
          (subst (λ (s : System). EndsWhere s b.options (b.bytes ++ taken Trace part) tells_end (ended Trace part) how) (code_system p c is_code) w.cause);
    }
