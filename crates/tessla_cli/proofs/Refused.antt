-- A file that is refused before the work of a command.
use Rattle.std.proofs.Common.{◌≡◌, ℕ, true, false, List, [], ◌++◌, refl, sym, ◌∙◌, ap, subst, Option, Some, IsTrue}
use Rattle.std.proofs.lemmas.Bool.{true≢false}
use Rattle.std.proofs.lemmas.List.{append-nil}
use Rattle.command_words.specs.declared.command.Command.{Command}
use Rattle.trace_monitor.specs.declared.ending.RunEnding.{RunEnding}
use Rattle.trace_monitor.specs.declared.ending.RunEnding.TheVariants as run
use Rattle.tsl_world.specs.declared.outside.Did.{Did}
use Rattle.tsl_world.specs.declared.outside.Slot.{Slot}
use Rattle.tsl_world.specs.declared.outside.Channel.{Channel}
use Rattle.tsl_world.specs.declared.outside.Channel.TheVariants as channel
use Rattle.tsl_world.specs.Seen.{Seen, seen}
use Rattle.tessla_cli.specs.declared.ended.Ended.{Ended}
use Rattle.tessla_cli.specs.declared.ending.Ending.{Ending}
use Rattle.tessla_cli.specs.declared.ending.Ending.TheVariants as ending
use Rattle.tessla_cli.specs.Asked.{asks_statistics}
use Rattle.tessla_cli.specs.Causes.{Cause, HoldsAt, Stands}
use Rattle.tessla_cli.specs.Endings.{ending_of}
use Rattle.tessla_cli.specs.Outcome.{IsToldBefore, unasked}
use Rattle.tessla_cli.specs.Stages.{AreWhole, Stage, at_program, at_state, at_words, at_work, is_silent, made_at, opened_at, stage_of, whole_at}
use Rattle.tessla_cli.specs.inner.RunPhases.{IsToldAfter}
use Rattle.tessla_cli.proofs.Fronts.{Front, front_silent, front_unmade}

pub never : {A : Type 0} → false ≡ true → A
never is = absurd (true≢false (sym is))

-- All that tells an ending: what is told before its line, and then the line.
pub record IsToldBy (c : Option Command) (by : Ended) (x : Seen) : Type 0 where
  pub before : List ℕ
  pub is_before : IsToldBefore c by.ending x before
  pub text_is : IsToldAfter before by

-- the line alone, where no statistics are asked for
pub told_by_line : (c : Option Command) (by : Ended) (x : Seen) → asks_statistics c ≡ false → IsToldAfter [] by → IsToldBy c by x
told_by_line c by x not_asked line = record { before = []; is_before = unasked not_asked refl; text_is = line }

-- a run over a trace ends in its work
pub run_at_work : (how : RunEnding) → stage_of (ending_of how) ≡ at_work
run_at_work run.Done = refl
run_at_work (run.Trace fault) = refl
run_at_work (run.Fault t k p) = refl
run_at_work (run.Limit n t) = refl

-- what ends at the program ends before the work
pub program_early : (by : Ending) → stage_of by ≡ at_program → stage_of by ≡ at_work → ⊥
program_early by early at = absurd (let e : at_program ≡ at_work = sym early ∙ at in cc)

-- where all was done, nothing is said to be silent
pub done_speaks : {A : Type 0} (to : Channel) → IsTrue (is_silent ending.Done to) → A
done_speaks channel.Out is = never is
done_speaks channel.Err is = never is
done_speaks channel.State is = never is
done_speaks channel.Code is = never is

-- Before its work a command has opened what it has read whole, and its ending has its cause alone.
module _ (c : Command) where
  opened_early : (s : Stage) → (s ≡ at_work → ⊥) → opened_at s c ≡ whole_at s c
  opened_early at_words early = refl
  opened_early at_program early = refl
  opened_early at_state early = refl
  opened_early at_work early = absurd (early refl)

  holds_early : (x : Seen) (by : Ending) (s : Stage) → (s ≡ at_work → ⊥) → Cause (Some c) x by → HoldsAt s (Some c) x by
  holds_early x by at_words early cause = cause
  holds_early x by at_program early cause = cause
  holds_early x by at_state early cause = cause
  holds_early x by at_work early cause = absurd (early refl)

  -- no file is made by what ends there
  made_early : (by : Ending) → (stage_of by ≡ at_work → ⊥) → made_at by c ≡ []
  made_early ending.Done early = absurd (early refl)
  made_early ending.Words early = refl
  made_early (ending.Spec fault) early = refl
  made_early (ending.Code fault) early = refl
  made_early (ending.NoOutput name) early = refl
  made_early (ending.State fault) early = refl
  made_early (ending.Trace fault) early = refl
  made_early (ending.Fault t k p) early = refl
  made_early (ending.Limit n t) early = refl
  made_early (ending.NoEvent name t) early = refl

-- Files of which the last is refused: nothing is done after them.
module _ (c : Command) (files : List (Slot × List ℕ)) (front : List Did) (f : Front c files front) (by : Ending) (early : stage_of by ≡ at_work → ⊥) (are : whole_at (stage_of by) c ≡ files)
    (cause : Cause (Some c) (seen front) by) where
  refused_front : Stands (Some c) by (seen front)
  refused_front = record {
    holds = holds_early c (seen front) by (stage_of by) early cause;
    opens = f.opens ∙ sym are ∙ sym (opened_early c (stage_of by) early);
    whole = subst (λ (l : List (Slot × List ℕ)). AreWhole l (seen front)) (sym are) f.whole;
    makes = front_unmade c files front f ∙ sym (made_early c by early);
    silent = λ to is. front_silent c files front f to;
  }

  pub refused_stands : (rest : List Did) → rest ≡ [] → Stands (Some c) by (seen (front ++ rest))
  refused_stands rest none = subst (λ (l : List Did). Stands (Some c) by (seen l)) (sym (ap (λ (l : List Did). front ++ l) none ∙ append-nil front)) refused_front
