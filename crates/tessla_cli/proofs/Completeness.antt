-- What nothing stands against ends as done, since each other ending has a cause.
use Rattle.std.proofs.Common.{◌≡◌, ◌⊎◌, inl, inr, ℕ, ◌<◌, ◌-◌, ◌^◌, List, ◌++◌, Option, Some, None, ◌∙◌, ap, arith}
use Rattle.command_words.specs.declared.command.Command.{Command}
use Rattle.command_words.specs.declared.command.Command.TheVariants as command
use Rattle.command_words.specs.declared.command.Run.{Run}
use Rattle.tsl_world.specs.declared.outside.Did.{Did}
use Rattle.tsl_world.specs.declared.outside.Slot.TheVariants.{Trace}
use Rattle.tsl_world.specs.Seen.{Seen, seen}
use Rattle.tessla_cli.specs.declared.ending.Ending.{Ending}
use Rattle.tessla_cli.specs.declared.ending.Ending.TheVariants as ending
use Rattle.tessla_cli.specs.Asked.{tells_end}
use Rattle.tessla_cli.specs.Causes.{RefusesState}
use Rattle.tessla_cli.specs.Completeness.{CanEnd, CanRun, IsComplete, IsWholeTrace}
use Rattle.tessla_cli.specs.Endings.{OfEnding, ending_of}
use Rattle.tessla_cli.specs.Failures.{Failures, SomeFailed}
use Rattle.tessla_cli.specs.Messages.{status_of}
use Rattle.tessla_cli.specs.Outcome.{Concludes, Outcome}
use Rattle.tessla_cli.specs.Outcome.Outcome.{told, outside, memory}
use Rattle.tessla_cli.specs.Running.{HasState, IsBefore}
use Rattle.tessla_cli.proofs.Exact.{HasEnded, IsOver, causes, stands_ended}
use Rattle.tessla_cli.proofs.Fronts.{begins_after}
use Rattle.tessla_cli.proofs.Loading.{of_program_weaker, one_program, runs_unrefused}
use Rattle.tessla_cli.proofs.Since.{left_can_go_on, state_unrefused}
use Rattle.trace_run.specs.Before.{Before}
use Rattle.trace_run.specs.Means.{IsUnhindered, WatchEndsAs, all_of, told_of}
use Rattle.trace_run.specs.Program.{Program}
use Rattle.trace_run.proofs.Causes.{unhindered_done}
use Rattle.trace_run.proofs.WholeTrace.{unhindered_taken}

module _ (x : Seen) where
  -- a run against which nothing stands has not ended for another cause
  module _ (r : Run) where
    abbrev Unhindered : Program → Type 0
    Unhindered p = (b : Before) × IsBefore r.resume r p x b × IsUnhindered p b.options (all_of b x) (told_of (tells_end r) x)

    run_done : CanEnd (Some (command.Run r)) x → (by : Ending) → IsOver x r by → status_of by ≡ 0
    run_done can by (inl refused) = absurd (runs_unrefused x r.origin Unhindered by can refused)
    run_done can by (inr (inl state)) =
        let one = one_program x r.origin Unhindered (λ p. RefusesState r.resume p x state.0) can state.2 in
        absurd (state_unrefused one.program x r.resume state.0 (left_can_go_on one.program x r.resume r one.one.0 one.one.1) one.other)
    run_done can by (inr (inr finished)) =
        let one = one_program x r.origin Unhindered (λ p. HasState r.resume p x × ((b : Before) → IsBefore r.resume r p x b → OfEnding by (λ how. WatchEndsAs p b (tells_end r) how x))) can finished.ends in
        let (b, is, nothing) = one.one in
        let ended = one.other.1 b is in
        ap status_of (ended.by_is ∙ ap ending_of (unhindered_done b.options (all_of b x) (tells_end r) (x.ended Trace) one.program nothing ended.how ended.holds.ends))

  can_done : (c : Option Command) → CanEnd c x → (by : Ending) → HasEnded x c by → status_of by ≡ 0
  can_done None can by ended = absurd can
  can_done (Some (command.Write spec f)) can by ended = causes x (Some (command.Write spec f)) by ending.Done ended can
  can_done (Some (command.Run r)) can by ended = run_done r can by ended
  can_done (Some (command.Why w)) can by ended = causes x (Some (command.Why w)) by ending.Done ended can
  can_done (Some (command.Generate n)) can by ended = ap status_of ended
  can_done (Some (command.Bench kind n)) can by ended = causes x (Some (command.Bench kind n)) by ending.Done ended can

  -- nothing in a whole trace, so nothing in what was taken of it
  taken_can : (c : Option Command) (whole : List ℕ) → IsWholeTrace x whole → CanRun c x whole → CanEnd c x
  taken_can None whole w can = absurd can
  taken_can (Some (command.Write spec f)) whole w can = absurd can
  taken_can (Some (command.Run r)) whole w can =
      of_program_weaker x r.origin (λ p. (b : Before) × IsBefore r.resume r p x b × IsUnhindered p b.options (b.bytes ++ whole) (tells_end r)) (Unhindered r)
      (λ p can_run nothing. let (b, is, u) = nothing in (
        b,
        is,
        unhindered_taken p can_run b.options (all_of b x) (b.bytes ++ whole) (tells_end r) (x.ended Trace) (begins_after b.bytes (x.taken Trace) whole w.begins)
            (λ end. ap (λ (l : List ℕ). b.bytes ++ l) (w.ends end)) u,
      )) can
  taken_can (Some (command.Why why)) whole w can = absurd can
  taken_can (Some (command.Generate n)) whole w can = absurd can
  taken_can (Some (command.Bench kind n)) whole w can = absurd can

module _ (c : Option Command) (part : List Did) (before now : Failures) (status : ℕ) (calm : status ≡ 5 → ⊥) where
  -- the status of what ends as done alone
  done_with : CanEnd c (seen part) → Outcome c before now status part → (status ≡ 0) ⊎ (status ≡ 6)
  done_with can (told by is ends) = inl (is ∙ can_done (seen part) c can by (stands_ended (seen part) c by ends.stands))
  done_with can (outside five some) = absurd (calm five)
  done_with can (memory six line) = inr six

  pub complete : Concludes c before now status part → IsComplete c status (seen part)
  complete says = record {
    of_taken = λ can. done_with can says.outcome;
    of_whole = λ whole w can. done_with (taken_can (seen part) c whole w can) says.outcome;
  }

-- a count that did not rise, and is not at its last value, leaves the other statuses
pub not_five : (before now : Failures) (status : ℕ) → (status ≡ 5 → SomeFailed before now) → now.all ≡ before.all → before.all < 2 ^ 64 - 1 → status ≡ 5 → ⊥
not_five before now status some same low five = elim (some five) [
  | inl call ↦ let rose = call.all in absurd (omega arith)
  | inr (inl write) ↦ let rose = write.all in absurd (omega arith)
  | inr (inr both) ↦ let rose = both.all in absurd (omega arith)
]
