-- No update in place is seen, whatever the words ask for.
use Rattle.std.proofs.Common.{◌≡◌, ℕ, ◌<◌, ◌^◌, List, Option, Some, None, refl, sym, ap, subst}
use Rattle.std.specs.Prelude.{IfSome}
use Rattle.command_words.specs.declared.command.Command.{Command}
use Rattle.command_words.specs.declared.command.Command.TheVariants as command
use Rattle.command_words.specs.declared.command.Run.{Run}
use Rattle.command_words.specs.Words.{IsLimited, command_of}
use Rattle.command_words.proofs.Commands.{command_is_limited}
use Rattle.trace_monitor.specs.Due.{bound_in, lines_in}
use Rattle.trace_monitor.specs.Ending.{InAll}
use Rattle.trace_run.specs.Before.{Before}
use Rattle.trace_run.specs.Means.{all_of, told_of}
use Rattle.trace_run.specs.Program.{Program, system_of}
use Rattle.trace_run.specs.Unseen.{UpdatesUnseen}
use Rattle.trace_run.proofs.Programs.{updates_unseen}
use Rattle.tsl_world.specs.Seen.{Seen}
use Rattle.tessla_cli.specs.Asked.{tells_end}
use Rattle.tessla_cli.specs.Running.{IsBefore}
use Rattle.tessla_cli.specs.Unseen.{NoUpdateIsSeen}
use Rattle.tessla_cli.proofs.Loading.{for_run}

-- the words ask for no later time
limited_command : (words : List (List ℕ)) (c : Option Command) → command_of words ≡ c → IfSome c IsLimited
limited_command words None is = tt
limited_command words (Some c) is = command_is_limited words c is

-- whatever stands before a run, it closes times as the words say
until_before : (r : Run) (p : Program) (x : Seen) (resume : Option (List ℕ)) (b : Before) → IsBefore resume r p x b → b.options.until ≡ r.until
until_before r p x None b before = ap (λ (k : Before). k.options.until) before
until_before r p x (Some file) b before = before.until_is

limited_unseen : (c : Option Command) (x : Seen) → IfSome c IsLimited → NoUpdateIsSeen c x
limited_unseen None x limited = tt
limited_unseen (Some (command.Write spec f)) x limited = tt
limited_unseen (Some (command.Run r)) x limited =
    for_run x r.origin (λ p. (b : Before) → IsBefore r.resume r p x b → let s = system_of p in let bytes = all_of b x in let is_end = told_of (tells_end r) x in
    InAll s b.options bytes is_end (λ z. UpdatesUnseen p (lines_in s b.options bytes is_end) (bound_in s b.options bytes is_end) z))
    (λ p can b before. updates_unseen b.options (all_of b x) (told_of (tells_end r) x) p can (subst (λ (n : ℕ). n < 2 ^ 63) (sym (until_before r p x r.resume b before)) limited.until))
limited_unseen (Some (command.Why w)) x limited = tt
limited_unseen (Some (command.Generate n)) x limited = tt
limited_unseen (Some (command.Bench kind n)) x limited = tt

pub no_update_is_seen : (words : List (List ℕ)) (x : Seen) → NoUpdateIsSeen (command_of words) x
no_update_is_seen words x = limited_unseen (command_of words) x (limited_command words (command_of words) refl)
