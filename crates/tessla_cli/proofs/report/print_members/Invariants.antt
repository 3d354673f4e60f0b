use Rattle.std.proofs.Common.{◌≡◌, ◌++◌, drop}
use Rattle.tessla_cli.specs.Messages.{members_text}
use Rattle.tessla_cli.proofs.report.print_members.Given as goal

abbrev pub invariant-loop-name : goal.invariant-loop-name
invariant-loop-name l = l.out ++ members_text (drop l.name-index l.names) ≡ l.fn.out ++ members_text l.names
