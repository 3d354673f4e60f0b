use Rattle.std.proofs.Common.{append_assoc}
use Rattle.tessla_cli.proofs.report.print_at_time.Goals as goal

pub returns : goal.returns
returns c = rw (c.get.ensures.value, c.in_ok-append.ensures.ok, append_assoc) at c.print_number.ensures.ok
