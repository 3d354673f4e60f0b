use Rattle.std.proofs.Common.{append_assoc}
use Rattle.tessla_cli.proofs.report.print_no_event.Goals as goal

pub returns : goal.returns
returns c =
    rw (c.in_ok-append-2.ensures.ok, c.as_bytes.ensures.value, c.as_str.ensures, c.in_ok-append.ensures.ok, append_assoc, append_assoc) at c.print_at_time.ensures
