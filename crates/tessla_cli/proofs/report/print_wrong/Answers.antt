use Rattle.std.proofs.Common.{append_assoc}
use Rattle.tessla_cli.proofs.report.print_wrong.Goals as goal

pub returns : goal.returns
returns c = rw (c.in_ok-print_line.ensures, c.as_bytes.ensures.value, c.as_str.ensures, append_assoc, append_assoc) at c.append.ensures.ok
