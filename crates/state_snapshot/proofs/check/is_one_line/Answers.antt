use Rattle.std.proofs.Common.{◌∙◌}
use Rattle.state_snapshot.proofs.Seen.{no_end, none_from}
use Rattle.state_snapshot.proofs.check.is_one_line.Goals as goal

pub returns : goal.returns
returns c = none_from c.line_end.result c.is_none.result c.is_none.ensures ∙ no_end c.args.bytes.now c.line_end.result c.line_end.ensures
