use Rattle.std.proofs.Common.{length, refl}
use Rattle.alias_rules.specs.Conflict.{IsNotOverwritten}
use Rattle.alias_nears.proofs.Conflicts.{least_of}
use Rattle.alias_analysis.proofs.conflict.not_overwritten_in.Goals as goal

pub returns : goal.returns
returns c =
    let s = c.args.flat.now in
    least_of (length s.equations) (IsNotOverwritten s c.args.set.now c.args.update) c.in_ok-old.old c.in_ok-old.old c.least.result refl c.in_ok-old.ensures c.least.ensures
