use Rattle.std.proofs.Common.{length, refl}
use Rattle.alias_rules.specs.Conflict.{IsKept}
use Rattle.alias_nears.proofs.Conflicts.{least_of}
use Rattle.alias_nears.proofs.kept.kept_by.Goals as goal

pub returns : goal.returns
returns c =
    let s = c.args.flat.now in
    least_of (length s.equations) (IsKept s c.args.set.now c.args.update) c.in_ok-kept.kept c.in_ok-kept.kept c.least.result refl c.in_ok-kept.ensures c.least.ensures
