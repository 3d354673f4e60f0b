use Rattle.flat_core.proofs.Members.{all_at}
use Rattle.why_rules.specs.Facts.{Says}
use Rattle.why_rules.proofs.Forced.{all_hold}
use Rattle.why_rules.proofs.laws.derivations_are_forced.Goals as goal

pub returns : goal.returns
returns c s o slice p bound z facts whole formed o_runs is small solves sound derivation f there =
    all_at (Says s slice z bound) facts (all_hold s whole formed o o_runs slice is p bound small z solves sound facts derivation) f there
