use Rattle.std.proofs.Common.{rules}
use Rattle.event_why.specs.Check.{AreUsed, IsFirstUnused}
use Rattle.event_why.proofs.CheckLemmas.{ended_rest}
use Rattle.event_why.proofs.check.judged_right.Goals as goal

pub returns-in-Some : goal.returns-in-Some
returns-in-Some c output at =
    let unused : IsFirstUnused c.args.steps.now c.in-Some.fact = search rules in
    unused

pub returns-in-None : goal.returns-in-None
returns-in-None c output at =
    let used : AreUsed c.args.steps.now = search rules in
    ended_rest c.args.steps.now output.equation c.ended.result used (c.ended.ensures output at)
