use Rattle.std.proofs.Common.{arith}
use Rattle.event_why.proofs.MarkLemmas.{from_one}
use Rattle.event_why.proofs.prune.mark_from.Goals as goal

pub returns : goal.returns
returns c = λ earlier low.
    let steps = c.args.steps.now in
    let many = c.requires in
    from_one steps c.args.last c.args.marks.now c.mark_named.new.marks c.mark_grounds.new.marks c.mark_named.ensures (c.mark_grounds.ensures earlier) (omega arith)
