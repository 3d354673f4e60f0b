use Rattle.std.proofs.Common.{sym, ◌∙◌}
use Rattle.flat_core.proofs.Shapes.{shape_of}
use Rattle.event_why.proofs.DraftLemmas.{ok_then}
use Rattle.event_why.proofs.RowLemmas.{outcome_running}
use Rattle.event_why.proofs.row.running_outcome.Goals as goal

pub outcome_of-requires-clause-shape : goal.outcome_of-requires-clause-shape
outcome_of-requires-clause-shape c = shape_of c.args.flat.now c.count.ensures.is_flat c.args.i c.equation.result.now c.equation.ensures

pub returns : goal.returns
returns c =
    ok_then c.outcome_of.result c.outcome_of.ensures
    (λ o happens T done e can part at used.
    outcome_running T c.args.flat.now c.args.lines.now c.args.t c.args.draft.now c.args.row.now can done part c.args.i e c.equation.result.now at used
    (sym c.runs.ensures ∙ c.if-not-runs.false) c.equation.ensures o (happens T))
