use Rattle.std.proofs.Common.{◌∙◌}
use Rattle.std.specs.List.{flat_map}
use Rattle.plain_solver.specs.inner.Streams.{streams_of}
use Rattle.flat_core.specs.Text.{text_at}
use Rattle.plain_solver.proofs.TextLemmas.{ran_due}
use Rattle.plain_solver.proofs.text.print_due.Goals as goal

pub returns : goal.returns
returns c =
    λ lines bound limit ended w ws.
    c.in_ok-text.ensures
    ∙ (λ k. flat_map (text_at c.args.flat.now (streams_of (c.deref.ensures.value k))) (c.deref-2.ensures.value k))
    ∙ ran_due c.args.flat.now c.args.solved.now.streams.items c.args.solved.now.instants.items c.args.solved.now.end lines bound limit ended w ws
