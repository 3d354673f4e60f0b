use Rattle.std.proofs.Common.{ap, map, ◌∙◌}
use Rattle.flat_core.specs.Stream.{event}
use Rattle.plain_solver.specs.inner.Streams.{streams_of}
use Rattle.plain_solver.proofs.TypedLemmas.{liftable}
use Rattle.plain_solver.proofs.outcome.own_of.Goals as goal

pub lift_value-requires : goal.lift_value-requires
lift_value-requires c =
    liftable (streams_of c.args.streams.now) c.args.e.now c.args.t c.in-Lift.body c.in-Lift.strict c.in-Lift.is c.requires.typed c.deref.result.now
    (c.deref.ensures.value ∙ c.in_ok-values-in-Lift.ensures ∙ ap (map (λ a. event (streams_of c.args.streams.now a c.args.t))) c.ids.ensures)
