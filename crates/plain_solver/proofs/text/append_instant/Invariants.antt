use Rattle.std.proofs.Common.{◌≡◌, ◌++◌, drop}
use Rattle.std.specs.List.{flat_map}
use Rattle.flat_core.specs.Stream.{event}
use Rattle.flat_core.specs.Text.{event_line}
use Rattle.plain_solver.specs.inner.Streams.{streams_of}
use Rattle.plain_solver.proofs.text.append_instant.Given as goal

abbrev pub invariant-loop-output : goal.invariant-loop-output
invariant-loop-output l =
    l.out ++ flat_map (λ o. event_line l.time o.name (event (streams_of l.streams o.equation l.time))) (drop l.output-index l.output-items)
    ≡ l.fn.out ++ flat_map (λ o. event_line l.time o.name (event (streams_of l.streams o.equation l.time))) l.output-items
