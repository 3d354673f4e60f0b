use Rattle.flat_simplify.proofs.Streams.{keeps_streams}
use Rattle.flat_simplify.proofs.laws.streams_are_kept.Goals as goal

pub returns : goal.returns
returns c = keeps_streams
