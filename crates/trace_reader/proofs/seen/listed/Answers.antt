use Rattle.trace_reader.proofs.SeenLemmas.{listed_more}
use Rattle.trace_reader.proofs.seen.listed.Goals as goal

pub loop-place-preserved : goal.loop-place-preserved
loop-place-preserved c =
    listed_more c.loop-place.seen.items c.push.new.self.items c.args.set.now c.loop-place.place c.input_at.result c.input_at.ensures c.in_ok-push.ensures.items c.loop-place.invariant
