use Rattle.std.proofs.Common.{◌≡◌, slice_index, arith}
use Rattle.std.proofs.lemmas.List.{get_or_read}
use Rattle.alias_paths.specs.inner.Search.{first_at}
use Rattle.alias_paths.proofs.Chaining.{chained_more}
use Rattle.alias_paths.proofs.links.chained.Goals as goal

pub loop-place-preserved : goal.loop-place-preserved
loop-place-preserved c =
    let low = (c.requires c.loop-place.place (0, 0) c.loop-place-test.true).0 in
    let last = c.loop-place.chains.last.items in
    let read : c.index.result.now ≡ slice_index last (first_at c.args.pairs.now c.loop-place.place) =
    get_or_read last (first_at c.args.pairs.now c.loop-place.place) c.index.result.now (let size = c.loop-place.invariant.one_each in omega arith) c.index.ensures 0 in
    chained_more c.args.count c.args.pairs.now c.loop-place.place last c.loop-place.chains.before.items low c.loop-place.invariant c.index.result.now c.push.new.self.items read c.in_ok-push.ensures.items
