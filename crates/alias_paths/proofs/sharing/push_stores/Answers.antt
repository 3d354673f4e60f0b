use Rattle.std.proofs.Common.{get_or, arith}
use Rattle.alias_paths.proofs.Adding.{given_more, read_again}
use Rattle.alias_paths.proofs.Sharers.{GivesStore, store_pushed, gone_through}
use Rattle.alias_paths.proofs.sharing.push_stores.Goals as goal

pub loop-variable-preserved : goal.loop-variable-preserved
loop-variable-preserved c =
    let lasts = c.args.lasts.now in
    let k = c.loop-variable.variable-index in
    let p = get_or lasts k (0, 0) in
    given_more lasts (GivesStore c.args.count) k p c.args.pairs.now c.loop-variable.pairs c.push-in-loop-variable.new.self c.loop-variable-test.true (read_again lasts k (0, 0) c.loop-variable-test.true) c.loop-variable.invariant
    (store_pushed c.args.count p c.loop-variable.pairs c.push.new.self c.push-in-loop-variable.new.self c.in_ok-push.ensures c.in_ok-push-2.ensures)

pub returns : goal.returns
returns c = gone_through c.args.lasts.now c.args.count c.loop-variable.variable-index c.args.pairs.now c.loop-variable.pairs (omega arith) c.loop-variable.invariant
