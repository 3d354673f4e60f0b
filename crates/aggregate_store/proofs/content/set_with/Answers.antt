use Rattle.std.proofs.Common.{ap, ◌∙◌}
use Rattle.aggregate_store.proofs.Gathered.{all_taken, one_key_more}
use Rattle.std.specs.FinSet as set
use Rattle.aggregate_store.proofs.content.set_with.Goals as goal

pub loop-key-preserved : goal.loop-key-preserved
loop-key-preserved c =
    one_key_more c.args.keys.now c.loop-key.key-index c.key-item.result c.loop-key.set c.insert.new.self c.loop-key-test.true c.key-item.is c.loop-key.invariant c.in_ok-insert.ensures.ok

pub returns : goal.returns
returns c = c.loop-key.invariant ∙ ap set.from_list (all_taken c.args.keys.now c.loop-key.key-index c.loop-key-test.false)
