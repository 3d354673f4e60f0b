use Rattle.std.proofs.Common.{sym, ◌∙◌}
use Rattle.state_snapshot.specs.inner.Reading.{is_key_below, rise_by}
use Rattle.state_snapshot.proofs.Loop.{rise_on}
use Rattle.state_snapshot.proofs.cells.are_rising.Goals as goal

pub loop-key-preserved : goal.loop-key-preserved
loop-key-preserved c =
    rise_on is_key_below c.loop-key.last.now c.in-Some.others.now c.loop-key.key-index (rise_by is_key_below c.args.keys.now) c.loop-key.invariant
    c.key-item.result c.loop-key-test.true c.key-item.is (sym c.is_below.ensures ∙ c.if-not-is_below.false)
