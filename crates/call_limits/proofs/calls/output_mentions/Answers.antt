use Rattle.std.proofs.Common.{map}
use Rattle.syntax_tree.specs.inner.OneLevel.{item_of}
use Rattle.name_check.specs.Scope.{top}
use Rattle.call_limits.proofs.CallLemmas.{outputs_turn}
use Rattle.call_limits.proofs.calls.output_mentions.Goals as goal

pub loop-number-preserved : goal.loop-number-preserved
loop-number-preserved c =
    outputs_turn c.args.items.now c.loop-number.number c.index-items-number.result c.in_ok-names.names (top (map item_of c.args.items.now)) c.all-scope.result c.loop-number.mentions.items c.add_output.new.mentions.items _ c.loop-number-test.true c.index-items-number.is c.in_ok-names.ensures c.all-scope.ensures c.loop-number.invariant c.in_ok-add_output.ensures
