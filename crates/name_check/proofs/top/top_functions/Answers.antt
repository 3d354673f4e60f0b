use Rattle.name_check.proofs.TopLemmas.{functions_turn}
use Rattle.name_check.proofs.top.top_functions.Goals as goal

pub loop-number-preserved : goal.loop-number-preserved
loop-number-preserved c =
    functions_turn c.args.items.now c.loop-number.number c.index-items-number.result c.loop-number.names c.add_function_of.new.names _ c.loop-number-test.true c.index-items-number.is c.loop-number.invariant c.in_ok-add_function_of.ensures
