use Rattle.alias_rules.proofs.Existing.{some_order_of}
use Rattle.alias_rules.proofs.laws.fine_set_has_an_order.Goals as goal

pub returns : goal.returns
returns c s set proper outputs_run updates fine none = some_order_of s proper outputs_run set updates fine none
