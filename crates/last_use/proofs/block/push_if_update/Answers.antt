use Rattle.std.proofs.Common.{sym, ◌∙◌}
use Rattle.std.proofs.lemmas.Bool.{false≢true}
use Rattle.last_use.proofs.Blocking.{block_same, block_one}
use Rattle.last_use.proofs.block.push_if_update.Goals as goal

pub returns-in_ok-push : goal.returns-in_ok-push
returns-in_ok-push c = block_one c.args.flat.now c.args.id c.args.set.now c.push.new.self (sym c.is_running_update.ensures ∙ c.if-is_running_update.true) c.push.ensures.ascending c.in_ok-push.ensures.members

pub returns-else-is_running_update : goal.returns-else-is_running_update
returns-else-is_running_update c =
    block_same c.args.flat.now c.args.id c.args.set.now c.requires.ascending (λ update. false≢true (sym c.if-is_running_update.false ∙ c.is_running_update.ensures ∙ update))
