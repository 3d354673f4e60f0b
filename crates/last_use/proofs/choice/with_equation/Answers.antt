use Rattle.std.proofs.Common.{sym, ◌∙◌}
use Rattle.std.proofs.lemmas.Bool.{false≢true}
use Rattle.last_use.proofs.Choosing.{skipped}
use Rattle.last_use.proofs.choice.with_equation.Goals as goal

pub returns-else-is_running_update : goal.returns-else-is_running_update
returns-else-is_running_update c =
    let chosen = c.args.chosen in
    record {
      below = skipped c.args.flat.now c.args.id chosen.in_place.set chosen.reasons c.requires.chosen.below (λ update. false≢true (sym c.if-is_running_update.false ∙ c.is_running_update.ensures ∙ update));
      nears = c.requires.chosen.nears;
    }
