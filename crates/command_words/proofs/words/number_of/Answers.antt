use Rattle.command_words.proofs.Digits.{not_refused}
use Rattle.command_words.proofs.words.number_of.Goals as goal

pub returns-in-Err : goal.returns-in-Err
returns-in-Err c = not_refused c.args.digits.now c.in-Err.field-0 c.requires c.in-Err.ensures.value.0
