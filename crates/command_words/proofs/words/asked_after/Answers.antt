use Rattle.std.proofs.Common.{rules, drop}
use Rattle.std.proofs.lemmas.Result.{IfOk-weaker}
use Rattle.command_words.specs.Words.{texts_of}
use Rattle.command_words.proofs.Commands.{are_limited}
use Rattle.command_words.proofs.words.asked_after.Goals as goal

pub returns-in-Some-clause-limits : goal.returns-in-Some-clause-limits
returns-in-Some-clause-limits c =
    IfOk-weaker c.command_by.result _ _
    (λ asked is. are_limited c.args.verb (drop 1 (texts_of c.args.words.now)) asked (is (drop 1 (texts_of c.args.words.now)) (search rules)))
    c.command_by.ensures
