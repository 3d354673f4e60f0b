use Rattle.std.proofs.Common.{◌∙◌}
use Rattle.std.proofs.lemmas.Result.{IfOk-weaker}
use Rattle.clap.specs.Words.{found_of}
use Rattle.command_words.specs.Words.{has_use, strict_flag, stats_flag}
use Rattle.command_words.proofs.Commands.{run_held}
use Rattle.command_words.proofs.words.run_by.Goals as goal

pub returns : goal.returns
returns c =
    IfOk-weaker c.run_found.result _ _
    (λ run found. λ ps h.
    found (has_use strict_flag ps) (has_use stats_flag ps) (h.flags strict_flag) (h.flags stats_flag)
    ∙ run_held c.args.from ps c.may_run.result (c.may_run.ensures ps h) (found_of c.args.matches.now) h c.if-not-may_run.false)
    c.run_found.ensures
