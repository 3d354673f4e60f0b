use Rattle.std.proofs.Common.{◌++◌, append_assoc, codes, ◌∙◌}
use Rattle.std.proofs.lemmas.Result.{on_ok_weaker}
use Rattle.std.specs.Fmt.{decimal}
use Rattle.event_why.proofs.print.put_after.Goals as goal

pub returns-clause-ok : goal.returns-clause-ok
returns-clause-ok c =
    on_ok_weaker c.print_number.result
    (λ same. same ∙ (λ k. c.in_ok-append.ensures.ok k ++ decimal (c.get.ensures.value k)) ∙ append_assoc c.args.out.now (codes "pending after ") (decimal c.args.t))
    c.print_number.ensures.ok
