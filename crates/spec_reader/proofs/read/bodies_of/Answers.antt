use Rattle.std.proofs.lemmas.Result.{err_from_is_err_and}
use Rattle.spec_reader.proofs.read.bodies_of.Goals as goal

pub returns-in_err-check_calls-clause-refused : goal.returns-in_err-check_calls-clause-refused
returns-in_err-check_calls-clause-refused c = λ kinds.
    let p = err_from_is_err_and c.from_residual.result c.from_residual.ensures.1 in
    rw (p.1, p.2) (c.in_err-check_calls.ensures.refused kinds)
