use Rattle.std.proofs.Common.{◌++◌, ◌∙◌, ap}
use Rattle.std.proofs.lemmas.Result.{on_err_weaker, on_ok_weaker}
use Rattle.run_state.specs.Spelling.{mark, text}
use Rattle.register_code.specs.Text.{code_text}
use Rattle.program_text.proofs.Joined.{kept}
use Rattle.state_snapshot.proofs.Joined.{joined}
use Rattle.state_snapshot.proofs.write.put_program.Goals as goal

pub returns-clause-ok : goal.returns-clause-ok
returns-clause-ok c =
    let program = code_text c.args.code.now in
    let is_program = c.as_slice.ensures ∙ c.in_ok-print_code.ensures.ok ∙ ap (λ t. t ++ program) c.truncate.ensures in
    on_ok_weaker c.put_text.result (λ is.
    joined c.args.out.now c.append.new.self c.put_text.new.out mark (text program) c.in_ok-append.ensures.ok (is ∙ ap (λ t. c.append.new.self ++ text t) is_program)) c.put_text.ensures.ok

pub returns-clause-err : goal.returns-clause-err
returns-clause-err c = on_err_weaker c.put_text.result (kept c.args.out.now c.append.new.self c.put_text.new.out mark c.in_ok-append.ensures.ok) c.put_text.ensures.err
