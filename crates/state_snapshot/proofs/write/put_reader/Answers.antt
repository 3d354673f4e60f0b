use Rattle.std.proofs.Common.{◌++◌, ◌∙◌, ap}
use Rattle.std.proofs.lemmas.Result.{on_err_weaker, on_ok_weaker}
use Rattle.run_state.specs.Spelling.{number, optional, text}
use Rattle.program_text.proofs.Joined.{kept}
use Rattle.state_snapshot.proofs.Joined.{joined}
use Rattle.state_snapshot.proofs.write.put_reader.Goals as goal

pub returns-clause-ok : goal.returns-clause-ok
returns-clause-ok c =
    let st = c.args.state.now in
    let rest = text st.rest in
    let last = optional st.last ++ rest in
    let lines = number st.lines ++ last in
    on_ok_weaker c.put_text.result (λ is.
    joined c.args.out.now c.put_number.new.out c.put_text.new.out (number st.taken) lines c.in_ok-put_number.ensures.ok
    (joined c.put_number.new.out c.put_number-2.new.out c.put_text.new.out (number st.lines) last c.in_ok-put_number-2.ensures.ok
    (joined c.put_number-2.new.out c.put_optional.new.out c.put_text.new.out (optional st.last) rest c.in_ok-put_optional.ensures.ok
    (is ∙ ap (λ bytes. c.put_optional.new.out ++ text bytes) c.as_slice.ensures)))) c.put_text.ensures.ok

pub returns-clause-err : goal.returns-clause-err
returns-clause-err c =
    let st = c.args.state.now in
    let lines = number st.lines ++ optional st.last in
    on_err_weaker c.put_text.result (kept c.args.out.now c.put_optional.new.out c.put_text.new.out (number st.taken ++ lines)
    (joined c.args.out.now c.put_number.new.out c.put_optional.new.out (number st.taken) lines c.in_ok-put_number.ensures.ok
    (joined c.put_number.new.out c.put_number-2.new.out c.put_optional.new.out (number st.lines) (optional st.last) c.in_ok-put_number-2.ensures.ok c.in_ok-put_optional.ensures.ok))) c.put_text.ensures.err
