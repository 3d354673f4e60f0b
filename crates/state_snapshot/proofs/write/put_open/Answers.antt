use Rattle.std.proofs.Common.{◌++◌, ◌∙◌, ap, length}
use Rattle.std.proofs.lemmas.Result.{on_err_weaker, on_ok_weaker}
use Rattle.std.specs.List.{flat_map}
use Rattle.run_state.specs.Spelling.{event_bytes, number}
use Rattle.program_text.proofs.Joined.{kept}
use Rattle.state_snapshot.proofs.Joined.{joined}
use Rattle.state_snapshot.proofs.write.put_open.Goals as goal

pub returns-clause-ok : goal.returns-clause-ok
returns-clause-ok c =
    let st = c.args.state.now in
    let events = flat_map event_bytes st.open_events in
    let count = number (length st.open_events) in
    let counted = c.in_ok-put_number-2.ensures.ok ∙ ap (λ n. c.put_number.new.out ++ number n) c.len.ensures in
    on_ok_weaker c.put_events.result (λ is.
    joined c.args.out.now c.put_number.new.out c.put_events.new.out (number st.instants) (count ++ events) c.in_ok-put_number.ensures.ok
    (joined c.put_number.new.out c.put_number-2.new.out c.put_events.new.out count events counted (is ∙ ap (λ es. c.put_number-2.new.out ++ flat_map event_bytes es) c.as_slice.ensures))) c.put_events.ensures.ok

pub returns-clause-err : goal.returns-clause-err
returns-clause-err c =
    let first = number c.args.state.now.instants in
    let count = number c.len.result in
    on_err_weaker c.put_events.result (kept c.args.out.now c.put_number-2.new.out c.put_events.new.out (first ++ count)
    (joined c.args.out.now c.put_number.new.out c.put_number-2.new.out first count c.in_ok-put_number.ensures.ok c.in_ok-put_number-2.ensures.ok)) c.put_events.ensures.err
