use Rattle.std.proofs.Common.{◌++◌}
use Rattle.std.proofs.lemmas.Result.{on_err_weaker, on_ok_weaker}
use Rattle.register_code.specs.Text.{code_text}
use Rattle.run_state.specs.Spelling.{events_bytes, kept_bytes, mark, options_bytes, reader_bytes, text}
use Rattle.program_text.proofs.Joined.{kept}
use Rattle.state_snapshot.proofs.Joined.{joined}
use Rattle.state_snapshot.proofs.write.append_state.Goals as goal

pub returns-clause-ok : goal.returns-clause-ok
returns-clause-ok c =
    let st = c.args.state.now in
    let program = text (code_text c.args.code.now) in
    let kept = kept_bytes st.monitor in
    let events = events_bytes st.monitor ++ kept in
    let reader = reader_bytes st.reader ++ events in
    let options = options_bytes st ++ reader in
    on_ok_weaker c.put_kept.result (λ is.
    joined c.args.out.now c.put_program.new.out c.put_kept.new.out (mark ++ program) options c.in_ok-put_program.ensures.ok
    (joined c.put_program.new.out c.put_options.new.out c.put_kept.new.out (options_bytes st) reader c.in_ok-put_options.ensures.ok
    (joined c.put_options.new.out c.put_reader.new.out c.put_kept.new.out (reader_bytes st.reader) events c.in_ok-put_reader.ensures.ok
    (joined c.put_reader.new.out c.put_open.new.out c.put_kept.new.out (events_bytes st.monitor) kept c.in_ok-put_open.ensures.ok is)))) c.put_kept.ensures.ok

pub returns-clause-err : goal.returns-clause-err
returns-clause-err c =
    let st = c.args.state.now in
    let program = mark ++ text (code_text c.args.code.now) in
    let reader = reader_bytes st.reader ++ events_bytes st.monitor in
    let options = options_bytes st ++ reader in
    on_err_weaker c.put_kept.result (kept c.args.out.now c.put_open.new.out c.put_kept.new.out (program ++ options)
    (joined c.args.out.now c.put_program.new.out c.put_open.new.out program options c.in_ok-put_program.ensures.ok
    (joined c.put_program.new.out c.put_options.new.out c.put_open.new.out (options_bytes st) reader c.in_ok-put_options.ensures.ok
    (joined c.put_options.new.out c.put_reader.new.out c.put_open.new.out (reader_bytes st.reader) (events_bytes st.monitor) c.in_ok-put_reader.ensures.ok c.in_ok-put_open.ensures.ok)))) c.put_kept.ensures.err
