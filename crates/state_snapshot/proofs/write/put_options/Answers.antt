use Rattle.std.proofs.Common.{◌++◌}
use Rattle.std.proofs.lemmas.Result.{on_ok_weaker}
use Rattle.run_state.specs.Spelling.{flag, number}
use Rattle.state_snapshot.proofs.Joined.{joined}
use Rattle.state_snapshot.proofs.write.put_options.Goals as goal

pub returns-clause-ok : goal.returns-clause-ok
returns-clause-ok c =
    let st = c.args.state.now in
    let last = number st.instants_limit ++ number st.bytes_limit in
    on_ok_weaker c.put_number-2.result (λ is.
    joined c.args.out.now c.put_flag.new.out c.put_number-2.new.out (flag st.strict) last c.in_ok-put_flag.ensures.ok
    (joined c.put_flag.new.out c.put_number.new.out c.put_number-2.new.out (number st.instants_limit) (number st.bytes_limit) c.in_ok-put_number.ensures.ok is)) c.put_number-2.ensures.ok
