use Rattle.std.proofs.Common.{◌++◌, take}
use Rattle.std.specs.List.{flat_map}
use Rattle.run_state.specs.Spelling.{entry_bytes, scalar_bytes}
use Rattle.program_text.proofs.Joined.{kept}
use Rattle.state_snapshot.proofs.Joined.{joined, on_err}
use Rattle.state_snapshot.proofs.write.put_entries.Goals as goal

pub returns-in_err-put_scalar-2-clause-err : goal.returns-in_err-put_scalar-2-clause-err
returns-in_err-put_scalar-2-clause-err c =
    let before = flat_map entry_bytes (take c.loop-entry.entry-index c.args.entries.now) in
    let key = scalar_bytes c.entry-item.result.0 in
    on_err c.from_residual-in_err-put_scalar-2.result (kept c.args.out.now c.put_scalar.new.out c.put_scalar-in-loop-entry.new.out (before ++ key)
    (joined c.args.out.now c.loop-entry.out c.put_scalar.new.out before key c.loop-entry.invariant c.in_ok-put_scalar.ensures.ok) c.in_err-put_scalar-2.ensures.err)
