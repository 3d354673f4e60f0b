use Rattle.std.specs.List.{filter, flat_map, range_with_len}
use Rattle.flat_core.specs.Updates.{is_running_update}
use Rattle.choice_text.specs.Text.{update_line}
use Rattle.tsl_value.proofs.Results.{on_err}
use Rattle.program_text.proofs.Joined.{kept}
use Rattle.program_text.proofs.Numbers.{text_more}
use Rattle.choice_text.proofs.print.put_updates.Goals as goal

pub returns-in_err-put_if_update-clause-err : goal.returns-in_err-put_if_update-clause-err
returns-in_err-put_if_update-clause-err c =
    on_err c.from_residual.result
    (kept c.args.out.now c.loop-number.out c.put_if_update.new.out (flat_map (update_line c.args.flat.now c.args.reasons.now) (filter (is_running_update c.args.flat.now) (range_with_len 0 c.loop-number.number))) c.loop-number.invariant c.in_err-put_if_update.ensures.err)

pub loop-number-preserved : goal.loop-number-preserved
loop-number-preserved c =
    text_more (is_running_update c.args.flat.now) (update_line c.args.flat.now c.args.reasons.now) c.loop-number.number c.new.result c.args.out.now c.loop-number.out c.put_if_update.new.out c.new.ensures c.loop-number.invariant c.in_ok-put_if_update.ensures.ok
