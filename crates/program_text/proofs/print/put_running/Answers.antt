use Rattle.std.specs.List.{filter, flat_map, range_with_len}
use Rattle.tsl_value.proofs.Results.{on_err}
use Rattle.flat_core.specs.System.{runs}
use Rattle.program_text.specs.Text.{equation_line}
use Rattle.program_text.proofs.Joined.{kept}
use Rattle.program_text.proofs.Numbers.{text_more}
use Rattle.program_text.proofs.print.put_running.Goals as goal

pub returns-in_err-put_if_running-clause-err : goal.returns-in_err-put_if_running-clause-err
returns-in_err-put_if_running-clause-err c =
    on_err c.from_residual.result
    (kept c.args.out.now c.loop-number.out c.put_if_running.new.out (flat_map (equation_line c.args.flat.now) (filter (runs c.args.flat.now) (range_with_len 0 c.loop-number.number))) c.loop-number.invariant c.in_err-put_if_running.ensures.err)

pub loop-number-preserved : goal.loop-number-preserved
loop-number-preserved c =
    text_more (runs c.args.flat.now) (equation_line c.args.flat.now) c.loop-number.number c.new.result c.args.out.now c.loop-number.out c.put_if_running.new.out c.new.ensures c.loop-number.invariant c.in_ok-put_if_running.ensures.ok
