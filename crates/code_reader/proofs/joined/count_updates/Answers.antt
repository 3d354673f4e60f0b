use Rattle.std.proofs.Common.{◌∙◌, sym, arith}
use Rattle.flat_core.specs.Updates.{is_running_update}
use Rattle.code_reader.specs.Parts.{code_in}
use Rattle.code_reader.proofs.Counting.{counted_with, counted_without}
use Rattle.code_reader.proofs.joined.count_updates.Goals as goal
use Rattle.code_reader.proofs.joined.count_updates.Goals.{then-is_running_update, else-is_running_update}

pub loop-number-preserved : goal.loop-number-preserved
loop-number-preserved c =
    let low = c.loop-number.invariant.0 in
    let so_far = c.loop-number.invariant.1 in
    let told = sym c.is_running_update.ensures in
    elim c.if-is_running_update.branch [
      | then-is_running_update w ↦
          let is = w.count-is in (
            omega (arith, low, is),
            is ∙ counted_with (is_running_update (code_in c.args.parts.now).system) c.loop-number.number c.loop-number.count (told ∙ w.if-is_running_update.true) so_far,
          )
      | else-is_running_update w ↦
          let is = w.count-is in (
            omega (arith, low, is),
            is ∙ counted_without (is_running_update (code_in c.args.parts.now).system) c.loop-number.number c.loop-number.count (told ∙ w.if-is_running_update.false) so_far,
          )
    ]
