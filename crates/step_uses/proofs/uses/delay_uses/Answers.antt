use Rattle.std.proofs.Common.{◌≡◌, ◌<◌, ◌||◌, ◌&&◌, eqb, length, ap, sym, ◌∙◌, arith}
use Rattle.flat_core.specs.Members.{is_in}
use Rattle.flat_core.specs.System.{equation}
use Rattle.step_uses.specs.Uses.{args_at, row}
use Rattle.step_uses.proofs.RowLemmas.{delay_added}
use Rattle.step_uses.proofs.uses.delay_uses.Goals as goal

pub loop-delay-preserved : goal.loop-delay-preserved
loop-delay-preserved c =
    let s = c.args.flat.now in
    let delay = c.delay-item.result in
    let rows = c.loop-delay.rows in
    record {
      size = c.in_ok-add_each.ensures.size ∙ c.in_ok-add.ensures.size ∙ c.loop-delay.invariant.size;
      uses = λ a d below.
          let there : a < length rows = omega (arith, c.loop-delay.invariant.size) in
          let within : a < length c.add.new.self = omega (arith, c.loop-delay.invariant.size, c.in_ok-add.ensures.size) in
          let args : c.ids.result.now ≡ args_at (equation s delay) = c.ids.ensures ∙ sym (ap args_at c.equation.ensures) in
          delay_added rows c.add.new.self c.add_each.new.rows c.args.delays.now c.loop-delay.delay-index delay c.get.result (λ j. args_at (equation s j)) a d c.loop-delay-test.true c.delay-item.is c.get.ensures there (c.loop-delay.invariant.uses a d below) c.in_ok-add.ensures.added
          (c.in_ok-add_each.ensures.added a d within ∙ (λ k. is_in (row c.add.new.self a) d || (is_in (args k) a && eqb (c.get-in-loop-delay.ensures k) d)));
    }
