use Rattle.std.proofs.Common.{◌<◌, length, sym, ap, subst, ◌∙◌}
use Rattle.std.specs.Prelude.{eqb}
use Rattle.std.specs.List.{All, IsDistinct}
use Rattle.flat_core.specs.System.{System}
use Rattle.monitor_run.proofs.TableLemmas.{tables_are, timers_there}
use Rattle.monitor_run.proofs.tables.Tables.new.Goals as goal

pub step_uses-requires : goal.step_uses-requires
step_uses-requires c = subst (IsDistinct eqb) (sym (c.as_slice-order.ensures ∙ c.plan.ensures.order)) c.flat-flat.ensures.is_code.fine.ordered.once

pub delay_uses-requires : goal.delay_uses-requires
delay_uses-requires c = subst (λ (q : System). All (λ i. i < length q.equations) c.timers.result.now) (sym c.flat-flat.ensures.flat) (timers_there c.args.code.now.system c.flat-flat.ensures.is_code.is_flat c.timers.result.now c.timers.ensures)

pub returns : goal.returns
returns c =
    tables_are c.args.code.now.system c.flat-flat.result.now c.args.code.now.order c.as_slice-order.result.now c.timers.result.now c.keeps.result.now c.count-count.result _ c.flat-flat.ensures.flat (c.as_slice-order.ensures ∙ c.plan.ensures.order) c.timers.ensures c.keeps.ensures
    (c.count-count.ensures.count ∙ ap (λ (q : System). length q.equations) c.flat-flat.ensures.flat) c.in_ok-actions_of.ensures c.in_ok-step_uses.ensures.size c.in_ok-step_uses.ensures.uses c.in_ok-delay_uses.ensures.uses c.in_ok-marked.ensures.size c.in_ok-marked.ensures.marked
