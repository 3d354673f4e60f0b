use Rattle.std.proofs.Common.{subst, sym}
use Rattle.body_eval.specs.inner.Evaluable.{IsEvaluable}
use Rattle.monitor_run.proofs.case.evaluated.Goals as goal

pub eval-requires : goal.eval-requires
eval-requires c = subst (λ xs. IsEvaluable c.args.store.now.cells c.args.registers.now xs c.args.body.now) (sym c.ids.ensures) c.requires
