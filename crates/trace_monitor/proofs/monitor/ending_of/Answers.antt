use Rattle.std.proofs.Common.{◌≡◌, Some, refl, subst, sym}
use Rattle.flat_core.specs.System.{System, equation}
use Rattle.monitor_run.specs.declared.monitor.Stop.{Stop}
use Rattle.trace_monitor.specs.declared.ending.RunEnding.TheVariants as ending
use Rattle.trace_monitor.specs.Next.{EndsFor}
use Rattle.trace_monitor.proofs.monitor.ending_of.Goals as goal

pub returns-in-Fault : goal.returns-in-Fault
returns-in-Fault c =
    let at = c.equation.result.now in
    let is = subst (λ (s : System). equation s c.in-Fault.equation ≡ Some at) c.flat.ensures.flat c.equation.ensures in
    subst (λ (why : Stop). EndsFor c.args.code.now.system why (ending.Fault c.in-Fault.time c.in-Fault.kind c.equation.result.now.place)) (sym c.in-Fault.is) (at.place, record { at = at; is = is; place_is = refl }, refl)

pub returns-in-Limit : goal.returns-in-Limit
returns-in-Limit c = subst (λ (why : Stop). EndsFor c.args.code.now.system why (ending.Limit c.in-Limit.count c.in-Limit.time)) (sym c.in-Limit.is) refl
