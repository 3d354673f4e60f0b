use Rattle.std.proofs.lemmas.Result.{IfOk-weaker}
use Rattle.trigger_starts.specs.inner.Kept.{AreFiring}
use Rattle.trigger_starts.specs.inner.Truth.{assignment_of}
use Rattle.trigger_diagram.specs.inner.Kept.{AreFiringIn}
use Rattle.trigger_diagram.proofs.Keeping.{firing_told}
use Rattle.trigger_diagram.proofs.diagrams.Diagrams.firing.Goals as goal

pub returns-clause-exact : goal.returns-clause-exact
returns-clause-exact c =
    IfOk-weaker c.firing.result (λ marks. AreFiring c.deref.result.now c.deref-2.result.now c.as_slice.result.now (assignment_of c.args.given) marks.items) (λ marks. AreFiringIn c.args.self.now (assignment_of c.args.given) marks.items)
    (λ marks are. firing_told c.args.self.now c.self.inside.rules.items c.deref.result.now c.self.inside.starts.items c.deref-2.result.now c.self.inside.order.items c.as_slice.result.now c.self.inside.arena (assignment_of c.args.given) marks.items c.self.view_is c.deref.ensures.value c.deref-2.ensures.value c.as_slice.ensures.value c.self.invariant.ordered c.self.invariant.starts_are are)
    c.firing.ensures.exact
