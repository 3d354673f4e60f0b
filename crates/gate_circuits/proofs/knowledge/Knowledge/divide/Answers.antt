use Rattle.std.proofs.Common.{List, ℕ, sym, subst}
use Rattle.gate_circuits.specs.inner.Search.{AreDivided}
use Rattle.gate_circuits.proofs.Turns.{divided_sum, divided_other}
use Rattle.gate_circuits.proofs.knowledge.Knowledge.divide.Goals as goal

pub returns-in-Some : goal.returns-in-Some
returns-in-Some c sum end are last =
    divided_sum c.args.self.now sum end c.args.gate c.args.marked.now c.args.summands.now.items are last c.inputs_of_sum.ensures.ordered c.in-Some.inputs.now c.add_each.new.self c.in-Some.ensures.some
    c.add_each.ensures.room c.add_each.ensures.kept c.add_each.ensures.there c.add_each.ensures.from

pub returns-in_ok-push-in-None : goal.returns-in_ok-push-in-None
returns-in_ok-push-in-None c sum end are last =
    subst (λ (l : List ℕ). AreDivided c.args.self.now sum c.args.gate c.args.marked.now l) (sym c.in_ok-push-in-None.ensures.items)
    (divided_other c.args.self.now sum end c.args.gate c.args.marked.now c.args.summands.now.items are last c.in-None.ensures.none)
