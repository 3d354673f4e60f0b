use Rattle.std.proofs.Common.{ℕ, List, sym, subst}
use Rattle.gate_circuits.specs.declared.circuit.Gate.{Gate}
use Rattle.gate_circuits.specs.inner.Marks.{has}
use Rattle.gate_circuits.specs.inner.Knowledge.{AreModels, IsModel, IsSomeModel}
use Rattle.gate_circuits.proofs.Rows.{rows_push}
use Rattle.gate_circuits.proofs.knowledge.Knowledge.add_guess.Goals as goal

pub returns : goal.returns
returns c =
    let leaves = c.in_ok-leaves.leaves in
    let exact : IsModel c.args.self.now (has leaves) c.in_ok-on.on = subst (λ (g : List Gate). IsModel g (has leaves) c.in_ok-on.on) c.circuit.ensures c.in_ok-on.ensures in
    subst (λ (l : List (List ℕ)). AreModels c.args.self.now l) (sym c.in_ok-push.ensures.items)
    (rows_push (λ (k : ℕ) (on : List ℕ). IsSomeModel c.args.self.now on) c.args.models.now.items c.in_ok-on.on c.requires (has leaves, exact))
