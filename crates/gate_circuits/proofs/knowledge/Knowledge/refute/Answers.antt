use Rattle.std.proofs.Common.{ℕ, List, sym, subst}
use Rattle.gate_circuits.specs.declared.circuit.Gate.{Gate}
use Rattle.gate_circuits.specs.inner.Marks.{has}
use Rattle.gate_circuits.specs.inner.Knowledge.{AreModels, IsModel, IsSomeModel}
use Rattle.gate_circuits.proofs.Rows.{rows_push}
use Rattle.gate_circuits.proofs.Turns.{searched_model}
use Rattle.gate_circuits.proofs.knowledge.Knowledge.refute.Goals as goal

pub returns-clause-models : goal.returns-clause-models
returns-clause-models c =
    let wanted = c.args.turn.now.wanted in
    let exact : IsModel c.args.self.now (has wanted) c.in_ok-on.on = subst (λ (g : List Gate). IsModel g (has wanted) c.in_ok-on.on) c.circuit.ensures c.in_ok-on.ensures in
    subst (λ (l : List (List ℕ)). AreModels c.args.self.now l) (sym c.in_ok-push.ensures.items)
    (rows_push (λ (k : ℕ) (on : List ℕ). IsSomeModel c.args.self.now on) c.args.models.now.items c.in_ok-on.on c.requires.models (has wanted, exact))

pub returns-clause-searched : goal.returns-clause-searched
returns-clause-searched c =
    let wanted = c.args.turn.now.wanted in
    let exact : IsModel c.args.self.now (has wanted) c.in_ok-on.on = subst (λ (g : List Gate). IsModel g (has wanted) c.in_ok-on.on) c.circuit.ensures c.in_ok-on.ensures in
    searched_model c.args.self.now wanted c.args.turn.now.known c.args.left.now c.requires.known c.requires.held c.in_ok-on.on c.keep_either.new.self exact c.keep_either.ensures
