use Rattle.std.proofs.Common.{List, ℕ, sym, subst}
use Rattle.gate_circuits.specs.inner.Knowledge.{AreModels}
use Rattle.gate_circuits.proofs.Turns.{decided_is}
use Rattle.gate_circuits.proofs.knowledge.Knowledge.decide.Goals as goal

pub returns-clause-decided : goal.returns-clause-decided
returns-clause-decided c =
    decided_is c.args.self.now c.args.gate c.in_ok-turn.turn.wanted c.args.left.now c.keep_by_models.new.left c.search.new.left c.in_ok-is_whole.is_whole c.in_ok-turn.ensures.there c.in_ok-turn.ensures.only
    (c.keep_by_models.ensures.refuted c.args.self.now (subst (λ (l : List (List ℕ)). AreModels c.args.self.now l) (sym c.deref.ensures.value) c.requires.models)) c.in_ok-is_whole.ensures.searched
