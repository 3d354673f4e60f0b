use Rattle.std.proofs.Common.{◌≤◌, ◌+◌, [], ℕ, Contains, take, sym, subst, ◌∙◌, arith}
use Rattle.std.proofs.lemmas.Bool.{false≢true}
use Rattle.trigger_starts.specs.inner.AtomLists.{AddsSome}
use Rattle.tsl_value.proofs.Lists.{none_in_nil}
use Rattle.trigger_starts.proofs.AtomLists.{some_more, some_none, some_same}
use Rattle.trigger_starts.proofs.atoms.Atoms.others.Goals as goal
use Rattle.trigger_starts.proofs.atoms.Atoms.others.Goals.{then-not-has, else-not-has}

pub loop-atom-init : goal.loop-atom-init
loop-atom-init c = record { low = omega arith; some = some_none c.args.self.now (Contains []) none_in_nil }

pub loop-atom-preserved : goal.loop-atom-preserved
loop-atom-preserved c =
    let low = c.loop-atom.invariant.low in
    elim c.if-not-has.branch [
      | then-not-has w ↦ record {
        low = let is = w.others-is in omega arith;
        some = subst (AddsSome c.args.self.now (Contains (take (c.loop-atom.atom-index + 1) c.args.other.now))) (sym w.others-is)
            (some_more c.args.self.now c.args.other.now c.list-atom-items.result.now c.list-atom-items.ensures c.loop-atom.atom-index c.atom-item.result c.loop-atom-test.true c.atom-item.is c.loop-atom.others c.loop-atom.invariant.some c.requires
            (λ d. false≢true (sym w.if-not-has.true ∙ c.has.ensures.1 d)));
      }
      | else-not-has w ↦ record {
        low = let is = w.others-is in omega arith;
        some = subst (AddsSome c.args.self.now (Contains (take (c.loop-atom.atom-index + 1) c.args.other.now))) (sym w.others-is)
            (some_same c.args.self.now c.args.other.now c.list-atom-items.result.now c.list-atom-items.ensures c.loop-atom.atom-index c.atom-item.result c.loop-atom-test.true c.atom-item.is c.loop-atom.others c.loop-atom.invariant.some
            (c.has.ensures.0 w.if-not-has.false));
      }
    ]
