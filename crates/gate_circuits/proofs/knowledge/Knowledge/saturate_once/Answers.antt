use Rattle.std.proofs.Common.{ℕ, List, Option, Vec, Global, sym, subst, ◌∙◌}
use Rattle.std.specs.Prelude.{IfSome, IsTrue}
use Rattle.gate_circuits.specs.inner.Marks.{has}
use Rattle.gate_circuits.specs.inner.Knowledge.{AreAllOn}
use Rattle.gate_circuits.specs.inner.Search.{AreSummands, IsAnyOn}
use Rattle.gate_circuits.proofs.knowledge.Knowledge.saturate_once.Goals.{in-Some+in_ok-is_done+else-not-is_done+else-is_within, in_default}
use Rattle.gate_circuits.proofs.knowledge.Knowledge.saturate_once.Goals as goal

pub returns-then-not-is_done-clause-follow : goal.returns-then-not-is_done-clause-follow
returns-then-not-is_done-clause-follow c leaves on =
    let gates = c.args.self.now in
    let before = c.sums.invariant.follow leaves on in
    let found : IsTrue (has c.sums.known c.sums.sum) × AreSummands gates c.sums.sum c.in-Some.summands.items =
    subst (λ (o : Option (Vec ℕ Global)). IfSome o (λ l. IsTrue (has c.sums.known c.sums.sum) × AreSummands gates c.sums.sum l.items)) c.in-Some.is c.in_ok-summands.ensures in
    c.in_ok-is_done.ensures.common leaves before (subst (λ (l : List ℕ). IsAnyOn gates leaves l) (sym c.deref.ensures.value) (found.1.cover leaves (before c.sums.sum found.0)))

pub returns-then-is_within-clause-follow : goal.returns-then-is_within-clause-follow
returns-then-is_within-clause-follow c leaves on =
    let gates = c.args.self.now in
    let before = c.sums.invariant.follow leaves on in
    let found : IsTrue (has c.sums.known c.sums.sum) × AreSummands gates c.sums.sum c.in-Some.summands.items =
    subst (λ (o : Option (Vec ℕ Global)). IfSome o (λ l. IsTrue (has c.sums.known c.sums.sum) × AreSummands gates c.sums.sum l.items)) c.in-Some.is c.in_ok-summands.ensures in
    c.in_ok-is_done.ensures.common leaves before (subst (λ (l : List ℕ). IsAnyOn gates leaves l) (sym c.deref.ensures.value) (found.1.cover leaves (before c.sums.sum found.0)))

pub sums-preserved : goal.sums-preserved
sums-preserved c =
    let gates = c.args.self.now in
    elim c.match-branch-2.branch [
      | in-Some+in_ok-is_done+else-not-is_done+else-is_within w ↦ record {
        follow = λ leaves on.
            let before = c.sums.invariant.follow leaves on in
            let found : IsTrue (has c.sums.known c.sums.sum) × AreSummands gates c.sums.sum w.in-Some.summands.items =
            subst (λ (o : Option (Vec ℕ Global)). IfSome o (λ l. IsTrue (has c.sums.known c.sums.sum) × AreSummands gates c.sums.sum l.items)) w.in-Some.is c.in_ok-summands.ensures in
            subst (λ (k : List ℕ). AreAllOn gates leaves k) (sym w.known-is)
            (w.in_ok-is_done.ensures.common leaves before (subst (λ (l : List ℕ). IsAnyOn gates leaves l) (sym w.deref.ensures.value) (found.1.cover leaves (before c.sums.sum found.0))));
        unlimited = λ e. w.effort-is ∙ w.in_ok-is_done.ensures.unlimited (c.sums.invariant.unlimited e);
      }
      | in_default w ↦ record {
        follow = λ leaves on. subst (λ (k : List ℕ). AreAllOn gates leaves k) (sym w.known-is) (c.sums.invariant.follow leaves on);
        unlimited = λ e. w.effort-is ∙ c.sums.invariant.unlimited e;
      }
    ]
