use Rattle.std.proofs.Common.{ℕ, ◌↔◌, true, false, List, Contains, get_or, refl, sym, subst, ◌∙◌}
use Rattle.gate_circuits.specs.declared.search.Descent.{Descent}
use Rattle.gate_circuits.specs.inner.Knowledge.{AreAllOn, Follow}
use Rattle.gate_circuits.specs.inner.Search.{AreSummands, IsDescent, IsOpen}
use Rattle.gate_circuits.proofs.Turns.{searched_less, searched_never, partly_more, partly_all, partly_not, reordered, turn_item}
use Rattle.gate_circuits.proofs.knowledge.Knowledge.+search.Goals as goal

pub returns-in-Never-clause-searched : goal.returns-in-Never-clause-searched
returns-in-Never-clause-searched t c =
    let gates = c.args.self.now in
    let turn = c.descend.new.turn in
    let narrowed = c.in_ok-descend.ensures.narrowed in
    searched_less gates c.args.turn.wanted turn.wanted c.args.left.now c.args.left.now true narrowed.kept narrowed.forced
    (searched_never gates turn.wanted c.args.left.now (subst (λ (d : Descent). IsDescent gates c.args.turn.place turn d) c.in-Never.is c.in_ok-descend.ensures.descent))

pub returns-in-Bottom-clause-searched : goal.returns-in-Bottom-clause-searched
returns-in-Bottom-clause-searched t c =
    let narrowed = c.in_ok-descend.ensures.narrowed in
    searched_less c.args.self.now c.args.turn.wanted c.descend.new.turn.wanted c.args.left.now c.refute.new.left true narrowed.kept narrowed.forced c.in_ok-refute-in-Bottom.ensures.searched

pub with_summand-requires-clause-below : goal.with_summand-requires-clause-below
with_summand-requires-clause-below t c =
    let open_sum : IsOpen c.args.self.now c.args.turn.place c.descend.new.turn c.in-Open.sum c.in-Open.summands.items =
    subst (λ (d : Descent). IsDescent c.args.self.now c.args.turn.place c.descend.new.turn d) c.in-Open.is c.in_ok-descend.ensures.descent in
    open_sum.summands.below open_sum.is_sum (get_or c.deref-summand-items.result.now c.turns.summand-index 0)
    (turn_item c.in-Open.summands.items c.deref.result.now c.in_ok-list-in-Open.list.items c.deref-summand-items.result.now c.turns.summand-index c.deref.ensures.value c.in_ok-list-in-Open.ensures c.deref-summand-items.ensures.value c.turns-test.true)

pub with_summand-requires-clause-implies : goal.with_summand-requires-clause-implies
with_summand-requires-clause-implies t c =
    let open_sum : IsOpen c.args.self.now c.args.turn.place c.descend.new.turn c.in-Open.sum c.in-Open.summands.items =
    subst (λ (d : Descent). IsDescent c.args.self.now c.args.turn.place c.descend.new.turn d) c.in-Open.is c.in_ok-descend.ensures.descent in
    open_sum.summands.imply (get_or c.deref-summand-items.result.now c.turns.summand-index 0)
    (turn_item c.in-Open.summands.items c.deref.result.now c.in_ok-list-in-Open.list.items c.deref-summand-items.result.now c.turns.summand-index c.deref.ensures.value c.in_ok-list-in-Open.ensures c.deref-summand-items.ensures.value c.turns-test.true)

pub turns-preserved : goal.turns-preserved
turns-preserved t c =
    let list = c.deref-summand-items.result.now in
    let n = c.turns.summand-index in
    record {
      unlimited = λ e. c.search.ensures.unlimited (c.turns.invariant.unlimited e);
      models = c.in_ok-is_done-in-Open.ensures.models;
      part =
          partly_more c.args.self.now c.descend.new.turn.wanted list c.args.left.now c.turns.left c.in_ok-next-in-Open.next.wanted c.search.new.left n (get_or list n 0) c.in_ok-is_done-in-Open.is_done c.if-not-is_done.false c.turns.invariant.part refl
          c.in_ok-next-in-Open.ensures.there c.in_ok-next-in-Open.ensures.from c.in_ok-is_done-in-Open.ensures.searched;
    }

pub returns-then-not-is_done-clause-searched : goal.returns-then-not-is_done-clause-searched
returns-then-not-is_done-clause-searched t c =
    let narrowed = c.in_ok-descend.ensures.narrowed in
    searched_less c.args.self.now c.args.turn.wanted c.descend.new.turn.wanted c.args.left.now c.search.new.left false narrowed.kept narrowed.forced
    (partly_not c.args.self.now c.descend.new.turn.wanted c.deref-summand-items.result.now c.args.left.now c.turns.left c.in_ok-next-in-Open.next.wanted c.search.new.left c.turns.summand-index c.in_ok-is_done-in-Open.is_done c.turns.invariant.part
    c.in_ok-next-in-Open.ensures.there c.in_ok-is_done-in-Open.ensures.searched)

pub returns-then-not-is_done-clause-whole : goal.returns-then-not-is_done-clause-whole
returns-then-not-is_done-clause-whole t c e = sym c.if-not-is_done.true ∙ c.in_ok-is_done-in-Open.ensures.whole (c.turns.invariant.unlimited (c.spend.ensures e).1)

pub returns-then-is_within-2-clause-searched : goal.returns-then-is_within-2-clause-searched
returns-then-is_within-2-clause-searched t c =
    let narrowed = c.in_ok-descend.ensures.narrowed in
    let known : Follow c.args.self.now c.args.turn.wanted c.descend.new.turn.known = λ leaves on.
    subst (λ (k : List ℕ). AreAllOn c.args.self.now leaves k) (sym narrowed.known) (c.close_over.ensures leaves (c.requires.turn.known leaves on)) in
    record {
      kept = c.turns.invariant.part.kept;
      rest = λ ended leaves on b h. known leaves on b (c.is_within-in-turns.ensures c.if-is_within-2.true b h);
      refuted = λ a b w was gone. c.turns.invariant.part.refuted a b (narrowed.kept a w) was gone;
    }

pub returns-clause-searched : goal.returns-clause-searched
returns-clause-searched t c =
    let gates = c.args.self.now in
    let turn = c.descend.new.turn in
    let list = c.deref-summand-items.result.now in
    let narrowed = c.in_ok-descend.ensures.narrowed in
    let open_sum : IsOpen gates c.args.turn.place turn c.in-Open.sum c.in-Open.summands.items =
    subst (λ (d : Descent). IsDescent gates c.args.turn.place turn d) c.in-Open.is c.in_ok-descend.ensures.descent in
    let same : (x : ℕ) → Contains list x ↔ Contains c.in-Open.summands.items x = λ x.
    subst (λ (l : List ℕ). Contains l x ↔ Contains c.in-Open.summands.items x) (sym c.deref-summand-items.ensures.value)
    (subst (λ (l : List ℕ). Contains c.in_ok-list-in-Open.list.items x ↔ Contains l x) c.deref.ensures.value (c.in_ok-list-in-Open.ensures x)) in
    let are : AreSummands gates c.in-Open.sum list = reordered gates c.in-Open.sum c.in-Open.summands.items list open_sum.summands same in
    searched_less gates c.args.turn.wanted turn.wanted c.args.left.now c.turns.left true narrowed.kept narrowed.forced
    (partly_all gates turn.wanted list c.args.left.now c.turns.left c.turns.summand-index c.in-Open.sum c.turns.invariant.part c.turns-test.false open_sum.wanted are.cover)
