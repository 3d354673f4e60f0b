use Rattle.std.proofs.Common.{◌+◌, List, ℕ, sym, subst, ◌∙◌, arith}
use Rattle.gate_circuits.specs.declared.search.Turn.{Turn}
use Rattle.gate_circuits.specs.inner.Knowledge.{AreAllOn}
use Rattle.gate_circuits.specs.inner.Marks.{IsLastBefore}
use Rattle.gate_circuits.specs.inner.Search.{AreHeld}
use Rattle.gate_circuits.proofs.Turns.{held_after, held_from, held_same, last_same}
use Rattle.gate_circuits.proofs.knowledge.Knowledge.descend.Goals as goal

pub down-preserved-in-Held : goal.down-preserved-in-Held
down-preserved-in-Held c =
    let before = c.down.invariant.narrowed in
    let now = c.settle.ensures.narrowed in
    let low = c.down.invariant.low in
    let found = c.in-Some.ensures.found in
    let less = found.before in
    record {
      narrowed = record {
        room = now.room ∙ before.room;
        kept = λ x h. now.kept x (before.kept x h);
        forced = λ leaves on. now.forced leaves (before.forced leaves on);
        known = now.known ∙ before.known;
      };
      held = held_from c.args.self.now c.down.turn.wanted c.settle.new.turn.wanted c.down.turn.place c.in-Some.gate found c.down.invariant.held now.kept c.settle.ensures.lower c.in-Held.ensures.seen;
      low = omega arith;
    }

pub choose-requires-clause-turn : goal.choose-requires-clause-turn
choose-requires-clause-turn c =
    let before = c.down.invariant.narrowed in
    let now = c.settle.ensures.narrowed in
    let found = c.in-Some.ensures.found in
    record {
      room = now.room ∙ before.room ∙ c.requires.room;
      held = subst (λ (n : ℕ). AreHeld c.args.self.now c.settle.new.turn.wanted n) (sym c.settle.ensures.place)
          (held_same c.args.self.now c.down.turn.wanted c.settle.new.turn.wanted c.down.turn.place c.in-Some.gate found c.down.invariant.held now.kept c.settle.ensures.lower);
      known = λ leaves on. subst (λ (k : List ℕ). AreAllOn c.args.self.now leaves k) (sym (now.known ∙ before.known)) (c.requires.known leaves (λ x h. on x (now.kept x (before.kept x h))));
    }

pub choose-requires-clause-last : goal.choose-requires-clause-last
choose-requires-clause-last c =
    subst (λ (n : ℕ). IsLastBefore c.settle.new.turn.wanted n c.in-Some.gate) (sym c.settle.ensures.place)
    (last_same c.args.self.now c.down.turn.wanted c.settle.new.turn.wanted c.down.turn.place c.in-Some.gate c.in-Some.ensures.found c.down.invariant.held c.settle.ensures.narrowed.kept c.settle.ensures.lower)

pub returns-then-not-choose-clause-descent : goal.returns-then-not-choose-clause-descent
returns-then-not-choose-clause-descent c =
    let found = c.in-Some.ensures.found in
    let less = found.before in
    let low = c.down.invariant.low in
    record {
      lower = omega arith;
      is_sum = c.in-Open.ensures.seen;
      wanted = c.choose.ensures.narrowed.kept c.in-Some.gate (c.settle.ensures.narrowed.kept c.in-Some.gate found.there);
      held = subst (λ (t : Turn). AreHeld c.args.self.now t.wanted (c.in-Some.gate + 1)) (sym (c.choose.ensures.open c.if-not-choose.true))
          (held_after c.args.self.now c.down.turn.wanted c.settle.new.turn.wanted c.down.turn.place c.in-Some.gate found c.down.invariant.held c.settle.ensures.narrowed.kept c.settle.ensures.lower);
      summands = c.in_ok-summands-in-Open.ensures;
    }
