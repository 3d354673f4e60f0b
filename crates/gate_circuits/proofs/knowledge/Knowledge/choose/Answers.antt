use Rattle.std.proofs.Common.{ℕ, ◌/◌, ◌<◌, ◌⊎◌, length, refl, sym, subst, inl, inr, arith}
use Rattle.std.specs.Prelude.{IsTrue}
use Rattle.gate_circuits.specs.inner.Marks.{has}
use Rattle.gate_circuits.proofs.Turns.{input_room, one_kept, one_from, forced_one, held_by, held_from}
use Rattle.gate_circuits.proofs.knowledge.Knowledge.choose.Goals as goal

pub returns-in-Some-clause-narrowed : goal.returns-in-Some-clause-narrowed
returns-in-Some-clause-narrowed c =
    let gates = c.args.self.now in
    let old = c.args.turn.now.wanted in
    let new = c.add.new.self in
    let summand = c.in-Some.summand in
    let low : summand < c.args.sum = c.requires.summands.below c.requires.sum summand c.in-Some.ensures.0 in
    let fits : summand / 64 < length old = omega (arith, c.requires.turn.room, input_room gates c.args.sum _ c.requires.sum.1 summand low) in
    record {
      room = c.add.ensures.room;
      kept = one_kept old new summand (c.add.ensures.here fits) c.add.ensures.others;
      forced = forced_one gates old new c.args.turn.now.known summand c.requires.turn.known c.in-Some.ensures.1 c.add.ensures.others;
      known = refl;
    }

pub returns-in-Some-clause-held : goal.returns-in-Some-clause-held
returns-in-Some-clause-held c t =
    let gates = c.args.self.now in
    let old = c.args.turn.now.wanted in
    let new = c.add.new.self in
    let summand = c.in-Some.summand in
    let low : summand < c.args.sum = c.requires.summands.below c.requires.sum summand c.in-Some.ensures.0 in
    let fits : summand / 64 < length old = omega (arith, c.requires.turn.room, input_room gates c.args.sum _ c.requires.sum.1 summand low) in
    let here = c.add.ensures.here fits in
    let from : (y : ℕ) → IsTrue (has new y) → IsTrue (has old y) ⊎ (y < c.args.sum) = λ y h. elim (one_from old new summand c.add.ensures.others y h) [
      | inl was ↦ inl was
      | inr same ↦ inr (subst (λ (n : ℕ). n < c.args.sum) (sym same) low)
    ] in (
      refl,
      held_from gates old new c.args.turn.now.place c.args.sum c.requires.last c.requires.turn.held (one_kept old new summand here c.add.ensures.others) from
          (held_by gates new c.args.sum summand low here (c.requires.summands.imply summand c.in-Some.ensures.0)),
    )
