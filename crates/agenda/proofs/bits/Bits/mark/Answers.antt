use Rattle.std.proofs.Common.{◌/◌, ◌<◌, true, length, set, ap, ◌∙◌, subst, sym, arith}
use Rattle.std.proofs.lemmas.List.{with_items_is}
use Rattle.std.specs.Vec.{with_items}
use Rattle.agenda.specs.inner.Words.{marks_of, AreMarks, HasSetBit}
use Rattle.agenda.proofs.MarkLemmas.{length-marks, marked, marks_set}
use Rattle.agenda.proofs.bits.Bits.mark.Goals as goal

pub set_bit-requires : goal.set_bit-requires
set_bit-requires c =
    omega (arith, c.self.invariant.words_room, ap length c.deref_mut.ensures.value, ap length c.self.view_is, length-marks c.self.inside.places c.self.inside.words.items)

pub invariant_of-self : goal.invariant_of-self
invariant_of-self c =
    let held = c.self.inside in
    let there : c.args.place < held.places = omega (arith, ap length c.self.view_is, length-marks held.places held.words.items) in
    let bit : HasSetBit held.words.items c.set_bit.new.words c.args.place true = subst (λ ws. HasSetBit ws c.set_bit.new.words c.args.place true) c.deref_mut.ensures.value c.set_bit.ensures in
    let sum : HasSetBit held.summary.items c.set_bit-2.new.words (c.args.place / 64) true = subst (λ ws. HasSetBit ws c.set_bit-2.new.words (c.args.place / 64) true) c.deref_mut-2.ensures.value c.set_bit-2.ensures in
    let words = with_items_is held.words c.set_bit.new.words (c.set_bit.ensures.room ∙ c.deref_mut.ensures.len) in
    let summary = with_items_is held.summary c.set_bit-2.new.words (c.set_bit-2.ensures.room ∙ c.deref_mut-2.ensures.len) in
    let are = marked held.places held.words.items held.summary.items c.set_bit.new.words c.set_bit-2.new.words held.first c.args.place c.self.invariant there bit sum in
    subst (λ ws. AreMarks held.places ws (with_items held.summary c.set_bit-2.new.words).items c.min-self-inside.result) (sym words)
    (subst (λ ws. AreMarks held.places c.set_bit.new.words ws c.min-self-inside.result) (sym summary)
    (subst (λ n. AreMarks held.places c.set_bit.new.words c.set_bit-2.new.words n) (sym c.min-self-inside.ensures) are))

pub returns : goal.returns
returns c =
    let held = c.self.inside in
    let there : c.args.place < held.places = omega (arith, ap length c.self.view_is, length-marks held.places held.words.items) in
    let bit : HasSetBit held.words.items c.set_bit.new.words c.args.place true = subst (λ ws. HasSetBit ws c.set_bit.new.words c.args.place true) c.deref_mut.ensures.value c.set_bit.ensures in
    ap (marks_of held.places) (with_items_is held.words c.set_bit.new.words (c.set_bit.ensures.room ∙ c.deref_mut.ensures.len))
    ∙ marks_set held.places held.words.items c.set_bit.new.words c.args.place true there bit
    ∙ ap (λ marks. set marks c.args.place true) c.self.view_is
