use Rattle.std.proofs.Common.{◌≡◌, ℕ, ◌<◌, true, false, List, length, get_or, set, ap, ◌∙◌, subst, sym, arith}
use Rattle.std.proofs.lemmas.List.{with_items_is}
use Rattle.std.specs.Vec.{with_items}
use Rattle.agenda.specs.inner.Marks.{HasNoMark, IsLeastMark}
use Rattle.agenda.specs.inner.Words.{has_bit, marks_of, AreMarks, HasTaken, IsLeastIn}
use Rattle.agenda.proofs.WordLemmas.{word_there}
use Rattle.agenda.proofs.MarkLemmas.{bit_below, found, least_is, length-marks, marks_set, none_left, searched, summary_room, taken_is}
use Rattle.agenda.proofs.bits.Bits.take_least.Goals as goal

taken_of : (words words_read new summary summary_read new_summary : List ℕ) (place : ℕ) → words_read ≡ words → summary_read ≡ summary → HasTaken words_read new summary_read new_summary place → HasTaken words new summary new_summary place
taken_of words words_read new summary summary_read new_summary place one two taken =
    subst (λ ws. HasTaken ws new summary new_summary place) one (subst (λ ws. HasTaken words_read new ws new_summary place) two taken)

pub returns-then-self-len-clause-least : goal.returns-then-self-len-clause-least
returns-then-self-len-clause-least c =
    let held = c.self.inside in
    let next = c.first_filled-self-inside.result in
    let (within, empty) = searched c.self.inside.summary.items c.deref.result.now held.first next c.deref.ensures.value c.first_filled-self-inside.ensures.within c.first_filled-self-inside.ensures.empty in
    let are = found held.places held.words.items held.summary.items held.first next c.self.invariant within empty in
    subst HasNoMark c.self.view_is (none_left held.places held.words.items held.summary.items next are (c.if-self-len.true ∙ c.len.ensures ∙ held.summary.ok.0))

pub least_in-word-requires-clause-there : goal.least_in-word-requires-clause-there
least_in-word-requires-clause-there c =
    omega (arith, c.first_filled-self-inside.ensures.within, c.deref.ensures.len, c.deref-2.ensures.len, c.if-self-len.false, c.len.ensures)

pub least_in-word-requires-clause-filled : goal.least_in-word-requires-clause-filled
least_in-word-requires-clause-filled c none =
    let next = c.first_filled-self-inside.result in
    let below : next < length c.deref.result.now = omega (arith, c.first_filled-self-inside.ensures.within, c.deref.ensures.len, c.if-self-len.false, c.len.ensures) in
    c.first_filled-self-inside.ensures.filled below (ap (λ ws. get_or ws next 0) (c.deref.ensures.value ∙ sym c.deref-2.ensures.value) ∙ none)

pub least_in-place-requires-clause-there : goal.least_in-place-requires-clause-there
least_in-place-requires-clause-there c =
    let held = c.self.inside in
    let word = c.least_in-word.result in
    let here : has_bit held.summary.items word ≡ true = ap (λ ws. has_bit ws word) (sym c.deref-2.ensures.value) ∙ c.least_in-word.ensures.here in
    subst (λ (ws : List ℕ). word < length ws) (sym c.deref-3.ensures.value) (word_there held.words.items word (c.self.invariant.filled word here))

pub invariant_of-self-2 : goal.invariant_of-self-2
invariant_of-self-2 c =
    let held = c.self.inside in
    let next = c.first_filled-self-inside.result in
    let (within, empty) = searched c.self.inside.summary.items c.deref.result.now held.first next c.deref.ensures.value c.first_filled-self-inside.ensures.within c.first_filled-self-inside.ensures.empty in
    let are = found held.places held.words.items held.summary.items held.first next c.self.invariant within empty in
    let of : IsLeastIn held.summary.items next c.least_in-word.result = subst (λ ws. IsLeastIn ws next c.least_in-word.result) c.deref-2.ensures.value c.least_in-word.ensures in
    let is : IsLeastIn held.words.items c.least_in-word.result c.least_in-place.result = subst (λ ws. IsLeastIn ws c.least_in-word.result c.least_in-place.result) c.deref-3.ensures.value c.least_in-place.ensures in
    let taken = taken_of held.words.items c.deref_mut.result.now c.take_bit.new.words held.summary.items c.deref_mut-2.result.now c.take_bit.new.summary c.least_in-place.result c.deref_mut.ensures.value c.deref_mut-2.ensures.value c.take_bit.ensures in
    let after = taken_is held.places held.words.items held.summary.items next c.least_in-word.result c.least_in-place.result are of is c.take_bit.new.words c.take_bit.new.summary taken in
    let words = with_items_is held.words c.take_bit.new.words (c.take_bit.ensures.cleared.room ∙ c.deref_mut.ensures.len) in
    let summary = with_items_is held.summary c.take_bit.new.summary (summary_room held.words.items c.take_bit.new.words held.summary.items c.take_bit.new.summary c.least_in-place.result taken ∙ sym held.summary.ok.0) in
    subst (λ ws. AreMarks held.places ws (with_items held.summary c.take_bit.new.summary).items next) (sym words)
    (subst (λ ws. AreMarks held.places c.take_bit.new.words ws next) (sym summary) after)

pub returns-clause-least : goal.returns-clause-least
returns-clause-least c =
    let held = c.self.inside in
    let next = c.first_filled-self-inside.result in
    let (within, empty) = searched c.self.inside.summary.items c.deref.result.now held.first next c.deref.ensures.value c.first_filled-self-inside.ensures.within c.first_filled-self-inside.ensures.empty in
    let are = found held.places held.words.items held.summary.items held.first next c.self.invariant within empty in
    let of : IsLeastIn held.summary.items next c.least_in-word.result = subst (λ ws. IsLeastIn ws next c.least_in-word.result) c.deref-2.ensures.value c.least_in-word.ensures in
    let is : IsLeastIn held.words.items c.least_in-word.result c.least_in-place.result = subst (λ ws. IsLeastIn ws c.least_in-word.result c.least_in-place.result) c.deref-3.ensures.value c.least_in-place.ensures in
    subst (λ marks. IsLeastMark marks c.least_in-place.result) c.self.view_is (least_is held.places held.words.items held.summary.items next c.least_in-word.result c.least_in-place.result are of is)

pub returns-clause-within : goal.returns-clause-within
returns-clause-within c =
    let held = c.self.inside in
    let here : has_bit held.words.items c.least_in-place.result ≡ true = ap (λ ws. has_bit ws c.least_in-place.result) (sym c.deref-3.ensures.value) ∙ c.least_in-place.ensures.here in
    let below = bit_below held.places held.words.items held.summary.items held.first c.self.invariant c.least_in-place.result here in
    omega (arith, ap length c.self.view_is, length-marks held.places held.words.items)

pub returns-clause-taken : goal.returns-clause-taken
returns-clause-taken c =
    let held = c.self.inside in
    let here : has_bit held.words.items c.least_in-place.result ≡ true = ap (λ ws. has_bit ws c.least_in-place.result) (sym c.deref-3.ensures.value) ∙ c.least_in-place.ensures.here in
    let below = bit_below held.places held.words.items held.summary.items held.first c.self.invariant c.least_in-place.result here in
    let taken = taken_of held.words.items c.deref_mut.result.now c.take_bit.new.words held.summary.items c.deref_mut-2.result.now c.take_bit.new.summary c.least_in-place.result c.deref_mut.ensures.value c.deref_mut-2.ensures.value c.take_bit.ensures in
    ap (marks_of held.places) (with_items_is held.words c.take_bit.new.words (c.take_bit.ensures.cleared.room ∙ c.deref_mut.ensures.len))
    ∙ marks_set held.places held.words.items c.take_bit.new.words c.least_in-place.result false below taken.cleared
    ∙ ap (λ marks. set marks c.least_in-place.result false) c.self.view_is
