use Rattle.std.proofs.Common.{rules, ◌≡◌, ◌∷◌, [], map, sym, ◌∙◌}
use Rattle.event_why.specs.Said.{said}
use Rattle.event_why.proofs.Iff.{through, with_first}
use Rattle.event_why.proofs.ListedFacts.{merge_two, one_is, two_are, two_is}
use Rattle.event_why.proofs.TellLemmas.{silent_from}
use Rattle.event_why.proofs.EventLemmas.{merged_one_test, merged_two_test}
use Rattle.event_why.proofs.event.is_merged.Goals as goal

pub returns-in-Some : goal.returns-in-Some
returns-in-Some c p i =
    let e = c.args.e.now in
    let long = merge_two e.op e.args c.requires.merge c.requires.shape in
    let a = c.index-ids-0.result in
    let b = c.index-ids-1.result in
    let args = two_are e.args c.ids.result.now c.ids-2.result.now a b long c.ids.ensures c.ids-2.ensures c.index-ids-0.is c.index-ids-1.is in
    let fs = map said c.args.named.now in
    let f = said c.in-Some.fact.now in
    let single : fs ≡ f ∷ [] = one_is fs f (search rules) in
    through c.is_this_event.ensures (merged_one_test p i e c.args.t a b c.args.value.now fs f c.requires.merge args single)

pub returns-then-is_silent_at : goal.returns-then-is_silent_at
returns-then-is_silent_at c p i =
    let e = c.args.e.now in
    let long = merge_two e.op e.args c.requires.merge c.requires.shape in
    let a = c.index-ids-0.result in
    let b = c.index-ids-1.result in
    let args = two_are e.args c.ids.result.now c.ids-2.result.now a b long c.ids.ensures c.ids-2.ensures c.index-ids-0.is c.index-ids-1.is in
    let fs = map said c.args.named.now in
    let f = said c.in-Some-two.none.now in
    let g = said c.in-Some-two.event.now in
    let pair : fs ≡ f ∷ g ∷ [] = two_is fs f g (search rules) in
    let silent = silent_from a c.args.t f (sym c.is_silent_at.ensures ∙ c.if-is_silent_at.true) in
    through c.is_this_event-then-is_silent_at.ensures (with_first silent (merged_two_test p i e c.args.t a b c.args.value.now fs f g c.requires.merge args pair))
