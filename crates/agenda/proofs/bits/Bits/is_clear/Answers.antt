use Rattle.std.proofs.Common.{subst, ◌∙◌}
use Rattle.std.proofs.lemmas.Bool.{eqb-true}
use Rattle.agenda.specs.inner.Marks.{HasNoMark}
use Rattle.agenda.proofs.MarkLemmas.{found, none_left, searched}
use Rattle.agenda.proofs.bits.Bits.is_clear.Goals as goal

pub returns : goal.returns
returns c is =
    let held = c.self.inside in
    let next = c.first_filled.result in
    let (within, empty) = searched held.summary.items c.deref.result.now held.first next c.deref.ensures.value c.first_filled.ensures.within c.first_filled.ensures.empty in
    let are = found held.places held.words.items held.summary.items held.first next c.self.invariant within empty in
    subst HasNoMark c.self.view_is (none_left held.places held.words.items held.summary.items next are (eqb-true next c.len.result is ∙ c.len.ensures ∙ held.summary.ok.0))
