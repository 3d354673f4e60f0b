use Rattle.std.proofs.Common.{rules, ap, ◌∙◌, ◌+◌, ◌/◌}
use Rattle.agenda.specs.inner.Words.{marks_of}
use Rattle.agenda.proofs.MarkLemmas.{none_marked}
use Rattle.agenda.proofs.bits.Bits.with_places.Goals as goal

pub returns : goal.returns
returns c = ap (marks_of c.args.places) (c.in_ok-vec.ensures.items_if_clones_equal (search rules)) ∙ none_marked c.args.places (c.args.places / 64 + 1)
