use Rattle.std.proofs.Common.{sym, subst}
use Rattle.translation_order.specs.inner.Searching.{AreInside}
use Rattle.translation_order.proofs.Ends.{are_inside, first_answer}
use Rattle.translation_order.proofs.on_cycle.first_on_cycle.Goals as goal

pub visit_all-requires-clause-inside : goal.visit_all-requires-clause-inside
visit_all-requires-clause-inside c =
    subst AreInside (sym c.as_slice.ensures.value) (are_inside c.args.nodes c.args.edges.now c.in_ok-successors.successors.items c.in_ok-successors.ensures c.requires)

pub returns : goal.returns
returns c =
    first_answer c.args.nodes c.args.edges.now c.in_ok-successors.successors.items c.as_slice.result.now c.in_ok-visits.visits.items c.as_slice-2.result.now c.in_ok-successors.ensures c.as_slice.ensures.value c.as_slice-2.ensures.value c.in_ok-visits.ensures c.first_marked.result c.first_marked.ensures
