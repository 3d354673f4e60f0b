use Rattle.std.proofs.Common.{Bool, true, false, List, refl, sym, ap, subst, ◌∙◌, length}
use Rattle.trigger_starts.specs.declared.rules.Rule.{Rule}
use Rattle.trigger_starts.specs.inner.Kept.{AreAtomsOf, AreStarts}
use Rattle.trigger_formulas.specs.inner.Kept.{IsSideOf}
use Rattle.trigger_formulas.proofs.Answering.{order_told}
use Rattle.trigger_formulas.proofs.triggers.Triggers.of.Goals as goal

pub starts-requires-clause-ordered : goal.starts-requires-clause-ordered
starts-requires-clause-ordered c = order_told c.args.flat.now c.in_ok-rules.rules.items c.deref.result.now c.args.order.now c.as_slice-order.result.now c.in_ok-rules.ensures.exact c.deref.ensures.value c.as_slice-order.ensures c.requires

pub gather-requires-clause-ready : goal.gather-requires-clause-ready
gather-requires-clause-ready c = (order_told c.args.flat.now c.in_ok-rules.rules.items c.deref-2.result.now c.args.order.now c.as_slice-order.result.now c.in_ok-rules.ensures.exact c.deref-2.ensures.value c.as_slice-order.ensures c.requires).ready

pub of-requires-2-clause-ordered : goal.of-requires-2-clause-ordered
of-requires-2-clause-ordered c = order_told c.args.flat.now c.in_ok-rules.rules.items c.deref-5.result.now c.args.order.now c.as_slice-order.result.now c.in_ok-rules.ensures.exact c.deref-5.ensures.value c.as_slice-order.ensures c.requires

pub of-requires-3-clause-ordered : goal.of-requires-3-clause-ordered
of-requires-3-clause-ordered c = order_told c.args.flat.now c.in_ok-rules.rules.items c.deref-7.result.now c.args.order.now c.as_slice-order.result.now c.in_ok-rules.ensures.exact c.deref-7.ensures.value c.as_slice-order.ensures c.requires

pub invariant_of-triggers : goal.invariant_of-triggers
invariant_of-triggers c =
    let ordered = order_told c.args.flat.now c.in_ok-rules.rules.items c.in_ok-rules.rules.items c.args.order.now c.as_slice-order.result.now c.in_ok-rules.ensures.exact refl c.as_slice-order.ensures c.requires in
    let listed = subst (λ (l : List Rule). AreAtomsOf false l c.in_ok-starts.starts.items c.as_slice-order.result.now c.in_ok-atoms.atoms.items) c.deref-2.ensures.value
    (subst (λ (l : List Bool). AreAtomsOf false c.deref-2.result.now l c.as_slice-order.result.now c.in_ok-atoms.atoms.items) c.deref-3.ensures.value c.in_ok-atoms.ensures.atoms) in (
      record {
        starts_each = c.in_ok-starts.ensures.one_each ∙ ap length c.deref.ensures.value;
        starts_are = subst (λ (l : List Rule). AreStarts l c.in_ok-starts.starts.items) c.deref.ensures.value c.in_ok-starts.ensures.exact;
        atoms_each = c.in_ok-atoms.ensures.one_each ∙ ap length c.deref-2.ensures.value;
        atoms_are = λ x low. listed x (ordered.all x low);
        zero_of = subst (λ (l : List Rule). IsSideOf true l c.in_ok-starts.starts.items c.in_ok-at_zero.at_zero) c.deref-5.ensures.value (subst (λ (l : List Bool). IsSideOf true c.deref-5.result.now l c.in_ok-at_zero.at_zero) c.deref-6.ensures.value c.in_ok-at_zero.ensures);
        later_of = subst (λ (l : List Rule). IsSideOf false l c.in_ok-starts.starts.items c.in_ok-later.later) c.deref-7.ensures.value (subst (λ (l : List Bool). IsSideOf false c.deref-7.result.now l c.in_ok-later.later) c.deref-8.ensures.value c.in_ok-later.ensures);
      },
      c.in_ok-nodes.ensures ∙ sym c.in_ok-rules.ensures.exact,
    )
