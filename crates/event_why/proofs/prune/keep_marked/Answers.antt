use Rattle.std.proofs.Common.{Global, Vec, refl, map, subst, ◌∙◌, ap}
use Rattle.std.specs.Option.{option_map}
use Rattle.event_why.specs.declared.fact.WhyStep.{WhyStep}
use Rattle.event_why.specs.inner.Pruned.{AreKept, new_number}
use Rattle.event_why.proofs.prune.keep_marked.Goals as goal

pub returns : goal.returns
returns c =
    let draft = c.args.draft.now in
    record {
      numbers = c.in_ok-numbers.numbers.items;
      are = c.in_ok-numbers.ensures;
      steps = subst (λ ns. AreKept ns c.args.marks.now draft.steps.items c.in_ok-draft.field-0.items) c.deref.ensures.value
          (subst (λ olds. AreKept c.deref.result.now c.args.marks.now olds c.in_ok-draft.field-0.items) (ap (λ (v : Vec WhyStep Global). v.items) c.replace-steps.ensures.value) c.in_ok-draft.ensures);
      latest = c.renumber_known.ensures ∙ ap (λ ns. map (option_map (new_number ns)) draft.latest.numbers.items) c.deref-2.ensures.value;
      quiet = c.renumber_known-2.ensures ∙ ap (λ ns. map (option_map (new_number ns)) draft.quiet.numbers.items) c.deref-3.ensures.value;
      pending = c.renumber_known-3.ensures ∙ ap (λ ns. map (option_map (new_number ns)) draft.pending.numbers.items) c.deref-4.ensures.value;
      here = refl;
    }
