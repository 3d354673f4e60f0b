use Rattle.std.proofs.Common.{rules, ◌≡◌, ◌<◌, ◌++◌, ◌∷◌, [], Some, ap, arith, get_or, map, slice_get, subst, sym, take, ◌∙◌}
use Rattle.std.proofs.lemmas.List.{map_push, take_all, take_more}
use Rattle.std.proofs.lemmas.Option.{slice_get-get_or}
use Rattle.event_why.specs.Said.{said}
use Rattle.event_why.specs.declared.fact.WhyStep.{WhyStep}
use Rattle.event_why.specs.Check.{AreNamed}
use Rattle.event_why.specs.Check as check
use Rattle.event_why.proofs.NamedLemmas.{named_push}
use Rattle.event_why.proofs.check.named_facts.Goals as goal

pub loop-n-init : goal.loop-n-init
loop-n-init c =
    subst (λ xs. AreNamed c.args.steps.now c.args.step [] (map said xs)) (sym c.new-facts.ensures.items) check.AreNamed.done

pub loop-n-preserved : goal.loop-n-preserved
loop-n-preserved c =
    let steps = c.args.steps.now in
    let k = c.args.step in
    let by = c.args.by.now in
    let i = c.loop-n.n-index in
    let n = get_or by i 0 in
    let own = c.index-steps-n.result in
    let early : n < k = search rules in
    let small = c.requires in
    let at : slice_get steps n ≡ Some own = slice_get-get_or steps n own (omega (arith, early, small)) ∙ ap Some (sym c.index-steps-n.is) in
    let old = map said c.loop-n.facts.items in
    let pushed : c.push.new.self.items ≡ c.loop-n.facts.items ++ c.in_ok-copy.field-0 ∷ [] = search rules in
    let put : map said c.push.new.self.items ≡ old ++ said own.fact ∷ [] =
    ap (map said) pushed ∙ map_push said c.loop-n.facts.items c.in_ok-copy.field-0 ∙ ap (λ f. old ++ f ∷ []) (c.in_ok-copy.ensures ∙ sym (ap (λ (w : WhyStep). said w.fact) c.index-steps-n.is)) in
    subst (λ ns. AreNamed steps k ns (map said c.push.new.self.items)) (sym (take_more by i 0 c.loop-n-test.true))
    (subst (AreNamed steps k (take i by ++ n ∷ [])) (sym put) (named_push steps k (take i by) old n own early at c.loop-n.invariant))

pub returns : goal.returns
returns c =
    subst (λ ns. AreNamed c.args.steps.now c.args.step ns (map said c.loop-n.facts.items)) (take_all c.loop-n.n-index c.args.by.now c.loop-n-test.false) c.loop-n.invariant
