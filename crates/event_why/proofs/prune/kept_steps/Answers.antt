use Rattle.std.proofs.Common.{◌≡◌, ◌+◌, ◌++◌, ◌∷◌, [], List, rules, drop, length, sym, ap, subst, ◌∙◌, arith}
use Rattle.std.proofs.lemmas.List.{length_push}
use Rattle.std.proofs.lemmas.Iterator.Adapters.{YieldsList-from_vec}
use Rattle.std.proofs.lemmas.Iterator.Consumers.{YieldsList-end, YieldsList-from_enumerate, YieldsList-turn}
use Rattle.std.proofs.lemmas.List.FromFn.{length-enumerate_from}
use Rattle.event_why.specs.declared.fact.WhyStep.{WhyStep}
use Rattle.event_why.specs.inner.Pruned.{AreKept, is_marked}
use Rattle.event_why.proofs.PruneLemmas.{keep_marked, kept_end, leave_other, pair_at}
use Rattle.event_why.proofs.prune.kept_steps.Goals as goal

pub loop-place-preserved-in-Continue-1 : goal.loop-place-preserved-in-Continue-1
loop-place-preserved-in-Continue-1 c =
    let gives = c.into_iter-place-iterator.ensures.into_iter_gives in
    let source = c.enumerate-place-items.ensures.source in
    let count = c.enumerate-place-items.ensures.count in
    let rest = c.into_iter.ensures.rest in
    let long = c.into_iter.ensures.len in
    let own = c.args.steps.ok.0 in
    let road = YieldsList-from_enumerate {s = c.into_iter-place-iterator.result} (YieldsList-from_vec {s = c.into_iter-place-iterator.result.iter} c.args.steps.items (cc) (cc)) (cc) in
    let at = pair_at c.args.steps.items (length c.loop-place.yielded) (c.in-Some.place, c.in-Some.step)
    (YieldsList-turn road c.loop-place.yielded c.loop-place.place-iterator c.loop-place.yielded_by _ c.next.new.self (c.in-Some.place, c.in-Some.step) c.in-Some.is c.next.ensures.steps) in
    let pushed : c.push.new.self.items ≡ c.loop-place.kept.items ++ c.renumbered_step.result ∷ [] = search rules in
    let marked = sym (ap (is_marked c.args.marks.now) at.1) ∙ sym c.is_marked.ensures ∙ c.if-is_marked.true in
    subst (λ n. (others : List WhyStep) → AreKept c.args.numbers.now (drop n c.args.marks.now) (drop n c.args.steps.items) others → AreKept c.args.numbers.now c.args.marks.now c.args.steps.items (c.push.new.self.items ++ others))
    (sym (length_push c.loop-place.yielded (c.in-Some.place, c.in-Some.step)))
    (subst (λ xs. (others : List WhyStep) → AreKept c.args.numbers.now (drop (length c.loop-place.yielded + 1) c.args.marks.now) (drop (length c.loop-place.yielded + 1) c.args.steps.items) others → AreKept c.args.numbers.now c.args.marks.now c.args.steps.items (xs ++ others))
    (sym pushed)
    (keep_marked c.args.numbers.now c.args.marks.now c.args.steps.items c.loop-place.kept.items (length c.loop-place.yielded) c.in-Some.step c.requires at.0 at.2 c.loop-place.invariant c.renumbered_step.result marked c.renumbered_step.ensures))

pub loop-place-preserved : goal.loop-place-preserved
loop-place-preserved c =
    let gives = c.into_iter-place-iterator.ensures.into_iter_gives in
    let source = c.enumerate-place-items.ensures.source in
    let count = c.enumerate-place-items.ensures.count in
    let rest = c.into_iter.ensures.rest in
    let long = c.into_iter.ensures.len in
    let own = c.args.steps.ok.0 in
    let road = YieldsList-from_enumerate {s = c.into_iter-place-iterator.result} (YieldsList-from_vec {s = c.into_iter-place-iterator.result.iter} c.args.steps.items (cc) (cc)) (cc) in
    let at = pair_at c.args.steps.items (length c.loop-place.yielded) (c.in-Some.place, c.in-Some.step)
    (YieldsList-turn road c.loop-place.yielded c.loop-place.place-iterator c.loop-place.yielded_by _ c.next.new.self (c.in-Some.place, c.in-Some.step) c.in-Some.is c.next.ensures.steps) in
    let none = sym (ap (is_marked c.args.marks.now) at.1) ∙ sym c.is_marked.ensures ∙ c.if-is_marked.false in
    subst (λ n. (others : List WhyStep) → AreKept c.args.numbers.now (drop n c.args.marks.now) (drop n c.args.steps.items) others → AreKept c.args.numbers.now c.args.marks.now c.args.steps.items (c.loop-place.kept.items ++ others))
    (sym (length_push c.loop-place.yielded (c.in-Some.place, c.in-Some.step)))
    (leave_other c.args.numbers.now c.args.marks.now c.args.steps.items c.loop-place.kept.items (length c.loop-place.yielded) c.in-Some.step c.requires at.0 at.2 c.loop-place.invariant none)

pub returns : goal.returns
returns c =
    let gives = c.into_iter-place-iterator.ensures.into_iter_gives in
    let source = c.enumerate-place-items.ensures.source in
    let count = c.enumerate-place-items.ensures.count in
    let rest = c.into_iter.ensures.rest in
    let long = c.into_iter.ensures.len in
    let own = c.args.steps.ok.0 in
    let road = YieldsList-from_enumerate {s = c.into_iter-place-iterator.result} (YieldsList-from_vec {s = c.into_iter-place-iterator.result.iter} c.args.steps.items (cc) (cc)) (cc) in
    let ended = YieldsList-end road c.loop-place.yielded c.loop-place.place-iterator c.loop-place.yielded_by _ c.next.new.self c.in-None.is c.next.ensures.steps in
    let all = ended.1 ∙ length-enumerate_from 0 c.args.steps.items in
    kept_end c.args.numbers.now c.args.marks.now c.args.steps.items c.loop-place.kept.items (length c.loop-place.yielded) c.requires (omega (arith, all)) c.loop-place.invariant
