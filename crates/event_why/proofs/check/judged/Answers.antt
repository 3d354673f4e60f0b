use Rattle.std.proofs.Common.{rules, Some, length}
use Rattle.std.proofs.lemmas.Result.{IfOk-weaker}
use Rattle.flat_core.specs.Line.{inputs_of}
use Rattle.event_why.specs.declared.fact.WhyFault.TheVariants as fault
use Rattle.event_why.specs.Check.{AreRight, IsFirstWrong}
use Rattle.event_why.proofs.CheckLemmas.{grounds_of, judged_so, names_earlier, rest_judged}
use Rattle.event_why.proofs.check.judged.Goals as goal

pub first_wrong-requires-clause-grounds : goal.first_wrong-requires-clause-grounds
first_wrong-requires-clause-grounds c =
    grounds_of c.args.flat.now c.args.output c.requires.there c.in_ok-slice.slice c.in_ok-slice.ensures.ascending c.in_ok-slice.ensures.members c.args.lines.now
    c.assert_whole.ensures.is_flat c.requires.sorted

pub returns-in-Some : goal.returns-in-Some
returns-in-Some c =
    let s = c.args.flat.now in
    let p = inputs_of c.args.lines.now in
    let slice = c.in_ok-slice.slice in
    let wrong : IsFirstWrong s slice p c.args.steps.now c.in-Some.fact = search rules in
    judged_so s c.args.output c.requires.there slice c.in_ok-slice.ensures.ascending c.in_ok-slice.ensures.members p c.args.steps.now (Some (fault.Wrong c.in-Some.fact)) (λ o at. wrong)

pub judged_right-requires-clause-earlier : goal.judged_right-requires-clause-earlier
judged_right-requires-clause-earlier c =
    let s = c.args.flat.now in
    let p = inputs_of c.args.lines.now in
    let right : AreRight s c.in_ok-slice.slice p c.args.steps.now (length c.args.steps.now) = search rules in
    names_earlier s c.in_ok-slice.slice p c.args.steps.now right

pub returns : goal.returns
returns c =
    let s = c.args.flat.now in
    let p = inputs_of c.args.lines.now in
    let slice = c.in_ok-slice.slice in
    let steps = c.args.steps.now in
    let right : AreRight s slice p steps (length steps) = search rules in
    IfOk-weaker c.judged_right.result _ _ (λ f rest.
    judged_so s c.args.output c.requires.there slice c.in_ok-slice.ensures.ascending c.in_ok-slice.ensures.members p steps f (λ o at. rest_judged s slice p steps o.equation f right (rest o at)))
    c.judged_right.ensures
