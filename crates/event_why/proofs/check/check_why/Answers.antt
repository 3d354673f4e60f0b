use Rattle.std.proofs.Common.{Some, None, subst}
use Rattle.flat_core.specs.Line.{inputs_of}
use Rattle.event_why.specs.Check.{IsJudged}
use Rattle.event_why.proofs.CheckLemmas.{checked_so, forced_so}
use Rattle.event_why.proofs.check.check_why.Goals as goal

pub returns-in-Ok-Some-clause-checked : goal.returns-in-Ok-Some-clause-checked
returns-in-Ok-Some-clause-checked c =
    let s = c.args.flat.now in
    let p = inputs_of c.args.lines.now in
    let steps = c.args.why.now.steps.items in
    let j : IsJudged s p c.args.output steps (Some c.in-Ok-Some.fault) =
    subst (λ xs. IsJudged s p c.args.output xs (Some c.in-Ok-Some.fault)) c.deref.ensures.value
    (subst (λ r. IsJudged s p c.args.output c.deref.result.now r) c.in-Ok-Some.field-0-is c.in-Ok-Some.ensures) in
    checked_so s p c.args.output steps c.in-Ok-Some.fault j

pub returns-in-Ok-None-clause-forced : goal.returns-in-Ok-None-clause-forced
returns-in-Ok-None-clause-forced c =
    let s = c.args.flat.now in
    let p = inputs_of c.args.lines.now in
    let steps = c.args.why.now.steps.items in
    let j : IsJudged s p c.args.output steps None =
    subst (λ xs. IsJudged s p c.args.output xs None) c.deref.ensures.value
    (subst (λ r. IsJudged s p c.args.output c.deref.result.now r) c.in-Ok-None.field-0-is c.in-Ok-None.ensures) in
    forced_so s p c.args.output steps c.assert_whole.ensures.is_flat c.requires.well_formed j
