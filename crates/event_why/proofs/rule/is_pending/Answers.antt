use Rattle.std.proofs.Common.{rules, ◌↔◌, map, subst}
use Rattle.std.specs.Prelude.{IsTrue}
use Rattle.std.proofs.lemmas.Bool.{false≢true}
use Rattle.flat_core.specs.Line.{inputs_of}
use Rattle.flat_core.specs.Members.{is_in}
use Rattle.flat_core.proofs.Shapes.{shape_of}
use Rattle.why_rules.specs.Rules.{Keeps}
use Rattle.event_why.specs.Said.{said}
use Rattle.event_why.proofs.Iff.{through}
use Rattle.event_why.proofs.RuleLemmas.{pending_never, pending_test}
use Rattle.event_why.proofs.rule.is_pending.Goals as goal

pub delay_of-requires : goal.delay_of-requires
delay_of-requires c = shape_of c.args.grounds.now.flat.now c.requires.whole c.args.i c.equation-e.result.now c.equation-e.ensures

pub returns-in-Some : goal.returns-in-Some
returns-in-Some c =
    let s = c.args.grounds.now.flat.now in
    let slice = c.args.grounds.now.slice.now in
    let p = inputs_of c.args.grounds.now.lines.now in
    let fs = map said c.args.named.now in
    let among : IsTrue (is_in slice c.args.i) = search rules in
    let e = c.equation-e.result.now in
    let at = c.equation-e.ensures in
    let d = c.in-Some.delay in
    let so = c.in-Some.ensures.some in
    let kept = subst (λ n. IsTrue c.keeps.result ↔ Keeps p n e d.amount d.reset c.args.t c.args.due fs) so.1 (c.keeps.ensures p e) in
    through kept (pending_test s slice p c.args.i among e at d.amount d.reset c.args.t c.args.due fs so.0 so.2)

pub returns-in-None : goal.returns-in-None
returns-in-None c =
    let s = c.args.grounds.now.flat.now in
    let slice = c.args.grounds.now.slice.now in
    let p = inputs_of c.args.grounds.now.lines.now in
    let fs = map said c.args.named.now in
    let among : IsTrue (is_in slice c.args.i) = search rules in
    let never = pending_never s slice p c.args.i among c.equation-e.result.now c.equation-e.ensures c.args.t c.args.due fs (search rules) in
    (λ is. absurd (false≢true is), λ follows. absurd (never follows))
