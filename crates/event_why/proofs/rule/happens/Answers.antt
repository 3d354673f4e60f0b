use Rattle.std.proofs.Common.{rules, map}
use Rattle.std.specs.Prelude.{IsTrue}
use Rattle.std.proofs.lemmas.Result.{IfOk-weaker}
use Rattle.flat_core.specs.Line.{inputs_of}
use Rattle.flat_core.specs.Members.{is_in}
use Rattle.flat_core.proofs.Shapes.{shape_of}
use Rattle.event_why.specs.Said.{said}
use Rattle.event_why.proofs.Iff.{through}
use Rattle.event_why.proofs.RuleLemmas.{happens_test}
use Rattle.event_why.proofs.TypedFacts.{constant_values, takes_told}
use Rattle.event_why.proofs.rule.happens.Goals as goal

pub makes-requires-clause-shape : goal.makes-requires-clause-shape
makes-requires-clause-shape c = shape_of c.args.grounds.now.flat.now c.requires.grounds.whole c.args.i c.equation-e.result.now c.equation-e.ensures

pub makes-requires-clause-takes : goal.makes-requires-clause-takes
makes-requires-clause-takes c =
    takes_told c.args.grounds.now.flat.now c.requires.grounds.whole c.args.i c.args.t c.equation-e.result.now (map said c.args.named.now) c.equation-e.ensures c.requires.typed

pub makes-requires-clause-constant : goal.makes-requires-clause-constant
makes-requires-clause-constant c = constant_values c.args.grounds.now.flat.now c.requires.grounds.whole c.args.i c.equation-e.result.now c.equation-e.ensures

pub returns : goal.returns
returns c =
    let s = c.args.grounds.now.flat.now in
    let slice = c.args.grounds.now.slice.now in
    let p = inputs_of c.args.grounds.now.lines.now in
    let among : IsTrue (is_in slice c.args.i) = search rules in
    IfOk-weaker c.makes.result _ _ (λ b is. through is (happens_test s slice p c.args.i among c.equation-e.result.now c.equation-e.ensures c.args.t c.args.value.now (map said c.args.named.now)))
    c.makes.ensures
