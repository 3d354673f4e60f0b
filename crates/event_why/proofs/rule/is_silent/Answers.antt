use Rattle.std.proofs.Common.{rules, ◌≡◌, false, map, refl, sym, ◌∙◌}
use Rattle.std.specs.Prelude.{IsTrue}
use Rattle.std.proofs.lemmas.Bool.{false≢true}
use Rattle.std.proofs.lemmas.Result.{IfOk-weaker}
use Rattle.flat_core.specs.Line.{inputs_of}
use Rattle.flat_core.specs.Members.{is_in}
use Rattle.flat_core.proofs.Shapes.{shape_of}
use Rattle.event_why.specs.Said.{said}
use Rattle.event_why.specs.inner.Silence.{IsInGap, IsJoined}
use Rattle.event_why.proofs.Iff.{through}
use Rattle.event_why.proofs.RuleLemmas.{never_silent, silent_gap, silent_join, silent_never, silent_test}
use Rattle.event_why.proofs.TypedFacts.{takes_told}
use Rattle.event_why.proofs.rule.is_silent.Goals as goal

pub returns-then-not-contains : goal.returns-then-not-contains
returns-then-not-contains c =
    let s = c.args.grounds.now.flat.now in
    let slice = c.args.grounds.now.slice.now in
    let p = inputs_of c.args.grounds.now.lines.now in
    let fs = map said c.args.named.now in
    let apart : is_in slice c.args.i ≡ false = search rules in
    let never = never_silent s slice p c.args.i apart c.args.from c.args.to fs in
    (λ is. absurd (false≢true is), λ follows. absurd (never follows))

pub returns-then-is_in_gap : goal.returns-then-is_in_gap
returns-then-is_in_gap c =
    let s = c.args.grounds.now.flat.now in
    let slice = c.args.grounds.now.slice.now in
    let p = inputs_of c.args.grounds.now.lines.now in
    let fs = map said c.args.named.now in
    let among : IsTrue (is_in slice c.args.i) = search rules in
    let found = silent_gap s slice p c.args.i among c.equation-e.result.now c.equation-e.ensures c.args.from c.args.to fs (c.is_in_gap.ensures.0 c.if-is_in_gap.true) in
    (λ is. found, λ follows. refl)

pub returns-then-is_joined : goal.returns-then-is_joined
returns-then-is_joined c =
    let s = c.args.grounds.now.flat.now in
    let slice = c.args.grounds.now.slice.now in
    let p = inputs_of c.args.grounds.now.lines.now in
    let fs = map said c.args.named.now in
    let among : IsTrue (is_in slice c.args.i) = search rules in
    let found = silent_join s slice p c.args.i among c.equation-e.result.now c.equation-e.ensures c.args.from c.args.to fs (c.is_joined.ensures.0 c.if-is_joined.true) in
    (λ is. found, λ follows. refl)

pub returns-then-not-is_same_time : goal.returns-then-not-is_same_time
returns-then-not-is_same_time c =
    let s = c.args.grounds.now.flat.now in
    let slice = c.args.grounds.now.slice.now in
    let p = inputs_of c.args.grounds.now.lines.now in
    let fs = map said c.args.named.now in
    let among : IsTrue (is_in slice c.args.i) = search rules in
    let e = c.equation-e.result.now in
    let at = c.equation-e.ensures in
    let no_gap : ¬ IsInGap c.args.from c.args.to fs = λ g. false≢true (sym c.if-is_in_gap.false ∙ c.is_in_gap.ensures.1 g) in
    let no_join : ¬ IsJoined c.args.i c.args.from c.args.to fs = λ j. false≢true (sym c.if-is_joined.false ∙ c.is_joined.ensures.1 j) in
    let no : c.is_same_time.result ≡ false = search rules in
    let never = silent_never s slice p c.args.i among e at c.args.from c.args.to fs no_gap no_join (λ same. false≢true (sym no ∙ c.is_same_time.ensures.1 same)) in
    (λ is. absurd (false≢true is), λ follows. absurd (never follows))

pub lacks-requires-clause-shape : goal.lacks-requires-clause-shape
lacks-requires-clause-shape c = shape_of c.args.grounds.now.flat.now c.requires.grounds.whole c.args.i c.equation-e.result.now c.equation-e.ensures

pub lacks-requires-clause-takes : goal.lacks-requires-clause-takes
lacks-requires-clause-takes c =
    takes_told c.args.grounds.now.flat.now c.requires.grounds.whole c.args.i c.args.from c.equation-e.result.now (map said c.args.named.now) c.equation-e.ensures c.requires.typed

pub returns : goal.returns
returns c =
    let s = c.args.grounds.now.flat.now in
    let slice = c.args.grounds.now.slice.now in
    let p = inputs_of c.args.grounds.now.lines.now in
    let fs = map said c.args.named.now in
    let among : IsTrue (is_in slice c.args.i) = search rules in
    let e = c.equation-e.result.now in
    let at = c.equation-e.ensures in
    let no_gap : ¬ IsInGap c.args.from c.args.to fs = λ g. false≢true (sym c.if-is_in_gap.false ∙ c.is_in_gap.ensures.1 g) in
    let no_join : ¬ IsJoined c.args.i c.args.from c.args.to fs = λ j. false≢true (sym c.if-is_joined.false ∙ c.is_joined.ensures.1 j) in
    let yes : IsTrue c.is_same_time.result = search rules in
    IfOk-weaker c.lacks.result _ _ (λ b is. through is (silent_test s slice p c.args.i among e at c.args.from c.args.to fs no_gap no_join (c.is_same_time.ensures.0 yes))) c.lacks.ensures
