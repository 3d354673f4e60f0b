use Rattle.std.proofs.Common.{◌≡◌, ◌+◌, suc, subst, arith}
use Rattle.flat_core.specs.Line.{inputs_of}
use Rattle.event_why.specs.inner.Course.{GoesOn}
use Rattle.event_why.proofs.CourseLemmas.{IsReached, comes_next, one_solution, reached_next, reached_start, told_all}
use Rattle.event_why.proofs.course.put_all.Goals as goal

pub loop-t-init : goal.loop-t-init
loop-t-init c = record {
  placed = c.place_from-place.ensures;
  reached = λ z solves. reached_start c.args.story.now c.args.lines.now c.requires.setting z c.args.bound c.requires.small solves c.args.draft.now c.requires.blank;
}

pub put_next-requires-clause-comes : goal.put_next-requires-clause-comes
put_next-requires-clause-comes c =
    let one = one_solution c.args.story.now c.args.lines.now c.requires.setting c.args.bound in (
      one.0,
      comes_next c.args.story.now c.args.lines.now c.requires.setting one.0 c.args.bound c.requires.small one.1 c.loop-t.next c.loop-t.draft (c.loop-t.invariant.reached one.0 one.1) c.in-Some.t c.in-Some.ensures,
    )

pub returns-in-Some-2 : goal.returns-in-Some-2
returns-in-Some-2 c z solves =
    let t = c.in-Some.t in
    let first = c.in-Some.ensures in
    let next = comes_next c.args.story.now c.args.lines.now c.requires.setting z c.args.bound c.requires.small solves c.loop-t.next c.loop-t.draft (c.loop-t.invariant.reached z solves) t c.in-Some.ensures in
    (first.1, subst (GoesOn c.args.story.now (inputs_of c.args.lines.now) z t c.put_next.new.draft) c.in-Some-2.is (c.in_ok-root.ensures z next))

pub loop-t-preserved : goal.loop-t-preserved
loop-t-preserved c = record {
  placed = c.place_from-place-in-None.ensures;
  reached = λ z solves.
      let t = c.in-Some.t in
      let story = c.args.story.now in
      let lines = c.args.lines.now in
      let bound = c.args.bound in
      let first = c.in-Some.ensures in
      let new = c.put_next.new.draft in
      let next = comes_next story lines c.requires.setting z bound c.requires.small solves c.loop-t.next c.loop-t.draft (c.loop-t.invariant.reached z solves) t c.in-Some.ensures in
      let goes = subst (GoesOn story (inputs_of lines) z t new) c.in-None.is (c.in_ok-root.ensures z next) in
      let value = c.get-next.ensures.value in
      let same : suc t ≡ c.get-next.result + 1 = omega (arith, value) in
      subst (λ n. IsReached story lines z bound n new) same
      (reached_next story lines c.requires.setting z bound c.requires.small solves c.loop-t.draft new c.loop-t.next t first.1 next goes);
}

pub returns : goal.returns
returns c z solves =
    told_all c.args.story.now c.args.lines.now c.requires.setting z c.args.bound c.requires.small solves c.loop-t.next c.loop-t.draft (c.loop-t.invariant.reached z solves) c.in_default.ensures
