use Rattle.std.proofs.Common.{◌≤◌, arith, length, sym, ◌∙◌}
use Rattle.flat_core.proofs.Shapes.{shape_of}
use Rattle.event_why.proofs.RowLemmas.{from_row, has_happened, no_root, none_there, root_found, sound_after, sound_skip, takes_values}
use Rattle.event_why.proofs.row.root_in.Goals as goal
use Rattle.event_why.proofs.row.root_in.Goals.{then-runs+in_ok-kind+in_default, else-runs}

pub root_of-requires-clause-shape : goal.root_of-requires-clause-shape
root_of-requires-clause-shape c = shape_of c.args.flat.now c.count-n-end.ensures.is_flat c.new-i.result c.equation.result.now c.equation.ensures

pub root_of-requires-clause-takes : goal.root_of-requires-clause-takes
root_of-requires-clause-takes c =
    let r = c.requires.row in
    takes_values r.0 c.args.flat.now r.1 c.args.t r.2 c.args.row.now r.3 (from_row r.0 c.args.t c.args.row.now r.4) c.new-i.result c.equation.result.now
    (sym c.runs.ensures ∙ c.if-runs.true) c.equation.ensures

pub returns-in-Some : goal.returns-in-Some
returns-in-Some c T lines draft can all =
    let e = c.equation.result.now in
    let run = sym c.runs.ensures ∙ c.if-runs.true in
    let happened = has_happened T c.args.flat.now lines c.args.t draft c.args.row.now can all c.new-i.result e run c.equation.ensures in
    root_found T c.args.flat.now lines c.args.t draft can c.loop-n.n c.new-i.result c.new-i.ensures e c.in-Some.kind run c.equation.ensures
    (c.in_ok-kind.ensures T happened ∙ c.in-Some.is) (c.loop-n.invariant T lines draft can all)

pub loop-n-preserved : goal.loop-n-preserved
loop-n-preserved c T lines draft can all =
    let before = c.loop-n.invariant T lines draft can all in
    elim c.if-runs.branch [
      | then-runs+in_ok-kind+in_default w ↦
          let e = w.equation.result.now in
          let happened = has_happened T c.args.flat.now lines c.args.t draft c.args.row.now can all c.new-i.result e (sym c.runs.ensures ∙ w.if-runs.true) w.equation.ensures in
          sound_after T c.args.flat.now lines c.args.t draft can c.loop-n.n c.new-i.result c.new-i.ensures e w.equation.ensures
          (w.in_ok-kind.ensures T happened ∙ none_there w.in_ok-kind.field-0 w.in_default.not-Some) before
      | else-runs w ↦ sound_skip T c.args.flat.now lines c.args.t draft can c.loop-n.n c.new-i.result c.new-i.ensures (sym c.runs.ensures ∙ w.if-runs.false) before
    ]

pub returns : goal.returns
returns c T lines draft can all =
    let past : length c.args.flat.now.equations ≤ c.loop-n.n = omega (arith, c.count-n-end.ensures.count) in
    no_root T c.args.flat.now lines c.args.t draft can c.loop-n.n past (c.loop-n.invariant T lines draft can all)
