use Rattle.std.proofs.Common.{suc, not, ap, sym, subst, ◌∙◌, arith}
use Rattle.std.proofs.lemmas.Bool.{false≢true}
use Rattle.std.specs.Prelude.{is_some}
use Rattle.flat_core.specs.Line.{inputs_of}
use Rattle.event_why.specs.inner.Row.{IsRow}
use Rattle.event_why.specs.inner.Tale.{IsOver, tale_of}
use Rattle.event_why.proofs.CourseLemmas.{can_run, goes, row_after, story_before}
use Rattle.event_why.proofs.course.put_next.Goals as goal
use Rattle.event_why.proofs.course.put_next.Goals.{then-is_none+in_ok-put_at, else-is_none}

pub run_row-requires-clause-told : goal.run_row-requires-clause-told
run_row-requires-clause-told c =
    let story = c.args.story.now in
    let lines = c.args.lines.now in
    let p = inputs_of lines in
    let t = c.args.t in
    let old = c.args.draft.now in
    let z = c.requires.comes.0 in
    let next = c.requires.comes.1 in
    let before = story_before story lines c.requires.setting z c.args.next t old next in
    (tale_of story p z t, can_run story lines c.requires.setting z c.args.next t old c.put_before.new.draft next (c.in_ok-put_before.ensures p z t before (omega arith) next.late next.first next.calm next.up_to))

pub root_in-requires : goal.root_in-requires
root_in-requires c =
    let story = c.args.story.now in
    let lines = c.args.lines.now in
    let p = inputs_of lines in
    let t = c.args.t in
    let old = c.args.draft.now in
    let z = c.requires.comes.0 in
    let next = c.requires.comes.1 in
    let T = tale_of story p z t in
    let before = story_before story lines c.requires.setting z c.args.next t old next in
    let can = can_run story lines c.requires.setting z c.args.next t old c.put_before.new.draft next (c.in_ok-put_before.ensures p z t before (omega arith) next.late next.first next.calm next.up_to) in
    record { row = (T, lines, c.put_before.new.draft, can, subst (IsRow T t) (sym c.deref.ensures.value) (c.in_ok-row.ensures T can)) }

pub returns : goal.returns
returns c z next =
    let story = c.args.story.now in
    let lines = c.args.lines.now in
    let p = inputs_of lines in
    let t = c.args.t in
    let old = c.args.draft.now in
    let mid = c.put_before.new.draft in
    let T = tale_of story p z t in
    let before = story_before story lines c.requires.setting z c.args.next t old next in
    let up_to = c.in_ok-put_before.ensures p z t before (omega arith) next.late next.first next.calm next.up_to in
    let can = can_run story lines c.requires.setting z c.args.next t old mid next up_to in
    let row = c.in_ok-row.ensures T can in
    let first = c.in_ok-root.ensures T lines mid can (subst (IsRow T t) (sym c.deref.ensures.value) row) in
    goes story lines c.requires.setting z c.args.next t old next mid c.if-is_none.draft c.in_ok-root.root first up_to
    (λ none after up_after. elim c.if-is_none.branch [
      | then-is_none+in_ok-put_at w ↦
          subst (IsOver (tale_of story p z (suc t)) t) (sym w.draft-is)
          (w.in_ok-put_at.ensures p z after (subst (IsRow (tale_of story p z (suc t)) t) (sym w.deref-then-is_none.ensures.value) (row_after story lines c.requires.setting z c.args.next t old next c.in_ok-row.row.items row)) up_after)
      | else-is_none w ↦ absurd (false≢true (sym (ap is_some none) ∙ c.is_none.ensures ∙ ap not w.if-is_none.false))
    ])
