use Rattle.std.proofs.Common.{◌≡◌, ◌↔◌, ℕ, true, false, length, map, sym, ap, subst, ◌∙◌, arith}
use Rattle.std.proofs.lemmas.List.{length-replicate}
use Rattle.std.proofs.lemmas.Result.{IfOk-weaker}
use Rattle.flat_core.specs.Members.{is_in}
use Rattle.flat_core.specs.Needed.{HasArgument, IsReached}
use Rattle.flat_core.specs.inner.Marks.{is_marked, ArgumentsThere, Spread}
use Rattle.flat_core.specs.Renumbered.{with_new_args}
use Rattle.flat_core.proofs.MarkLemmas.{unmarked, marked_reached, reached_marked, reached_needed, needed_reached}
use Rattle.flat_core.proofs.Renumbering.{same_equations}
use Rattle.flat_core.proofs.reach.needed.Goals as goal

pub spread-requires-clause-there : goal.spread-requires-clause-there
spread-requires-clause-there c =
    let equations = c.args.equations.now in
    subst ArgumentsThere (sym (ap (λ r. map (with_new_args r) equations) c.new-unchanged.ensures ∙ same_equations equations)) c.requires.there

pub set-requires : goal.set-requires
set-requires c =
    let marked = c.in_ok-mark_outputs.ensures in
    let spread = c.in_ok-spread.ensures in
    let size = spread.one_each ∙ marked.one_each ∙ ap length c.in_ok-marks.ensures.marked ∙ length-replicate (length c.args.equations.now) false in
    let few = c.requires.few in
    omega arith

pub returns-clause-members : goal.returns-clause-members
returns-clause-members c =
    let equations = c.args.equations.now in
    let outputs = c.args.outputs.now in
    let starts = map (λ y. y.equation) outputs in
    let fresh = λ (i : ℕ). unmarked c.in_ok-marks.marks.marked.items (length equations) i c.in_ok-marks.ensures.marked in
    let m = c.in_ok-marks.marks in
    let n = c.mark_outputs.new.self in
    let o = c.spread.new.self in
    let spread = subst (λ es. Spread (HasArgument es) n o) (ap (λ r. map (with_new_args r) equations) c.new-unchanged.ensures ∙ same_equations equations) c.in_ok-spread.ensures in
    IfOk-weaker c.set.result (λ s. (i : ℕ) → is_in s i ≡ is_marked o i) (λ s. (i : ℕ) → (is_in s i ≡ true) ↔ IsReached equations outputs i) (λ s same i. (
      (λ h. reached_needed equations outputs i (marked_reached equations starts m n o fresh c.in_ok-mark_outputs.ensures spread i (sym (same i) ∙ h))),
      (λ r. same i ∙ reached_marked equations starts m n o fresh c.in_ok-mark_outputs.ensures spread i (needed_reached equations outputs i r)),
    )) c.set.ensures.members
