use Rattle.std.proofs.Common.{◌≡◌, ◌↔◌, ℕ, true, false, length, map, sym, ap, subst, ◌∙◌, arith}
use Rattle.std.proofs.lemmas.List.{length-replicate}
use Rattle.std.proofs.lemmas.Result.{IfOk-weaker}
use Rattle.flat_core.specs.Members.{is_in}
use Rattle.flat_core.specs.Needed.{IsReachedFrom}
use Rattle.flat_core.specs.inner.Marks.{is_marked, AreBelow, Marked}
use Rattle.flat_core.specs.Renumbered.{new_number, with_new_args}
use Rattle.flat_core.proofs.MarkLemmas.{unmarked, marked_reached, reached_marked}
use Rattle.flat_core.proofs.Renumbering.{same_numbers}
use Rattle.flat_core.proofs.reach.reached.Goals as goal

pub mark_all-requires : goal.mark_all-requires
mark_all-requires c =
    let starts = c.args.starts.now in
    let size = ap length c.in_ok-marks.ensures.marked ∙ length-replicate (length c.args.equations.now) false in
    let same = ap (λ r. map (new_number r) starts) c.new-unchanged.ensures ∙ same_numbers starts in
    subst (AreBelow (length c.in_ok-marks.marks.marked.items)) (sym same) (subst (λ n. AreBelow n starts) (sym size) c.requires.starts_there)

pub set-requires : goal.set-requires
set-requires c =
    let marked = c.in_ok-mark_all.ensures in
    let spread = c.in_ok-spread.ensures in
    let size = spread.one_each ∙ marked.one_each ∙ ap length c.in_ok-marks.ensures.marked ∙ length-replicate (length c.args.equations.now) false in
    let few = c.requires.few in
    omega arith

pub returns-clause-members : goal.returns-clause-members
returns-clause-members c =
    let starts = c.args.starts.now in
    let equations = map (with_new_args c.args.replaced.now) c.args.equations.now in
    let fresh = λ (i : ℕ). unmarked c.in_ok-marks.marks.marked.items (length c.args.equations.now) i c.in_ok-marks.ensures.marked in
    let m = c.in_ok-marks.marks in
    let n = c.mark_all.new.self in
    let o = c.spread.new.self in
    let begun = subst (λ ids. Marked ids m n) (ap (λ r. map (new_number r) starts) c.new-unchanged.ensures ∙ same_numbers starts) c.in_ok-mark_all.ensures in
    IfOk-weaker c.set.result (λ s. (i : ℕ) → is_in s i ≡ is_marked o i) (λ s. (i : ℕ) → (is_in s i ≡ true) ↔ IsReachedFrom equations starts i) (λ s same i. (
      (λ h. marked_reached equations starts m n o fresh begun c.in_ok-spread.ensures i (sym (same i) ∙ h)),
      (λ r. same i ∙ reached_marked equations starts m n o fresh begun c.in_ok-spread.ensures i r),
    )) c.set.ensures.members
