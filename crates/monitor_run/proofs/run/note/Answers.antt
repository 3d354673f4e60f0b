use Rattle.std.proofs.Common.{◌≡◌, ◌==◌, ◌<◌, ◌++◌, ◌∷◌, [], ◌&&◌, ◌||◌, true, false, not, length, sym, ap, ◌∙◌, subst, arith}
use Rattle.std.proofs.lemmas.List.{get_or_default}
use Rattle.std.proofs.Math.Bool.{or-false}
use Rattle.std.specs.Prelude.{if◌then◌else◌}
use Rattle.std.specs.List.{All, list_any}
use Rattle.agenda.specs.inner.Marks.{has_mark}
use Rattle.body_eval.specs.declared.register.Register.TheVariants.{Empty}
use Rattle.flat_core.specs.Members.{is_in}
use Rattle.step_uses.specs.Uses.{row}
use Rattle.monitor_run.specs.inner.Here.{is_marked}
use Rattle.monitor_run.specs.inner.Registers.{register_at}
use Rattle.monitor_run.specs.inner.Visits.{has_come, is_empty}
use Rattle.monitor_run.proofs.BeginLemmas.{all_within}
use Rattle.monitor_run.proofs.VisitLemmas.{empty_is}
use Rattle.monitor_run.proofs.run.note.Goals as goal
use Rattle.monitor_run.proofs.run.note.Goals.{then-not-is_empty+in_ok-push, else-not-is_empty+else-not-faulted-place}

pub returns-then-not-faulted-place-clause-marked : goal.returns-then-not-faulted-place-clause-marked
returns-then-not-faulted-place-clause-marked c = λ going p.
    let registers = c.args.registers.now in
    let place = c.get-place.ensures in
    let r = c.index-registers-place.result in
    let there = c.requires.there in
    let r_is : r ≡ register_at registers c.args.id = c.index-registers-place.is ∙ get_or_default registers c.get-place.result r Empty (omega arith) ∙ ap (register_at registers) place in
    let none : is_empty (register_at registers c.args.id) ≡ true = ap is_empty (sym r_is) ∙ empty_is r c.is_empty.result c.is_empty.ensures ∙ c.if-not-is_empty.false in
    let sound : is_marked c.args.faulted.now c.args.id ≡ false = ap (is_marked c.args.faulted.now) (sym place) ∙ c.if-not-faulted-place.true in
    sym ((λ k. has_mark c.args.steps.now p || ((not (none k) || sound k) && is_in (row c.args.uses.now c.args.id) p)) ∙ or-false (has_mark c.args.steps.now p))

pub returns-then-not-faulted-place-clause-filled : goal.returns-then-not-faulted-place-clause-filled
returns-then-not-faulted-place-clause-filled c = λ going.
    let registers = c.args.registers.now in
    let filled = c.args.filled.now.items in
    let place = c.get-place.ensures in
    let r = c.index-registers-place.result in
    let there = c.requires.there in
    let r_is : r ≡ register_at registers c.args.id = c.index-registers-place.is ∙ get_or_default registers c.get-place.result r Empty (omega arith) ∙ ap (register_at registers) place in
    let none : is_empty (register_at registers c.args.id) ≡ true = ap is_empty (sym r_is) ∙ empty_is r c.is_empty.result c.is_empty.ensures ∙ c.if-not-is_empty.false in
    sym (λ k. if none k then filled else filled ++ c.args.id ∷ [])

pub mark_each-requires : goal.mark_each-requires
mark_each-requires c = subst (λ xs. All (λ p. p < length c.args.steps.now) xs) (sym c.of.ensures) (all_within c.args.uses.now (length c.args.steps.now) c.args.id c.requires.within)

pub returns-clause-marked : goal.returns-clause-marked
returns-clause-marked c = λ going p.
    let registers = c.args.registers.now in
    let faulted = c.args.faulted.now in
    let place = c.get-place.ensures in
    let r = c.index-registers-place.result in
    let there = c.requires.there in
    let r_is : r ≡ register_at registers c.args.id = c.index-registers-place.is ∙ get_or_default registers c.get-place.result r Empty (omega arith) ∙ ap (register_at registers) place in
    let asked : is_empty (register_at registers c.args.id) ≡ c.is_empty.result = ap is_empty (sym r_is) ∙ empty_is r c.is_empty.result c.is_empty.ensures in
    let come : has_come registers faulted c.args.id ≡ true = elim c.if-not-is_empty.branch [
      | then-not-is_empty+in_ok-push w ↦ λ k. not ((asked ∙ w.if-not-is_empty.true) k) || is_marked faulted c.args.id
      | else-not-is_empty+else-not-faulted-place w ↦ λ k. not ((asked ∙ w.if-not-is_empty.false) k) || (ap (is_marked faulted) (sym place) ∙ w.if-not-faulted-place.false) k
    ] in
    c.mark_each.ensures.marked p ∙ (λ k. has_mark c.args.steps.now p || list_any (λ x. x == p) (c.of.ensures k)) ∙ sym (λ k. has_mark c.args.steps.now p || (come k && is_in (row c.args.uses.now c.args.id) p))

pub returns-clause-filled : goal.returns-clause-filled
returns-clause-filled c = λ going.
    let registers = c.args.registers.now in
    let filled = c.args.filled.now.items in
    let r = c.index-registers-place.result in
    let there = c.requires.there in
    let place = c.get-place.ensures in
    let r_is : r ≡ register_at registers c.args.id = c.index-registers-place.is ∙ get_or_default registers c.get-place.result r Empty (omega arith) ∙ ap (register_at registers) place in
    let asked : is_empty (register_at registers c.args.id) ≡ c.is_empty.result = ap is_empty (sym r_is) ∙ empty_is r c.is_empty.result c.is_empty.ensures in
    elim c.if-not-is_empty.branch [
      | then-not-is_empty+in_ok-push w ↦ ap (λ v. v.items) w.filled-is ∙ w.in_ok-push.ensures.items ∙ sym (λ k. if (asked ∙ w.if-not-is_empty.true) k then filled else filled ++ c.args.id ∷ [])
      | else-not-is_empty+else-not-faulted-place w ↦ ap (λ v. v.items) w.filled-is ∙ sym (λ k. if (asked ∙ w.if-not-is_empty.false) k then filled else filled ++ c.args.id ∷ [])
    ]
