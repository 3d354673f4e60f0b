use Rattle.std.proofs.Common.{◌≡◌, ◌<◌, ◌≤◌, ◌-◌, ◌++◌, ◌∷◌, [], ◌&&◌, ◌||◌, not, length, get_or, sym, ◌∙◌, ap, subst, arith}
use Rattle.std.specs.Prelude.{if◌then◌else◌}
use Rattle.agenda.specs.inner.Marks.{has_mark}
use Rattle.flat_core.specs.Members.{is_in}
use Rattle.step_uses.specs.Uses.{row}
use Rattle.body_eval.specs.inner.Registers.{HoldsLive}
use Rattle.std.proofs.lemmas.List.{take_all}
use Rattle.std.proofs.lemmas.Option.{slice_get_read}
use Rattle.alias_rules.proofs.Ordered.{needed_order}
use Rattle.register_machine.specs.Content.{print_of}
use Rattle.monitor_run.specs.inner.Instant.{HasPrinted}
use Rattle.monitor_run.specs.inner.Machine.{printed_to}
use Rattle.monitor_run.specs.inner.Registers.{register_at}
use Rattle.monitor_run.specs.inner.Shown.{plan_in}
use Rattle.monitor_run.specs.inner.Visits.{AreSkipped, has_come, is_empty}
use Rattle.monitor_run.specs.inner.Actions.{IsActionAt}
use Rattle.monitor_run.proofs.LoopLemmas.{IsPartly, no_root, room_beside, run_all}
use Rattle.monitor_run.proofs.VisitLemmas.{all_out, all_printed, live_at, none_visited, sound_at, takes_at, there_at, visited_equation, visited_print}
use Rattle.flat_core.proofs.Finished.{equation_there}
use Rattle.monitor_run.proofs.PlanLemmas.{in_order, prints_in}
use Rattle.monitor_run.proofs.run.run_steps.Goals as goal

pub loop-place-init : goal.loop-place-init
loop-place-init c =
    none_visited c.args.flat.now c.requires.whole (plan_in c.args.plan.now) c.args.time c.args.at_once c.args.all c.args.uses.now c.requires.uses (needed_order c.args.flat.now c.args.plan.now.in_place c.args.plan.now.order c.requires.fine.ordered)
    c.args.visits.now.steps c.args.visits.now.texts c.args.visits.now.filled.items c.args.out.now c.args.machine.now (record { types = c.requires.held.0; held = c.requires.held.1; last = c.requires.held.2 })
    c.requires.fresh c.requires.can c.requires.front c.requires.texts c.requires.places.steps c.requires.places.texts c.requires.filled c.requires.room
    c.requires.marked

pub run_action-requires-clause-room : goal.run_action-requires-clause-room
run_action-requires-clause-room c = room_beside c.args.flat.now c.args.machine.now c.loop-place.machine c.requires.room c.loop-place.invariant.printed.same

pub run_action-requires-clause-action : goal.run_action-requires-clause-action
run_action-requires-clause-action c =
    let s = c.args.flat.now in
    let order = c.args.plan.now.order in
    let place = c.in-Some.place in
    let action = c.index-actions-place.result in
    let is : c.new-id.result ≡ get_or order place 0 = c.new-id.ensures ∙ ap (λ xs. get_or xs place 0) c.as_slice-steps.ensures in
    let low : c.new-id.result < length s.equations = rw (c.new-id.ensures, ← c.count.ensures.count) c.if-step-count.true in
    let within : place < length order = subst (λ xs. place < length xs) c.as_slice-steps.ensures c.in-Some.ensures.next.within in
    let there = slice_get_read c.args.actions.now (length order) place action (sym c.requires.actions.one_each) within c.index-actions-place.is in
    subst (λ n. IsActionAt s n action) (sym is) (c.requires.actions.each place action there (subst (λ n. n < length s.equations) is low))

pub run_action-requires-clause-typed : goal.run_action-requires-clause-typed
run_action-requires-clause-typed c = λ e is other own.
    takes_at c.args.flat.now c.requires.whole (plan_in c.args.plan.now) c.requires.fine c.args.time c.args.at_once c.args.all c.requires.late
    c.args.out.now c.args.machine.now c.requires.room c.requires.can _ _ _ _ _ _ _ c.loop-place.invariant _ _ _ (ap length c.as_slice-steps.ensures) c.next_place.ensures.size c.in-Some.ensures.next
    c.args.uses.now c.requires.uses c.new-id.result (c.new-id.ensures ∙ ap (λ xs. get_or xs c.in-Some.place 0) c.as_slice-steps.ensures) (rw (c.new-id.ensures, ← c.count.ensures.count) c.if-step-count.true) e is

pub run_action-requires-clause-sound : goal.run_action-requires-clause-sound
run_action-requires-clause-sound c = λ so e is.
    sound_at c.args.flat.now c.requires.whole (plan_in c.args.plan.now) c.requires.fine c.args.time c.args.at_once c.args.all c.requires.late
    c.args.out.now c.args.machine.now c.requires.room c.requires.can _ _ _ _ _ _ _ c.loop-place.invariant _ _ _ (ap length c.as_slice-steps.ensures) c.next_place.ensures.size c.in-Some.ensures.next
    c.args.uses.now c.requires.uses c.new-id.result (c.new-id.ensures ∙ ap (λ xs. get_or xs c.in-Some.place 0) c.as_slice-steps.ensures) (rw (c.new-id.ensures, ← c.count.ensures.count) c.if-step-count.true) e is
    (no_root c.loop-place.root (c.is_none-is_sound.ensures ∙ ap not so))

pub loop-place-preserved-in-Continue-branch-2 : goal.loop-place-preserved-in-Continue-branch-2
loop-place-preserved-in-Continue-branch-2 c =
    let found = equation_there c.args.flat.now.equations c.new-id.result (rw (c.new-id.ensures, ← c.count.ensures.count) c.if-step-count.true) in
    visited_equation c.args.flat.now c.requires.whole (plan_in c.args.plan.now) c.requires.fine c.args.time c.args.at_once c.args.all c.requires.late
    c.args.out.now c.args.machine.now c.requires.room c.requires.can _ _ _ _ _ _ _ c.loop-place.invariant _ _ _ (ap length c.as_slice-steps.ensures) c.next_place.ensures.size c.in-Some.ensures.next
    c.args.uses.now c.requires.uses c.new-id.result (c.new-id.ensures ∙ ap (λ xs. get_or xs c.in-Some.place 0) c.as_slice-steps.ensures) (rw (c.new-id.ensures, ← c.count.ensures.count) c.if-step-count.true) found.0 found.1
    _ c.in_ok-found.found c.least_root-root.result c.in_ok-found.ensures.same c.in_ok-found.ensures.texts (c.in_ok-found.ensures.ran found.0 found.1) c.least_root-root.ensures.least (λ none. (c.least_root-root.ensures.first none, c.least_root-root.ensures.none none))
    _ _ c.note.ensures.size
    (λ going q. c.in_ok-note.ensures.marked going q ∙ (λ k. has_mark c.next_place.new.steps q || (has_come (c.deref.ensures.value k) (c.deref-then-step-count.ensures.value k) c.new-id.result && is_in (row c.args.uses.now c.new-id.result) q)))
    (λ going. c.in_ok-note.ensures.filled going ∙ (λ k. if is_empty (register_at (c.deref.ensures.value k) c.new-id.result) then c.loop-place.visits.filled.items else c.loop-place.visits.filled.items ++ c.new-id.result ∷ []))

pub print_step-requires-clause-there : goal.print_step-requires-clause-there
print_step-requires-clause-there c =
    let s = c.args.flat.now in
    let same = ap (λ xs. get_or xs c.in-Some.place 0) c.as_slice-steps.ensures in
    let high : length s.equations ≤ get_or c.args.plan.now.order c.in-Some.place 0 = rw (← c.count.ensures.count, ← same) c.if-step-count.false in
    let there =
    there_at s c.requires.whole (plan_in c.args.plan.now) c.requires.fine c.args.time c.args.at_once c.args.all c.requires.late
    c.args.out.now c.args.machine.now c.requires.room c.requires.can _ _ _ _ _ _ _ c.loop-place.invariant _ _ _ (ap length c.as_slice-steps.ensures) c.next_place.ensures.size c.in-Some.ensures.next high in
    let count = c.count-else-step-count.ensures.count in
    omega arith

pub print_step-requires-clause-live : goal.print_step-requires-clause-live
print_step-requires-clause-live c =
    let s = c.args.flat.now in
    let m = c.loop-place.machine in
    let same = ap (λ xs. get_or xs c.in-Some.place 0) c.as_slice-steps.ensures in
    let high : length s.equations ≤ get_or c.args.plan.now.order c.in-Some.place 0 = rw (← c.count.ensures.count, ← same) c.if-step-count.false in
    subst (λ j. HoldsLive m.store.cells (register_at m.registers.items (print_of s j))) (λ j. sym same j - sym c.count-else-step-count.ensures.count j)
    (live_at s c.requires.whole (plan_in c.args.plan.now) c.requires.fine c.args.time c.args.at_once c.args.all c.requires.late
    c.args.out.now c.args.machine.now c.requires.room c.requires.can _ _ _ _ _ _ _ c.loop-place.invariant _ _ _ (ap length c.as_slice-steps.ensures) c.next_place.ensures.size c.in-Some.ensures.next high)

pub loop-place-preserved : goal.loop-place-preserved
loop-place-preserved c =
    let s = c.args.flat.now in
    let same = ap (λ xs. get_or xs c.in-Some.place 0) c.as_slice-steps.ensures in
    let high : length s.equations ≤ get_or c.args.plan.now.order c.in-Some.place 0 = rw (← c.count.ensures.count, ← same) c.if-step-count.false in
    visited_print s c.requires.whole (plan_in c.args.plan.now) c.requires.fine c.args.time c.args.at_once c.args.all c.requires.late
    c.args.out.now c.args.machine.now c.requires.room c.requires.can _ _ _ _ _ _ _ c.loop-place.invariant _ _ _ (ap length c.as_slice-steps.ensures) c.next_place.ensures.size c.in-Some.ensures.next high
    c.print_step.new.machine c.print_step.new.out c.print_step.ensures.same
    (subst (λ j. HasPrinted s c.args.time j (printed_to c.args.at_once c.loop-place.out c.loop-place.machine) (printed_to c.args.at_once c.print_step.new.out c.print_step.new.machine)) (λ j. same j - c.count-else-step-count.ensures.count j) c.in_ok-print_step.ensures.printed)
    c.print_step.ensures.can c.print_step.ensures.front _ c.print_step.ensures.marks c.in_ok-print_step.ensures.unprinted c.print_step.ensures.blank

pub returns-clause-ran : goal.returns-clause-ran
returns-clause-ran c =
    let s = c.args.flat.now in
    let order = c.args.plan.now.order in
    let plan = plan_in c.args.plan.now in
    let ordered = needed_order s c.args.plan.now.in_place order c.requires.fine.ordered in
    let last =
    all_out s c.requires.whole plan c.requires.fine c.args.time c.args.at_once c.args.all c.requires.late
    c.args.out.now c.args.machine.now c.requires.room c.requires.can _ _ _ _ _ _ _ c.loop-place.invariant
    (subst (λ n. AreSkipped c.args.all c.loop-place.visits.steps c.loop-place.next n) (ap length c.as_slice-steps.ensures) c.in_default.ensures.next) in
    all_printed s plan c.args.time c.args.at_once c.args.out.now c.args.machine.now _ c.loop-place.root c.requires.can
    (run_all s c.requires.whole plan c.args.time _ _ c.loop-place.root
    (subst (λ front. IsPartly s plan c.args.time front (printed_to c.args.at_once c.args.out.now c.args.machine.now) (printed_to c.args.at_once c.loop-place.out c.loop-place.machine) c.loop-place.root) (take_all (length order) order (omega arith)) last.run)
    (in_order s order ordered) (prints_in s order ordered))
