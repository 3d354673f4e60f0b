use Rattle.std.proofs.Common.{ℕ, sym, subst, ap, ◌∙◌}
use Rattle.std.proofs.lemmas.Bool.{true≢false}
use Rattle.std.specs.Prelude.{IsTrue}
use Rattle.std.specs.List.{All, flat_map}
use Rattle.flat_core.specs.Kept.{is_timer}
use Rattle.step_uses.specs.Uses.{row}
use Rattle.tsl_value.specs.declared.scalar.ValueType.{ValueType}
use Rattle.cell_reader.specs.inner.Cells.{Cells}
use Rattle.flat_core.specs.Members.{is_in}
use Rattle.flat_core.specs.System.{equation}
use Rattle.monitor_run.specs.inner.Instant.{IsLeastRoot, refusal_of}
use Rattle.monitor_run.specs.inner.Machine.{printed_to}
use Rattle.monitor_run.specs.inner.Registers.{AreHeld}
use Rattle.monitor_run.specs.inner.Shown.{plan_in}
use Rattle.monitor_run.proofs.InstantLemmas.{begins-all, begins-fresh, runs-registers}
use Rattle.monitor_run.proofs.TableLemmas.{delays_run, refused_all}
use Rattle.monitor_run.proofs.instant.run_registers.Goals as goal
use Rattle.monitor_run.proofs.instant.run_registers.Goals.{then-not-all_delays+in_ok-gather, else-not-all_delays}

pub run_steps-requires-clause-held : goal.run_steps-requires-clause-held
run_steps-requires-clause-held c = begins-all c.args.flat.now c.requires.whole c.args.time c.args.given.now.items c.requires.events c.args.machine.now c.begin.new.machine c.in_ok-begin.ensures.begins c.requires.sound c.requires.room.registers

pub run_steps-requires-clause-fresh : goal.run_steps-requires-clause-fresh
run_steps-requires-clause-fresh c = begins-fresh c.args.flat.now c.requires.whole c.args.time c.args.given.now.items c.requires.events c.args.machine.now c.begin.new.machine c.in_ok-begin.ensures.begins c.requires.sound.timers

pub first_refused-refused-requires-clause-running : goal.first_refused-refused-requires-clause-running
first_refused-refused-requires-clause-running c =
    subst (All (λ i. IsTrue (is_timer c.args.flat.now i))) (sym c.delays.ensures)
    (delays_run c.args.flat.now c.requires.whole c.args.tables.now c.args.plan.now.order c.requires.tables c.args.all_delays c.args.timers.now c.requires.timers c.run_steps.new.visits.filled.items c.if-not-all_delays.visits.delays.items c.run_steps.new.machine.registers.items (c.run_steps.ensures.same.registers_each ∙ c.begin.ensures.room.registers) (λ going. c.in_ok-found.ensures.filled (c.requires.fewer going))
    (λ going. elim c.if-not-all_delays.branch [
      | then-not-all_delays+in_ok-gather w ↦ ap (λ v. v.delays.items) w.visits-is ∙ w.in_ok-gather.ensures ∙ ap (flat_map (row c.args.tables.now.delays)) w.deref-then-not-all_delays.ensures.value
      | else-not-all_delays w ↦ absurd (true≢false (sym w.if-not-all_delays.false ∙ going))
    ]))

pub returns-clause-ran : goal.returns-clause-ran
returns-clause-ran c =
    let s = c.args.flat.now in
    let refused = c.first_refused-refused.result in
    let registers = c.run_steps.new.machine.registers.items in
    let of_slice = subst (λ rs. (types : ℕ → ValueType) (cells : Cells) → AreHeld s types cells rs → IsLeastRoot (is_in c.delays.result.now) (λ i. refusal_of (equation s i) cells rs) refused) c.deref-2.ensures.value c.first_refused-refused.ensures in
    let of_listed = subst (λ ds. (types : ℕ → ValueType) (cells : Cells) → AreHeld s types cells registers → IsLeastRoot (is_in ds) (λ i. refusal_of (equation s i) cells registers) refused) c.delays.ensures of_slice in
    runs-registers s c.requires.whole (plan_in c.args.plan.now) c.args.time c.args.given.now.items c.requires.events c.args.machine.now c.begin.new.machine (printed_to c.args.at_once c.run_steps.new.out c.run_steps.new.machine) c.in_ok-begin.ensures.begins c.requires.sound
    c.in_ok-found.found refused c.least_root.result c.in_ok-found.ensures.ran
    (λ types cells held. refused_all c.args.flat.now c.requires.whole c.args.tables.now c.args.plan.now.order c.requires.tables c.args.all_delays c.args.timers.now c.requires.timers c.run_steps.new.visits.filled.items c.if-not-all_delays.visits.delays.items c.run_steps.new.machine.registers.items (c.run_steps.ensures.same.registers_each ∙ c.begin.ensures.room.registers) (λ going. c.in_ok-found.ensures.filled (c.requires.fewer going))
    (λ going. elim c.if-not-all_delays.branch [
      | then-not-all_delays+in_ok-gather w ↦ ap (λ v. v.delays.items) w.visits-is ∙ w.in_ok-gather.ensures ∙ ap (flat_map (row c.args.tables.now.delays)) w.deref-then-not-all_delays.ensures.value
      | else-not-all_delays w ↦ absurd (true≢false (sym w.if-not-all_delays.false ∙ going))
    ]) cells refused (of_listed types cells held))
    c.least_root.ensures.least c.least_root.ensures.none
