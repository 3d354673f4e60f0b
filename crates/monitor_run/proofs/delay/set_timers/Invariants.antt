use Rattle.std.proofs.Common.{◌≡◌, ℕ, take}
use Rattle.std.specs.Prelude.{if◌then◌else◌}
use Rattle.std.specs.FinMap as finite_map
use Rattle.tsl_value.specs.declared.scalar.ValueType.{ValueType}
use Rattle.cell_reader.specs.inner.Cells.{Cells}
use Rattle.flat_core.specs.Members.{is_in}
use Rattle.flat_core.specs.System.{equation}
use Rattle.monitor_run.specs.inner.Instant.{set_at}
use Rattle.monitor_run.specs.inner.Registers.{AreHeld}
use Rattle.monitor_run.proofs.delay.set_timers.Given as goal

abbrev pub invariant-loop-delay : goal.invariant-loop-delay
invariant-loop-delay l = record {
  capacity : l.timers.capacity ≡ l.fn.timers.capacity;
  set : (types : ℕ → ValueType) (cells : Cells) → AreHeld l.flat types cells l.registers → (i : ℕ) → finite_map.get l.timers.times i ≡ (if is_in (take l.delay-index l.delays) i then set_at (equation l.flat i) cells l.registers l.time i (finite_map.get l.fn.timers.times i) else finite_map.get l.fn.timers.times i);
}
