use Rattle.std.proofs.Common.{ℕ, take}
use Rattle.tsl_value.specs.declared.scalar.ValueType.{ValueType}
use Rattle.cell_reader.specs.inner.Cells.{Cells}
use Rattle.flat_core.specs.Members.{is_in}
use Rattle.flat_core.specs.System.{equation}
use Rattle.monitor_run.specs.inner.Instant.{IsLeastRoot, refusal_of}
use Rattle.monitor_run.specs.inner.Registers.{AreHeld}
use Rattle.monitor_run.proofs.delay.first_refused.Given as goal

abbrev pub invariant-loop-delay : goal.invariant-loop-delay
invariant-loop-delay l = (types : ℕ → ValueType) (cells : Cells) → AreHeld l.flat types cells l.registers → IsLeastRoot (is_in (take l.delay-index l.delays)) (λ i. refusal_of (equation l.flat i) cells l.registers) l.root
