use Rattle.std.proofs.Common.{◌≡◌, ◌++◌, map, drop}
use Rattle.std.specs.List.{AllByRecursion}
use Rattle.aggregate_store.specs.Content.{IsInRange}
use Rattle.monitor_run.specs.inner.Saved.{saved_of}
use Rattle.monitor_run.specs.inner.Shown.{held_at}
use Rattle.monitor_run.specs.inner.Taking.{InRegister}
use Rattle.monitor_run.proofs.saved.saved_registers.Given as goal

abbrev pub invariant-loop-id : goal.invariant-loop-id
invariant-loop-id l =
    (l.registers ++ map (λ v. saved_of l.cells (held_at l.last v)) (drop l.id-index l.keeps) ≡ map (λ v. saved_of l.cells (held_at l.last v)) l.keeps)
    × AllByRecursion (InRegister IsInRange) l.registers
