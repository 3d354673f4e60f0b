use Rattle.std.proofs.Common.{◌≡◌, ℕ, ◌<◌, ◌++◌, map, take, drop}
use Rattle.std.specs.Prelude.{IsFalse}
use Rattle.body_eval.specs.declared.register.Register.{Register}
use Rattle.body_eval.specs.declared.register.Register.TheVariants.{Empty}
use Rattle.monitor_run.specs.inner.Here.{IsBare}
use Rattle.monitor_run.specs.inner.Registers.{register_at}
use Rattle.monitor_run.proofs.end.empty_all.Given as goal

abbrev pub invariant-loop-register : goal.invariant-loop-register
invariant-loop-register l = record {
  emptied : l.registers ≡ map (λ (r : Register). Empty) (take l.register-index l.initial.registers) ++ drop l.register-index l.initial.registers;
  bare : IsFalse l.touched → (i : ℕ) → i < l.register-index → IsBare (register_at l.initial.registers i);
}
