use Rattle.std.proofs.Common.{◌≡◌, replicate}
use Rattle.body_eval.specs.declared.register.Register.TheVariants.{Empty}
use Rattle.monitor_run.proofs.machine.empty_registers.Given as goal

abbrev pub invariant-loop-n : goal.invariant-loop-n
invariant-loop-n l = l.registers.items ≡ replicate l._n Empty
