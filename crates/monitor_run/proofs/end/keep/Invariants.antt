use Rattle.std.proofs.Common.{◌≡◌, ℕ, false, length, take}
use Rattle.std.specs.Prelude.{IsFalse, IsTrue, slice_index_or}
use Rattle.flat_core.specs.Members.{is_in}
use Rattle.monitor_run.specs.inner.Here.{IsBare}
use Rattle.monitor_run.specs.inner.Registers.{register_at}
use Rattle.monitor_run.proofs.EndLemmas.{AreKeeping}
use Rattle.monitor_run.proofs.end.keep.Given as goal

abbrev pub invariant-loop-id : goal.invariant-loop-id
invariant-loop-id l = record {
  keeping : AreKeeping (λ i. slice_index_or l.kept i false) l.filled l.id-index l.fn.registers l.fn.last l.registers l.last;
  one_each : length l.last ≡ length l.registers;
  bare : IsFalse l.touched → (i : ℕ) → IsTrue (is_in (take l.id-index l.filled) i) → IsBare (register_at l.fn.registers i);
}
