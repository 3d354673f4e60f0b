-- Failures, one after another.
use Rattle.std.proofs.Common.{ℕ, sym, ◌∙◌, subst}
use Rattle.tsl_world.specs.World.{RoseBy}
use Rattle.tsl_world.proofs.Counts.{rose_more}
use Rattle.tessla_cli.specs.Failures.{Failures, NoneFailed, CallFailed, WriteFailed, BothFailed}

module _ (before mid now : Failures) where
  pub call_and_none : CallFailed before mid → NoneFailed mid now → CallFailed before now
  call_and_none call none = record { all = subst (λ (n : ℕ). RoseBy 1 before.all n) (sym none.all) call.all; to_err = none.to_err ∙ call.to_err }

  pub call_and_write : CallFailed before mid → WriteFailed mid now → BothFailed before now
  call_and_write call write = record {
    all = rose_more 1 1 before.all mid.all now.all call.all write.all;
    to_err = subst (λ (n : ℕ). RoseBy 1 n now.to_err) call.to_err write.to_err;
  }

  pub none_and_write : NoneFailed before mid → WriteFailed mid now → WriteFailed before now
  none_and_write none write = record {
    all = subst (λ (n : ℕ). RoseBy 1 n now.all) none.all write.all;
    to_err = subst (λ (n : ℕ). RoseBy 1 n now.to_err) none.to_err write.to_err;
  }
