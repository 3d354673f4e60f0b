-- What stands before a run that goes on from the bytes of a state.
use Rattle.std.proofs.Common.{◌≡◌, ℕ, false, List, sym, subst}
use Rattle.flat_core.specs.System.{System}
use Rattle.register_code.specs.Code.{Code, IsCode}
use Rattle.trace_monitor.proofs.Saving.{saved_after}
use Rattle.run_state.specs.Fits.{FitsRun}
use Rattle.run_state.specs.Spelling.{spelling}
use Rattle.run_state.specs.declared.state.RunState.{RunState}
use Rattle.trace_monitor.specs.Due.{IsDue}
use Rattle.trace_monitor.specs.Saved.{IsSavedAs}
use Rattle.trace_run.specs.Before.{Before}
use Rattle.trace_run.specs.Means.{IsDueAs}
use Rattle.trace_run.specs.Program.{IsCodeOf, Program}
use Rattle.trace_run.specs.Starts.{IsBegunAfter}
use Rattle.trace_run.specs.declared.start.Start.TheVariants as start
use Rattle.trace_run.proofs.CanBeRun.{CanBeRun, code_system}
use Rattle.trace_run.proofs.Programs.{due_of_meant}

-- the earlier bytes of which these were saved, with the text that the program means to be due of them
pub begun_after : (p : Program) → CanBeRun p → (c : Code) → IsCodeOf p c → IsCode c → (until : ℕ) (st : RunState) (bytes : List ℕ) (b : Before) → FitsRun c.system st → bytes ≡ spelling c st
    → b.options.until ≡ until → IsSavedAs c b.options b.bytes bytes → IsDueAs p b.options b.bytes false b.text → IsBegunAfter c (start.Resumed until st) b
begun_after p can c is_code whole until st bytes b fits is closes saved due = (
  closes,
  record {
    after = saved_after c b.options st b.bytes bytes whole fits is saved;
    due = subst (λ (s : System). IsDue s b.options b.bytes false b.text) (sym (code_system p c is_code)) (due_of_meant p can b.options b.bytes false b.text due);
  },
)
