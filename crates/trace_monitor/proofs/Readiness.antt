-- Code has solutions, and the empty trace has an empty text.
use Rattle.std.proofs.Common.{◌≡◌, Bool, false, not, List, [], ℕ, refl, sym, ◌∙◌, ap, zero, suc, take, None}
use Rattle.std.proofs.Math.Seq.{take-nil}
use Rattle.std.specs.List.{filter, flat_map}
use Rattle.flat_core.specs.Case.{Streams}
use Rattle.flat_core.specs.Events.{Inputs}
use Rattle.flat_core.specs.Complete.{IsFlat}
use Rattle.flat_core.specs.Fault.{is_over}
use Rattle.flat_core.specs.Instant.{instants}
use Rattle.flat_core.specs.Line.{Line, inputs_of}
use Rattle.flat_core.specs.Solution.{Solves}
use Rattle.flat_core.specs.System.{System}
use Rattle.flat_core.specs.Text.{due_text, text_at}
use Rattle.flat_core.proofs.WellFormedOrder.{ranked_solution}
use Rattle.monitor_run.proofs.GapLemmas.{plan_ranked}
use Rattle.register_code.specs.inner.Plan.{IsPlanOrder}
use Rattle.trace_reader.specs.Closed.{closed_below}
use Rattle.trace_reader.specs.Reading.{Reading, reading}
use Rattle.trace_monitor.specs.declared.options.Options.{Options}
use Rattle.trace_monitor.specs.Due.{IsDue, bound_in, lines_in}

-- there is a solution for all inputs below each bound
pub plan_solution : (s : System) (order : List ℕ) → IsFlat s → IsPlanOrder s order → (inputs : Inputs) (bound : ℕ) → (z : Streams) × Solves s inputs bound z
plan_solution s order flat plan inputs bound = ranked_solution s _ flat.proper (plan_ranked s order plan) inputs bound

-- nothing is read of no bytes, and no time is closed
pub none_read : (s : System) (strict : Bool) (limit : ℕ) → reading s strict limit [] false ≡ record { lines = []; refused = None }
unfolding reading
none_read s strict zero = refl
none_read s strict (suc n) = refl

pub none_closed : (s : System) (strict : Bool) (limit until : ℕ) → closed_below (reading s strict limit [] false) until false ≡ 0
none_closed s strict limit until = ap (λ (r : Reading). closed_below r until false) (none_read s strict limit)

pub none_due : (s : System) (lines : List Line) (z : Streams) (bound limit : ℕ) → bound ≡ 0 → due_text s lines z bound limit ≡ []
none_due s lines z bound limit zero_is =
    ap (λ (l : List ℕ). flat_map (text_at s z) (filter (λ t. not (is_over s (inputs_of lines) z t)) l)) (ap (λ (n : ℕ). take limit (instants s lines z n)) zero_is ∙ take-nil limit)

module _ (s : System) (o : Options) where
  -- texts that are due are one
  pub one_due : (bytes : List ℕ) (ended : Bool) (a b : List ℕ) → IsDue s o bytes ended a → IsDue s o bytes ended b → a ≡ b
  one_due bytes ended a b first second = let (z, zs) = first.solved in first.is z zs ∙ sym (second.is z zs)

  -- before anything is read
  pub due_at_start : (order : List ℕ) → IsFlat s → IsPlanOrder s order → IsDue s o [] false []
  due_at_start order flat plan = record {
    solved = plan_solution s order flat plan (inputs_of (lines_in s o [] false)) (bound_in s o [] false);
    is = λ z zs. sym (none_due s (lines_in s o [] false) z (bound_in s o [] false) o.instants (none_closed s o.strict o.bytes o.until));
  }
