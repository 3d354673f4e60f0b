-- The pieces of the sample trace, and what a monitor says of them.
use Rattle.std.proofs.Common.{◌≡◌, ℕ, ◌+◌, ◌-◌, ◌<◌, ◌≤◌, ◌^◌, Bool, true, false, List, [], ◌++◌, length, min, sym, ap, subst, ◌∙◌, arith, length-append, inl, inr}
use Rattle.std.proofs.lemmas.Bool.{cases_lt, true≢false}
use Rattle.flat_core.specs.System.{System}
use Rattle.monitor_run.specs.inner.State as engine
use Rattle.sample_trace.specs.Trace.{lines_text, trace_text}
use Rattle.sample_trace.proofs.Lines.{lines_join, lines_none}
use Rattle.trace_bench.specs.Ran.{HasRanOver, up_to_most}
use Rattle.trace_monitor.specs.declared.ending.RunEnding.{RunEnding}
use Rattle.trace_monitor.specs.declared.options.Options.{Options}
use Rattle.trace_monitor.specs.Due.{IsDue, bound_in, lines_in}
use Rattle.trace_monitor.specs.inner.Kept.{Kept}
use Rattle.trace_monitor.specs.inner.State.{State}
use Rattle.trace_monitor.specs.Next.{is_nothing}
use Rattle.trace_monitor.proofs.Going.{nothing_is}
use Rattle.trace_monitor.proofs.Readiness.{none_closed, none_due}

-- a piece after so many lines of the trace
module _ (count taken more : ℕ) (piece : List ℕ) (within : taken ≤ count) (is : more ≡ min count (taken + 2000)) (piece_is : piece ≡ lines_text (taken + 1) (more + 1 - (taken + 1))) where
  piece_as : piece ≡ lines_text (1 + taken) (more - taken)
  piece_as =
      let from : taken + 1 ≡ 1 + taken = omega arith in
      let many : more + 1 - (taken + 1) ≡ more - taken = omega arith in
      piece_is ∙ ap (λ (t : ℕ). lines_text t (more + 1 - (taken + 1))) from ∙ ap (lines_text (1 + taken)) many

  -- the lines up to its end
  pub joined : lines_text 1 taken ++ piece ≡ lines_text 1 more
  joined =
      let all : taken + (more - taken) ≡ more = omega arith in
      ap (λ (l : List ℕ). lines_text 1 taken ++ l) piece_as ∙ sym (lines_join 1 taken (more - taken)) ∙ ap (lines_text 1) all

  -- the trace is these and the lines after them
  pub parted : trace_text count ≡ (lines_text 1 taken ++ piece) ++ lines_text (1 + more) (count - more)
  parted =
      let all : count ≡ more + (count - more) = omega arith in
      ap (lines_text 1) all ∙ lines_join 1 more (count - more) ∙ ap (λ (l : List ℕ). l ++ lines_text (1 + more) (count - more)) (sym joined)

  -- where the piece is empty there are none
  pub ended : is_nothing piece ≡ true → lines_text (1 + more) (count - more) ≡ []
  ended none =
      let still : more - taken ≡ 0 = lines_none (1 + taken) (more - taken) (sym piece_as ∙ nothing_is piece none) in
      let all : count - more ≡ 0 = omega arith in
      ap (lines_text (1 + more)) all

  -- where it is not, it has a line
  pub advanced : is_nothing piece ≡ false → taken < more
  advanced some = elim (cases_lt taken more) [
    | inl on ↦ on
    | inr still ↦
        let none : more - taken ≡ 0 = omega arith in
        absurd (true≢false (sym (ap is_nothing (piece_as ∙ ap (lines_text (1 + taken)) none)) ∙ some))
  ]

-- the bytes of a text and of what follows it
pub bytes_more : (text more : List ℕ) (before after : ℕ) → before ≡ up_to_most (length text) → after ≡ min (before + length more) (2 ^ 64 - 1) → after ≡ up_to_most (length (text ++ more))
bytes_more text more before after was is = omega (arith, length-append text more)

-- the same, for what systems and options are
module _ (s t : System) (o p : Options) (same : s ≡ t) (alike : o ≡ p) where
  pub due_as : (bytes : List ℕ) (is_end : Bool) (text : List ℕ) → IsDue s o bytes is_end text → IsDue t p bytes is_end text
  due_as bytes is_end text due = subst (λ (q : Options). IsDue t q bytes is_end text) alike (subst (λ (u : System). IsDue u o bytes is_end text) same due)

  pub ran_as : (e : engine.State) (count : ℕ) (how : RunEnding) (bytes : ℕ) → HasRanOver s o e count how bytes → HasRanOver t p e count how bytes
  ran_as e count how bytes ran = subst (λ (q : Options). HasRanOver t q e count how bytes) alike (subst (λ (u : System). HasRanOver u o e count how bytes) same ran)

-- before anything is read nothing is due
pub begun : (m : State) → Kept m [] → IsDue m.system m.options [] false []
begun m kept =
    let due = kept.due in record {
      solved = due.solved;
      is = λ z zs. sym (none_due m.system (lines_in m.system m.options [] false) z (bound_in m.system m.options [] false) m.options.instants (none_closed m.system m.options.strict m.options.bytes m.options.until));
    }
