-- What is answered about lines.
use Rattle.std.proofs.Common.{◌≡◌, ℕ, true, List, sym, ◌∙◌, ap}
use Rattle.std.specs.Prelude.{IsTrue, is_some}
use Rattle.std.proofs.Math.Bool.{true≢false}
use Rattle.event_why.specs.declared.explained.Explained.TheVariants as explained
use Rattle.event_why.specs.declared.fact.Why.{Why}
use Rattle.event_why.specs.Explained.{IsExplained, restricted}
use Rattle.event_why.specs.Text.{steps_text}
use Rattle.flat_core.specs.Complete.{IsFlat}
use Rattle.flat_core.specs.Fault.{IsNamed, is_faulty, root_at}
use Rattle.flat_core.specs.Line.{Line, inputs_of}
use Rattle.flat_core.specs.System.{System, runs}
use Rattle.flat_core.proofs.Members.{some_from}
use Rattle.flat_slice.proofs.SliceLemmas.{member_runs}
use Rattle.lift_func.specs.declared.fault.FaultKind.{FaultKind}
use Rattle.tsl_value.proofs.Lists.{all_by_place}
use Rattle.trace_why.specs.declared.ending.WhyEnding.TheVariants as ending
use Rattle.trace_why.specs.declared.question.Question.{Question}
use Rattle.trace_why.specs.inner.Lines.{IsCalm, IsTold}

module _ (s : System) (lines : List Line) (q : Question) where
  pub text_told : (why : Why) (text : List ℕ) → IsExplained s (inputs_of lines) q.output q.time (explained.Why why) → text ≡ steps_text s 0 why.steps.items → IsTold s lines q (ending.Text text)
  text_told why text e is = let (v, accepted, has) = e.tells.1 in (
    v,
    record { output = e.output; is_output = e.is_output; why = why; accepted = accepted; text_is = is },
    record { output = e.output; is_output = e.is_output; has = has },
  )

  pub none_told : IsExplained s (inputs_of lines) q.output q.time explained.NoEvent → IsTold s lines q ending.NoEvent
  none_told e = record { output = e.output; is_output = e.is_output; has = e.tells.1 }

  -- there is no fault where there is no root fault up to the time
  pub no_fault_told : IsFlat s → (t i : ℕ) (kind : FaultKind) → IsCalm s lines q.time → IsExplained s (inputs_of lines) q.output q.time (explained.Fault t i kind) → ⊥
  no_fault_told whole t i kind calm e =
      let tells = e.tells in
      let z = calm.streams in
      let named : IsNamed (restricted s e.slice) (inputs_of lines) z t i kind = tells.each calm.bound z calm.beyond calm.solves in
      let o_runs : IsTrue (runs s e.output.equation) = all_by_place (λ o. IsTrue (runs s o.equation)) s.outputs whole.outputs_run q.output e.output e.is_output in
      let run : IsTrue (runs s i) = member_runs s whole.proper e.output.equation o_runs e.slice e.is_slice i named.running in
      let faulty : is_faulty s (inputs_of lines) z t ≡ true = some_from (λ j. is_some (root_at s (inputs_of lines) z t j)) s.running i run (ap is_some named.root) in
      true≢false (sym faulty ∙ calm.sound t tells.early)
