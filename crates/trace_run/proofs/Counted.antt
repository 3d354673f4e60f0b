-- The statistics by the engine's ledger are those of what the updates copy.
use Rattle.std.proofs.Common.{◌≡◌, ℕ, Bool, true, List, [], ◌∷◌, ◌++◌, refl, sym, ap, subst, ◌∙◌, inl, inr}
use Rattle.std.proofs.lemmas.Bool.{cases_Bool}
use Rattle.std.specs.Prelude.{◌&&◌, IsTrue, if◌then◌else◌, slice_index}
use Rattle.std.specs.List.{filter, flat_map}
use Rattle.flat_core.specs.Case.{Streams}
use Rattle.flat_core.specs.System.{System, numbers}
use Rattle.monitor_run.specs.inner.State as engine
use Rattle.flat_core.specs.Updates.{is_running_update}
use Rattle.register_code.specs.Code.{Code}
use Rattle.register_machine.specs.Copied.{copied}
use Rattle.trace_monitor.specs.Counted.{copied_below}
use Rattle.trace_monitor.specs.declared.ending.RunEnding.{RunEnding}
use Rattle.trace_monitor.specs.Due.{SolvesClosed}
use Rattle.trace_monitor.specs.Ending.{InAll}
use Rattle.tsl_world.specs.Journal.{taken, ended}
use Rattle.tsl_world.specs.declared.outside.Did.{Did}
use Rattle.tsl_world.specs.declared.outside.Slot.TheVariants.{Trace}
use Rattle.trace_run.specs.Before.{Before}
use Rattle.trace_run.specs.Effects.{WatchEnds}
use Rattle.trace_run.specs.Program.{IsCodeOf, Program}
use Rattle.trace_run.specs.Statistics.{AreStatistics, counted_text, statistics_text, update_line}
use Rattle.trace_run.proofs.CanBeRun.{code_system}

-- texts of what is the same for all that pass
texts_same : (P : ℕ → Bool) (f g : ℕ → List ℕ) → ((u : ℕ) → IsTrue (P u) → f u ≡ g u) → (xs : List ℕ) → flat_map f (filter P xs) ≡ flat_map g (filter P xs)
texts_same P f g same [] = refl
texts_same P f g same (x ∷ xs) = elim (cases_Bool (P x)) [
  | inl passes ↦
      (λ k. flat_map f (if passes k then x ∷ filter P xs else filter P xs)) ∙ (λ k. same x passes k ++ texts_same P f g same xs k)
      ∙ sym (λ k. flat_map g (if passes k then x ∷ filter P xs else filter P xs))
  | inr fails ↦ (λ k. flat_map f (if fails k then x ∷ filter P xs else filter P xs)) ∙ texts_same P f g same xs ∙ sym (λ k. flat_map g (if fails k then x ∷ filter P xs else filter P xs))
]

-- what is told of a run that has ended so, by the code of a program
module _ (p : Program) (c : Code) (is_code : IsCodeOf p c) (b : Before) (tells_end : Bool) (e : engine.State) (set : e.in_place ≡ c.in_place) (how : RunEnding) (part : List Did) (text : List ℕ) where
  abbrev all : List ℕ
  all = b.bytes ++ taken Trace part

  abbrev end : Bool
  end = tells_end && ended Trace part

  pub statistics_meant : WatchEnds c.system b tells_end e how part → text ≡ counted_text c.system e true → AreStatistics p b.options (b.bytes ++ taken Trace part) (tells_end && ended Trace part) how text
  statistics_meant w is = record {
    code = c;
    is_code = is_code;
    is = subst (λ (s : System). InAll s b.options all end (λ z. text ≡ statistics_text s (λ u. copied s c.in_place z u (copied_below s b.options all end how)))) (code_system p c is_code)
        (record { solved = w.due.solved; each = each });
  }
    where
      each : (z : Streams) → SolvesClosed c.system b.options all end z → text ≡ statistics_text c.system (λ u. copied c.system c.in_place z u (copied_below c.system b.options all end how))
      each z zs =
          let bound = copied_below c.system b.options all end how in
          is ∙ texts_same (is_running_update c.system) (λ u. update_line c.system u (slice_index e.ledger u)) (λ u. update_line c.system u (copied c.system c.in_place z u bound))
          (λ u runs. ap (update_line c.system u) (w.counted.ledger z zs u runs ∙ ap (λ (l : List ℕ). copied c.system l z u bound) set)) (numbers c.system)
