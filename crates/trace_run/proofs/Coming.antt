-- What a run over a trace comes to, by its monitor and by what is told of it.
use Rattle.std.proofs.Common.{◌≡◌, ℕ, Bool, List, ◌∷◌, sym, ◌∙◌, ap, subst, not, Ok, Err, Result, IfOk}
use Rattle.register_code.specs.Code.{Code}
use Rattle.trace_monitor.proofs.Saving.{code_is}
use Rattle.trace_monitor.specs.declared.ending.RunEnding.{RunEnding}
use Rattle.trace_monitor.specs.inner.Snapshot.{code_of}
use Rattle.trace_monitor.specs.inner.State.{State}
use Rattle.tsl_world.specs.declared.broken.Broken.{Broken}
use Rattle.tsl_world.specs.declared.outside.Did.{Did}
use Rattle.tsl_world.specs.declared.outside.Did.TheVariants.{Opened}
use Rattle.tsl_world.specs.declared.outside.Slot.TheVariants.{Trace}
use Rattle.tsl_world.specs.Runs.{Grows}
use Rattle.tsl_world.proofs.Runs.{grows_weaker}
use Rattle.trace_run.specs.Effects.{CodeEnds, IsMonitorOf, IsStateOf, LeavesSome, RunsCode, StandsAfter, ends, watched}
use Rattle.trace_run.specs.Starts.{IsBegunAfter, most_bytes, taken_at}
use Rattle.trace_run.specs.declared.run.Ran.{Ran}
use Rattle.trace_run.specs.declared.start.Start.{Start}
use Rattle.trace_run.specs.inner.Round.{AreAlike, HasEnded, HasGone}
use Rattle.trace_run.specs.inner.Told.{ComesTo, IsToldOf}
use Rattle.trace_run.proofs.Starting.{has_watched_after, left_of, watched_after}

module _ (c : Code) (begun : Start) (m : State) (made : IsMonitorOf c begun m) where
  made_system : m.system ≡ c.system
  made_system = ap (λ (d : Code). d.system) made.code

  -- the monitor as it is after the run
  module _ (new : State) (alike : AreAlike m new) where
    pub code_after : code_of new ≡ c
    code_after =
        code_is new c (alike.system ∙ made_system) (alike.set ∙ ap (λ (d : Code). d.in_place) made.code) (alike.order ∙ ap (λ (d : Code). d.order) made.code)

    pub engine_after : new.engine.system ≡ c.system
    engine_after = alike.engine ∙ made.waits.in_step.system_is ∙ made.waits.system_is ∙ made_system

  module _ (trace : List ℕ) (saves : Bool) (q : List Did) where
    pub runs_on : HasGone m (not saves) q → RunsCode trace c begun saves (Opened Trace trace ∷ q)
    runs_on gone =
        watched q (watched_after m.system c.system (StandsAfter m) (IsBegunAfter c begun) (not saves) made_system made.after q m.reader.taken m.options.bytes (taken_at begun) (most_bytes begun) made.taken made.bytes gone)

    pub ends_on : (new : State) (statistics : Bool) (how : RunEnding) (ran : Ran) → AreAlike m new → IsToldOf c new saves statistics how ran → HasEnded m new (not saves) how q
        → CodeEnds trace c begun saves statistics ran (Opened Trace trace ∷ q)
    ends_on new statistics how ran alike told ended =
        let all = subst (λ (h : RunEnding). HasEnded m new (not saves) h q) (sym told.ending) ended in
        let state = subst (λ (h : RunEnding). LeavesSome (IsStateOf c new) saves h ran.state) (sym told.ending) told.state in
        ends new.engine q (alike.set ∙ ap (λ (d : Code). d.in_place) made.code) (alike.order ∙ ap (λ (d : Code). d.order) made.code)
        (watched_after m.system c.system (StandsAfter m) (IsBegunAfter c begun) (not saves) made_system made.after q m.reader.taken m.options.bytes (taken_at begun) (most_bytes begun) made.taken made.bytes all.gone)
        (has_watched_after m.system c.system (StandsAfter m) (IsBegunAfter c begun) (not saves) made_system made.after q new.engine ran.ending all.ends)
        (left_of c begun m new made alike.options q saves ran.ending ran.state all.keeps state) told.statistics

-- a run that ends runs the code
ends_run : (trace : List ℕ) (c : Code) (start : Start) (saves statistics : Bool) (ran : Ran) (part : List Did) → CodeEnds trace c start saves statistics ran part → RunsCode trace c start saves part
ends_run trace c start saves statistics ran _ (ends e part set order w has leaves counted) = watched part w

module _ {W : Type 0} (told : W → Bool) (journal : W → List Did) (trace : List ℕ) (c : Code) (start : Start) (saves statistics : Bool) (old new : W) where
  pub runs_however : (r : Result Ran Broken) → Grows told journal old new (ComesTo trace c start saves statistics r) → Grows told journal old new (RunsCode trace c start saves)
  runs_however (Ok ran) comes = grows_weaker told journal old new (CodeEnds trace c start saves statistics ran) (RunsCode trace c start saves) comes (λ part has. ends_run trace c start saves statistics ran part has)
  runs_however (Err broken) comes = comes

  pub ends_if_ok : (r : Result Ran Broken) → Grows told journal old new (ComesTo trace c start saves statistics r) → IfOk r (λ ran. Grows told journal old new (CodeEnds trace c start saves statistics ran))
  ends_if_ok (Ok ran) comes = comes
  ends_if_ok (Err broken) comes = tt
